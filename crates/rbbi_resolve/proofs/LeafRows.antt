-- The rows of the leaves of a file, statement by statement; and in a file without faults their sets.
use Rattle.std.proofs.Common.{◌≡◌, ℕ, ◌+◌, ◌↔◌, inl, inr, Bool, false, true, Option, Some, None, List, [], ◌∷◌, ◌++◌, map, length}
use Rattle.std.proofs.Common.{slice_get, slice_index, refl, sym, ap, ◌∙◌, subst, arith}
use Rattle.std.specs.List.{AllByRecursion, AllZip}
use Rattle.std.proofs.lemmas.Bool.{cases_lt}
use Rattle.std.proofs.lemmas.List.{append-nil, length-append, get_or_append_left}
use Rattle.std.proofs.Math.Seq.{get_or-append_seam}
use Rattle.rbbi_model.specs.Words.{IsSurrogate}
use Rattle.rbbi_model.specs.Ranges.{Range, Has}
use Rattle.rbbi_model.specs.SetTrees as model
use Rattle.rbbi_model.proofs.Lists.{all_append}
use Rattle.rbbi_sets.specs.Rising.{AreRising}
use Rattle.rbbi_props.specs.Rows.{File}
use Rattle.rbbi_tree.specs.Trees.{ExprTree, SeqTree, ItemTree, AtomTree, no_alternatives, alternative, no_items, item, placed, character, quoted, any, name}
use Rattle.rbbi_tree.specs.Trees.{property, set, group, StatementTree, nothing, control, assign, rule}
use Rattle.rbbi_classes.specs.Classes.{ClassBits}
use Rattle.rbbi_classes.specs.Divisions.{ClassDivision, IsDivision, HasDivided, stand_in}
use Rattle.rbbi_classes.specs.CharacterSets.{is_character_of, characters_of}
use Rattle.rbbi_classes.proofs.CharacterMembers.{has-characters}
use Rattle.rbbi_classes.proofs.FirstCodePoints.{stand-in_is_first}
use Rattle.rbbi_classes.proofs.RangesWhere.{ranges_where-rises}
use Rattle.rbbi_resolve.specs.SetValues.{HasProperty, value_of_property, value_of_set}
use Rattle.rbbi_resolve.specs.Emptiness.{holds_character}
use Rattle.rbbi_resolve.specs.Contexts.{Context, value_of_name}
use Rattle.rbbi_resolve.specs.Parts.{Outside, parts_of_expr, parts_of_seq, parts_of_item, parts_in_atom}
use Rattle.rbbi_resolve.specs.Faults.{faults_of_parts, is_empty_value}
use Rattle.rbbi_resolve.specs.Files.{faults_of_statement, faults_of_rest, faults_at_slash}
use Rattle.rbbi_resolve.specs.inner.ClassValues.{AreClassesOf}
use Rattle.rbbi_resolve.specs.inner.Covered.{Respects}
use Rattle.rbbi_resolve.specs.inner.Files.{context_at}
use Rattle.rbbi_resolve.specs.inner.Soundness.{AreSound}
use Rattle.rbbi_resolve.specs.inner.OwnLeaves.{IsLetter, IsLeafRow, AddsLeafRows, StandAt, leaves_of_expr, leaves_of_seq, leaves_of_item, leaves_of_atom}
use Rattle.rbbi_resolve.specs.inner.OwnLeaves.{leaves_of_rest, leaves_of_statement}
use Rattle.rbbi_resolve.specs.inner.Builders.{IsSetOfLeaf, IsSetRow}
use Rattle.rbbi_resolve.specs.inner.Readings.{AreLeavesTo}
use Rattle.rbbi_resolve.proofs.Building.{stand_more}
use Rattle.rbbi_resolve.proofs.Characters.{held_character, character_held, in_set_takes}
use Rattle.rbbi_resolve.proofs.Good.{not_empty_holds}
use Rattle.rbbi_resolve.proofs.Sound.{IsThere, IsFaultless, first_empty, second_empty, faultless_first, faultless_second}
use Rattle.rbbi_resolve.proofs.Sound.{faultless_part, known_there, set_there}
use Rattle.rbbi_resolve.proofs.SoundFiles.{assigned_faultless}

-- the value is there, and holds a character
abbrev IsFilled : List File → Option model.SetTree → Type 0
IsFilled files value = (tree : model.SetTree) × (value ≡ Some tree) × (IsLetter tree → holds_character files tree ≡ true)

filled_value : (files : List File) (value : Option model.SetTree) → IsThere value → is_empty_value files value ≡ false → IsFilled files value
filled_value files value there e = (there.0, there.1, λ letter. not_empty_holds files there.0 (ap (is_empty_value files) (sym there.1) ∙ e))

filled_character : (files : List File) (c : ℕ) → IsFilled files (Some (model.Character c))
filled_character files c =
    (model.Character c, refl, λ is. character_held files (model.Character c) c is.0 is.1 (in_set_takes files (model.Character c) c refl))

filled_word : (files : List File) (word : List ℕ) → AllByRecursion (IsFilled files) (map (λ c. Some (model.Character c)) word)
filled_word files [] = tt
filled_word files (c ∷ word) = (filled_character files c, filled_word files word)

mutual
  filled_expr : (k : Context) → AreSound k → (x : ExprTree) → faults_of_parts k (parts_of_expr x) ≡ [] →
      AllByRecursion (IsFilled k.files) (leaves_of_expr k x)
  filled_expr k sound no_alternatives e = tt
  filled_expr k sound (alternative first more) e =
      all_append (IsFilled k.files) (leaves_of_seq k first) (leaves_of_expr k more)
      (filled_seq k sound first (faultless_first k (parts_of_seq first) (parts_of_expr more) e))
      (filled_expr k sound more (faultless_second k (parts_of_seq first) (parts_of_expr more) e))

  filled_seq : (k : Context) → AreSound k → (x : SeqTree) → faults_of_parts k (parts_of_seq x) ≡ [] → AllByRecursion (IsFilled k.files) (leaves_of_seq k x)
  filled_seq k sound no_items e = tt
  filled_seq k sound (item first more) e =
      all_append (IsFilled k.files) (leaves_of_item k first) (leaves_of_seq k more)
      (filled_item k sound first (faultless_first k (parts_of_item first) (parts_of_seq more) e))
      (filled_seq k sound more (faultless_second k (parts_of_item first) (parts_of_seq more) e))

  filled_item : (k : Context) → AreSound k → (x : ItemTree) → faults_of_parts k (parts_of_item x) ≡ [] → AllByRecursion (IsFilled k.files) (leaves_of_item k x)
  filled_item k sound (placed place atom quant) e =
      filled_atom k sound place atom (faultless_first k (parts_in_atom atom) (Outside place atom ∷ []) e)
      (faultless_part k (Outside place atom) (faultless_second k (parts_in_atom atom) (Outside place atom ∷ []) e))

  filled_atom : (k : Context) → AreSound k → (place : ℕ) (x : AtomTree) → faults_of_parts k (parts_in_atom x) ≡ [] → IsFaultless k (Outside place x) →
      AllByRecursion (IsFilled k.files) (leaves_of_atom k x)
  filled_atom k sound place (character c bare) e f = (filled_character k.files c, tt)
  filled_atom k sound place (quoted word) e f = filled_word k.files word
  filled_atom k sound place any e f = (
    (
      model.Others model.Nothing,
      refl,
      λ letter. character_held k.files (model.Others model.Nothing) 97 (omega arith) (λ s. omega (arith, s.0))
          (in_set_takes k.files (model.Others model.Nothing) 97 (omega arith, λ n. n)),
    ),
    tt,
  )
  filled_atom k sound place (name word) e f = tt
  filled_atom k sound place (property negated word value) e f =
      (filled_value k.files (value_of_property k.files negated word value) (known_there k.files negated word value f.known) f.filled, tt)
  filled_atom k sound place (set s) e f = (filled_value k.files (value_of_set k.files (value_of_name k) s) (set_there k sound s e) f.filled, tt)
  filled_atom k sound place (group inner) e f = filled_expr k sound inner e

filled_rest : (k : Context) → AreSound k → (rest : Option ExprTree) → faults_of_rest k rest ≡ [] → AllByRecursion (IsFilled k.files) (leaves_of_rest k rest)
filled_rest k sound None e = tt
filled_rest k sound (Some rest) e = filled_expr k sound rest e

filled_statement : (ignored : Bool) (k : Context) → AreSound k → (s : StatementTree) → faults_of_statement ignored k s ≡ [] →
    AllByRecursion (IsFilled k.files) (leaves_of_statement k s)
filled_statement ignored k sound nothing e = tt
filled_statement ignored k sound (control word place) e = tt
filled_statement ignored k sound (assign word place x) e = filled_expr k sound x (assigned_faultless ignored k word place x e)
filled_statement ignored k sound (rule place no_chain_in front slash rest tag) e =
    let own = faults_of_parts k (parts_of_expr front) in
    let others = faults_of_rest k rest in
    let at = faults_at_slash k front slash rest in
    all_append (IsFilled k.files) (leaves_of_expr k front) (leaves_of_rest k rest) (filled_expr k sound front (first_empty own (others ++ at) e))
    (filled_rest k sound rest (first_empty others at (second_empty own (others ++ at) e)))

module _ (files : List File) (division : ClassDivision) (divides : IsDivision division) where
  -- the characters of classes are those of a set that has all or nothing of each
  set_of_row : (tree : model.SetTree) (row : ClassBits) (ranges : List Range) → AreClassesOf files division.bounds tree row →
      Respects files (stand_in division) tree → holds_character files tree ≡ true → AreRising ranges →
      ((c : ℕ) → Has ranges c ↔ (HasDivided division row c × ¬ IsSurrogate c)) → IsSetOfLeaf files tree ranges
  set_of_row tree row ranges is respects holds rising same =
      let w = held_character files tree holds in
      record {
        of_leaf = record {
          rising = rising;
          members = λ c. (λ h. let b = (same c).0 h in (divided c b.0, b.1), λ p. (same c).1 (dividing c p.0, p.1));
        };
        form = record {
          rising = rising;
          some = (w.0, (same w.0).1 (dividing w.0 w.2, w.3));
          characters = λ c h. let b = (same c).0 h in (b.0.0, b.1);
        };
      }
    where
      divided : (c : ℕ) → HasDivided division row c → model.InSet (HasProperty files) tree c
      divided c has = (respects.same c has.0).1 ((is (stand_in division c) (stand-in_is_first division divides c has.0)).0 has.1)

      dividing : (c : ℕ) → model.InSet (HasProperty files) tree c → HasDivided division row c
      dividing c h =
          let low = respects.low c h in
          (low, (is (stand_in division c) (stand-in_is_first division divides c low)).1 ((respects.same c low).0 h))

  set_row : (value : Option model.SetTree) (row : Option ClassBits) → IsFilled files value → IsLeafRow files division value row →
      IsSetRow files division value row
  set_row None row f r = let e = f.1 in absurd cc
  set_row (Some tree) None f r = absurd r.own
  set_row (Some tree) (Some row) f r =
      let same : f.0 ≡ tree = let e = f.1 in cc in
      set_of_row tree row (characters_of division row) r.own r.respects
      (subst (λ t. IsLetter t → holds_character files t ≡ true) same f.2 r.letter)
      (ranges_where-rises (is_character_of division row)) (has-characters division row)

  set_rows : (values : List (Option model.SetTree)) (rows : List (Option ClassBits)) → AllByRecursion (IsFilled files) values →
      AllZip (IsLeafRow files division) values rows → AllZip (IsSetRow files division) values rows
  set_rows [] [] f z = tt
  set_rows [] (r ∷ rows) f z = absurd z
  set_rows (v ∷ values) [] f z = absurd z
  set_rows (v ∷ values) (r ∷ rows) f z = (set_row v r f.0 z.0, set_rows values rows f.1 z.1)

  -- the rows of a statement without faults have the sets of its leaves
  pub statement_rows : (ignored : Bool) (k : Context) (s : StatementTree) (rows : List (Option ClassBits)) (n : ℕ) → k.files ≡ files → AreSound k →
      faults_of_statement ignored k s ≡ [] → StandAt (IsLeafRow files division) rows n (leaves_of_statement k s) →
      StandAt (IsSetRow files division) rows n (leaves_of_statement k s)
  statement_rows ignored k s rows n same sound e stand =
      record {
        before = stand.before;
        own = stand.own;
        after = stand.after;
        is = stand.is;
        at = stand.at;
        each = set_rows (leaves_of_statement k s) stand.own
            (subst (λ f. AllByRecursion (IsFilled f) (leaves_of_statement k s)) same (filled_statement ignored k sound s e)) stand.each;
      }

module _ (files : List File) (division : ClassDivision) where
  -- one statement further
  pub leaves_next : (statements : List StatementTree) (firsts firsts' : List ℕ) (rows rows' : List (Option ClassBits)) (n : ℕ) (s : StatementTree) →
      slice_get statements n ≡ Some s → firsts' ≡ firsts ++ length rows ∷ [] → AreLeavesTo files division statements firsts rows n →
      AddsLeafRows files division (leaves_of_statement (context_at files statements n) s) rows rows' →
      AreLeavesTo files division statements firsts' rows' (n + 1)
  leaves_next statements firsts firsts' rows rows' n s at is before adds =
      record {
        long = let l = length-append firsts (length rows ∷ []) in let e = ap length is in let b = before.long in omega arith;
        each = λ m t low there.
            elim (cases_lt m n) [
              | inl lt ↦
                  let value : slice_index firsts' m ≡ slice_index firsts m = ap (λ xs. slice_index xs m) is
                  ∙ get_or_append_left firsts (length rows ∷ []) 0 m (let b = before.long in omega arith) in
                  subst (λ xs. StandAt (IsLeafRow files division) xs (slice_index firsts' m) (leaves_of_statement (context_at files statements m) t))
                  (sym adds.is)
                  (subst (λ f. StandAt (IsLeafRow files division) (rows ++ adds.more) f (leaves_of_statement (context_at files statements m) t)) (sym value)
                  (stand_more (IsLeafRow files division) rows adds.more (slice_index firsts m) (leaves_of_statement (context_at files statements m) t)
                  (before.each m t lt there)))
              | inr ge ↦
                  let here : n ≡ m = omega arith in
                  let whole : slice_get statements m ≡ Some s = ap (slice_get statements) (sym here) ∙ at in
                  let same : s ≡ t = cc in
                  let value : slice_index firsts' m ≡ length rows = ap (λ xs. slice_index xs m) is
                  ∙ ap (slice_index (firsts ++ length rows ∷ [])) (let b = before.long in let e : m ≡ length firsts = omega arith in e)
                  ∙ get_or-append_seam firsts (length rows) [] 0 in
                  record {
                    before = rows;
                    own = adds.more;
                    after = [];
                    is = adds.is ∙ ap (λ xs. rows ++ xs) (sym (append-nil adds.more));
                    at = sym value;
                    each = subst (λ x. AllZip (IsLeafRow files division) (leaves_of_statement (context_at files statements m) x) adds.more) same
                        (subst (λ j. AllZip (IsLeafRow files division) (leaves_of_statement (context_at files statements j) s) adds.more) here adds.each);
                  }
            ];
      }
