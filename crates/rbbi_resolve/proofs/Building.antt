-- The trees of parts, one after another.
use Rattle.std.proofs.Common.{◌≡◌, ℕ, zero, suc, ◌+◌, ◌<◌, ◌≤◌, ◌⊎◌, inl, inr, Option, None, Some, unwrap_or, List}
use Rattle.std.proofs.Common.{[], ◌∷◌, ◌++◌, map, length, slice_get, set}
use Rattle.std.proofs.Common.{sym, refl, ap, ◌∙◌, subst, arith}
use Rattle.std.specs.List.{AllByRecursion, AllZip, Contains, flat_map}
use Rattle.std.proofs.lemmas.Bool.{cases_lt}
use Rattle.std.specs.Option.{option_map}
use Rattle.std.proofs.lemmas.Option.{slice_get_within, slice_get-map}
use Rattle.std.proofs.lemmas.List.Elements.{Contains-append_left, Contains-append_right}
use Rattle.std.proofs.lemmas.List.{append_assoc, append-nil, length-append, length-map, length-set, map-append}
use Rattle.std.proofs.lemmas.Slice.Zip.{AllZip-long}
use Rattle.rbbi_model.specs.Ranges.{Range}
use Rattle.rbbi_model.specs.SetTrees as model
use Rattle.rbbi_model.specs.Spelling as spelling
use Rattle.rbbi_model.proofs.Lists.{all_append}
use Rattle.rbbi_props.specs.Rows.{File}
use Rattle.rbbi_tree.specs.declared.syntax.Quant.{Quant}
use Rattle.rbbi_tree.specs.declared.syntax.Quant.TheVariants as quant
use Rattle.rbbi_classes.specs.Classes.{ClassBits}
use Rattle.rbbi_classes.specs.CharacterSets.{characters_of}
use Rattle.rbbi_classes.specs.Divisions.{ClassDivision}
use Rattle.rbbi_resolve.specs.declared.build.Builder.{Builder}
use Rattle.rbbi_resolve.specs.declared.build.FileLeaves.{FileLeaves}
use Rattle.rbbi_resolve.specs.declared.context.Context.{Context}
use Rattle.rbbi_resolve.specs.declared.rules.Tree.{Tree}
use Rattle.rbbi_resolve.specs.Meanings.{Meaning, Leaf, Empty, Never, Then, Either, Stands}
use Rattle.rbbi_resolve.specs.Expressions.{repeated, leaf_of}
use Rattle.rbbi_resolve.specs.RuleLists.{IsLeafSet}
use Rattle.rbbi_resolve.specs.RuleTrees as trees
use Rattle.rbbi_resolve.specs.RuleTrees.{tree_of, numbers_of, set_at}
use Rattle.rbbi_resolve.specs.inner.Contexts.{files_of, division_of, sets_of}
use Rattle.rbbi_resolve.specs.inner.OwnLeaves.{StandAt, IsLawfulRow}
use Rattle.rbbi_resolve.specs.inner.Builders.{IsSetOfLeaf, IsSetRow, StandFrom, HasLawfulLeaves, IsPart, IsBuilt, Builds, IsBuilder, Extends}
use Rattle.rbbi_resolve.specs.inner.Builders.{AddsTree, IsJoined, JoinsFrom}

-- one of several that follow one another, and a choice of several
abbrev pub sequence_meaning : List Meaning → Meaning
sequence_meaning [] = Empty
sequence_meaning (m ∷ []) = m
sequence_meaning (m ∷ n ∷ ms) = Then m (sequence_meaning (n ∷ ms))

abbrev pub choice_meaning : List Meaning → Meaning
choice_meaning [] = Never
choice_meaning (m ∷ []) = m
choice_meaning (m ∷ n ∷ ms) = Either m (choice_meaning (n ∷ ms))

pub all_map : (P Q : ℕ → Type 0) (xs : List ℕ) → ((n : ℕ) → P n → Q n) → AllByRecursion P xs → AllByRecursion Q xs
all_map P Q [] f a = tt
all_map P Q (x ∷ xs) f a = (f x a.0, all_map P Q xs f a.1)

pub flat_push : (ts : List Tree) (t : Tree) → flat_map numbers_of (ts ++ t ∷ []) ≡ flat_map numbers_of ts ++ numbers_of t
flat_push [] t = append-nil (numbers_of t)
flat_push (s ∷ ts) t = ap (λ ns. numbers_of s ++ ns) (flat_push ts t) ∙ sym (append_assoc (numbers_of s) (flat_map numbers_of ts) (numbers_of t))

zip_split : {A B : Type 0} (P : A → B → Type 0) (a b : List A) (ys : List B) → AllZip P (a ++ b) ys → (u : List B) × (v : List B) ×
    (ys ≡ u ++ v) × AllZip P a u × AllZip P b v
zip_split P [] b ys z = ([], ys, refl, tt, z)
zip_split P (x ∷ a) b [] z = absurd z
zip_split P (x ∷ a) b (y ∷ ys) z = let r = zip_split P a b ys z.1 in (y ∷ r.0, r.1, ap (λ s. y ∷ s) r.2, (z.0, r.3), r.4)

zip_with : {A B : Type 0} (P Q : A → B → Type 0) (xs : List A) (ys : List B) → ((x : A) (y : B) → P x y → Q x y) → AllZip P xs ys → AllZip Q xs ys
zip_with P Q [] [] f z = tt
zip_with P Q [] (y ∷ ys) f z = absurd z
zip_with P Q (x ∷ xs) [] f z = absurd z
zip_with P Q (x ∷ xs) (y ∷ ys) f z = (f x y z.0, zip_with P Q xs ys f z.1)

zip_push : {A B : Type 0} (P : A → B → Type 0) (xs : List A) (ys : List B) (x : A) (y : B) → AllZip P xs ys → P x y → AllZip P (xs ++ x ∷ []) (ys ++ y ∷ [])
zip_push P [] [] x y z p = (p, tt)
zip_push P [] (b ∷ ys) x y z p = absurd z
zip_push P (a ∷ xs) [] x y z p = absurd z
zip_push P (a ∷ xs) (b ∷ ys) x y z p = (z.0, zip_push P xs ys x y z.1 p)

pub get_at : {A : Type 0} (before : List A) (x : A) (after : List A) (n : ℕ) → length before ≡ n → slice_get (before ++ (x ∷ after)) n ≡ Some x
get_at [] x after zero e = refl
get_at [] x after (suc n) e = absurd (omega arith)
get_at (b ∷ before) x after zero e = absurd (omega arith)
get_at (b ∷ before) x after (suc n) e = get_at before x after n (omega arith)

slice_get_first : {A : Type 0} (xs more : List A) (n : ℕ) (x : A) → slice_get xs n ≡ Some x → slice_get (xs ++ more) n ≡ Some x
slice_get_first [] more n x e = absurd cc
slice_get_first (y ∷ xs) more zero x e = e
slice_get_first (y ∷ xs) more (suc n) x e = slice_get_first xs more n x e

-- what stands from a number on stands there when more is added behind it, and so do its parts
module _ (IsRow : Option model.SetTree → Option ClassBits → Type 0) where
  pub stand_more : (rows more : List (Option ClassBits)) (n : ℕ) (values : List (Option model.SetTree)) → StandAt IsRow rows n values →
      StandAt IsRow (rows ++ more) n values
  stand_more rows more n values s =
      record {
        before = s.before;
        own = s.own;
        after = s.after ++ more;
        is = ap (λ x. x ++ more) s.is ∙ append_assoc s.before (s.own ++ s.after) more ∙ ap (λ x. s.before ++ x) (append_assoc s.own s.after more);
        at = s.at;
        each = s.each;
      }

  pub stand_parts : (rows : List (Option ClassBits)) (n : ℕ) (a b : List (Option model.SetTree)) → StandAt IsRow rows n (a ++ b) →
      StandAt IsRow rows n a × StandAt IsRow rows (n + length a) b
  stand_parts rows n a b s =
      let r = zip_split IsRow a b s.own s.each in
      let whole : rows ≡ s.before ++ (r.0 ++ (r.1 ++ s.after)) = s.is ∙ ap (λ x. s.before ++ (x ++ s.after)) r.2
      ∙ ap (λ x. s.before ++ x) (append_assoc r.0 r.1 s.after) in (
        record { before = s.before; own = r.0; after = r.1 ++ s.after; is = whole; at = s.at; each = r.3 },
        record {
          before = s.before ++ r.0;
          own = r.1;
          after = s.after;
          is = whole ∙ sym (append_assoc s.before r.0 (r.1 ++ s.after));
          at =
              let l = AllZip-long IsRow a r.0 r.3 in
              let at = s.at in
              let e = length-append s.before r.0 in
              omega arith;
          each = r.4;
        },
      )

  -- the row of a leaf alone
  pub stand_leaf : (rows : List (Option ClassBits)) (n : ℕ) (value : Option model.SetTree) → StandAt IsRow rows n (value ∷ []) →
      (row : Option ClassBits) × (slice_get rows n ≡ Some row) × IsRow value row
  stand_leaf rows n value s = first_of s.own s.each s.is
    where
      first_of : (own : List (Option ClassBits)) → AllZip IsRow (value ∷ []) own → rows ≡ s.before ++ (own ++ s.after) →
          (row : Option ClassBits) × (slice_get rows n ≡ Some row) × IsRow value row
      first_of [] z is = absurd z
      first_of (x ∷ own) z is = (x, ap (λ xs. slice_get xs n) is ∙ get_at s.before x (own ++ s.after) n s.at, z.0)

module _ (files : List File) where
  -- a leaf
  pub leaf_built : (old : ℕ) (sets : List (List Range)) (n : ℕ) (tree : model.SetTree) (set : List Range) (t : Tree) → slice_get sets n ≡ Some set →
      IsSetOfLeaf files tree set → ((ss : List (List Range)) → tree_of ss t ≡ spelling.Leaf (set_at ss n)) → numbers_of t ≡ n ∷ [] →
      ((k : ℕ) → old ≤ k → k < length sets → k ≡ n) → IsBuilt files old sets (Leaf tree) t
  leaf_built old sets n tree set t at own of numbers alone =
      let is : (more : List (List Range)) → tree_of (sets ++ more) t ≡ spelling.Leaf set =
      λ more. of (sets ++ more) ∙ ap (λ o. spelling.Leaf (unwrap_or o [])) (slice_get_first sets more n set at) in
      record {
        part = record {
          stands = λ more. (set, is more, own.of_leaf);
          filled = λ more. subst HasLawfulLeaves (sym (is more)) own.form;
          numbered = subst (AllByRecursion (λ k. k < length sets)) (sym numbers) (slice_get_within sets n set at, tt);
        };
        fresh = λ k low high. subst (λ ns. Contains ns k) (sym numbers) (let e = alone k low high in (0, omega arith, omega arith));
      }

  -- no tree
  pub never_built : (sets : List (List Range)) (t : Tree) → ((ss : List (List Range)) → tree_of ss t ≡ spelling.Never) → numbers_of t ≡ [] →
      IsBuilt files (length sets) sets Never t
  never_built sets t of numbers =
      record {
        part = record {
          stands = λ more. of (sets ++ more);
          filled = λ more. subst HasLawfulLeaves (sym (of (sets ++ more))) tt;
          numbered = subst (AllByRecursion (λ k. k < length sets)) (sym numbers) tt;
        };
        fresh = λ k low high. absurd (omega arith);
      }

  stands_repeated : (q : Quant) (m : Meaning) (t : spelling.Tree) → Stands files m t → Stands files (repeated q m) (trees.repeated q t)
  stands_repeated quant.Once m t s = s
  stands_repeated quant.Star m t s = (t, refl, s)
  stands_repeated quant.Plus m t s = (t, refl, s)
  stands_repeated quant.Quest m t s = (t, refl, s)

  filled_repeated : (q : Quant) (t : spelling.Tree) → HasLawfulLeaves t → HasLawfulLeaves (trees.repeated q t)
  filled_repeated quant.Once t f = f
  filled_repeated quant.Star t f = f
  filled_repeated quant.Plus t f = f
  filled_repeated quant.Quest t f = f

  -- a part as often as it stands
  pub repeated_built : (q : Quant) (old : ℕ) (sets : List (List Range)) (m : Meaning) (t r : Tree) → IsBuilt files old sets m t →
      ((ss : List (List Range)) → tree_of ss r ≡ trees.repeated q (tree_of ss t)) → numbers_of r ≡ numbers_of t →
      IsBuilt files old sets (repeated q m) r
  repeated_built q old sets m t r b of numbers =
      record {
        part = record {
          stands = λ more. subst (Stands files (repeated q m)) (sym (of (sets ++ more))) (stands_repeated q m (tree_of (sets ++ more) t) (b.part.stands more));
          filled = λ more. subst HasLawfulLeaves (sym (of (sets ++ more))) (filled_repeated q (tree_of (sets ++ more) t) (b.part.filled more));
          numbered = subst (AllByRecursion (λ k. k < length sets)) (sym numbers) b.part.numbered;
        };
        fresh = λ k low high. subst (λ ns. Contains ns k) (sym numbers) (b.fresh k low high);
      }

  pub part_more : (sets ext : List (List Range)) (m : Meaning) (t : Tree) → IsPart files sets m t → IsPart files (sets ++ ext) m t
  part_more sets ext m t p =
      record {
        stands = λ more. subst (λ ss. Stands files m (tree_of ss t)) (sym (append_assoc sets ext more)) (p.stands (ext ++ more));
        filled = λ more. subst (λ ss. HasLawfulLeaves (tree_of ss t)) (sym (append_assoc sets ext more)) (p.filled (ext ++ more));
        numbered = all_map (λ k. k < length sets) (λ k. k < length (sets ++ ext)) (numbers_of t) (λ k low. let l =
            length-append sets ext in omega arith) p.numbered;
      }

  -- several trees
  pub record AreBuilt (old : ℕ) (sets : List (List Range)) (meanings : List Meaning) (ts : List Tree) : Type 0 where
    pub each : AllZip (IsPart files sets) meanings ts
    pub fresh : (number : ℕ) → old ≤ number → number < length sets → Contains (flat_map numbers_of ts) number

  push_built : (old : ℕ) (sets ext : List (List Range)) (ms : List Meaning) (ts : List Tree) (m : Meaning) (t : Tree) →
      AreBuilt old sets ms ts → IsBuilt files (length sets) (sets ++ ext) m t → AreBuilt old (sets ++ ext) (ms ++ m ∷ []) (ts ++ t ∷ [])
  push_built old sets ext ms ts m t a b =
      let put : (k : ℕ) → Contains (flat_map numbers_of ts ++ numbers_of t) k → Contains (flat_map numbers_of (ts ++ t ∷ [])) k =
      λ k w. subst (λ ns. Contains ns k) (sym (flat_push ts t)) w in
      record {
        each = zip_push (IsPart files (sets ++ ext)) ms ts m t
            (zip_with (IsPart files sets) (IsPart files (sets ++ ext)) ms ts (λ x y p. part_more sets ext x y p) a.each) b.part;
        fresh =
            λ k low high.
            elim (cases_lt k (length sets)) [
              | inl lt ↦ put k (Contains-append_left (flat_map numbers_of ts) (numbers_of t) k (a.fresh k low lt))
              | inr ge ↦ put k (Contains-append_right (flat_map numbers_of ts) (numbers_of t) k (b.fresh k ge high))
            ];
      }

  zip_stands : (sets more : List (List Range)) (ms : List Meaning) (ts : List Tree) → AllZip (IsPart files sets) ms ts →
      AllZip (Stands files) ms (map (tree_of (sets ++ more)) ts)
  zip_stands sets more [] [] z = tt
  zip_stands sets more [] (t ∷ ts) z = absurd z
  zip_stands sets more (m ∷ ms) [] z = absurd z
  zip_stands sets more (m ∷ ms) (t ∷ ts) z = (z.0.stands more, zip_stands sets more ms ts z.1)

  all_filled : (sets more : List (List Range)) (ms : List Meaning) (ts : List Tree) → AllZip (IsPart files sets) ms ts →
      AllByRecursion HasLawfulLeaves (map (tree_of (sets ++ more)) ts)
  all_filled sets more [] [] z = tt
  all_filled sets more [] (t ∷ ts) z = absurd z
  all_filled sets more (m ∷ ms) [] z = absurd z
  all_filled sets more (m ∷ ms) (t ∷ ts) z = (z.0.filled more, all_filled sets more ms ts z.1)

  pub all_numbered : (sets : List (List Range)) (ms : List Meaning) (ts : List Tree) → AllZip (IsPart files sets) ms ts →
      AllByRecursion (λ k. k < length sets) (flat_map numbers_of ts)
  all_numbered sets [] [] z = tt
  all_numbered sets [] (t ∷ ts) z = absurd z
  all_numbered sets (m ∷ ms) [] z = absurd z
  all_numbered sets (m ∷ ms) (t ∷ ts) z = all_append (λ k. k < length sets) (numbers_of t) (flat_map numbers_of ts) z.0.numbered (all_numbered sets ms ts z.1)

  choice_stands : (ms : List Meaning) (ts : List spelling.Tree) → AllZip (Stands files) ms ts → Stands files (choice_meaning ms) (spelling.choice_of ts)
  choice_stands [] [] z = refl
  choice_stands [] (t ∷ ts) z = absurd z
  choice_stands (m ∷ ms) [] z = absurd z
  choice_stands (m ∷ []) (t ∷ []) z = z.0
  choice_stands (m ∷ []) (t ∷ u ∷ ts) z = absurd z.1
  choice_stands (m ∷ n ∷ ms) (t ∷ []) z = absurd z.1
  choice_stands (m ∷ n ∷ ms) (t ∷ u ∷ ts) z = (t, spelling.choice_of (u ∷ ts), refl, z.0, choice_stands (n ∷ ms) (u ∷ ts) z.1)

  sequence_stands : (ms : List Meaning) (ts : List spelling.Tree) → AllZip (Stands files) ms ts → Stands files (sequence_meaning ms) (spelling.sequence_of ts)
  sequence_stands [] [] z = refl
  sequence_stands [] (t ∷ ts) z = absurd z
  sequence_stands (m ∷ ms) [] z = absurd z
  sequence_stands (m ∷ []) (t ∷ []) z = z.0
  sequence_stands (m ∷ []) (t ∷ u ∷ ts) z = absurd z.1
  sequence_stands (m ∷ n ∷ ms) (t ∷ []) z = absurd z.1
  sequence_stands (m ∷ n ∷ ms) (t ∷ u ∷ ts) z = (t, spelling.sequence_of (u ∷ ts), refl, z.0, sequence_stands (n ∷ ms) (u ∷ ts) z.1)

  choice_filled : (ts : List spelling.Tree) → AllByRecursion HasLawfulLeaves ts → HasLawfulLeaves (spelling.choice_of ts)
  choice_filled [] a = tt
  choice_filled (t ∷ []) a = a.0
  choice_filled (t ∷ u ∷ ts) a = (a.0, choice_filled (u ∷ ts) a.1)

  sequence_filled : (ts : List spelling.Tree) → AllByRecursion HasLawfulLeaves ts → HasLawfulLeaves (spelling.sequence_of ts)
  sequence_filled [] a = tt
  sequence_filled (t ∷ []) a = a.0
  sequence_filled (t ∷ u ∷ ts) a = (a.0, sequence_filled (u ∷ ts) a.1)

  -- a choice
  pub choice_built : (old : ℕ) (sets : List (List Range)) (ms : List Meaning) (ts : List Tree) (r : Tree) → AreBuilt old sets ms ts →
      ((ss : List (List Range)) → tree_of ss r ≡ spelling.choice_of (map (tree_of ss) ts)) → numbers_of r ≡ flat_map numbers_of ts →
      IsBuilt files old sets (choice_meaning ms) r
  choice_built old sets ms ts r a of numbers =
      record {
        part = record {
          stands = λ more. subst (Stands files (choice_meaning ms)) (sym (of (sets ++ more)))
              (choice_stands ms (map (tree_of (sets ++ more)) ts) (zip_stands sets more ms ts a.each));
          filled = λ more. subst HasLawfulLeaves (sym (of (sets ++ more))) (choice_filled (map (tree_of (sets ++ more)) ts)
              (all_filled sets more ms ts a.each));
          numbered = subst (AllByRecursion (λ k. k < length sets)) (sym numbers) (all_numbered sets ms ts a.each);
        };
        fresh = λ k low high. subst (λ ns. Contains ns k) (sym numbers) (a.fresh k low high);
      }

  -- a sequence
  pub sequence_built : (old : ℕ) (sets : List (List Range)) (ms : List Meaning) (ts : List Tree) (r : Tree) → AreBuilt old sets ms ts →
      ((ss : List (List Range)) → tree_of ss r ≡ spelling.sequence_of (map (tree_of ss) ts)) → numbers_of r ≡ flat_map numbers_of ts →
      IsBuilt files old sets (sequence_meaning ms) r
  sequence_built old sets ms ts r a of numbers =
      record {
        part = record {
          stands = λ more. subst (Stands files (sequence_meaning ms)) (sym (of (sets ++ more)))
              (sequence_stands ms (map (tree_of (sets ++ more)) ts) (zip_stands sets more ms ts a.each));
          filled = λ more. subst HasLawfulLeaves (sym (of (sets ++ more))) (sequence_filled (map (tree_of (sets ++ more)) ts)
              (all_filled sets more ms ts a.each));
          numbered = subst (AllByRecursion (λ k. k < length sets)) (sym numbers) (all_numbered sets ms ts a.each);
        };
        fresh = λ k low high. subst (λ ns. Contains ns k) (sym numbers) (a.fresh k low high);
      }

-- sets were added, and added again
pub goes_nowhere : (context : Context) (leaves : FileLeaves) (builder : Builder) → IsBuilder context leaves builder → Extends context leaves builder builder
goes_nowhere context leaves builder b = record { more = []; is = sym (append-nil (sets_of context builder.rows.items)); builder = b }

pub goes_further : (context : Context) (leaves : FileLeaves) (a b d : Builder) → Extends context leaves a b → Extends context leaves b d →
    Extends context leaves a d
goes_further context leaves a b d x y =
    record {
      more = x.more ++ y.more;
      is = y.is ∙ ap (λ s. s ++ y.more) x.is ∙ append_assoc (sets_of context a.rows.items) x.more y.more;
      builder = y.builder;
    }

-- the trees of parts so far, behind those that stood there before, and the parts and leaves that are left
pub record AreBuilding (context : Context) (leaves : FileLeaves) (start : Builder) (from : ℕ) (whole : List Meaning) (all : List (Option model.SetTree))
    (before : List Tree) (now : Builder) (next : ℕ) (trees : List Tree) (left : List Meaning) (own : List (Option model.SetTree)) : Type 0 where
  pub goes : Extends context leaves start now
  pub done : List Meaning
  pub every : done ++ left ≡ whole
  pub ts : List Tree
  pub are : trees ≡ before ++ ts
  pub parts : AreBuilt (files_of context) (length (sets_of context start.rows.items)) (sets_of context now.rows.items) done ts
  pub stand : StandFrom context leaves next own
  pub moved : next + length own ≡ from + length all

-- before the first part
pub building_start : (context : Context) (leaves : FileLeaves) (start : Builder) (next : ℕ) (whole : List Meaning) (all : List (Option model.SetTree))
    (trees : List Tree) → IsBuilder context leaves start → StandFrom context leaves next all →
    AreBuilding context leaves start next whole all trees start next trees whole all
building_start context leaves start next whole all trees builder stand =
    record {
      goes = goes_nowhere context leaves start builder;
      done = [];
      every = refl;
      ts = [];
      are = sym (append-nil trees);
      parts = record { each = tt; fresh = λ k low high. absurd (omega arith) };
      stand = stand;
      moved = refl;
    }

-- one part more
pub building_turn : (context : Context) (leaves : FileLeaves) (start : Builder) (from : ℕ) (whole : List Meaning) (all : List (Option model.SetTree))
    (before : List Tree) (now later : Builder) (next next' : ℕ) (trees trees' : List Tree) (m : Meaning) (left : List Meaning)
    (own rest : List (Option model.SetTree)) →
    AreBuilding context leaves start from whole all before now next trees (m ∷ left) (own ++ rest) → Extends context leaves now later →
    next' ≡ next + length own → AddsTree context now later m trees trees' →
    AreBuilding context leaves start from whole all before later next' trees' left rest
building_turn context leaves start from whole all before now later next next' trees trees' m left own rest here on moved added =
    let files = files_of context in
    let sets = sets_of context now.rows.items in
    let old = length (sets_of context start.rows.items) in
    let pushed = push_built files old sets on.more here.done here.ts m added.tree here.parts
    (subst (λ ss. IsBuilt files (length sets) ss m added.tree) on.is added.built) in
    record {
      goes = goes_further context leaves start now later here.goes on;
      done = here.done ++ m ∷ [];
      every = append_assoc here.done (m ∷ []) left ∙ here.every;
      ts = here.ts ++ added.tree ∷ [];
      are = added.is ∙ ap (λ ts. ts ++ added.tree ∷ []) here.are ∙ append_assoc before here.ts (added.tree ∷ []);
      parts = subst (λ ss. AreBuilt files old ss (here.done ++ m ∷ []) (here.ts ++ added.tree ∷ [])) (sym on.is) pushed;
      stand = subst (λ n. StandFrom context leaves n rest) (sym moved)
          (stand_parts (IsSetRow files (division_of context)) leaves.rows.now.items next own rest here.stand).1;
      moved = let l = length-append own rest in let a = here.moved in omega arith;
    }

-- after the last part
building_end : (context : Context) (leaves : FileLeaves) (start : Builder) (from : ℕ) (whole : List Meaning) (all : List (Option model.SetTree))
    (before : List Tree) (now : Builder) (next : ℕ) (trees : List Tree) (left : List Meaning) (own : List (Option model.SetTree)) →
    (here : AreBuilding context leaves start from whole all before now next trees left own) → left ≡ [] →
    AreBuilt (files_of context) (length (sets_of context start.rows.items)) (sets_of context now.rows.items) whole here.ts
building_end context leaves start from whole all before now next trees left own here none =
    subst (λ ms. AreBuilt (files_of context) (length (sets_of context start.rows.items)) (sets_of context now.rows.items) ms here.ts)
    (sym (append-nil here.done) ∙ subst (λ ms. here.done ++ ms ≡ whole) none here.every) here.parts

-- their choice, and their sequence
pub choice_added : (context : Context) (leaves : FileLeaves) (start : Builder) (from : ℕ) (whole : List Meaning) (all : List (Option model.SetTree))
    (before : List Tree) (now : Builder) (next : ℕ) (trees later : List Tree) (left : List Meaning) (own : List (Option model.SetTree)) (first : ℕ) →
    AreBuilding context leaves start from whole all before now next trees left own → left ≡ [] → first ≡ length before →
    JoinsFrom spelling.choice_of first trees later → AddsTree context start now (choice_meaning whole) before later
choice_added context leaves start from whole all before now next trees later left own first here none behind joins =
    let j = joins before here.ts behind here.are in
    record {
      tree = j.tree;
      is = j.is;
      built = choice_built (files_of context) _ _ whole here.ts j.tree
          (building_end context leaves start from whole all before now next trees left own here none) j.stands j.numbers;
    }

pub sequence_added : (context : Context) (leaves : FileLeaves) (start : Builder) (from : ℕ) (whole : List Meaning) (all : List (Option model.SetTree))
    (before : List Tree) (now : Builder) (next : ℕ) (trees later : List Tree) (left : List Meaning) (own : List (Option model.SetTree)) (first : ℕ) →
    AreBuilding context leaves start from whole all before now next trees left own → left ≡ [] → first ≡ length before →
    JoinsFrom spelling.sequence_of first trees later → AddsTree context start now (sequence_meaning whole) before later
sequence_added context leaves start from whole all before now next trees later left own first here none behind joins =
    let j = joins before here.ts behind here.are in
    record {
      tree = j.tree;
      is = j.is;
      built = sequence_built (files_of context) _ _ whole here.ts j.tree
          (building_end context leaves start from whole all before now next trees left own here none) j.stands j.numbers;
    }

-- the repetition of a part that was added, and no tree
pub repeated_added : (context : Context) (start now : Builder) (quant : Quant) (m : Meaning) (before given later : List Tree) →
    AddsTree context start now m before given →
    ((front : List Tree) (part : Tree) → given ≡ front ++ part ∷ [] →
    IsJoined (λ parts. trees.repeated quant (spelling.sequence_of parts)) front (part ∷ []) later) →
    AddsTree context start now (repeated quant m) before later
repeated_added context start now quant m before given later a repeats =
    let j = repeats before a.tree a.is in
    record {
      tree = j.tree;
      is = j.is;
      built = repeated_built (files_of context) quant _ _ m a.tree j.tree a.built j.stands (j.numbers ∙ append-nil (numbers_of a.tree));
    }

pub never_added : (context : Context) (start : Builder) (before later : List Tree) → IsJoined spelling.choice_of before [] later →
    AddsTree context start start Never before later
never_added context start before later j =
    record { tree = j.tree; is = j.is; built = never_built (files_of context) (sets_of context start.rows.items) j.tree j.stands j.numbers }

slice_get_set : {A : Type 0} (xs : List A) (i j : ℕ) (x y : A) → slice_get (set xs i x) j ≡ Some y → ((j ≡ i) × (x ≡ y)) ⊎ (slice_get xs j ≡ Some y)
slice_get_set [] i j x y e = inr e
slice_get_set (z ∷ xs) zero zero x y e = inl (refl, cc)
slice_get_set (z ∷ xs) zero (suc j) x y e = inr e
slice_get_set (z ∷ xs) (suc i) zero x y e = inr e
slice_get_set (z ∷ xs) (suc i) (suc j) x y e =
    elim (slice_get_set xs i j x y e) [ inl p ↦ inl (ap suc p.0, p.1) | inr q ↦ inr q ]

-- a leaf's set has the next number
pub set_added : (context : Context) (leaves : FileLeaves) (before after : Builder) (place : ℕ) (row : ClassBits) → IsBuilder context leaves before →
    slice_get leaves.rows.now.items place ≡ Some (Some row) → IsLeafSet (characters_of (division_of context) row) →
    length before.rows.items < 4294967295 → after.rows.items ≡ before.rows.items ++ row ∷ [] →
    after.numbers.items ≡ set before.numbers.items place (Some (length before.rows.items)) → Extends context leaves before after
set_added context leaves before after place row b at lawful few rows numbers =
    let division = division_of context in
    let old = before.rows.items in
    let is : sets_of context after.rows.items ≡ sets_of context old ++ characters_of division row ∷ [] =
    ap (sets_of context) rows ∙ map-append (characters_of division) old (row ∷ []) in
    record {
      more = characters_of division row ∷ [];
      is = is;
      builder = record {
        few = let l = length-append old (row ∷ []) in let e = ap length rows in omega arith;
        formed = subst (AllByRecursion IsLeafSet) (sym is) (all_append IsLeafSet (sets_of context old) (characters_of division row ∷ []) b.formed (lawful, tt));
        long = ap length numbers ∙ length-set before.numbers.items place (Some (length old)) ∙ b.long;
        each = λ p number other known there.
            let known' = ap (λ xs. slice_get xs p) (sym numbers) ∙ known in
            ap (λ xs. slice_get xs number) rows
            ∙ elim (slice_get_set before.numbers.items place p (Some (length old)) (Some number) known') [
              | inl e ↦
                  let here : slice_get leaves.rows.now.items p ≡ Some (Some row) = ap (slice_get leaves.rows.now.items) e.0 ∙ at in
                  let same : row ≡ other = cc in
                  let own = e.1 in
                  let last : length old ≡ number = cc in
                  get_at old row [] number last ∙ ap Some same
              | inr earlier ↦ slice_get_first old (row ∷ []) number other (b.each p number other earlier there)
            ];
      };
    }

-- the tree of a leaf
pub leaf_stands : (context : Context) (leaves : FileLeaves) (before after : Builder) (next n : ℕ) (value : Option model.SetTree) (t : Tree) →
    StandFrom context leaves next (value ∷ []) →
    ((row : ClassBits) → slice_get leaves.rows.now.items next ≡ Some (Some row) → slice_get after.rows.items n ≡ Some row) →
    ((k : ℕ) → length before.rows.items ≤ k → k < length after.rows.items → k ≡ n) →
    ((ss : List (List Range)) → tree_of ss t ≡ spelling.Leaf (set_at ss n)) → numbers_of t ≡ n ∷ [] → Builds context before after (leaf_of value) t
leaf_stands context leaves before after next n value t stand number fresh of numbers =
    let s = stand_leaf (IsSetRow (files_of context) (division_of context)) leaves.rows.now.items next value stand in
    by_cases value s.0 s.1 s.2
  where
    characters : ClassBits → List Range
    characters = characters_of (division_of context)

    by_cases : (v : Option model.SetTree) (row : Option ClassBits) → slice_get leaves.rows.now.items next ≡ Some row →
        IsSetRow (files_of context) (division_of context) v row → Builds context before after (leaf_of v) t
    by_cases None row at is = absurd is
    by_cases (Some tree) None at is = absurd is
    by_cases (Some tree) (Some row) at is =
        leaf_built (files_of context) (length (sets_of context before.rows.items)) (sets_of context after.rows.items) n tree (characters row) t
        (slice_get-map characters after.rows.items n ∙ ap (option_map characters) (number row at)) is of numbers
        (λ k low high.
        let a : length (map characters before.rows.items) ≡ length before.rows.items = simp length-map in
        let b : length (map characters after.rows.items) ≡ length after.rows.items = simp length-map in
        fresh k (omega arith) (omega arith))

-- there is a row where a lawful one is
pub lawful_inside : (division : ClassDivision) (rows : List (Option ClassBits)) (i : ℕ) → IsLawfulRow division (slice_get rows i) → i < length rows
lawful_inside division [] i l = absurd l
lawful_inside division (x ∷ rows) zero l = omega arith
lawful_inside division (x ∷ rows) (suc i) l = let r = lawful_inside division rows i l in omega arith
