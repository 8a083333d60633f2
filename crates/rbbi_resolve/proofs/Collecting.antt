-- Sets that are collected, one part after another.
use Rattle.std.proofs.Common.{Some, slice_get, inl, inr, Bool, true, false, ◌||◌, eqb, ◌⊎◌, ◌↔◌}
use Rattle.std.proofs.lemmas.Bool.{cases_lt}
use Rattle.std.proofs.Common.{◌≡◌, ℕ, ◌+◌, ◌<◌, ◌≤◌, List, [], ◌∷◌, ◌++◌, map, length, drop, get_or, refl, sym, ap, ◌∙◌, subst, arith}
use Rattle.std.specs.List.{Contains, All, AllByRecursion}
use Rattle.std.specs.Rc.{rc_value}
use Rattle.std.proofs.Common.{Option, None, IfSome}
use Rattle.rbbi_bits.specs.BitRows.{row_bit}
use Rattle.rbbi_model.specs.Ranges.{Range, Has}
use Rattle.rbbi_sets.specs.Rising.{AreRising}
use Rattle.std.proofs.lemmas.List.{drop_all}
use Rattle.std.proofs.lemmas.Bool.Decides.{nat_tests}
use Rattle.std.proofs.lemmas.List.Elements.{All-weaker, Contains-append_right}
use Rattle.rbbi_props.specs.Rows.{File}
use Rattle.rbbi_tree.specs.Trees.{StatementTree, SetItemTree, expr_of, seq_of, joined}
use Rattle.rbbi_tree.specs.Values.{statement_tree, statement_trees, expr_tree, seq_tree, item_tree, part_tree, set_item_tree, part_tree_out}
use Rattle.rbbi_tree.specs.declared.syntax.Statement.{Statement}
use Rattle.rbbi_tree.specs.declared.syntax.Expr.{Expr}
use Rattle.rbbi_tree.specs.declared.syntax.Seq.{Seq}
use Rattle.rbbi_tree.specs.declared.syntax.Item.{Item}
use Rattle.rbbi_tree.specs.declared.syntax.SetPart.{SetPart}
use Rattle.rbbi_tree.specs.declared.syntax.SetItem.{SetItem}
use Rattle.rbbi_tree.specs.declared.syntax.SetItem.TheViews.{out-SetPart}
use Rattle.rbbi_tree.specs.declared.syntax.Atom.TheViews.{out-Expr, out-Seq}
use Rattle.rbbi_resolve.specs.declared.collection.Collection.{Collection}
use Rattle.rbbi_resolve.specs.Parts.{Part, parts_of_expr, parts_of_seq, parts_of_item}
use Rattle.rbbi_resolve.specs.declared.properties.Answer.{Answer}
use Rattle.rbbi_resolve.specs.inner.Covered.{IsCovered, AreCovered, AreRespected, IsBasedAnswer, IsCollection, Collects, HasSingle, AreSingled}
use Rattle.rbbi_resolve.specs.inner.Covered.{parts_of_statement}
use Rattle.rbbi_resolve.proofs.Counting.{expr_by_items, seq_by_items, exprs_left, seqs_left}
use Rattle.rbbi_resolve.proofs.Covering.{covered_append, fewer_respected}
use Rattle.rbbi_resolve.proofs.Steps.{tree_at}

-- answers stay right where more sets are collected
pub answers_kept : (files : List File) (bases bases' : List (List Range)) (answers : List Answer) →
    ((base : List Range) → Contains bases base → Contains bases' base) → All (IsBasedAnswer files bases) answers → All (IsBasedAnswer files bases') answers
answers_kept files bases bases' answers keeps are =
    All-weaker (IsBasedAnswer files bases) (IsBasedAnswer files bases') (λ answer a. record { right = a.right; own = own_kept (rc_value answer.set) a.own })
    answers are
  where
    own_kept : (set : Option (List Range)) → IfSome set (Contains bases) → IfSome set (Contains bases')
    own_kept None own = tt
    own_kept (Some set) own = keeps set own

-- single characters stay where more sets are collected
pub single_kept : (bases bases' : List (List Range)) → ((base : List Range) → Contains bases base → Contains bases' base) → (c : ℕ) →
    HasSingle bases c → HasSingle bases' c
single_kept bases bases' keeps c is = record { base = is.base; own = keeps is.base is.own; rising = is.rising; same = is.same }

pub singled_kept : (bases bases' : List (List Range)) (row : List ℕ) → ((base : List Range) → Contains bases base → Contains bases' base) →
    AreSingled bases row → AreSingled bases' row
singled_kept bases bases' row keeps are = record { long = are.long; each = λ c h. single_kept bases bases' keeps c (are.each c h) }

pub word_kept : (bases bases' : List (List Range)) → ((base : List Range) → Contains bases base → Contains bases' base) → (word : List ℕ) →
    AllByRecursion (HasSingle bases) word → AllByRecursion (HasSingle bases') word
word_kept bases bases' keeps [] are = tt
word_kept bases bases' keeps (c ∷ word) are = (single_kept bases bases' keeps c are.0, word_kept bases bases' keeps word are.1)

-- a single character that is added
pub single_pushed : (bases : List (List Range)) (own : List Range) (c : ℕ) → own ≡ record { low = c; high = c } ∷ [] → c ≤ 0x10FFFF →
    HasSingle (bases ++ own ∷ []) c
single_pushed bases own c is low =
    record {
      base = own;
      own = Contains-append_right bases (own ∷ []) own (0, omega arith, refl);
      rising = subst AreRising (sym is) (omega arith, omega arith, low, tt);
      same = λ d. subst (λ r. Has r d ↔ Has (record { low = c; high = c } ∷ []) d) (sym is) (λ h. h, λ h. h);
    }

either_true : (a b : Bool) → (a || b) ≡ true → (a ≡ true) ⊎ (b ≡ true)
either_true true b e = inl refl
either_true false b e = inr e

pub singled_more : (bases bases' : List (List Range)) (row row' : List ℕ) (c : ℕ) → AreSingled bases row →
    ((base : List Range) → Contains bases base → Contains bases' base) → HasSingle bases' c → length row' ≡ length row →
    ((other : ℕ) → row_bit row' other ≡ (row_bit row other || eqb other c)) → AreSingled bases' row'
singled_more bases bases' row row' c are keeps own long bits =
    record {
      long = long ∙ are.long;
      each = λ d h. elim (either_true (row_bit row d) (eqb d c) (sym (bits d) ∙ h)) [
        | inl before ↦ single_kept bases bases' keeps d (are.each d before)
        | inr now ↦ let same : d ≡ c = grind (arith, nat_tests) in subst (HasSingle bases') (sym same) own
      ];
    }

-- nothing is added for no parts
pub collects_none : (files : List File) (now : Collection) → IsCollection files now → Collects files now now []
collects_none files now kept = record { keeps = λ base has. has; covers = λ stand are. record { each = tt }; kept = kept }

-- what was covered stays so
pub collects_more : (files : List File) (before between after : Collection) (a b : List Part) → Collects files before between a →
    Collects files between after b → Collects files before after (a ++ b)
collects_more files before between after a b first second =
    record {
      keeps = λ base has. second.keeps base (first.keeps base has);
      covers = λ stand are. covered_append files stand a b
          (first.covers stand (fewer_respected stand between.bases.items after.bases.items second.keeps are)) (second.covers stand are);
      kept = second.kept;
    }

-- a loop over parts: with what is collected of the parts left, all parts are covered
pub record IsCollecting (files : List File) (start between : Collection) (whole left : List Part) : Type 0 where
  pub kept : IsCollection files between
  pub goes_on : (after : Collection) → Collects files between after left → Collects files start after whole

pub collecting_starts : (files : List File) (start : Collection) (whole : List Part) → IsCollection files start →
    IsCollecting files start start whole whole
collecting_starts files start whole kept = record { kept = kept; goes_on = λ after rest. rest }

-- one turn of it
turn : (files : List File) (start between between' : Collection) (whole part left : List Part) → IsCollecting files start between whole (part ++ left) →
    Collects files between between' part → IsCollecting files start between' whole left
turn files start between between' whole part left collecting step =
    record { kept = step.kept; goes_on = λ after rest. collecting.goes_on after (collects_more files between between' after part left step rest) }

-- its end
ended : (files : List File) (start between : Collection) (whole : List Part) → IsCollecting files start between whole [] →
    Collects files start between whole
ended files start between whole collecting = collecting.goes_on between (collects_none files between collecting.kept)

module _ (files : List File) (start between : Collection) where
  -- the loop over the sequences of an expression
  pub seqs_turn : (between' : Collection) (whole : List Part) (items : List Seq) (i : ℕ) (p : Seq) →
      i < length items → p ≡ get_or items i p →
      IsCollecting files start between whole (parts_of_expr (expr_of (map seq_tree (drop i items)))) →
      Collects files between between' (parts_of_seq (seq_tree p)) →
      IsCollecting files start between' whole (parts_of_expr (expr_of (map seq_tree (drop (i + 1) items))))
  seqs_turn between' whole items i p inside is collecting step =
      turn files start between between' whole (parts_of_seq (seq_tree p)) _
      (subst (λ x. IsCollecting files start between whole (parts_of_expr x)) (exprs_left items i p inside is) collecting) step

  pub seqs_end : (e : Expr) (items : List Seq) (i : ℕ) → items ≡ (out-Expr e).items.items → length items ≤ i →
      IsCollecting files start between (parts_of_expr (expr_of (map seq_tree items))) (parts_of_expr (expr_of (map seq_tree (drop i items)))) →
      Collects files start between (parts_of_expr (expr_tree e))
  seqs_end e items i of all collecting =
      subst (λ x. Collects files start between (parts_of_expr x)) (sym (expr_by_items e items of))
      (ended files start between _ (subst (λ xs. IsCollecting files start between (parts_of_expr (expr_of (map seq_tree items)))
      (parts_of_expr (expr_of (map seq_tree xs)))) (drop_all i items all) collecting))

  -- the loop over the items of a sequence
  pub items_turn : (between' : Collection) (whole : List Part) (items : List Item) (i : ℕ) (p : Item) →
      i < length items → p ≡ get_or items i p →
      IsCollecting files start between whole (parts_of_seq (seq_of (map item_tree (drop i items)))) →
      Collects files between between' (parts_of_item (item_tree p)) →
      IsCollecting files start between' whole (parts_of_seq (seq_of (map item_tree (drop (i + 1) items))))
  items_turn between' whole items i p inside is collecting step =
      turn files start between between' whole (parts_of_item (item_tree p)) _
      (subst (λ x. IsCollecting files start between whole (parts_of_seq x)) (seqs_left items i p inside is) collecting) step

  pub items_end : (s : Seq) (items : List Item) (i : ℕ) → items ≡ (out-Seq s).items.items → length items ≤ i →
      IsCollecting files start between (parts_of_seq (seq_of (map item_tree items))) (parts_of_seq (seq_of (map item_tree (drop i items)))) →
      Collects files start between (parts_of_seq (seq_tree s))
  items_end s items i of all collecting =
      subst (λ x. Collects files start between (parts_of_seq x)) (sym (seq_by_items s items of))
      (ended files start between _ (subst (λ xs. IsCollecting files start between (parts_of_seq (seq_of (map item_tree items)))
      (parts_of_seq (seq_of (map item_tree xs)))) (drop_all i items all) collecting))

-- an atom is covered with what stands in it
pub atom_collected : (files : List File) (before after : Collection) (parts : List Part) (p : Part) →
    ((base : List Range) → Contains before.bases.items base → Contains after.bases.items base) → IsCollection files after →
    ((stand : ℕ → ℕ) → AreRespected stand after.bases.items → AreCovered files stand parts × IsCovered files stand p) →
    Collects files before after (parts ++ p ∷ [])
atom_collected files before after parts p keeps kept covers =
    record {
      keeps = keeps;
      covers = λ stand are. covered_append files stand parts (p ∷ []) (covers stand are).0 (record { each = ((covers stand are).1, tt) });
      kept = kept;
    }

-- the tree of a part with such an item
pub part_is : (p : SetPart) (member : SetItem) (tree : SetItemTree) → (out-SetPart p).item ≡ member → set_item_tree member ≡ tree →
    part_tree p ≡ joined (out-SetPart p).place (out-SetPart p).join tree
part_is p member tree is same =
    part_tree_out p ∙ ap (joined (out-SetPart p).place (out-SetPart p).join) (ap set_item_tree is ∙ same)

-- the statements up to the next one are covered
pub statements_covered : (files : List File) (before after : Collection) (statements : List Statement) (n : ℕ) (own : Statement) →
    slice_get statements n ≡ Some own → Collects files before after (parts_of_statement (statement_tree own)) →
    ((stand : ℕ → ℕ) → AreRespected stand before.bases.items → (k : ℕ) (s : StatementTree) → k < n →
    slice_get (statement_trees statements) k ≡ Some s → AreCovered files stand (parts_of_statement s)) →
    (stand : ℕ → ℕ) → AreRespected stand after.bases.items → (k : ℕ) (s : StatementTree) → k < n + 1 →
    slice_get (statement_trees statements) k ≡ Some s → AreCovered files stand (parts_of_statement s)
statements_covered files before after statements n own at collects covers stand are k s low is =
    elim (cases_lt k n) [
      | inl lt ↦ covers stand (fewer_respected stand before.bases.items after.bases.items collects.keeps are) k s lt is
      | inr ge ↦
          let e : k ≡ n = omega arith in
          let here = tree_at statements n own at in
          let there = ap (slice_get (statement_trees statements)) e in
          let same : s ≡ statement_tree own = cc in
          subst (λ x. AreCovered files stand (parts_of_statement x)) (sym same) (collects.covers stand are)
    ]
