-- The height of an expression bounds those of its parts, and so the depth of the walks that build its tree.
use Rattle.std.proofs.Common.{◌≡◌, ℕ, zero, suc, ◌+◌, ◌<◌, ◌≤◌, Bool, true, false, max, nat_lt, if◌then◌else◌, Option, Some, None, List, [], ◌∷◌}
use Rattle.std.proofs.Common.{◌++◌, map, length, get_or, drop, slice_get, find, sym, refl, ap, ◌∙◌, arith}
use Rattle.std.proofs.lemmas.Bool.Decides.{nat_tests}
use Rattle.std.specs.Option.{option_map, option_map_or}
use Rattle.rbbi_props.specs.Rows.{File}
use Rattle.rbbi_tree.specs.Trees.{ExprTree, SeqTree, ItemTree, StatementTree, nothing, control, assign, rule, expr_of, seq_of}
use Rattle.rbbi_tree.specs.Values.{seq_tree, item_tree, atom_tree, item_tree_out}
use Rattle.rbbi_tree.specs.declared.syntax.Seq.{Seq}
use Rattle.rbbi_tree.specs.declared.syntax.Item.{Item}
use Rattle.rbbi_tree.specs.declared.syntax.Atom.TheViews.{out-Item}
use Rattle.rbbi_resolve.specs.Contexts.{Context}
use Rattle.rbbi_resolve.specs.Expressions.{height_of_expr, highest_of_expr, height_of_seq, highest_of_seq, height_of_item, height_of_atom}
use Rattle.rbbi_resolve.specs.Files.{RuleMeaning, context_after, rules_from, active_rules}
use Rattle.rbbi_resolve.specs.Counts.{too_tall_at}
use Rattle.rbbi_resolve.specs.inner.Files.{context_at}
use Rattle.rbbi_resolve.specs.inner.Contexts.{IsAssigned}
use Rattle.rbbi_resolve.proofs.Steps.{left_here, rules_next, meant}

module _ (k : Context) where
  expr_highest : (ss : List SeqTree) → highest_of_expr k (expr_of ss) ≤ height_of_expr k (expr_of ss)
  expr_highest [] = omega arith
  expr_highest (s ∷ []) = omega arith
  expr_highest (s ∷ t ∷ ss) = omega arith

  seq_highest : (is : List ItemTree) → highest_of_seq k (seq_of is) ≤ height_of_seq k (seq_of is)
  seq_highest [] = omega arith
  seq_highest (i ∷ []) = omega arith
  seq_highest (i ∷ j ∷ is) = omega arith

  below_highest_seq : (items : List Seq) (i : ℕ) (p : Seq) → i < length items → p ≡ get_or items i p →
      height_of_seq k (seq_tree p) ≤ highest_of_expr k (expr_of (map seq_tree items))
  below_highest_seq [] i p inside is = absurd (omega arith)
  below_highest_seq (s ∷ items) zero p inside is = let e = ap (λ x. height_of_seq k (seq_tree x)) is in omega arith
  below_highest_seq (s ∷ items) (suc i) p inside is = let r = below_highest_seq items i p (omega arith) is in omega arith

  below_highest_item : (items : List Item) (i : ℕ) (p : Item) → i < length items → p ≡ get_or items i p →
      height_of_item k (item_tree p) ≤ highest_of_seq k (seq_of (map item_tree items))
  below_highest_item [] i p inside is = absurd (omega arith)
  below_highest_item (s ∷ items) zero p inside is = let e = ap (λ x. height_of_item k (item_tree x)) is in omega arith
  below_highest_item (s ∷ items) (suc i) p inside is = let r = below_highest_item items i p (omega arith) is in omega arith

  -- a sequence is no higher than its expression, and so on down
  pub low_seq : (items : List Seq) (i : ℕ) (p : Seq) → i < length items → p ≡ get_or items i p →
      height_of_seq k (seq_tree p) ≤ height_of_expr k (expr_of (map seq_tree items))
  low_seq items i p inside is =
      let a = below_highest_seq items i p inside is in
      let b = expr_highest (map seq_tree items) in
      omega arith

  pub low_item : (items : List Item) (i : ℕ) (p : Item) → i < length items → p ≡ get_or items i p →
      height_of_item k (item_tree p) ≤ height_of_seq k (seq_of (map item_tree items))
  low_item items i p inside is =
      let a = below_highest_item items i p inside is in
      let b = seq_highest (map item_tree items) in
      omega arith

  pub low_atom : (i : Item) → height_of_atom k (atom_tree (out-Item i).atom) ≤ height_of_item k (item_tree i)
  low_atom i = let e = ap (height_of_item k) (item_tree_out i) in omega arith

-- the height of the expression that a statement assigns
abbrev pub height_in : Context → Option StatementTree → ℕ
height_in k None = 0
height_in k (Some nothing) = 0
height_in k (Some (control word place)) = 0
height_in k (Some (assign word place expr)) = height_of_expr k expr
height_in k (Some (rule place no_chain_in front slash rest tag)) = 0

abbrev pub assigned_height : List File → List StatementTree → ℕ → ℕ
assigned_height files statements number = height_in (context_at files statements number) (slice_get statements number)

pub assigned_height_is : (files : List File) (statements : List StatementTree) (number : ℕ) (expr : ExprTree) → IsAssigned statements number expr →
    assigned_height files statements number ≡ height_of_expr (context_at files statements number) expr
assigned_height_is files statements number expr is = ap (height_in (context_at files statements number)) is.at

-- no rule of a file whose rules are none too tall is
tall_first : (m : RuleMeaning) (ms : List RuleMeaning) (b : Bool) → nat_lt 256 m.height ≡ b →
    option_map (λ rule. rule.place) (if b then Some m else find (λ rule. nat_lt 256 rule.height) ms) ≡ None →
    (m.height ≤ 256) × (too_tall_at ms ≡ None)
tall_first m ms true is e = absurd cc
tall_first m ms false is e = (grind (arith, nat_tests), e)

none_tall : (done : List RuleMeaning) (m : RuleMeaning) (rest : List RuleMeaning) → too_tall_at (done ++ m ∷ rest) ≡ None → m.height ≤ 256
none_tall [] m rest e = (tall_first m rest (nat_lt 256 m.height) refl e).0
none_tall (d ∷ done) m rest e = none_tall done m rest (tall_first d (done ++ m ∷ rest) (nat_lt 256 d.height) refl e).1

-- nor is an active rule of such a file
pub rule_is_low : (files : List File) (statements : List StatementTree) (done : List RuleMeaning) (n place : ℕ) (no_chain_in : Bool) (front : ExprTree)
    (slash : Option ℕ) (rest : Option ExprTree) (tag : Option ℕ) →
    done ++ rules_from (context_at files statements n) (drop n statements) ≡ active_rules files statements →
    slice_get statements n ≡ Some (rule place no_chain_in front slash rest tag) → (context_at files statements n).active ≡ true →
    too_tall_at (active_rules files statements) ≡ None →
    max (height_of_expr (context_at files statements n) front) (option_map_or (height_of_expr (context_at files statements n)) rest 0) ≤ 256
rule_is_low files statements done n place no_chain_in front slash rest tag every at active none =
    let k = context_at files statements n in
    let s = rule place no_chain_in front slash rest tag in
    let m = meant k place no_chain_in front rest tag in
    let later = drop (n + 1) statements in
    let more = rules_from (context_after k s) later in
    let here : rules_from k (drop n statements) ≡ m ∷ more = ap (rules_from k) (left_here statements n s at) ∙ rules_next k s later
    ∙ ap (λ b. (if b then m ∷ [] else []) ++ more) active in
    none_tall done m more (ap too_tall_at (ap (λ ms. done ++ ms) (sym here) ∙ every) ∙ none)
