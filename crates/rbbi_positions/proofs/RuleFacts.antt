-- Rules one after another: their leaves, and what some rule of the first ones passes.
use Rattle.std.proofs.Common.{◌≡◌, ℕ, zero, suc, ◌+◌, ◌-◌, ◌<◌, ◌≤◌, Bool, ◌||◌, Option, None, Some, List, [], ◌∷◌, ◌++◌, length, take, replicate, get_or}
use Rattle.std.proofs.Math.Bool.{or-false, or_assoc}
use Rattle.std.proofs.Common.{⊎_elim, refl, ap, sym, ◌∙◌, subst, arith, length-append}
use Rattle.std.specs.Prelude.{sum_by, slice_get}
use Rattle.std.specs.Option.{option_map, option_map_or}
use Rattle.std.proofs.lemmas.List.{length-map, get_or_append_left, get_or-append_right, get_or-replicate, length-replicate}
use Rattle.std.proofs.lemmas.Bool.{cases_lt}
use Rattle.std.proofs.lemmas.List.Sums.{sum_by-append, sum_by-cons}
use Rattle.rbbi_model.specs.Ranges.{Range}
use Rattle.rbbi_model.specs.Spelling as spelling
use Rattle.rbbi_model.specs.Rules as model
use Rattle.rbbi_model.specs.Rules.{leaf_count, leaves_of}
use Rattle.rbbi_model.specs.LeafSets.{sets_of, sets_of_rule, first_position}
use Rattle.rbbi_resolve.specs.declared.rules.Rule.{Rule}
use Rattle.rbbi_resolve.specs.declared.rules.Tree.{Tree}
use Rattle.rbbi_resolve.specs.RuleTrees.{set_at, tree_of}
use Rattle.rbbi_resolve.specs.RuleLists.{RuleList, rule_of, rules_of, numbers_of_rule, leaf_numbers}
use Rattle.std.proofs.lemmas.Option.{slice_get-map}
use Rattle.rbbi_cats.proofs.Nexts.{take_next}
use Rattle.rbbi_cats.proofs.LeafSets.{all_sets_are}
use Rattle.rbbi_positions.specs.inner.RuleTests.{some_rule, AreOwners}
use Rattle.rbbi_positions.specs.FollowPositions.{IsOfRule}

-- the leaves of a rule
pub leaves_none : (sets : List (List Range)) (rule : Rule) → rule.rest ≡ None → leaves_of (rule_of sets rule) ≡ leaf_count (tree_of sets rule.front)
leaves_none sets rule none =
    let both : leaves_of (rule_of sets rule) ≡ leaf_count (tree_of sets rule.front) + 0 =
    ap (λ (r : Option Tree). leaf_count (tree_of sets rule.front) + option_map_or leaf_count (option_map (tree_of sets) r) 0) none in
    omega (arith, both)

pub leaves_some : (sets : List (List Range)) (rule : Rule) (rest : Tree) → rule.rest ≡ Some rest →
    leaves_of (rule_of sets rule) ≡ leaf_count (tree_of sets rule.front) + leaf_count (tree_of sets rest)
leaves_some sets rule rest some = ap (λ (r : Option Tree). leaf_count (tree_of sets rule.front) + option_map_or leaf_count (option_map (tree_of sets) r) 0) some

-- what is computed of a rule's rest
pub of_none : {A : Type 0} (sets : List (List Range)) (rule : Rule) (f : spelling.Tree → A) (d : A) → rule.rest ≡ None →
    option_map_or f (option_map (tree_of sets) rule.rest) d ≡ d
of_none sets rule f d none = ap (λ (r : Option Tree). option_map_or f (option_map (tree_of sets) r) d) none

pub of_some : {A : Type 0} (sets : List (List Range)) (rule : Rule) (rest : Tree) (f : spelling.Tree → A) (d : A) → rule.rest ≡ Some rest →
    option_map_or f (option_map (tree_of sets) rule.rest) d ≡ f (tree_of sets rest)
of_some sets rule rest f d some = ap (λ (r : Option Tree). option_map_or f (option_map (tree_of sets) r) d) some

-- a tree has as many leaves as sets of leaves
count_sets : (tree : spelling.Tree) → length (sets_of tree) ≡ leaf_count tree
count_sets (spelling.Leaf set) = refl
count_sets spelling.Empty = refl
count_sets spelling.Never = refl
count_sets (spelling.Then front rest) = omega (arith, count_sets front, count_sets rest, length-append (sets_of front) (sets_of rest))
count_sets (spelling.Either front rest) = omega (arith, count_sets front, count_sets rest, length-append (sets_of front) (sets_of rest))
count_sets (spelling.Repeat repetition part) = count_sets part

count_rule_sets : (front : spelling.Tree) (rest : Option spelling.Tree) →
    length (sets_of front ++ option_map_or sets_of rest []) ≡ leaf_count front + option_map_or leaf_count rest 0
count_rule_sets front None = omega (arith, count_sets front, length-append (sets_of front) [])
count_rule_sets front (Some rest) = omega (arith, count_sets front, count_sets rest, length-append (sets_of front) (sets_of rest))

-- as many as numbers, whatever the sets are
pub leaves_are_numbers : (sets : List (List Range)) (rule : Rule) → leaves_of (rule_of sets rule) ≡ length (numbers_of_rule rule)
leaves_are_numbers sets rule =
    let list : RuleList = record { rules = rule ∷ []; sets = sets } in
    let model : model.Rule = rule_of sets rule in
    omega (
      arith,
      count_rule_sets model.front model.rest,
      ap length (all_sets_are list),
      length-append (sets_of_rule model) [],
      length-append (numbers_of_rule rule) [],
      length-map (leaf_numbers list) (set_at sets),
    )

pub leaves_alike : (sets others : List (List Range)) (rule : Rule) → leaves_of (rule_of sets rule) ≡ leaves_of (rule_of others rule)
leaves_alike sets others rule = leaves_are_numbers sets rule ∙ sym (leaves_are_numbers others rule)

sum_within : (rules : List model.Rule) (number : ℕ) (rule : model.Rule) → slice_get rules number ≡ Some rule →
    sum_by leaves_of (take number rules) + leaves_of rule ≤ sum_by leaves_of rules
sum_within [] number rule is = absurd (cc)
sum_within (first ∷ rules) zero rule is = (let same : first ≡ rule = cc in omega (arith, ap leaves_of same, sum_by-cons leaves_of first rules))
sum_within (first ∷ rules) (suc number) rule is =
    omega (arith, sum_within rules number rule is, sum_by-cons leaves_of first (take number rules), sum_by-cons leaves_of first rules)

some_snoc : (test : model.Rule → ℕ → Bool) (rules : List model.Rule) (rule : model.Rule) (first : ℕ) →
    some_rule test (rules ++ rule ∷ []) first ≡ (some_rule test rules first || test rule (first + sum_by leaves_of rules))
some_snoc test [] rule first = or-false (test rule first) ∙ ap (test rule) (omega arith)
some_snoc test (front ∷ rules) rule first =
    ap (λ x. test front first || x) (some_snoc test rules rule (first + leaves_of front))
    ∙ sym (or_assoc (test front first) (some_rule test rules (first + leaves_of front)) (test rule ((first + leaves_of front) + sum_by leaves_of rules)))
    ∙ ap (λ n. (test front first || some_rule test rules (first + leaves_of front)) || test rule n) (omega (arith, sum_by-cons leaves_of front rules))

-- a rule of a list, by its number
module _ (list : RuleList) (number : ℕ) (rule : Rule) (is : slice_get list.rules number ≡ Some rule) where
  pub rule_is : slice_get (rules_of list) number ≡ Some (rule_of list.sets rule)
  rule_is = slice_get-map (rule_of list.sets) list.rules number ∙ ap (option_map (rule_of list.sets)) is

  pub taken : take (number + 1) (rules_of list) ≡ take number (rules_of list) ++ rule_of list.sets rule ∷ []
  taken = take_next (rules_of list) number (rule_of list.sets rule) rule_is

  pub first_next : (sets : List (List Range)) →
      first_position (rules_of list) (number + 1) ≡ first_position (rules_of list) number + leaves_of (rule_of sets rule)
  first_next sets =
      let front = take number (rules_of list) in
      let here = rule_of list.sets rule in
      omega (arith, ap (sum_by leaves_of) taken, sum_by-append leaves_of front (here ∷ []), sum_by-cons leaves_of here [], leaves_alike list.sets sets rule)

  pub first_within : (sets : List (List Range)) → first_position (rules_of list) number + leaves_of (rule_of sets rule) ≤ sum_by leaves_of (rules_of list)
  first_within sets = omega (arith, sum_within (rules_of list) number (rule_of list.sets rule) rule_is, leaves_alike list.sets sets rule)

  -- what some rule up to this one passes
  pub some_next : (test : model.Rule → ℕ → Bool) (start : ℕ) (before after : Bool) → start ≡ first_position (rules_of list) number →
      before ≡ some_rule test (take number (rules_of list)) 0 →
      after ≡ (before || test (rule_of list.sets rule) start) → after ≡ some_rule test (take (number + 1) (rules_of list)) 0
  some_next test start before after at old new =
      new ∙ ap (λ x. x || test (rule_of list.sets rule) start) old
      ∙ ap (λ n. some_rule test (take number (rules_of list)) 0 || test (rule_of list.sets rule) n) (at ∙ omega arith)
      ∙ sym (ap (λ l. some_rule test l 0) taken ∙ some_snoc test (take number (rules_of list)) (rule_of list.sets rule) 0)

-- the owners of the positions of one rule more
pub owners_more : (rules : List model.Rule) (number count : ℕ) (rule : model.Rule) (owners : List ℕ) → slice_get rules number ≡ Some rule →
    count ≡ leaves_of rule → length owners ≡ first_position rules number →
    AreOwners rules owners → AreOwners rules (owners ++ replicate count number)
owners_more rules number count rule owners is many long old = record {
  each = λ position below.
      ⊎_elim
      (λ before.
      let P : ℕ → Type 0 = IsOfRule rules position in
      subst P (sym (get_or_append_left owners (replicate count number) 0 position before)) (old.each position before))
      (λ behind.
      let P : ℕ → Type 0 = IsOfRule rules position in
      let in_new : position - length owners < count =
      omega (arith, below, length-append owners (replicate count number), length-replicate count number, behind) in
      let here : get_or (owners ++ replicate count number) position 0 ≡ number =
      get_or-append_right owners (replicate count number) (length owners) position 0 refl behind
      ∙ get_or-replicate count (position - length owners) number 0 in_new in
      subst P (sym here) (record { rule = rule; is_rule = is; from = omega (arith, long, behind); to = omega (arith, long, in_new, many, behind) }))
      (cases_lt position (length owners));
}
