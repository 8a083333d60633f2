-- The positions of a rule lie in a span, and those of different rules apart.
use Rattle.std.proofs.Common.{◌≡◌, ℕ, zero, suc, ◌+◌, ◌≤◌, ◌<◌, Option, None, Some, List, [], ◌∷◌, ◌++◌, take, sym, ap, subst, inl, inr, arith}
use Rattle.std.specs.List.{AllByRecursion}
use Rattle.std.specs.Option.{option_map_or}
use Rattle.std.proofs.lemmas.List.Sums.{sum_by-cons}
use Rattle.std.proofs.lemmas.Bool.{cases_order}
use Rattle.rbbi_model.specs.Spelling.{Tree}
use Rattle.rbbi_model.specs.Rules.{Rule, leaf_count, leaves_of}
use Rattle.rbbi_model.specs.Chains.{IsRule}
use Rattle.rbbi_model.specs.LeafSets.{SpellsPositions, RuleSpellsPositions, first_position}
use Rattle.rbbi_model.proofs.Lists.{all_append, all_right, all_through}
use Rattle.rbbi_positions.proofs.Spans.{InSpan, sooner_span, later_span, in_span}
use Rattle.rbbi_positions.proofs.Exchanges.{Spelled}

-- the positions of a later rule come after those of an earlier
pub first_of_later : (rules : List Rule) (this that : ℕ) (rule : Rule) → IsRule rules this rule → this < that →
    first_position rules this + leaves_of rule ≤ first_position rules that
first_of_later [] this that rule is before = absurd (cc)
first_of_later (rule' ∷ rules) this zero rule is before = absurd (omega arith)
first_of_later (rule' ∷ rules) zero (suc that) rule is before =
    let same : rule' ≡ rule = cc in
    omega (arith, ap leaves_of same, sum_by-cons leaves_of rule' (take that rules))
first_of_later (rule' ∷ rules) (suc this) (suc that) rule is before =
    omega (
      arith,
      first_of_later rules this that rule is (omega arith),
      sum_by-cons leaves_of rule' (take this rules),
      sum_by-cons leaves_of rule'
          (take that rules),
    )

-- a position is of one rule alone
pub one_rule : (rules : List Rule) (this that x : ℕ) (rule rule' : Rule) → IsRule rules this rule → IsRule rules that rule' →
    InSpan (first_position rules this) (leaves_of rule) x → InSpan (first_position rules that) (leaves_of rule') x → this ≡ that
one_rule rules this that x rule rule' is is' h g =
    elim (cases_order this that) [
      | inl same ↦ same
      | inr apart ↦ elim apart [
        | inl before ↦ absurd (omega (arith, first_of_later rules this that rule is before, h.from, h.to, g.from, g.to))
        | inr behind ↦ absurd (omega (arith, first_of_later rules that this rule' is' behind, h.from, h.to, g.from, g.to))
      ]
    ]

spelled_in_span : (front : Tree) (rest : Option Tree) (first : ℕ) (positions : List ℕ) → Spelled front rest first positions →
    AllByRecursion (InSpan first (leaf_count front + option_map_or leaf_count rest 0)) positions
spelled_in_span front None first positions h =
    all_through (InSpan first (leaf_count front)) (InSpan first (leaf_count front + 0)) (sooner_span first (leaf_count front) 0) positions
    (in_span front first positions h)
spelled_in_span front (Some rest) first positions (u, v, left, right, e) =
    let Within : ℕ → Type 0 = InSpan first (leaf_count front + leaf_count rest) in
    subst (AllByRecursion Within) (sym e) (all_append Within u v
    (all_through (InSpan first (leaf_count front)) Within (sooner_span first (leaf_count front) (leaf_count rest)) u (in_span front first u left))
    (all_through (InSpan (first + leaf_count front) (leaf_count rest)) Within (later_span first (leaf_count front) (leaf_count rest)) v
    (in_span rest (first + leaf_count front) v right)))

pub rule_in_span : (rule : Rule) (first : ℕ) (positions : List ℕ) → RuleSpellsPositions rule first positions →
    AllByRecursion (InSpan first (leaves_of rule)) positions
rule_in_span rule first positions h = spelled_in_span rule.front rule.rest first positions h

pub rule_middle : (rule : Rule) (first : ℕ) (before after : List ℕ) (x : ℕ) → RuleSpellsPositions rule first (before ++ x ∷ after) →
    InSpan first (leaves_of rule) x
rule_middle rule first before after x h = (all_right (InSpan first (leaves_of rule)) before (x ∷ after) (rule_in_span rule first (before ++ x ∷ after) h)).0

pub front_middle : (rule : Rule) (first : ℕ) (before after : List ℕ) (x : ℕ) → SpellsPositions rule.front first (before ++ x ∷ after) →
    InSpan first (leaves_of rule) x
front_middle rule first before after x h =
    sooner_span first (leaf_count rule.front) (option_map_or leaf_count rule.rest 0) x
    (all_right (InSpan first (leaf_count rule.front)) before (x ∷ after) (in_span rule.front first (before ++ x ∷ after) h)).0
