-- Positions of rules lie among those of all leaves.
use Rattle.std.proofs.Common.{◌≡◌, ℕ, zero, suc, ◌+◌, ◌<◌, List, [], ◌∷◌, ◌++◌, length, sym, ap, subst, append_assoc, arith}
use Rattle.std.specs.Prelude.{sum_by}
use Rattle.std.proofs.lemmas.List.{take_all}
use Rattle.rbbi_model.specs.Rules.{Rule, leaves_of}
use Rattle.rbbi_model.specs.Chains.{IsRule}
use Rattle.rbbi_model.specs.LeafSets.{first_position}
use Rattle.rbbi_positions.specs.FollowPositions.{IsSpelled, Follows, IsOfRule}
use Rattle.rbbi_positions.proofs.WalkLaws.{of_the_rule}
use Rattle.rbbi_positions.proofs.RuleSpans.{first_of_later}

pub rule_within : (rules : List Rule) (number : ℕ) (rule : Rule) → IsRule rules number rule → number < length rules
rule_within [] number rule is = absurd (cc)
rule_within (r ∷ rules) zero rule is = omega arith
rule_within (r ∷ rules) (suc number) rule is = omega (arith, rule_within rules number rule is)

pub leaf_within : (rules : List Rule) (position number : ℕ) → IsOfRule rules position number → position < sum_by leaves_of rules
leaf_within rules position number own =
    let all : first_position rules (length rules) ≡ sum_by leaves_of rules = ap (λ l. sum_by leaves_of l) (take_all (length rules) rules (omega arith)) in
    omega (arith, own.to, first_of_later rules number (length rules) own.rule own.is_rule (rule_within rules number own.rule own.is_rule), all)

-- a position that follows another
pub follower_own : (rules : List Rule) (number position next : ℕ) (before after : List ℕ) → IsSpelled rules number (before ++ position ∷ next ∷ after) →
    IsOfRule rules next number
follower_own rules number position next before after spelled =
    of_the_rule rules number next (before ++ position ∷ []) after
    (subst (λ l. IsSpelled rules number l) (sym (append_assoc before (position ∷ []) (next ∷ after))) spelled)

pub follower_within : (rules : List Rule) (position next : ℕ) → Follows rules position next → next < sum_by leaves_of rules
follower_within rules position next follows =
    leaf_within rules next follows.number (follower_own rules follows.number position next follows.before follows.after follows.spelled)
