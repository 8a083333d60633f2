-- A look-ahead rule is told by its number among them.
use Rattle.std.proofs.Common.{◌≡◌, ℕ, zero, suc, ◌<◌, List, [], ◌∷◌, Some, None, length, take, sym, ap, subst, ⊎_elim, arith}
use Rattle.std.specs.Prelude.{is_some, unwrap_or}
use Rattle.std.proofs.lemmas.Bool.{cases_Bool, cases_order, cond-true, cond-false}
use Rattle.rbbi_model.specs.Rules.{Rule, LooksAhead, look_aheads}
use Rattle.rbbi_model.specs.Chains.{IsRule}
use Rattle.rbbi_model.specs.Marks.{look_ahead_number}

no_rule : (rule : Rule) → None ≡ Some rule → ⊥
no_rule rule is = grind arith

-- a look-ahead rule counts among those before a later one
pub counts : (rules : List Rule) (number later : ℕ) (rule : Rule) → IsRule rules number rule → LooksAhead rule → number < later →
    look_ahead_number rules number < look_ahead_number rules later
counts [] number later rule is looks less = absurd (no_rule rule is)
counts (r ∷ rs) number zero rule is looks less = absurd (omega (arith, less))
counts (r ∷ rs) zero (suc later) rule is looks less =
    let same : r ≡ rule = ap (λ o. unwrap_or o r) is in
    subst (λ l. 0 < length l) (sym (cond-true (is_some r.rest) (r ∷ look_aheads (take later rs)) (look_aheads (take later rs))
    (subst (λ a. LooksAhead a) (sym same) looks))) (omega arith)
counts (r ∷ rs) (suc number) (suc later) rule is looks less =
    let rest = counts rs number later rule is looks (omega (arith, less)) in
    ⊎_elim
    (λ holds.
    let first = cond-true (is_some r.rest) (r ∷ look_aheads (take number rs)) (look_aheads (take number rs)) holds in
    let second = cond-true (is_some r.rest) (r ∷ look_aheads (take later rs)) (look_aheads (take later rs)) holds in
    omega (arith, ap length first, ap length second, rest))
    (λ fails.
    let first = cond-false (is_some r.rest) (r ∷ look_aheads (take number rs)) (look_aheads (take number rs)) fails in
    let second = cond-false (is_some r.rest) (r ∷ look_aheads (take later rs)) (look_aheads (take later rs)) fails in
    omega (arith, ap length first, ap length second, rest))
    (cases_Bool (is_some r.rest))

pub same_number : (rules : List Rule) (number other : ℕ) (rule : Rule) (another : Rule) → IsRule rules number rule → LooksAhead rule →
    IsRule rules other another → LooksAhead another → look_ahead_number rules number ≡ look_ahead_number rules other → number ≡ other
same_number rules number other rule another is looks is' looks' same =
    ⊎_elim (λ e. e)
    (⊎_elim (λ less. absurd (omega (arith, counts rules number other rule is looks less)))
    (λ more. absurd (omega (arith, counts rules other number another is' looks' more))))
    (cases_order number other)
