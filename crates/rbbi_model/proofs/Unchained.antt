-- Where no rule may be chained into, a rule ends where one of its words ends.
use Rattle.std.proofs.Common.{◌≡◌, ℕ, false, List, sym, ◌∙◌}
use Rattle.std.proofs.lemmas.Bool.{false≢true}
use Rattle.rbbi_model.specs.Rules.{Rule, IsWordOf}
use Rattle.rbbi_model.specs.Chains.{EndsAt, Word, Chained, IsRule, IsPiece}

-- no rule may be chained into
abbrev pub NoneChainedInto : List Rule → Type 0
NoneChainedInto rules = (number : ℕ) (rule : Rule) → IsRule rules number rule → rule.chained_into ≡ false

-- the characters from s to e are a word of the rule with this number
pub record EndsAtWord (rules : List Rule) (x : List ℕ) (s e number : ℕ) : Type 0 where
  pub rule : Rule
  pub is_rule : IsRule rules number rule
  pub piece : IsPiece x s e (IsWordOf rule)

pub unchained : (rules : List Rule) (x : List ℕ) (s e number : ℕ) → NoneChainedInto rules → EndsAt rules x s e number → EndsAtWord rules x s e number
unchained rules x s _ _ none (Word e number rule is_rule piece) = record { rule = rule; is_rule = is_rule; piece = piece }
unchained rules x s _ _ none (Chained m before e number rule ends is_rule chained_into piece) =
    absurd (false≢true (sym (none number rule is_rule) ∙ chained_into))
