-- Which positions of a rule the lists that it spells begin or end with.
use Rattle.std.specs.Prelude.{ℕ, Bool}
use Rattle.rbbi_model.specs.Rules.{Rule}
use Rattle.rbbi_positions.specs.declared.rules.PositionKind.{PositionKind}
use Rattle.rbbi_positions.specs.declared.rules.PositionKind.TheVariants.{First, FrontLast, Last}
use Rattle.rbbi_positions.specs.inner.RuleTests.{rule_begins, front_ends, rule_ends}

-- the position of a rule is of this kind
abbrev pub is_of_kind : PositionKind → ℕ → Rule → ℕ → Bool
is_of_kind First position rule first = rule_begins position rule first
is_of_kind FrontLast position rule first = front_ends position rule first
is_of_kind Last position rule first = rule_ends position rule first
