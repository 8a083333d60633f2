use Rattle.std.proofs.Common.{chars}
use Rattle.std.specs.List.{All}
use Rattle.rbbi_lint.specs.Effects.{ChangesNothing}
use Rattle.rbbi_lint.proofs.findings.idle_of.Given as goal

abbrev pub invariant-loop-piece : goal.invariant-loop-piece
invariant-loop-piece l = All (ChangesNothing l.props l.ignored (chars l.text) l.table) l.idle.items
