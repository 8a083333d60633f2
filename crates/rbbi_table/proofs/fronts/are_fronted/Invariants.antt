use Rattle.std.proofs.Common.{ℕ, ◌<◌}
use Rattle.rbbi_table.specs.Parts.{table_of}
use Rattle.rbbi_table.specs.inner.Fronts.{IsFronted}
use Rattle.rbbi_table.proofs.fronts.are_fronted.Given as goal

abbrev pub invariant-loop-slash : goal.invariant-loop-slash
invariant-loop-slash l = (slash : ℕ) → slash < l.slash → IsFronted (table_of l.parts) slash
