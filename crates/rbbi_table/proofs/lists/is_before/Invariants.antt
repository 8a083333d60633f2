use Rattle.std.proofs.Common.{◌↔◌, drop}
use Rattle.rbbi_model.specs.ValidTables.{IsBefore}
use Rattle.rbbi_table.proofs.lists.is_before.Given as goal

abbrev pub invariant-loop-i : goal.invariant-loop-i
invariant-loop-i l = IsBefore l.these l.those ↔ IsBefore (drop l.i l.these) (drop l.i l.those)
