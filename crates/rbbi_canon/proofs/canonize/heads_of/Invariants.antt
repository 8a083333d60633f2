use Rattle.std.proofs.Common.{◌≡◌, map, take}
use Rattle.rbbi_model.specs.Tables.{head_of}
use Rattle.rbbi_canon.proofs.canonize.heads_of.Given as goal

-- the heads so far
abbrev pub invariant-loop-row : goal.invariant-loop-row
invariant-loop-row l = l.heads.items ≡ map (head_of l.table) (take l.row-index l.order)
