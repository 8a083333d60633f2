use Rattle.std.proofs.Common.{◌≡◌, ◌++◌, ◌*◌, drop}
use Rattle.rbbi_model.specs.TableFile.{row_bytes}
use Rattle.rbbi_file.proofs.write.put_rows.Given as goal

-- what is there and what is left make the rows
abbrev pub invariant-loop-row : goal.invariant-loop-row
invariant-loop-row l =
    l.out.items ++ row_bytes l.size l.width (drop l.row l.rows) (drop (l.row * l.width) l.cells)
    ≡ l.initial.out.items ++ row_bytes l.size l.width l.rows l.cells
