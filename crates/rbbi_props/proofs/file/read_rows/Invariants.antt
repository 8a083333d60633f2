use Rattle.std.proofs.Common.{◌≡◌, length}
use Rattle.std.specs.Str.Lines.{lines}
use Rattle.rbbi_props.proofs.Reading.{IsReading}
use Rattle.rbbi_props.proofs.file.read_rows.Given as goal

abbrev pub invariant-loop-line : goal.invariant-loop-line
invariant-loop-line l = (l.number ≡ length l.yielded) × IsReading (lines l.text) l.rows.items l.number
