use Rattle.std.proofs.Common.{◌≡◌, length, take}
use Rattle.std.specs.Str.Lines.{lines}
use Rattle.rbbi_text.specs.LineValues.{AreValues}
use Rattle.rbbi_text.proofs.line_values.text_values.Given as goal

abbrev pub invariant-loop-line : goal.invariant-loop-line
invariant-loop-line g l = (l.number ≡ length l.yielded) × AreValues g.V.LineValue.IsLine (take l.number (lines l.text)) 0 l.values
