-- Lines of a tailoring file as they are read before pairs are compared.
use Rattle.std.specs.Prelude.{◌≡◌, ℕ, true, false, List, Result, Ok, Err}
use Rattle.rbbi_text.specs.LineParts.{is_skipped}
use Rattle.rbbi_text.specs.declared.line_values.Line.{Line}
use Rattle.rbbi_text.specs.declared.line_values.Line.TheVariants.{Skipped, Writes, Bad}
use Rattle.rbbi_text.specs.LineValues.{AreValues}
use Rattle.rbbi_text.specs.declared.error.LinesErr.{LinesErr}
use Rattle.rbbi_text.specs.declared.error.LinesErr.TheVariants.{NotUtf8, BadLine, Memory}
use Rattle.rbbi_filter.specs.declared.pair.Pair.{Pair}
use Rattle.rbbi_filter.specs.declared.tailoring.PairLine.{PairLine}
use Rattle.rbbi_filter.specs.PairFiles.{pair_of, IsPairLine, AreDistinct, IsFirstBadPair}

-- a line that isn't skipped is what it writes, with its number; none is bad yet
abbrev pub IsAnyLine : List ℕ → ℕ → Line PairLine → Type 0
IsAnyLine line number Skipped = is_skipped line ≡ true
IsAnyLine line number (Writes value) = (is_skipped line ≡ false) × (value.number ≡ number) × (value.pair ≡ pair_of line)
IsAnyLine line number Bad = ⊥

-- what the pairs of the lines are
abbrev pub PairsOf : List (List ℕ) → Result (List Pair) LinesErr → Type 0
PairsOf lines (Ok pairs) = AreValues IsPairLine lines 0 pairs × AreDistinct pairs
PairsOf lines (Err (NotUtf8 at)) = ⊥
PairsOf lines (Err (BadLine number)) = IsFirstBadPair lines number
PairsOf lines (Err Memory) = Unit {0}
