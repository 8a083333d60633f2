-- What reading the lines of a text answers, and what reading one of them does.
use Rattle.std.specs.Prelude.{◌≡◌, ℕ, ◌⊎◌, List, [], ◌∷◌, ◌++◌, Result, Ok, Err}
use Rattle.rbbi_text.specs.declared.line_values.Line.{Line}
use Rattle.rbbi_text.specs.declared.line_values.Line.TheVariants.{Skipped, Writes, Bad}
use Rattle.rbbi_text.specs.declared.error.LinesErr.{LinesErr}
use Rattle.rbbi_text.specs.declared.error.LinesErr.TheVariants.{NotUtf8, BadLine, Memory}
use Rattle.rbbi_text.specs.LineValues.{AreValues, IsFirstBadLine}

module _ {V : Type 0} (IsLine : List ℕ → ℕ → Line V → Type 0) where
  -- the line is skipped and no value is added, or the one that it writes is
  abbrev pub AddsLine : List ℕ → ℕ → List V → List V → Type 0
  AddsLine line number old new = IsLine line number Skipped × (new ≡ old) ⊎ ((value : V) × IsLine line number (Writes value) × (new ≡ old ++ value ∷ []))

  -- why a line with this number is refused
  abbrev pub RefusesLine : List ℕ → ℕ → LinesErr → Type 0
  RefusesLine line number (NotUtf8 at) = ⊥
  RefusesLine line number (BadLine bad) = IsLine line number Bad × (bad ≡ number)
  RefusesLine line number Memory = Unit {0}

  -- what reading a line with this number answers, and the values after it
  abbrev pub ReadsLine : {T : Type 0} → List ℕ → ℕ → List V → Result T LinesErr → List V → Type 0
  ReadsLine line number old (Ok done) new = AddsLine line number old new
  ReadsLine line number old (Err error) new = RefusesLine line number error

  -- what reading the lines of a text answers
  abbrev pub ReadsTextLines : List (List ℕ) → Result (List V) LinesErr → Type 0
  ReadsTextLines lines (Ok values) = AreValues IsLine lines 0 values
  ReadsTextLines lines (Err (NotUtf8 at)) = ⊥
  ReadsTextLines lines (Err (BadLine number)) = IsFirstBadLine IsLine lines number
  ReadsTextLines lines (Err Memory) = Unit {0}
