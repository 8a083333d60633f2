-- The verdicts at all places of a text.
use Rattle.std.specs.Prelude.{ℕ, List, [], ◌∷◌}
use Rattle.rbbi_annexes.specs.declared.lines.rules.Verdict.{Verdict}
use Rattle.rbbi_annexes.specs.LineBreaks.{line_verdict}

-- the verdicts at the places from one on, up to the end of the text
unfoldable pub verdicts_from : List ℕ → List ℕ → List Verdict
verdicts_from before [] = line_verdict before [] ∷ []
verdicts_from before (c ∷ after) = line_verdict before (c ∷ after) ∷ verdicts_from (c ∷ before) after

abbrev pub line_verdicts : List ℕ → List Verdict
line_verdicts text = verdicts_from [] text
