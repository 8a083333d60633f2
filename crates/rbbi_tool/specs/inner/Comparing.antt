-- What is reported of two tables by their marks.
use Rattle.std.specs.Prelude.{◌≡◌, ◌⊎◌, ℕ, List, codes}
use Rattle.rbbi_model.specs.Lines.{line}
use Rattle.rbbi_model.specs.Tables.{Table}
use Rattle.rbbi_model.specs.Canonical.{AreMarkedAlike}
use Rattle.rbbi_canon.specs.Differences.{TellsApart}
use Rattle.rbbi_command.specs.Refusals.{Outcome, printed}
use Rattle.rbbi_tool.specs.Command.Same.{told_difference}

-- the tables have the same marks after every text, and this is reported; or a text is, after which they have different ones
abbrev pub AreCompared : Table → Table → Outcome → Type 0
AreCompared these those outcome =
    (AreMarkedAlike these those × (outcome ≡ printed (line (codes "same")))) ⊎ ((w : List ℕ) × TellsApart these those w × (outcome ≡ told_difference w))
