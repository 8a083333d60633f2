-- What files of tables say about rules.
use Rattle.std.specs.Prelude.{◌≡◌, ◌↔◌, List}
use Rattle.rbbi_model.specs.Rules.{Rule, AreLawful}
use Rattle.rbbi_model.specs.Tables.{Table}
use Rattle.rbbi_model.specs.Compiled.{IsCompiled}
use Rattle.rbbi_model.specs.Canonical.{IsCanonical}
use Rattle.rbbi_model.specs.TableFile.{spelling}
use Rattle.rbbi_tool.specs.Command.Same.{HaveSameMarks}

-- The files of the canonical tables of tables that are compiled from lawful rules are the same exactly where the rules have the same marks
-- after every text that isn't empty.
abbrev pub FilesTellMarks : Type 0
FilesTellMarks =
    (rules others : List Rule) (these those canonical other : Table) → AreLawful rules → AreLawful others → IsCompiled these rules → IsCompiled those others
    → IsCanonical these canonical → IsCanonical those other → (spelling canonical ≡ spelling other) ↔ HaveSameMarks rules others
