-- What making a table of parts answers, by cases on the answer.
use Rattle.std.specs.Prelude.{◌≡◌, Result, Ok, Err}
use Rattle.rbbi_model.specs.Tables.{Table}
use Rattle.rbbi_model.specs.ValidTables.{AreValidRanges, AreValidLists, AreValidRows, AreFronted, AreValidSafePairs, IsValidTable}
use Rattle.rbbi_table.specs.declared.error.TableErr.{TableErr}
use Rattle.rbbi_table.specs.declared.error.TableErr.TheVariants.{BadRanges, BadLists, BadRows, BadFronts, BadSafe, Memory}

-- The first part that isn't valid is the one that the refusal names. `Memory` doesn't depend on the parts.
abbrev pub IsRefused : Table → TableErr → Type 0
IsRefused parts BadRanges = ¬ AreValidRanges parts.categories parts.ranges
IsRefused parts BadLists = AreValidRanges parts.categories parts.ranges × ¬ AreValidLists parts.lists
IsRefused parts BadRows = AreValidRanges parts.categories parts.ranges × AreValidLists parts.lists × ¬ AreValidRows parts
IsRefused parts BadFronts =
    AreValidRanges parts.categories parts.ranges × AreValidLists parts.lists × AreValidRows parts × ¬ AreFronted parts
IsRefused parts BadSafe =
    AreValidRanges parts.categories parts.ranges × AreValidLists parts.lists × AreValidRows parts × AreFronted parts × ¬ AreValidSafePairs parts
IsRefused parts Memory = Unit {0}

-- the table of the parts if all are valid, and otherwise a refusal
abbrev pub MakesTable : Table → Result Table TableErr → Type 0
MakesTable parts (Ok table) = (table ≡ parts) × IsValidTable parts
MakesTable parts (Err error) = IsRefused parts error
