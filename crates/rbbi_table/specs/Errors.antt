-- The names of the refusals.
use Rattle.std.specs.Prelude.{ℕ, List, codes}
use Rattle.rbbi_table.specs.declared.error.TableErr.{TableErr}
use Rattle.rbbi_table.specs.declared.error.TableErr.TheVariants.{BadRanges, BadLists, BadRows, BadFronts, BadSafe, Memory}

-- the name of the variant
abbrev pub label_of : TableErr → List ℕ
label_of BadRanges = codes "BadRanges"
label_of BadLists = codes "BadLists"
label_of BadRows = codes "BadRows"
label_of BadFronts = codes "BadFronts"
label_of BadSafe = codes "BadSafe"
label_of Memory = codes "Memory"
