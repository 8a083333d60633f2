-- The names and places of the refusals.
use Rattle.std.specs.Prelude.{ℕ, List, Option, Some, None, codes}
use Rattle.rbbi_table.specs.Errors.{label_of as part_label}
use Rattle.rbbi_file.specs.declared.error.FileErr.{FileErr}
use Rattle.rbbi_file.specs.declared.error.FileErr.TheVariants.{BadMagic, Short, Trailing, Part, Memory}

-- the name of the variant, and for a part that isn't valid the name of the part's refusal
abbrev pub label_of : FileErr → List ℕ
label_of BadMagic = codes "BadMagic"
label_of (Short at) = codes "Short"
label_of (Trailing at) = codes "Trailing"
label_of (Part error) = part_label error
label_of Memory = codes "Memory"

-- the byte that the variant carries
abbrev pub place_of : FileErr → Option ℕ
place_of BadMagic = None
place_of (Short at) = Some at
place_of (Trailing at) = Some at
place_of (Part error) = None
place_of Memory = None
