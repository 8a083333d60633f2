-- Why a property file is refused.
use Rattle.std.specs.Prelude.{◌≡◌, ℕ, ◌+◌, Option, Some, None, List, IsUtf8, codes}
use Rattle.std.specs.List.{position}
use Rattle.rbbi_text.specs.Bytes.{IsNotUtf8At, file_lines}
use Rattle.rbbi_props.specs.declared.error.PropErr.{PropErr}
use Rattle.rbbi_props.specs.declared.error.PropErr.TheVariants.{NotUtf8, BadRow, Memory}
use Rattle.rbbi_props.specs.RowLines.{is_bad}

-- each line of the file is skipped or a row
abbrev pub HasRowsAlone : List ℕ → Type 0
HasRowsAlone bytes = position is_bad (file_lines bytes) ≡ None

-- the line is the first bad one, counted from 1
abbrev pub IsBadRow : List (List ℕ) → ℕ → Type 0
IsBadRow lines line = (k : ℕ) × (position is_bad lines ≡ Some k) × (line ≡ k + 1)

-- why a file is refused: its bytes aren't UTF-8 from this one on; or else this is its first bad line; or memory ran out
abbrev pub IsCause : PropErr → List ℕ → Type 0
IsCause (NotUtf8 at) bytes = IsNotUtf8At bytes at
IsCause (BadRow line) bytes = IsUtf8 bytes × IsBadRow (file_lines bytes) line
IsCause Memory bytes = Unit {0}

-- the variant's name
abbrev pub label_of : PropErr → List ℕ
label_of (NotUtf8 at) = codes "NotUtf8"
label_of (BadRow line) = codes "BadRow"
label_of Memory = codes "Memory"

-- the byte or the line that it carries
abbrev pub place_of : PropErr → Option ℕ
place_of (NotUtf8 at) = Some at
place_of (BadRow line) = Some line
place_of Memory = None
