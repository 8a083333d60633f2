-- The names and places of refusals.
use Rattle.std.specs.Prelude.{ℕ, List, Option, Some, None, codes}
use Rattle.rbbi_text.specs.declared.error.TextErr.{TextErr}
use Rattle.rbbi_text.specs.declared.error.TextErr.TheVariants as text
use Rattle.rbbi_text.specs.declared.error.RawErr.{RawErr}
use Rattle.rbbi_text.specs.declared.error.RawErr.TheVariants as raw
use Rattle.rbbi_text.specs.declared.error.EditErr.{EditErr}
use Rattle.rbbi_text.specs.declared.error.EditErr.TheVariants as edit
use Rattle.rbbi_text.specs.declared.error.LinesErr.{LinesErr}
use Rattle.rbbi_text.specs.declared.error.LinesErr.TheVariants as file

-- the name of the variant
abbrev pub text_err_label : TextErr → List ℕ
text_err_label text.TooManyChars = codes "TooManyChars"
text_err_label text.Memory = codes "Memory"

-- the name of the variant
abbrev pub raw_err_label : RawErr → List ℕ
raw_err_label (raw.NotUtf8 at) = codes "NotUtf8"
raw_err_label raw.TooManyChars = codes "TooManyChars"
raw_err_label raw.Memory = codes "Memory"

-- the byte that the variant carries
abbrev pub raw_err_place : RawErr → Option ℕ
raw_err_place (raw.NotUtf8 at) = Some at
raw_err_place raw.TooManyChars = None
raw_err_place raw.Memory = None

-- the name of the variant
abbrev pub edit_err_label : EditErr → List ℕ
edit_err_label edit.Outside = codes "Outside"
edit_err_label edit.TooLong = codes "TooLong"
edit_err_label edit.Memory = codes "Memory"

-- the name of the variant
abbrev pub lines_err_label : LinesErr → List ℕ
lines_err_label (file.NotUtf8 at) = codes "NotUtf8"
lines_err_label (file.BadLine line) = codes "BadLine"
lines_err_label file.Memory = codes "Memory"

-- the byte or the line that the variant carries
abbrev pub lines_err_place : LinesErr → Option ℕ
lines_err_place (file.NotUtf8 at) = Some at
lines_err_place (file.BadLine line) = Some line
lines_err_place file.Memory = None
