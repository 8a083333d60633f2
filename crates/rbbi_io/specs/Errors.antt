-- The names of refusals.
use Rattle.std.specs.Prelude.{ℕ, List, codes}
use Rattle.rbbi_io.specs.declared.error.ReadErr.{ReadErr}
use Rattle.rbbi_io.specs.declared.error.ReadErr.TheVariants as read
use Rattle.rbbi_io.specs.declared.error.WriteErr.{WriteErr}
use Rattle.rbbi_io.specs.declared.error.WriteErr.TheVariants as write

-- the name of the variant
abbrev pub read_err_label : ReadErr → List ℕ
read_err_label read.Failed = codes "Failed"
read_err_label read.TooLong = codes "TooLong"
read_err_label read.Memory = codes "Memory"

-- the name of the variant
abbrev pub write_err_label : WriteErr → List ℕ
write_err_label write.Failed = codes "Failed"
write_err_label write.Memory = codes "Memory"
