-- What holds of table files, and of the answers of reading one.
use Rattle.std.specs.Prelude.{◌≡◌, ◌≢◌, ℕ, List, Result, Err}
use Rattle.rbbi_model.specs.Tables.{Table}
use Rattle.rbbi_model.specs.ValidTables.{IsValidTable}
use Rattle.rbbi_model.specs.TableFile.{IsSpelling}
use Rattle.rbbi_file.specs.declared.error.FileErr.{FileErr}
use Rattle.rbbi_file.specs.declared.error.FileErr.TheVariants.{Memory}
use Rattle.rbbi_file.specs.Answers.{ReadsTable}

-- bytes have one answer, but for running out of memory
abbrev pub HaveOneAnswer : Type 0
HaveOneAnswer =
    (bytes : List ℕ) (one other : Result Table FileErr) → ReadsTable bytes one → ReadsTable bytes other
    → one ≢ Err Memory → other ≢ Err Memory → one ≡ other

-- a list of bytes is a spelling of one valid table at most
abbrev pub SpellOneTable : Type 0
SpellOneTable =
    (bytes : List ℕ) (these those : Table) → IsValidTable these → IsValidTable those → IsSpelling bytes these → IsSpelling bytes those → these ≡ those
