-- Which calls a run of the program makes on its files. `reads` says what a read answers and leaves, and `writes` what a write does.
use Rattle.std.specs.Prelude.{◌≡◌, ◌≢◌, ◌≤◌, ◌⊎◌, ℕ, List, length, Option, Some, slice_get, IfSome, Result, Err}
use Rattle.rbbi_io.specs.Sinks.{Takes}
use Rattle.rbbi_io.specs.declared.error.ReadErr.{ReadErr}
use Rattle.rbbi_io.specs.declared.error.WriteErr.{WriteErr}
use Rattle.rbbi_command.specs.declared.files.Source.{Source}
use Rattle.rbbi_command.specs.Delivery.{MakesWrite}
use Rattle.rbbi_command.specs.Files.{limit_of}
use Rattle.rbbi_command.specs.Reads.{AreReads, refused_read}
use Rattle.rbbi_command.specs.Refusals.{Written, status_of, line_of}
use Rattle.rbbi_tool.specs.Causes.{NamesToWrite}

-- A file that the arguments name was written by one call, or none was.
pub record MayWrite {S : Type 0} (writes : S → List ℕ → List ℕ → Result (Unit {0}) WriteErr → S → Type 0) (words : List (List ℕ)) (before now : S) : Type 0 where
  pub file : Option Written
  pub named : IfSome file (λ f. NamesToWrite words f.name)
  pub call : MakesWrite writes file before now

-- The next file's read was refused, and that is the answer, but where its line isn't put or memory runs out.
pub record AnswersRefusedRead {S : Type 0} (reads : S → List ℕ → ℕ → Result (List ℕ) ReadErr → S → Type 0) (sources : List Source) (made : ℕ)
    (before now : S) (status : ℕ) (taken taken' : Option (List ℕ)) : Type 0 where
  pub source : Source
  pub is : slice_get sources made ≡ Some source
  pub error : ReadErr
  pub refused : reads before source.name (limit_of source.role) (Err error) now
  pub status_is : (status ≡ status_of (refused_read source error)) ⊎ ((status ≡ 7) ⊎ (status ≡ 8))
  pub told : status ≤ 6 → Takes taken taken' (line_of (refused_read source error))

-- Some of the files were read in order, by reads of which none was refused. Then memory ran out, or the next read was refused and was the
-- last call; or these are all files, no failed read is reported, and one file was written at most.
pub record CallsInOrder {S : Type 0} (reads : S → List ℕ → ℕ → Result (List ℕ) ReadErr → S → Type 0)
    (writes : S → List ℕ → List ℕ → Result (Unit {0}) WriteErr → S → Type 0) (words : List (List ℕ)) (sources : List Source) (before now : S)
    (status : ℕ) (taken taken' : Option (List ℕ)) : Type 0 where
  pub made : ℕ
  pub between : S
  pub are_reads : AreReads reads sources before made between
  pub ends : ((now ≡ between) × (status ≡ 8))
      ⊎ (AnswersRefusedRead reads sources made between now status taken taken'
      ⊎ ((made ≡ length sources) × (status ≢ 6) × MayWrite writes words between now))
