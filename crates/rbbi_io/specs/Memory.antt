-- Files and sinks in memory.
use Rattle.std.specs.Prelude.{◌≡◌, ◌<◌, ◌≤◌, ◌⊎◌, ◌++◌, ℕ, List, [], ◌∷◌, length, Option, Some, None, Result, Ok, Err, bytes_eq}
use Rattle.std.specs.Prelude.{if◌then◌else◌, unwrap_or, count_by, Contains, min, take}
use Rattle.rbbi_io.specs.Counts.{capped, one_more}
use Rattle.rbbi_io.specs.declared.error.ReadErr.{ReadErr}
use Rattle.rbbi_io.specs.declared.error.ReadErr.TheVariants as read
use Rattle.rbbi_io.specs.declared.error.WriteErr.{WriteErr}
use Rattle.rbbi_io.specs.declared.error.WriteErr.TheVariants as write

-- files in memory: each name with its bytes, how many calls there were, which are to fail, and the names of the reads and the writes that
-- failed
pub record FilesInMemory : Type 0 where
  pub files : List (List ℕ × List ℕ)
  pub calls : ℕ
  pub failing : List ℕ
  pub failed_reads : List (List ℕ)
  pub failed_writes : List (List ℕ)

-- a sink in memory: the bytes it took, how many calls there were, which are to fail, how many failed, and how many bytes a put takes at most
pub record SinkInMemory : Type 0 where
  pub bytes : List ℕ
  pub calls : ℕ
  pub failing : List ℕ
  pub faults : ℕ
  pub most : ℕ

-- files in memory that never fail: each name with its bytes, and how many calls there were
pub record CalmFilesInMemory : Type 0 where
  pub files : List (List ℕ × List ℕ)
  pub calls : ℕ

-- a sink in memory that never fails: the bytes it took, and how many calls there were
pub record CalmSinkInMemory : Type 0 where
  pub bytes : List ℕ
  pub calls : ℕ

-- the bytes of the first file of this name
abbrev pub file_of : List (List ℕ × List ℕ) → List ℕ → Option (List ℕ)
file_of [] name = None
file_of (file ∷ files) name = if bytes_eq file.0 name then Some file.1 else file_of files name

-- the files with these bytes under this name: in the place of the first file of this name, or else at the end
abbrev pub with_file : List (List ℕ × List ℕ) → List ℕ → List ℕ → List (List ℕ × List ℕ)
with_file [] name bytes = (name, bytes) ∷ []
with_file (file ∷ files) name bytes = if bytes_eq file.0 name then (file.0, bytes) ∷ files else file ∷ with_file files name bytes

-- what each name holds; a name that isn't there holds nothing
abbrev pub held_by : List (List ℕ × List ℕ) → List ℕ → List ℕ
held_by files name = unwrap_or (file_of files name) []

-- how many of the failed calls were of this name, as far as the count goes
abbrev pub count_of : List (List ℕ) → List ℕ → ℕ
count_of failed name = capped (count_by (λ other. bytes_eq other name) failed)

-- how many reads of each name failed
abbrev pub reads_failed : FilesInMemory → List ℕ → ℕ
reads_failed memory name = count_of memory.failed_reads name

-- how many writes of each name failed
abbrev pub writes_failed : FilesInMemory → List ℕ → ℕ
writes_failed memory name = count_of memory.failed_writes name

-- the next call is one of those that are to fail
abbrev pub IsToFail : List ℕ → ℕ → Type 0
IsToFail failing calls = Contains failing (one_more calls)

-- after a call that changed no file and didn't fail
abbrev pub called : FilesInMemory → FilesInMemory
called memory = record memory { calls = one_more memory.calls }

-- after a read that failed
abbrev pub failed_read : FilesInMemory → List ℕ → FilesInMemory
failed_read memory name = record memory { calls = one_more memory.calls; failed_reads = memory.failed_reads ++ name ∷ [] }

-- after a write that failed
abbrev pub failed_write : FilesInMemory → List ℕ → FilesInMemory
failed_write memory name = record memory { calls = one_more memory.calls; failed_writes = memory.failed_writes ++ name ∷ [] }

-- after a call that wrote these bytes
abbrev pub written_call : FilesInMemory → List ℕ → List ℕ → FilesInMemory
written_call memory name bytes = record memory { calls = one_more memory.calls; files = with_file memory.files name bytes }

-- what a read of files in memory answers and leaves
abbrev pub ReadsMemory : FilesInMemory → List ℕ → ℕ → Result (List ℕ) ReadErr → FilesInMemory → Type 0
ReadsMemory old name limit (Ok bytes) new =
    ¬ IsToFail old.failing old.calls × (file_of old.files name ≡ Some bytes) × (length bytes ≤ limit) × (new ≡ called old)
ReadsMemory old name limit (Err read.Failed) new =
    (IsToFail old.failing old.calls ⊎ (file_of old.files name ≡ None)) × (new ≡ failed_read old name)
ReadsMemory old name limit (Err read.TooLong) new =
    ¬ IsToFail old.failing old.calls × ((bytes : List ℕ) × (file_of old.files name ≡ Some bytes) × (limit < length bytes)) × (new ≡ called old)
ReadsMemory old name limit (Err read.Memory) new = new ≡ called old

-- what a write to files in memory answers and leaves
abbrev pub WritesMemory : {T : Type 0} → FilesInMemory → List ℕ → List ℕ → Result T WriteErr → FilesInMemory → Type 0
WritesMemory old name bytes (Ok _) new = ¬ IsToFail old.failing old.calls × (new ≡ written_call old name bytes)
WritesMemory old name bytes (Err write.Failed) new = IsToFail old.failing old.calls × (new ≡ failed_write old name)
WritesMemory old name bytes (Err write.Memory) new = new ≡ called old

-- what a put into a sink in memory answers and leaves
abbrev pub PutsMemory : SinkInMemory → List ℕ → Result ℕ WriteErr → SinkInMemory → Type 0
PutsMemory old piece (Ok n) new =
    ¬ IsToFail old.failing old.calls × (n ≡ min (length piece) old.most) × (new ≡ record old { bytes = old.bytes ++ take n piece; calls = one_more old.calls })
PutsMemory old piece (Err write.Failed) new =
    IsToFail old.failing old.calls × (new ≡ record old { calls = one_more old.calls; faults = one_more old.faults })
PutsMemory old piece (Err write.Memory) new = new ≡ record old { calls = one_more old.calls }
