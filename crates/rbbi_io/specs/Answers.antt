-- What reads and writes of files answer, by cases on the answer.
use Rattle.std.specs.Prelude.{◌≡◌, ◌≢◌, ◌<◌, ◌≤◌, ◌⊎◌, ℕ, List, length, Option, None, IfSome, IsSomeAnd, Result, Ok, Err}
use Rattle.std.specs.declared.io.Error.{Error}
use Rattle.std.specs.declared.io.ErrorKind.TheVariants.{OutOfMemory}
use Rattle.std.specs.IoError.{error_kind}
use Rattle.rbbi_io.specs.Counts.{one_more, CallCounts}
use Rattle.rbbi_io.specs.declared.error.ReadErr.{ReadErr}
use Rattle.rbbi_io.specs.declared.error.ReadErr.TheVariants as read
use Rattle.rbbi_io.specs.declared.error.WriteErr.{WriteErr}
use Rattle.rbbi_io.specs.declared.error.WriteErr.TheVariants as write

-- what a read of a name answers that holds these bytes
abbrev pub AnswersRead : List ℕ → ℕ → Result (List ℕ) ReadErr → Type 0
AnswersRead held limit (Ok bytes) = (bytes ≡ held) × (length held ≤ limit)
AnswersRead held limit (Err read.Failed) = Unit {0}
AnswersRead held limit (Err read.TooLong) = limit < length held
AnswersRead held limit (Err read.Memory) = Unit {0}

-- all names hold what they held, but perhaps this one
abbrev pub OthersHold : List ℕ → (List ℕ → List ℕ) → (List ℕ → List ℕ) → Type 0
OthersHold name before now = (other : List ℕ) → other ≢ name → now other ≡ before other

-- what a write of these bytes answers, and what the names hold after it
abbrev pub LeavesWritten : {T : Type 0} → List ℕ → List ℕ → Result T WriteErr → (List ℕ → List ℕ) → (List ℕ → List ℕ) → Type 0
LeavesWritten name bytes (Ok _) before now = (now name ≡ bytes) × OthersHold name before now
LeavesWritten name bytes (Err write.Failed) before now = OthersHold name before now
LeavesWritten name bytes (Err write.Memory) before now = (other : List ℕ) → now other ≡ before other

-- P of what the names held and hold, where the files told it; files that told it still do
abbrev pub WhereTold : Option (List ℕ → List ℕ) → Option (List ℕ → List ℕ) → ((List ℕ → List ℕ) → (List ℕ → List ℕ) → Type 0) → Type 0
WhereTold before now P = IfSome before (λ held. IsSomeAnd now (P held))

-- a read that the system refuses for this fault is refused so: as lack of memory where it is that, and else as a failure
abbrev pub IsToldAs : Error → ReadErr → Type 0
IsToldAs fault read.Failed = error_kind fault ≢ OutOfMemory
IsToldAs fault read.TooLong = ⊥
IsToldAs fault read.Memory = error_kind fault ≡ OutOfMemory

-- which fault is kept after a read: the one that it was refused for, or, where there was none, that of before
abbrev pub KeepsFault : Option Error → Result (List ℕ) ReadErr → Option Error → Type 0
KeepsFault before (Ok _) now = now ≡ before
KeepsFault before (Err read.Failed) now = IsSomeAnd now (λ fault. IsToldAs fault read.Failed)
KeepsFault before (Err read.TooLong) now = now ≡ before
KeepsFault before (Err read.Memory) now = (now ≡ before) ⊎ IsSomeAnd now (λ fault. IsToldAs fault read.Memory)

-- how many reads failed after one with this answer
abbrev pub reads_after : ℕ → Result (List ℕ) ReadErr → ℕ
reads_after reads (Ok _) = reads
reads_after reads (Err read.Failed) = one_more reads
reads_after reads (Err read.TooLong) = reads
reads_after reads (Err read.Memory) = reads

-- what one try of a read of the system's files leaves: it is one call, and the fault of a refusal is kept
abbrev pub TriesRead : CallCounts → Result (List ℕ) ReadErr → CallCounts → Type 0
TriesRead old result new = (fault : Option Error) × KeepsFault None result fault × (new ≡ record old { calls = one_more old.calls; fault = fault })

-- what a read of the system's files leaves: it is one try, and one that failed is counted
abbrev pub CountsRead : CallCounts → Result (List ℕ) ReadErr → CallCounts → Type 0
CountsRead old result new = TriesRead (record old { reads = reads_after old.reads result }) result new

-- what a write of the system's files leaves: it is one call, and one that is done is counted, and one that failed
abbrev pub CountsWrite : {T : Type 0} → CallCounts → Result T WriteErr → CallCounts → Type 0
CountsWrite old (Ok _) new = new ≡ record old { calls = one_more old.calls; written = one_more old.written }
CountsWrite old (Err write.Failed) new = new ≡ record old { calls = one_more old.calls; writes = one_more old.writes }
CountsWrite old (Err write.Memory) new = new ≡ record old { calls = one_more old.calls }
