-- What one read answers to the calls around it.
use Rattle.std.specs.Prelude.{◌≡◌, ◌≤◌, ℕ, List, length, Option, IfSome, Result, Ok, Err}
use Rattle.rbbi_io.specs.Counts.{Rose, EachStays}
use Rattle.rbbi_io.specs.declared.error.ReadErr.{ReadErr}
use Rattle.rbbi_command.specs.declared.files.Source.{Source}
use Rattle.rbbi_command.specs.declared.refusal.Refusal.{Refusal}
use Rattle.rbbi_command.specs.declared.refusal.Refusal.TheVariants.{Usage, Unread, Fault, Memory}
use Rattle.rbbi_command.specs.Files.{limit_of, length_stage}
use Rattle.rbbi_command.specs.Reads.{IsRefusedRead}

-- the bytes are those of the file, within its limit
abbrev pub IsReadOf : Source → Option (List ℕ → List ℕ) → List ℕ → Type 0
IsReadOf source contents bytes =
    (length bytes ≤ limit_of source.role) × IfSome contents (λ held. (bytes ≡ held source.name) × (length_stage held source).passes tt)

-- why there are no bytes of a file: its read failed, or it is too long and no read failed
abbrev pub EndsRead : Source → Option (List ℕ → List ℕ) → (List ℕ → ℕ) → (List ℕ → ℕ) → Refusal → Type 0
EndsRead source contents before now Usage = ⊥
EndsRead source contents before now (Unread name) = (name ≡ source.name) × Rose (before source.name) (now source.name)
EndsRead source contents before now (Fault subject label place) =
    IfSome contents (λ held. (length_stage held source).refuses (Fault subject label place)) × EachStays before now
EndsRead source contents before now Memory = Unit {0}

-- the file was read once
abbrev pub ReadsOnce : {S : Type 0} → (S → List ℕ → ℕ → Result (List ℕ) ReadErr → S → Type 0) → Source → S → Result (List ℕ) Refusal → S → Type 0
ReadsOnce gives source before (Ok bytes) now = gives before source.name (limit_of source.role) (Ok bytes) now
ReadsOnce gives source before (Err refusal) now = IsRefusedRead gives source before refusal now
