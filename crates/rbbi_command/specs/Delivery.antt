-- What is written of an outcome: its file first, and then its bytes.
use Rattle.std.specs.Prelude.{◌≡◌, ◌⊎◌, ℕ, List, Option, Some, None, Result}
use Rattle.rbbi_io.specs.declared.error.WriteErr.{WriteErr}
use Rattle.rbbi_io.specs.Counts.{Rose, EachStays, OthersStay}
use Rattle.rbbi_io.specs.Answers.{OthersHold}
use Rattle.rbbi_command.specs.Refusals.{Written}

-- the file holds its bytes, and every other name what it held
abbrev pub HoldsFile : Option Written → (List ℕ → List ℕ) → (List ℕ → List ℕ) → Type 0
HoldsFile None held held' = (name : List ℕ) → held' name ≡ held name
HoldsFile (Some file) held held' = (held' file.name ≡ file.bytes) × OthersHold file.name held held'

-- the write of the file failed
abbrev pub FileFailed : Option Written → (List ℕ → ℕ) → (List ℕ → ℕ) → Type 0
FileFailed None writes writes' = ⊥
FileFailed (Some file) writes writes' = Rose (writes file.name) (writes' file.name)

-- no count of failed writes changed but that of the file
abbrev pub OthersUncounted : Option Written → (List ℕ → ℕ) → (List ℕ → ℕ) → Type 0
OthersUncounted None writes writes' = EachStays writes writes'
OthersUncounted (Some file) writes writes' = OthersStay file.name writes writes'

-- the name is that of the file, which holds its bytes, or its count of failed writes rose
pub record IsOutputFile (file : Option Written) (held' : List ℕ → List ℕ) (writes writes' : List ℕ → ℕ) (name : List ℕ) : Type 0 where
  pub bytes : List ℕ
  pub is : file ≡ Some (record { name = name; bytes = bytes })
  pub holds : (held' name ≡ bytes) ⊎ Rose (writes name) (writes' name)

-- each name holds what it held, or is that of the file
abbrev pub EachHoldsOrIsOutputFile : Option Written → (List ℕ → ℕ) → (List ℕ → ℕ) → (List ℕ → List ℕ) → (List ℕ → List ℕ) → Type 0
EachHoldsOrIsOutputFile file writes writes' held held' = (name : List ℕ) → (held' name ≡ held name) ⊎ IsOutputFile file held' writes writes' name

-- The file is written by one call, where `gives` says what a write answers and leaves; without a file there is no call.
abbrev pub MakesWrite : {S : Type 0} → (S → List ℕ → List ℕ → Result (Unit {0}) WriteErr → S → Type 0) → Option Written → S → S → Type 0
MakesWrite gives None before now = now ≡ before
MakesWrite gives (Some file) before now = (result : Result (Unit {0}) WriteErr) × gives before file.name file.bytes result now
