-- What writing the file of an outcome leaves.
use Rattle.std.specs.Prelude.{◌≡◌, ℕ, List, Option, Some, None, Result}
use Rattle.rbbi_io.specs.declared.error.WriteErr.{WriteErr}
use Rattle.rbbi_io.specs.Answers.{LeavesWritten}
use Rattle.rbbi_command.specs.Refusals.{Written}

-- what writing the file answers, and what the names hold after it
abbrev pub LeavesFile : {T : Type 0} → Option Written → Result T WriteErr → (List ℕ → List ℕ) → (List ℕ → List ℕ) → Type 0
LeavesFile None result held held' = (name : List ℕ) → held' name ≡ held name
LeavesFile (Some file) result held held' = LeavesWritten file.name file.bytes result held held'
