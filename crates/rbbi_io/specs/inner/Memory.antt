-- Which of the files in memory is the first of a name.
use Rattle.std.specs.Prelude.{◌≡◌, ◌≢◌, ◌<◌, ℕ, List, [], length, slice_index_or}

-- the number of the first file of this name
pub record IsIndexOf (files : List (List ℕ × List ℕ)) (name : List ℕ) (place : ℕ) : Type 0 where
  pub within : place < length files
  pub named : (slice_index_or files place ([], [])).0 ≡ name
  pub first : (k : ℕ) → k < place → (slice_index_or files k ([], [])).0 ≢ name

-- no file has this name
abbrev pub IsAbsent : List (List ℕ × List ℕ) → List ℕ → Type 0
IsAbsent files name = (k : ℕ) → k < length files → (slice_index_or files k ([], [])).0 ≢ name
