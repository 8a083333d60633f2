-- What is checked of a row alone.
use Rattle.std.specs.Prelude.{◌≡◌, ℕ, ◌+◌, ◌^◌, ◌<◌, ◌≤◌, ◌⊎◌, List, EachIndex, slice_index}
use Rattle.rbbi_model.specs.Tables.{RowHead}

-- Its numbers are within their bounds. If no rule ends, the list is list 0, and if a look-ahead rule is completed, the mask is 0.
pub record IsValidHead (slashes lists : ℕ) (head : RowHead) : Type 0 where
  pub accept : head.accept ≤ slashes + 1
  pub fronts : head.fronts < 2 ^ slashes
  pub list : head.list < lists
  pub unended : head.accept ≡ 0 → head.list ≡ 0
  pub completed : 2 ≤ head.accept → head.fronts ≡ 0

-- The head is valid, the next rows are rows, and if a search ends at the row, they are row 0.
pub record IsValidEntry (slashes lists rows row : ℕ) (head : RowHead) (steps : List ℕ) : Type 0 where
  pub head_is : IsValidHead slashes lists head
  pub below : EachIndex steps (λ k. slice_index steps k < rows)
  pub stops : (row ≡ 0) ⊎ (2 ≤ head.accept) → EachIndex steps (λ k. slice_index steps k ≡ 0)
