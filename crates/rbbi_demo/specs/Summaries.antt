-- The result of the demonstration of a number.
use Rattle.std.specs.Prelude.{◌≡◌, ℕ, zero, suc, ◌+◌, ◌/◌, List, length}
use Rattle.rbbi_model.specs.Boundaries.{Boundary}
use Rattle.rbbi_model.specs.Tables.{Table}
use Rattle.rbbi_model.specs.Searches.{table_boundaries}
use Rattle.rbbi_demo.specs.declared.summary.Summary.{Summary}
use Rattle.rbbi_demo.specs.Edits.{text_after, place_after, places_sum}

-- these are the boundaries of the text by the table
abbrev pub AreTableBoundaries : Table → List ℕ → List Boundary → Type 0
AreTableBoundaries table x boundaries = boundaries ≡ table_boundaries table x

-- how many edits are made: one for each hundred characters
abbrev pub edit_count : ℕ → ℕ
edit_count count = count / 100

-- A summary depends on a relation that says what the boundaries of a text are.
module _ (AreBoundariesOf : List ℕ → List Boundary → Type 0) where
  -- this is the sum of the places answered after so many edits
  abbrev pub IsSum : ℕ → ℕ → ℕ → Type 0
  IsSum count zero sum = sum ≡ 0
  IsSum count (suc edits) sum =
      (before : ℕ) × IsSum count edits before × (boundaries : List Boundary) × AreBoundariesOf (text_after count (suc edits)) boundaries ×
      (sum ≡ before + places_sum boundaries (place_after count edits))

  -- the length and the number of boundaries of the last text, the number of edits, and the sum of the places answered
  pub record IsSummary (count : ℕ) (summary : Summary) : Type 0 where
    pub boundaries : List Boundary
    pub are : AreBoundariesOf (text_after count (edit_count count)) boundaries
    pub chars_is : summary.chars ≡ length (text_after count (edit_count count))
    pub edits_is : summary.edits ≡ edit_count count
    pub boundaries_is : summary.boundaries ≡ length boundaries
    pub sum_is : IsSum count (edit_count count) summary.sum
