-- A tally: what contracts see of one, and what its calls answer, leave and read.
use Rattle.std.specs.Prelude.{◌≡◌, ℕ, List, Result, Ok, Err}
use Rattle.rbbi_model.specs.Boundaries.{Boundary}
use Rattle.rbbi_model.specs.Tables.{Table}
use Rattle.rbbi_model.specs.Searches.{table_boundaries}
use Rattle.rbbi_text.specs.Answers.{Replaces}
use Rattle.rbbi_text.specs.Steps.{RisesUpTo}
use Rattle.rbbi_text.specs.declared.error.EditErr.{EditErr}
use Rattle.rbbi_tally.specs.Costs.{tally_edit_cost}

-- the table, and the text of the moment
pub record Tally : Type 0 where
  pub table : Table
  pub text : List ℕ

-- the boundaries of the tally's text by its table
abbrev pub boundaries_of : Tally → List Boundary
boundaries_of tally = table_boundaries tally.table tally.text

-- what an edit answers and leaves; after a refusal all is as before
abbrev pub EditAnswers : {T : Type 0} → Tally → ℕ → ℕ → List ℕ → Result T EditErr → Tally → Type 0
EditAnswers old at removed inserted result new = (new.table ≡ old.table) × Replaces old.text at removed inserted result new.text

-- what an edit reads; a refused one reads nothing
abbrev pub EditReads : {T : Type 0} → Tally → ℕ → ℕ → List ℕ → Result T EditErr → ℕ → ℕ → Type 0
EditReads old at removed inserted (Ok done) before after = RisesUpTo (tally_edit_cost old.table old.text at removed inserted) before after
EditReads old at removed inserted (Err error) before after = after ≡ before
