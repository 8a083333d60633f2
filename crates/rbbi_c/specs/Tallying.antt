-- A tally whose places count a unit: what contracts see of one, and what an edit of it answers and leaves.
use Rattle.std.specs.Prelude.{◌≡◌, ℕ, List, length, Option, None, Some, Result, Ok, Err}
use Rattle.rbbi_model.specs.declared.unit.Unit.{Unit as TextUnit}
use Rattle.rbbi_model.specs.Boundaries.{Boundary}
use Rattle.rbbi_model.specs.Tables.{Table}
use Rattle.rbbi_model.specs.Searches.{table_boundaries}
use Rattle.rbbi_model.specs.Answers as reply
use Rattle.rbbi_model.specs.Scripts.{Refused, Accepted}
use Rattle.rbbi_model.specs.Units.{offset_of}
use Rattle.rbbi_model.specs.UnitAnswers.{edit_in}
use Rattle.rbbi_session.specs.declared.unit_error.UnitEditErr.{UnitEditErr}
use Rattle.rbbi_session.specs.declared.unit_error.UnitEditErr.TheVariants.{Outside, Inside, TooLong, Memory}
use Rattle.rbbi_tally.specs.Counts.{count, segment_count}

-- the unit of places, the table, and the text of the moment
pub record UnitTally : Type 0 where
  pub unit : TextUnit
  pub table : Table
  pub text : List ℕ

-- the boundaries of its text by its table
abbrev pub boundaries_of : UnitTally → List Boundary
boundaries_of tally = table_boundaries tally.table tally.text

-- how many segments there are, or how many have a status as their largest one
abbrev pub counted_in : Option ℕ → List Boundary → ℕ
counted_in None boundaries = segment_count boundaries
counted_in (Some status) boundaries = count boundaries status

-- an edit was accepted, and the tally is one of the new text
pub record IsTallyEdited (old : UnitTally) (at removed : ℕ) (inserted : List ℕ) (new : UnitTally) : Type 0 where
  pub unit_is : new.unit ≡ old.unit
  pub table_is : new.table ≡ old.table
  pub accepted : edit_in old.unit old.text at removed inserted ≡ Accepted new.text (offset_of old.unit new.text (length new.text))

-- what an edit answers and leaves; after a refusal, also for memory, all is as before
abbrev pub EditsTally : {T : Type 0} → UnitTally → ℕ → ℕ → List ℕ → Result T UnitEditErr → UnitTally → Type 0
EditsTally old at removed inserted (Ok done) new = IsTallyEdited old at removed inserted new
EditsTally old at removed inserted (Err Outside) new = (edit_in old.unit old.text at removed inserted ≡ Refused reply.Outside) × (new ≡ old)
EditsTally old at removed inserted (Err Inside) new = (edit_in old.unit old.text at removed inserted ≡ Refused reply.Inside) × (new ≡ old)
EditsTally old at removed inserted (Err TooLong) new = (edit_in old.unit old.text at removed inserted ≡ Refused reply.TooLong) × (new ≡ old)
EditsTally old at removed inserted (Err Memory) new = new ≡ old
