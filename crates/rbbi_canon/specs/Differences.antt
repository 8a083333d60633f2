-- What distinguishes two tables.
use Rattle.std.specs.Prelude.{◌≢◌, ℕ, List, []}
use Rattle.rbbi_model.specs.Words.{IsText}
use Rattle.rbbi_model.specs.Tables.{Table, row_after}
use Rattle.rbbi_model.specs.Marks.{marks_of}

-- a text that isn't empty, after which the tables have different marks
pub record TellsApart (these those : Table) (w : List ℕ) : Type 0 where
  pub is_text : IsText w
  pub some : w ≢ []
  pub differ : marks_of these (row_after these w) ≢ marks_of those (row_after those w)
