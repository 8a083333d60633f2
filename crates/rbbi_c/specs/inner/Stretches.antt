-- Stretches of a text, and the greatest statuses of a table's lists, as they are kept while boundaries are listed.
use Rattle.std.specs.Prelude.{◌≡◌, ℕ, ◌+◌, ◌-◌, ◌<◌, ◌≤◌, List, length, slice_index, IsTrue}
use Rattle.rbbi_model.specs.declared.unit.Unit.{Unit as TextUnit}
use Rattle.rbbi_model.specs.Places.{largest}
use Rattle.rbbi_model.specs.Tables.{Table, statuses_of}
use Rattle.rbbi_model.specs.Units.{offset_of}
use Rattle.rbbi_text.specs.Excerpts.{IsExcerptOf}
use Rattle.rbbi_c.specs.declared.stretch.Block.{Block}
use Rattle.rbbi_c.specs.declared.stretch.Stretch.{Stretch}

-- where the characters of the block take one of the unit each, they take as much as there are
pub record IsMeasured (unit : TextUnit) (x : List ℕ) (block : Block) : Type 0 where
  pub order : block.from ≤ block.to
  pub within : block.to ≤ length x
  pub even : IsTrue block.even → offset_of unit x block.from + (block.to - block.from) ≡ offset_of unit x block.to

-- the text has these characters, some of which are measured
pub record IsStretch (unit : TextUnit) (x : List ℕ) (stretch : Stretch) : Type 0 where
  pub excerpt_of : IsExcerptOf x stretch.excerpt
  pub measured : IsMeasured unit stretch.excerpt.items stretch.block

-- the greatest status of each of the first lists
abbrev pub AreGreatest : Table → List ℕ → Type 0
AreGreatest table statuses = (k : ℕ) → k < 16 → k < length table.lists → slice_index statuses k ≡ largest (statuses_of table k)
