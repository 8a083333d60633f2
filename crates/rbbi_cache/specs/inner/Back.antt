-- What is read before a place at once.
use Rattle.std.specs.Prelude.{◌≡◌, ℕ, ◌+◌, ◌-◌, ◌<◌, ◌≤◌, ◌⊎◌, List, [], length, slice_index, true, false}
use Rattle.rbbi_model.specs.Tables.{Table}
use Rattle.rbbi_model.specs.Runs.{Entry, Run, category_at, IsAnchor, is_anchor}
use Rattle.rbbi_model.specs.Costs.{anchor_below}
use Rattle.rbbi_table.specs.Reading.{AreRead}
use Rattle.rbbi_cache.specs.inner.Scans.{ContinuesScan}

-- Two anchors before the place, of which the second isn't past the first. Where the characters from the first one on were read, so were those
-- from the second on, up to one before the place, and these are their categories.
pub record AreBack (table : Table) (x : List ℕ) (i near wide from : ℕ) (categories : List ℕ) : Type 0 where
  pub near_is : IsAnchor table x near
  pub wide_is : IsAnchor table x wide
  pub order : wide ≤ near
  pub far : (near ≡ 0) ⊎ (near + 3 ≤ i)
  pub read : from ≤ near → AreRead table x from categories × (from ≤ wide)
  pub end : from ≤ near → from + length categories ≡ i - 1

-- Reading back from an end came to the greatest anchor two characters before it or more, or 0, within 64 characters.
pub record IsNear (table : Table) (x : List ℕ) (end near : ℕ) : Type 0 where
  pub greatest : anchor_below table x (end - 1) ≡ near
  pub anchor : IsAnchor table x near
  pub far : (near ≡ 0) ⊎ (near + 2 ≤ end)
  pub few : end ≤ near + 64

-- No anchor two characters before an end or more lies within 64 characters of it, and the text begins before them.
pub record HasNoneFrom (table : Table) (x : List ℕ) (end : ℕ) : Type 0 where
  pub more : 64 < end
  pub none : (p : ℕ) → end - 64 ≤ p → p < end - 1 → is_anchor table x p ≡ false

-- the 64 slots end with the categories of the characters from a place up to an end
pub record EndWith (table : Table) (x : List ℕ) (from end : ℕ) (slots : List ℕ) : Type 0 where
  pub each : (p : ℕ) → from ≤ p → p < end → slice_index slots (p + 64 - end) ≡ category_at table x p
  pub within : (p : ℕ) → from ≤ p → p < end → slice_index slots (p + 64 - end) < table.categories

-- From the anchor a run was filled up to past the place, whatever was read for it.
pub record IsFilledPast (table : Table) (x : List ℕ) (p i : ℕ) (run : Run) : Type 0 where
  pub here : Entry
  pub now : ℕ
  pub gone_on : ContinuesScan table x p i (record { at = p; status = 0; reach = 0 }) (record { anchor = p; entries = []; leads = true }) here run 0 now
  pub past : i < here.at
