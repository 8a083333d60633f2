-- The canonical table: of all that have the same marks after every word, the one that is written.
use Rattle.std.specs.Prelude.{◌≡◌, ◌≢◌, ℕ, ◌+◌, ◌^◌, ◌<◌, ◌≤◌, ◌⊎◌, ◌↔◌, List, [], length, slice_index}
use Rattle.rbbi_model.specs.Words.{IsCodePoint, IsSurrogate, IsWord, IsText}
use Rattle.rbbi_model.specs.Tables.{Table, accept_of, fronts_of, step, row_after, category_of}
use Rattle.rbbi_model.specs.ValidTables.{IsValidTable}
use Rattle.rbbi_model.specs.Marks.{marks_of}
use Rattle.rbbi_model.specs.Compiled.{IsLeast}

-- every row leads to the same row after both code points
abbrev pub LeadAlike : Table → ℕ → ℕ → Type 0
LeadAlike table c d =
    (row : ℕ) → row < length table.rows → step table row (category_of table.ranges c) ≡ step table row (category_of table.ranges d)

-- the accept numbers and the masks allow so many look-ahead rules
abbrev pub AllowsSlashes : Table → ℕ → Type 0
AllowsSlashes table k = (row : ℕ) → row < length table.rows → (accept_of table row ≤ k + 1) × (fronts_of table row < 2 ^ k)

-- Rows from 2 on are numbered as they are first met in the cells from row 1 on: before each meeting of the later of two stands
-- one of the earlier.
abbrev pub AreNumberedAsMet : Table → Type 0
AreNumberedAsMet table =
    (row later place : ℕ) → 2 ≤ row → row < later → table.categories ≤ place → place < length table.cells → slice_index table.cells place ≡ later →
    (earlier : ℕ) × (table.categories ≤ earlier) × (earlier < place) × (slice_index table.cells earlier ≡ row)

-- The canonical table of a table. Categories other than that of the surrogates, which is 0, are numbered by their least code
-- point.
pub record IsCanonical (table canonical : Table) : Type 0 where
  pub valid : IsValidTable canonical
  pub same : (w : List ℕ) → IsWord w → marks_of canonical (row_after canonical w) ≡ marks_of table (row_after table w)
  pub least : IsLeast canonical
  pub categories : (c d : ℕ) → IsCodePoint c → IsCodePoint d → (category_of canonical.ranges c ≡ category_of canonical.ranges d) ↔ LeadAlike canonical c d
  pub surrogates : (c : ℕ) → IsSurrogate c → category_of canonical.ranges c ≡ 0
  pub used : (category : ℕ) → category < canonical.categories → (c : ℕ) × IsCodePoint c × (category_of canonical.ranges c ≡ category)
  pub numbered : (category later d : ℕ) → 1 ≤ category → category < later → IsCodePoint d → category_of canonical.ranges d ≡ later →
      (c : ℕ) × (c < d) × (category_of canonical.ranges c ≡ category)
  pub rows : AreNumberedAsMet canonical
  pub slashes : AllowsSlashes canonical canonical.slashes
  pub few_slashes : (k : ℕ) → AllowsSlashes canonical k → canonical.slashes ≤ k
  pub two_rows : length canonical.rows ≡ 2 → (canonical.categories ≡ 1) × (step canonical 1 0 ≡ 0)

-- What is asked of a table of which a canonical one is made: it is least, each category holds a code point, all surrogates are in
-- category 0, and every row leads to row 0 after category 0, or the table has two rows.
pub record HasCanonical (table : Table) : Type 0 where
  pub least : IsLeast table
  pub used : (category : ℕ) → category < table.categories → (c : ℕ) × IsCodePoint c × (category_of table.ranges c ≡ category)
  pub surrogates : (c : ℕ) → IsSurrogate c → category_of table.ranges c ≡ 0
  pub stops : ((row : ℕ) → row < length table.rows → step table row 0 ≡ 0) ⊎ (length table.rows ≡ 2)

-- after every text that isn't empty both tables have the same marks
abbrev pub AreMarkedAlike : Table → Table → Type 0
AreMarkedAlike these those =
    (w : List ℕ) → IsText w → w ≢ [] → marks_of these (row_after these w) ≡ marks_of those (row_after those w)
