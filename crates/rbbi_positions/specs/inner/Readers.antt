-- The rows of the positions that read each category.
use Rattle.std.specs.Prelude.{◌≡◌, ℕ, ◌*◌, ◌<◌, ◌≤◌, List, length, slice_index, IsTrue, ◌↔◌}
use Rattle.rbbi_model.specs.Words.{IsCodePoint}
use Rattle.rbbi_model.specs.Ranges.{Range, Has}
use Rattle.rbbi_model.specs.Tables.{CategoryRange, category_of}
use Rattle.rbbi_resolve.specs.RuleTrees.{set_at}
use Rattle.rbbi_positions.specs.inner.Rows.{in_row}

-- each category but 0 has a code point
abbrev pub HasEachCategory : ℕ → List CategoryRange → Type 0
HasEachCategory categories ranges = (category : ℕ) → 1 ≤ category → category < categories → (c : ℕ) × IsCodePoint c × (category_of ranges c ≡ category)

-- the positions in a category's row are those whose sets hold its code point, and category 0 has none
pub record AreReaders (sets : List (List Range)) (numbers codes : List ℕ) (words : ℕ) (rows : List ℕ) : Type 0 where
  pub each : (category position : ℕ) → category < length codes → position < 64 * words →
      IsTrue (in_row words rows category position) ↔ ((1 ≤ category) × (position < length numbers) × Has (set_at sets (slice_index numbers position))
      (slice_index codes category))
