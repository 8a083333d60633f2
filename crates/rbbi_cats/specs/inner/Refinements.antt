-- Partition refinement over the classes of a division by rows of bits.
use Rattle.std.specs.Prelude.{◌≡◌, ◌≢◌, ℕ, ◌+◌, ◌*◌, ◌<◌, ◌≤◌, ◌⊎◌, ◌↔◌, Bool, List, length, slice_index, slice_set, if◌then◌else◌}
use Rattle.rbbi_classes.specs.Classes.{ClassBits, HasClass}

-- Each class has a category below the count. Every category but 0 is some class's, and before a class of a later category stands one of an
-- earlier.
pub record AreNumbered (categories : List ℕ) (count : ℕ) : Type 0 where
  pub some : 1 ≤ count
  pub within : (k : ℕ) → k < length categories → slice_index categories k < count
  pub used : (category : ℕ) → 1 ≤ category → category < count → (k : ℕ) × (k < length categories) × (slice_index categories k ≡ category)
  pub earlier : (k category : ℕ) → k < length categories → 1 ≤ category → category < slice_index categories k →
      (j : ℕ) × (j < k) × (slice_index categories j ≡ category)

-- Two classes have one category exactly where they had one before and the row has both or neither. A class has a category other than 0
-- exactly where it had one before or the row has it.
pub record Refines (row : ClassBits) (before after : List ℕ) : Type 0 where
  pub many : length after ≡ length before
  pub alike : (j k : ℕ) → j < length before → k < length before →
      (slice_index after j ≡ slice_index after k) ↔ ((slice_index before j ≡ slice_index before k) × (HasClass row j ↔ HasClass row k))
  pub some : (k : ℕ) → k < length before → (slice_index after k ≢ 0) ↔ ((slice_index before k ≢ 0) ⊎ HasClass row k)

-- a number and a bit in one
abbrev pub paired : ℕ → Bool → ℕ
paired n bit = 2 * n + (if bit then 1 else 0)

-- the pair is 0 or has its number already, or it gets the next one
abbrev pub IsNext : List ℕ → ℕ → ℕ → List ℕ → ℕ → Type 0
IsNext before greatest pair after last =
    (((pair ≡ 0) ⊎ (slice_index before pair ≢ 0)) × (after ≡ before) × (last ≡ greatest))
    ⊎ ((pair ≢ 0) × (slice_index before pair ≡ 0) × (after ≡ slice_set before pair (greatest + 1)) × (last ≡ greatest + 1))
