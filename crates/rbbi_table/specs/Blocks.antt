-- The categories of all code points in blocks of 256, and the look-up in two steps.
use Rattle.std.specs.Prelude.{◌≡◌, ℕ, ◌+◌, ◌*◌, ◌/◌, ◌%◌, ◌<◌, ◌≤◌, List, length, slice_index}
use Rattle.rbbi_model.specs.Tables.{CategoryRange, category_of}

-- what is found in two steps: the number of the block of 256, then the place in the block
abbrev pub in_block : List ℕ → List ℕ → ℕ → ℕ
in_block numbers kept c = slice_index kept (slice_index numbers (c / 256) * 256 + c % 256)

-- the first so many blocks are kept whole, and two steps give the category of each of their code points
pub record AreFirstBlocks (ranges : List CategoryRange) (numbers kept : List ℕ) (count : ℕ) : Type 0 where
  pub all : length numbers ≡ count
  pub whole : (block : ℕ) → block < count → slice_index numbers block * 256 + 256 ≤ length kept
  pub same : (c : ℕ) → c < count * 256 → in_block numbers kept c ≡ category_of ranges c

-- all 4,352 blocks of code points
abbrev pub AreBlocks : List CategoryRange → List ℕ → List ℕ → Type 0
AreBlocks ranges numbers kept = AreFirstBlocks ranges numbers kept 4352
