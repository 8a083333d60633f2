-- Where the parts of a table file end, as its counts and the lengths of its lists say.
use Rattle.std.specs.Prelude.{◌≡◌, ℕ, zero, suc, ◌+◌, ◌*◌, ◌/◌, ◌⊎◌, List, take, slice_index}
use Rattle.rbbi_model.specs.TableFile.{magic, cell_size}

-- the number in the two bytes at a place, the one of least value first; a byte past the end counts as 0
abbrev pub u16_at : List ℕ → ℕ → ℕ
u16_at bytes at = slice_index bytes at + 256 * slice_index bytes (at + 1)

-- the number in the four bytes at a place
abbrev pub u32_at : List ℕ → ℕ → ℕ
u32_at bytes at = u16_at bytes at + 65536 * u16_at bytes (at + 2)

-- the file begins with the eight bytes of a table file, of the one version or the other
abbrev pub HasMagic : List ℕ → Type 0
HasMagic bytes = (take 8 bytes ≡ magic 1) ⊎ (take 8 bytes ≡ magic 2)

-- the version that they name
abbrev pub version_in : List ℕ → ℕ
version_in bytes = slice_index bytes 7

-- how many bytes the file has for a next row
abbrev pub cell_size_in : List ℕ → ℕ
cell_size_in bytes = cell_size (version_in bytes) (u16_at bytes 16)

-- where so many status lists end that begin at a place: each has its length in two bytes, and four bytes a number
abbrev pub lists_end : List ℕ → ℕ → ℕ → ℕ
lists_end bytes zero at = at
lists_end bytes (suc count) at = lists_end bytes count (at + 2 + 4 * u16_at bytes at)

-- how many bytes rows of so many categories take: eight for a row, and those of a next row for each category
abbrev pub rows_size : ℕ → ℕ → ℕ → ℕ
rows_size size rows categories = rows * (8 + size * categories)

-- how many bytes the bits of all pairs of so many categories take
abbrev pub pairs_size : ℕ → ℕ
pairs_size categories = (categories * categories + 7) / 8

-- where all parts end: after the magic and the five counts come ranges of six bytes, the status lists, the rows and the safe pairs
abbrev pub parts_end : List ℕ → ℕ
parts_end bytes =
    lists_end bytes (u16_at bytes 14) (20 + 6 * u32_at bytes 10) + rows_size (cell_size_in bytes) (u16_at bytes 16) (u16_at bytes 8)
    + pairs_size (u16_at bytes 8)
