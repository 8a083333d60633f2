-- Table files: the spellings of a table as bytes, one a version.
use Rattle.std.specs.Prelude.{◌≡◌, ℕ, zero, suc, ◌/◌, ◌%◌, ◌≤◌, ◌⊎◌, ◌&&◌, List, [], ◌∷◌, ◌++◌, length, take, drop, flat_map, codes}
use Rattle.std.specs.Prelude.{if◌then◌else◌, ◌==◌, nat_le}
use Rattle.rbbi_model.specs.Tables.{Table, CategoryRange, RowHead}

-- the number in so many bytes, the one of least value first
abbrev pub little_endian : ℕ → ℕ → List ℕ
little_endian zero n = []
little_endian (suc width) n = n % 256 ∷ little_endian width (n / 256)

-- the number in two bytes
abbrev pub u16 : ℕ → List ℕ
u16 n = little_endian 2 n

-- the number in four bytes
abbrev pub u32 : ℕ → List ℕ
u32 n = little_endian 4 n

-- the first eight bytes: a name and the version
abbrev pub magic : ℕ → List ℕ
magic version = codes "RBBITBL" ++ version ∷ []

-- how many bytes a next row takes: in version 1 two, in version 2 one where there are at most 255 rows, and two where there are more
abbrev pub cell_size : ℕ → ℕ → ℕ
cell_size version rows = if (version == 2) && nat_le rows 255 then 1 else 2

-- how many categories, ranges, status lists, rows and look-ahead rules there are
abbrev pub counts : Table → List ℕ
counts table =
    u16 table.categories ++ u32 (length table.ranges) ++ u16 (length table.lists) ++ u16 (length table.rows) ++ u16 table.slashes

-- a range: its start in four bytes and its category in two
abbrev pub range_bytes : CategoryRange → List ℕ
range_bytes range = u32 range.start ++ u16 range.category

-- a status list: its length in two bytes, then each status in four
abbrev pub list_bytes : List ℕ → List ℕ
list_bytes statuses = u16 (length statuses) ++ flat_map u32 statuses

-- a row's head: its accept number in two bytes, its front mask in four, and its status list in two
abbrev pub head_bytes : RowHead → List ℕ
head_bytes head = u16 head.accept ++ u32 head.fronts ++ u16 head.list

-- each row's head, followed by its next rows, one for each category in so many bytes
abbrev pub row_bytes : ℕ → ℕ → List RowHead → List ℕ → List ℕ
row_bytes size categories [] cells = []
row_bytes size categories (head ∷ rows) cells =
    head_bytes head ++ flat_map (little_endian size) (take categories cells) ++ row_bytes size categories rows (drop categories cells)

-- the bytes of a table file of the version: the parts in order
abbrev pub file_bytes : ℕ → Table → List ℕ
file_bytes version table =
    magic version ++ counts table ++ flat_map range_bytes table.ranges ++ flat_map list_bytes table.lists
    ++ row_bytes (cell_size version (length table.rows)) table.categories table.rows table.cells ++ table.safe

-- the spelling of version 1, for a table of at most 255 categories
abbrev pub spelling1 : Table → List ℕ
spelling1 table = file_bytes 1 table

-- the spelling of version 2, for every table
abbrev pub spelling : Table → List ℕ
spelling table = file_bytes 2 table

-- the bytes are one of the two
abbrev pub IsSpelling : List ℕ → Table → Type 0
IsSpelling bytes table = (bytes ≡ spelling table) ⊎ ((table.categories ≤ 255) × (bytes ≡ spelling1 table))
