-- Tables: their parts, the category of a code point, and the row that a word leads to.
use Rattle.std.specs.Prelude.{◌≡◌, ℕ, ◌+◌, ◌*◌, ◌<◌, ◌≤◌, Bool, ◌||◌, ◌⊎◌, List, [], ◌∷◌, map, if◌then◌else◌, ◌==◌, nat_le, slice_index, slice_index_or}
use Rattle.rbbi_model.specs.Words.{last_code_point}

-- a range of code points of one category: it reaches to the code point before the next range's start
pub record CategoryRange : Type 0 where
  pub start : ℕ
  pub category : ℕ

-- A row's accept number, its front mask and the number of its status list. Accept 0 says that no rule ends here, 1 that
-- some rule ends and no look-ahead rule, and k + 2 that look-ahead rule k is completed. Bit k of the mask says that the
-- front of look-ahead rule k ends here.
pub record RowHead : Type 0 where
  pub accept : ℕ
  pub fronts : ℕ
  pub list : ℕ

-- A table's parts: how many categories and how many look-ahead rules there are, the ranges of the categories, the status
-- lists, the rows' heads, the next rows (row after row, one for each category), and the bytes of the safe pairs.
pub record Table : Type 0 where
  pub categories : ℕ
  pub slashes : ℕ
  pub ranges : List CategoryRange
  pub lists : List (List ℕ)
  pub rows : List RowHead
  pub cells : List ℕ
  pub safe : List ℕ

-- The code point lies in a range of this category. The last range reaches to the last code point.
abbrev pub HasCategory : List CategoryRange → ℕ → ℕ → Type 0
HasCategory [] c category = ⊥
HasCategory (range ∷ []) c category = (range.start ≤ c) × (c ≤ last_code_point) × (range.category ≡ category)
HasCategory (range ∷ next ∷ ranges) c category =
    ((range.start ≤ c) × (c < next.start) × (range.category ≡ category)) ⊎ HasCategory (next ∷ ranges) c category

-- the category of the last range that starts at c or before it, or else the one given
abbrev pub category_from : ℕ → List CategoryRange → ℕ → ℕ
category_from before [] c = before
category_from before (range ∷ ranges) c = if nat_le range.start c then category_from range.category ranges c else before

-- the category of the code point
abbrev pub category_of : List CategoryRange → ℕ → ℕ
category_of ranges c = category_from 0 ranges c

-- what a row has at which nothing ends
abbrev pub empty_head : RowHead
empty_head = record { accept = 0; fronts = 0; list = 0 }

-- the head of the row with this number
abbrev pub head_of : Table → ℕ → RowHead
head_of table row = slice_index_or table.rows row empty_head

-- the accept number of the row
abbrev pub accept_of : Table → ℕ → ℕ
accept_of table row = (head_of table row).accept

-- the front mask of the row
abbrev pub fronts_of : Table → ℕ → ℕ
fronts_of table row = (head_of table row).fronts

-- the number of the row's status list
abbrev pub list_of : Table → ℕ → ℕ
list_of table row = (head_of table row).list

-- the status list with this number
abbrev pub statuses_of : Table → ℕ → List ℕ
statuses_of table list = slice_index_or table.lists list []

-- the next row from a row, for a category
abbrev pub step : Table → ℕ → ℕ → ℕ
step table row category = slice_index table.cells (row * table.categories + category)

-- the row reached from a row along the categories
abbrev pub row_along : Table → ℕ → List ℕ → ℕ
row_along table row [] = row
row_along table row (category ∷ categories) = row_along table (step table row category) categories

-- the row reached from row 1 along the categories of the word
abbrev pub row_after : Table → List ℕ → ℕ
row_after table w = row_along table 1 (map (category_of table.ranges) w)

-- a look-ahead rule is completed at the row
abbrev pub completes : Table → ℕ → Bool
completes table row = nat_le 2 (accept_of table row)

-- a search ends at the row: it is row 0, or a look-ahead rule is completed there
abbrev pub stops : Table → ℕ → Bool
stops table row = (row == 0) || completes table row
