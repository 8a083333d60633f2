-- The tables that are valid: five conditions, one a part of the table file.
use Rattle.std.specs.Prelude.{◌≡◌, ◌≢◌, ℕ, ◌+◌, ◌*◌, ◌/◌, ◌^◌, ◌<◌, ◌≤◌, ◌⊎◌, ◌↔◌, List, [], ◌∷◌, length, take, IsTrue}
use Rattle.std.specs.List.{AllByRecursion}
use Rattle.rbbi_model.specs.Words.{last_code_point}
use Rattle.rbbi_model.specs.Lists.{IsRising}
use Rattle.rbbi_model.specs.Rules.{largest_tag}
use Rattle.rbbi_model.specs.Places.{has_bit}
use Rattle.rbbi_model.specs.Tables.{Table, CategoryRange, RowHead, head_of, accept_of, fronts_of, list_of, step, row_along}
use Rattle.rbbi_model.specs.SafePairs.{IsSafePair, stored_bit, is_safe}

-- There is a next row for each row and category and a bit for each pair of categories, and what is stored as a byte is one.
pub record IsWellFormed (table : Table) : Type 0 where
  pub cells : length table.cells ≡ length table.rows * table.categories
  pub safe : length table.safe ≡ (table.categories * table.categories + 7) / 8
  pub bytes : AllByRecursion (λ byte. byte < 256) table.safe

-- the first range starts at code point 0
abbrev pub StartsAtZero : List CategoryRange → Type 0
StartsAtZero [] = ⊥
StartsAtZero (range ∷ ranges) = range.start ≡ 0

-- starts rise, and neighbours have different categories
abbrev pub AreApart : List CategoryRange → Type 0
AreApart [] = Unit {0}
AreApart (range ∷ []) = Unit {0}
AreApart (range ∷ next ∷ ranges) = (range.start < next.start) × (range.category ≢ next.category) × AreApart (next ∷ ranges)

-- the range starts at a code point and has one of the categories
abbrev pub IsWithin : ℕ → CategoryRange → Type 0
IsWithin categories range = (range.start ≤ last_code_point) × (range.category < categories)

-- 1 to 1,000 categories, and ranges that give each code point one of them
pub record AreValidRanges (categories : ℕ) (ranges : List CategoryRange) : Type 0 where
  pub some_categories : 1 ≤ categories
  pub few_categories : categories ≤ 1000
  pub some_ranges : 1 ≤ length ranges
  pub from_zero : StartsAtZero ranges
  pub apart : AreApart ranges
  pub within : AllByRecursion (IsWithin categories) ranges

-- 1 to 4,096 status numbers, rising, none too large
pub record IsValidList (statuses : List ℕ) : Type 0 where
  pub some : 1 ≤ length statuses
  pub few : length statuses ≤ 4096
  pub rising : IsRising statuses
  pub small : AllByRecursion (λ status. status ≤ largest_tag) statuses

-- the one list comes before the other, compared number by number, a prefix before what it begins
abbrev pub IsBefore : List ℕ → List ℕ → Type 0
IsBefore these [] = ⊥
IsBefore [] (n ∷ those) = Unit {0}
IsBefore (m ∷ these) (n ∷ those) = (m < n) ⊎ ((m ≡ n) × IsBefore these those)

-- each list comes before the next
abbrev pub AreInOrder : List (List ℕ) → Type 0
AreInOrder [] = Unit {0}
AreInOrder (statuses ∷ []) = Unit {0}
AreInOrder (statuses ∷ next ∷ lists) = IsBefore statuses next × AreInOrder (next ∷ lists)

-- the first list is 0 alone
abbrev pub BeginsWithZeroAlone : List (List ℕ) → Type 0
BeginsWithZeroAlone [] = ⊥
BeginsWithZeroAlone (statuses ∷ lists) = statuses ≡ 0 ∷ []

-- 1 to 4,095 status lists, of which the first is 0 alone, in order
pub record AreValidLists (lists : List (List ℕ)) : Type 0 where
  pub some : 1 ≤ length lists
  pub few : length lists ≤ 4095
  pub each : AllByRecursion IsValidList lists
  pub first : BeginsWithZeroAlone lists
  pub in_order : AreInOrder lists

-- the row leads to row 0 only
abbrev pub LeadsToZero : Table → ℕ → Type 0
LeadsToZero table row = (category : ℕ) → category < table.categories → step table row category ≡ 0

-- The accept number, the mask, the list and the next rows are within their bounds. Where no rule ends the list is list 0.
-- Where a look-ahead rule is completed the mask is 0, and the row leads to row 0 only.
pub record IsValidRow (table : Table) (row : ℕ) : Type 0 where
  pub accept : accept_of table row ≤ table.slashes + 1
  pub fronts : fronts_of table row < 2 ^ table.slashes
  pub list : list_of table row < length table.lists
  pub next : (category : ℕ) → category < table.categories → step table row category < length table.rows
  pub unended : accept_of table row ≡ 0 → list_of table row ≡ 0
  pub completed : 2 ≤ accept_of table row → (fronts_of table row ≡ 0) × LeadsToZero table row

-- accept 0, no front, and list 0
abbrev pub IsPlain : RowHead → Type 0
IsPlain head = (head.accept ≡ 0) × (head.fronts ≡ 0) × (head.list ≡ 0)

-- 2 to 4,095 valid rows, at most 32 look-ahead rules, and nothing ends at rows 0 and 1, of which the first leads to itself
pub record AreValidRows (table : Table) : Type 0 where
  pub some : 2 ≤ length table.rows
  pub few : length table.rows ≤ 4095
  pub few_slashes : table.slashes ≤ 32
  pub each : (row : ℕ) → row < length table.rows → IsValidRow table row
  pub stop : IsPlain (head_of table 0)
  pub start : IsPlain (head_of table 1)
  pub stop_leads : LeadsToZero table 0

-- categories of the table, one after another: with row 1 they make a way through the rows
abbrev pub IsWay : Table → List ℕ → Type 0
IsWay table way = AllByRecursion (λ category. category < table.categories) way

-- On every way from row 1 into a row at which look-ahead rule k is completed, its front ends at an earlier row of the way.
abbrev pub AreFronted : Table → Type 0
AreFronted table =
    (way : List ℕ) (k : ℕ) → IsWay table way → accept_of table (row_along table 1 way) ≡ k + 2 →
    (earlier : ℕ) × (earlier < length way) × IsTrue (has_bit (fronts_of table (row_along table 1 (take earlier way))) k)

-- the stored bits are exactly the safe pairs, and the bits that fill the last byte are 0
pub record AreValidSafePairs (table : Table) : Type 0 where
  pub exactly : (first second : ℕ) → first < table.categories → second < table.categories → IsTrue (is_safe table first second) ↔ IsSafePair table first second
  pub filling : (i : ℕ) → table.categories * table.categories ≤ i → i < 8 * length table.safe → ¬ IsTrue (stored_bit table.safe i)

-- a table all of whose parts are valid
pub record IsValidTable (table : Table) : Type 0 where
  pub well_formed : IsWellFormed table
  pub ranges : AreValidRanges table.categories table.ranges
  pub lists : AreValidLists table.lists
  pub rows : AreValidRows table
  pub fronts : AreFronted table
  pub safe : AreValidSafePairs table
