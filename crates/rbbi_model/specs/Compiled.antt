-- The tables that are compiled from rules.
use Rattle.std.specs.Prelude.{◌≡◌, ◌≢◌, ℕ, ◌<◌, ◌≤◌, ◌⊎◌, ◌↔◌, List, [], ◌∷◌, ◌++◌, length, AllPairs}
use Rattle.std.specs.List.{AllByRecursion, Any}
use Rattle.rbbi_model.specs.Words.{IsCodePoint, IsWord, IsText}
use Rattle.rbbi_model.specs.Ranges.{Has}
use Rattle.rbbi_model.specs.Rules.{Rule}
use Rattle.rbbi_model.specs.Boundaries.{AreBoundaries}
use Rattle.rbbi_model.specs.Tables.{Table, CategoryRange, list_of, row_along, category_of}
use Rattle.rbbi_model.specs.ValidTables.{IsWay, IsValidTable}
use Rattle.rbbi_model.specs.Searches.{table_boundaries}
use Rattle.rbbi_model.specs.LeafSets.{all_sets}
use Rattle.rbbi_model.specs.Marks.{Marks, no_marks, AreMarks, AreMarksOrNone, marks_of, HasSameMarks}

-- the boundaries of every text by the table are those by the rules
abbrev pub GivesBoundaries : Table → List Rule → Type 0
GivesBoundaries table rules = (x : List ℕ) → IsText x → AreBoundaries rules x (table_boundaries table x)

-- Every row but row 0 is reached from row 1. Any two rows have different marks along some categories, where none is allowed
-- too; rows 0 and 1 alone may be alike, for rules that have no word. Every status list but the first is some row's.
pub record IsLeast (table : Table) : Type 0 where
  pub reached : (row : ℕ) → row ≢ 0 → row < length table.rows → (way : List ℕ) × IsWay table way × (row_along table 1 way ≡ row)
  pub apart : (this that : ℕ) → this < that → that < length table.rows → ¬ ((this ≡ 0) × (that ≡ 1)) →
      (way : List ℕ) × IsWay table way × (marks_of table (row_along table this way) ≢ marks_of table (row_along table that way))
  pub lists : (list : ℕ) → list ≢ 0 → list < length table.lists → (row : ℕ) × (row < length table.rows) × (list_of table row ≡ list)

-- the marks of the one word followed by some code points differ from those of the other followed by the same
pub record AreToldApart (rules : List Rule) (this that : List ℕ) : Type 0 where
  pub rest : List ℕ
  pub is_word : IsWord rest
  pub marks : Marks
  pub others : Marks
  pub are_marks : AreMarksOrNone rules (this ++ rest) marks
  pub are_others : AreMarksOrNone rules (that ++ rest) others
  pub differ : marks ≢ others

-- something ends after the word followed by some code points
pub record LeadsSomewhere (rules : List Rule) (w : List ℕ) : Type 0 where
  pub rest : List ℕ
  pub is_word : IsWord rest
  pub marks : Marks
  pub are_marks : AreMarksOrNone rules (w ++ rest) marks
  pub some : marks ≢ no_marks

-- A table for the rules needs so many rows beside row 0: there are so many words, of which each two are distinguished, and each
-- leads somewhere.
pub record Needs (rules : List Rule) (count : ℕ) : Type 0 where
  pub words : List (List ℕ)
  pub many : length words ≡ count
  pub are_words : AllByRecursion IsWord words
  pub apart : AllPairs (AreToldApart rules) words
  pub lead : AllByRecursion (LeadsSomewhere rules) words

-- the status list is 0 alone, or the one after some word
abbrev pub IsStatusList : List Rule → List ℕ → Type 0
IsStatusList rules statuses =
    (statuses ≡ 0 ∷ []) ⊎ ((w : List ℕ) × (marks : Marks) × IsWord w × (w ≢ []) × AreMarks rules w marks × (marks.statuses ≡ statuses))

-- there are at least so many different status lists
pub record HasStatusLists (rules : List Rule) (count : ℕ) : Type 0 where
  pub lists : List (List ℕ)
  pub many : length lists ≡ count
  pub each : AllByRecursion (IsStatusList rules) lists
  pub apart : AllPairs (λ these those. these ≢ those) lists

-- a leaf's set holds the code point
abbrev pub IsRead : List Rule → ℕ → Type 0
IsRead rules c = Any (λ set. Has set c) (all_sets rules)

-- no leaf's set distinguishes the code points
abbrev pub AreAlike : List Rule → ℕ → ℕ → Type 0
AreAlike rules c d = AllByRecursion (λ set. Has set c ↔ Has set d) (all_sets rules)

-- Category 0 is the code points in no leaf's set. The others are the classes that the leaves' sets don't distinguish, each with a
-- code point, and numbered by their least: before each code point of the later of two stands one of the earlier.
pub record AreClasses (rules : List Rule) (categories : ℕ) (ranges : List CategoryRange) : Type 0 where
  pub none : (c : ℕ) → IsCodePoint c → (category_of ranges c ≡ 0) ↔ (¬ IsRead rules c)
  pub alike : (c d : ℕ) → IsCodePoint c → IsCodePoint d → (category_of ranges c ≡ category_of ranges d) ↔ AreAlike rules c d
  pub used : (category : ℕ) → 1 ≤ category → category < categories → (c : ℕ) × IsCodePoint c × (category_of ranges c ≡ category)
  pub numbered : (category later d : ℕ) → 1 ≤ category → category < later → IsCodePoint d → category_of ranges d ≡ later →
      (c : ℕ) × (c < d) × (category_of ranges c ≡ category)

-- a valid and least table with the marks of the rules, whose categories are the classes of their leaves' sets
pub record IsCompiled (table : Table) (rules : List Rule) : Type 0 where
  pub valid : IsValidTable table
  pub same : HasSameMarks table rules
  pub least : IsLeast table
  pub classes : AreClasses rules table.categories table.ranges
