-- Which rows of bits and which lists of marks are taken from the marks of positions.
use Rattle.std.specs.Prelude.{◌≡◌, ℕ, ◌<◌, ◌≤◌, Bool, false, ◌&&◌, IsTrue, Option, Some, None, if◌then◌else◌, ◌↔◌, List, slice_index}
use Rattle.std.specs.Prelude.{slice_index_or, length}
use Rattle.rbbi_positions.specs.PositionMarks.{RuleMark, PositionMarks, followers_in, readers_in, ArePositions}
use Rattle.rbbi_model.specs.Rules.{Rule, largest_tag, look_aheads, AreLawful}
use Rattle.rbbi_model.specs.Tables.{CategoryRange}
use Rattle.rbbi_model.specs.ValidTables.{AreValidRanges}
use Rattle.rbbi_model.specs.Compiled.{AreClasses}
use Rattle.rbbi_bits.specs.BitRows.{Holds, row_bit}
use Rattle.rbbi_bits.specs.NumberedRows.{listed_row}
use Rattle.rbbi_dfa.specs.inner.PositionRows.{PositionMark, PositionRows}
use Rattle.rbbi_dfa.specs.inner.PositionAutomata.{Marked}
use Rattle.rbbi_dfa.specs.declared.determinize.rows_of.ListKind.{ListKind}
use Rattle.rbbi_dfa.specs.declared.determinize.rows_of.ListKind.TheVariants.{Completed, Fronts, Tags}

-- what a rule is marked with where there is none
abbrev pub no_rule : RuleMark
no_rule = record { chained_into = false; tag = None; slash = None }

-- the marks of the position's rule
abbrev pub rule_mark : PositionMarks → ℕ → RuleMark
rule_mark marks position = slice_index_or marks.rules (slice_index marks.owners position) no_rule

-- whether some list of a rule that may be chained into begins with the position
abbrev pub begins_chained : PositionMarks → ℕ → Bool
begins_chained marks position = row_bit marks.firsts position && (rule_mark marks position).chained_into

-- what the position is marked with in such a list
abbrev pub mark_in : PositionMarks → ListKind → ℕ → Option ℕ
mark_in marks Completed position = if row_bit marks.lasts position then (rule_mark marks position).slash else None
mark_in marks Fronts position = if row_bit marks.front_lasts position then (rule_mark marks position).slash else None
mark_in marks Tags position = if row_bit marks.lasts position then (rule_mark marks position).tag else None

-- the position has a rule
abbrev pub HasOwner : PositionMarks → ℕ → Type 0
HasOwner marks position = slice_index marks.owners position < length marks.rules

-- the list marks the positions so, and no others
abbrev pub AreMarkedIn : PositionMarks → ListKind → List PositionMark → Type 0
AreMarkedIn marks kind list = (position mark : ℕ) → Marked list position mark ↔ ((position < marks.leaves) × (mark_in marks kind position ≡ Some mark))

-- the row holds the first positions of the rules that may be chained into
abbrev pub IsChainedRow : PositionMarks → List ℕ → Type 0
IsChainedRow marks row = (position : ℕ) → Holds row position ↔ ((position < marks.leaves) × IsTrue (begins_chained marks position))

-- the rows, of so many words each, are those of so many numbers
pub record AreRowsIn (width count : ℕ) (row_of : ℕ → List ℕ) (rows : List (List ℕ)) : Type 0 where
  pub many : length rows ≡ count
  pub wide : (i : ℕ) → i < count → length (listed_row rows i) ≡ width
  pub each : (i : ℕ) → i < count → listed_row rows i ≡ row_of i

-- numbers of look-ahead rules are below their count, and status numbers aren't too large
pub record AreSmallMarks (marks : PositionMarks) (slashes : ℕ) : Type 0 where
  pub completed : (position mark : ℕ) → position < marks.leaves → mark_in marks Completed position ≡ Some mark → mark < slashes
  pub fronts : (position mark : ℕ) → position < marks.leaves → mark_in marks Fronts position ≡ Some mark → mark < slashes
  pub tags : (position mark : ℕ) → position < marks.leaves → mark_in marks Tags position ≡ Some mark → mark ≤ largest_tag

-- the rows and lists are those of the marks
pub record AreRowsOf (marks : PositionMarks) (categories slashes : ℕ) (rows : PositionRows) : Type 0 where
  pub categories_are : rows.categories ≡ categories
  pub slashes_are : rows.slashes ≡ slashes
  pub first : rows.first ≡ marks.firsts
  pub chained : IsChainedRow marks rows.chained
  pub last : rows.last ≡ marks.lasts
  pub follow : AreRowsIn marks.words marks.leaves (followers_in marks) rows.follow
  pub reads : AreRowsIn marks.words categories (readers_in marks) rows.reads
  pub completed : AreMarkedIn marks Completed rows.completed
  pub fronts : AreMarkedIn marks Fronts rows.fronts
  pub tags : AreMarkedIn marks Tags rows.tags

-- The marks can be read for so many categories and look-ahead rules: they are few, each position has a rule, and the categories are those of the marks.
pub record AreReadable (marks : PositionMarks) (categories slashes : ℕ) : Type 0 where
  pub few : marks.leaves ≤ 8192
  pub few_slashes : slashes ≤ 32
  pub category_count : marks.categories ≡ categories
  pub owners : (position : ℕ) → position < marks.leaves → HasOwner marks position
  pub small : AreSmallMarks marks slashes

-- the marks are those of lawful rules, with the classes of their leaves' sets as categories
pub record AreOf (rules : List Rule) (categories slashes : ℕ) (ranges : List CategoryRange) (marks : PositionMarks) : Type 0 where
  pub lawful : AreLawful rules
  pub positions : ArePositions rules categories ranges marks
  pub valid : AreValidRanges categories ranges
  pub classes : AreClasses rules categories ranges
  pub slashes_are : slashes ≡ length (look_aheads rules)
