-- What contracts see of positions, and what its marks mean.
use Rattle.std.specs.Prelude.{◌≡◌, ℕ, ◌+◌, ◌*◌, ◌/◌, ◌^◌, ◌<◌, Bool, ◌↔◌, Option, Some, List, length, take, slice_index, slice_range, slice_get}
use Rattle.std.specs.Prelude.{sum_by}
use Rattle.std.specs.Option.{option_map}
use Rattle.rbbi_model.specs.Words.{IsCodePoint}
use Rattle.rbbi_model.specs.Rules.{Rule, leaves_of, look_aheads}
use Rattle.rbbi_model.specs.Chains.{IsRule}
use Rattle.rbbi_model.specs.LeafSets.{Reads}
use Rattle.rbbi_model.specs.Tables.{CategoryRange, category_of}
use Rattle.rbbi_bits.specs.BitRows.{Holds}
use Rattle.rbbi_positions.specs.FollowPositions.{IsFirst, IsLast, IsFrontLast, Follows, IsOfRule}

-- a rule's marks: whether it may be chained into, its status number, and its number among the look-ahead rules
pub record RuleMark : Type 0 where
  pub chained_into : Bool
  pub tag : Option ℕ
  pub slash : Option ℕ

-- The marks of positions, for so many categories. Sets of positions are rows of bits, of `words` words each: the first positions, the
-- last ones and those of fronts, and row after row for each position those that follow it, and for each category those that read it.
pub record PositionMarks : Type 0 where
  pub leaves : ℕ
  pub categories : ℕ
  pub words : ℕ
  pub rules : List RuleMark
  pub owners : List ℕ
  pub firsts : List ℕ
  pub lasts : List ℕ
  pub front_lasts : List ℕ
  pub followers : List ℕ
  pub readers : List ℕ

-- the row of the positions that follow this one, and that of those that read a category
abbrev pub followers_in : PositionMarks → ℕ → List ℕ
followers_in marks position = slice_range marks.followers (position * marks.words) (position * marks.words + marks.words)

abbrev pub readers_in : PositionMarks → ℕ → List ℕ
readers_in marks category = slice_range marks.readers (category * marks.words) (category * marks.words + marks.words)

-- some code point of the category is in the set of the leaf; as its code points are alike, each is
pub record ReadsCategory (rules : List Rule) (ranges : List CategoryRange) (position category : ℕ) : Type 0 where
  pub c : ℕ
  pub code : IsCodePoint c
  pub of : category_of ranges c ≡ category
  pub reads : Reads rules position c

-- the number of the rule among the look-ahead rules, and none for a plain rule
abbrev pub slash_number : List Rule → ℕ → Rule → Option ℕ
slash_number rules number rule = option_map (λ _. length (look_aheads (take number rules))) rule.rest

-- the marks of a rule are its own
pub record IsMarkedAs (rules : List Rule) (number : ℕ) (rule : Rule) (mark : RuleMark) : Type 0 where
  pub chained_into : mark.chained_into ≡ rule.chained_into
  pub tag : mark.tag ≡ rule.tag
  pub slash : mark.slash ≡ slash_number rules number rule

-- each rule's marks are its own
abbrev pub AreRuleMarks : List Rule → List RuleMark → Type 0
AreRuleMarks rules marks = (number : ℕ) (rule : Rule) (mark : RuleMark) → IsRule rules number rule → slice_get marks number ≡ Some mark →
    IsMarkedAs rules number rule mark

-- The marks are those of the rules' positions and of the rules, for categories with these ranges.
pub record ArePositions (rules : List Rule) (categories : ℕ) (ranges : List CategoryRange) (marks : PositionMarks) : Type 0 where
  pub leaves : marks.leaves ≡ sum_by leaves_of rules
  pub rule_count : length marks.rules ≡ length rules
  pub category_count : marks.categories ≡ categories
  pub rule_marks : AreRuleMarks rules marks.rules
  pub owner : (position : ℕ) → position < marks.leaves → IsOfRule rules position (slice_index marks.owners position)
  pub first : (position : ℕ) → Holds marks.firsts position ↔ IsFirst rules position
  pub last : (position : ℕ) → Holds marks.lasts position ↔ IsLast rules position
  pub front_last : (position : ℕ) → Holds marks.front_lasts position ↔ IsFrontLast rules position
  pub follows : (position next : ℕ) → position < marks.leaves → Holds (followers_in marks position) next ↔ Follows rules position next
  pub reads : (position category : ℕ) → category < categories → Holds (readers_in marks category) position ↔ ReadsCategory rules ranges position category

-- each list has a member for each position, rule, or word of a row, and rows have no more words than they need
pub record IsWhole (marks : PositionMarks) : Type 0 where
  pub words : marks.words ≡ (marks.leaves + 63) / 64
  pub few_rules : length marks.rules < 2 ^ 32
  pub owners : length marks.owners ≡ marks.leaves
  pub firsts : length marks.firsts ≡ marks.words
  pub lasts : length marks.lasts ≡ marks.words
  pub front_lasts : length marks.front_lasts ≡ marks.words
  pub followers : length marks.followers ≡ marks.leaves * marks.words
  pub readers : length marks.readers ≡ marks.categories * marks.words
