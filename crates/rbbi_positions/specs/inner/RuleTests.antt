-- What is computed of rules: whether some rule passes a test at the position of its first leaf, and the tests of positions.
use Rattle.std.specs.Prelude.{◌≡◌, ℕ, ◌+◌, ◌<◌, ◌≤◌, Bool, false, ◌||◌, List, [], ◌∷◌, length, slice_index, IsTrue, ◌↔◌}
use Rattle.std.specs.Option.{option_map_or}
use Rattle.rbbi_model.specs.Words.{IsCodePoint}
use Rattle.rbbi_model.specs.Ranges.{Range, Has}
use Rattle.rbbi_model.specs.Rules.{Rule, leaf_count, leaves_of}
use Rattle.rbbi_model.specs.Tables.{CategoryRange, category_of}
use Rattle.rbbi_resolve.specs.RuleTrees.{set_at}
use Rattle.rbbi_bits.specs.BitRows.{row_bit}
use Rattle.rbbi_positions.specs.inner.Trees.{begins, ends, goes}
use Rattle.rbbi_positions.specs.FollowPositions.{IsOfRule}

-- some rule passes the test at the position of its first leaf, where the first rule's is the one given
abbrev pub some_rule : (Rule → ℕ → Bool) → List Rule → ℕ → Bool
some_rule test [] first = false
some_rule test (rule ∷ rules) first = test rule first || some_rule test rules (first + leaves_of rule)

-- some list of the rule begins with the position, where its front isn't nullable
abbrev pub rule_begins : ℕ → Rule → ℕ → Bool
rule_begins position rule first = begins rule.front first position

-- some list of the front ends with the position
abbrev pub front_ends : ℕ → Rule → ℕ → Bool
front_ends position rule first = ends rule.front first position

-- some list of the rule ends with the position, where its rest isn't nullable
abbrev pub rule_ends : ℕ → Rule → ℕ → Bool
rule_ends position rule first = option_map_or (λ rest. ends rest (first + leaf_count rule.front) position) rule.rest (ends rule.front first position)

-- in some list of the rule the next position stands right after the position, where its rest isn't nullable
abbrev pub rule_goes : ℕ → ℕ → Rule → ℕ → Bool
rule_goes position next rule first =
    option_map_or
    (λ rest. goes rest (first + leaf_count rule.front) position next false || goes rule.front first position next
    (begins rest (first + leaf_count rule.front) next))
    rule.rest
    (goes rule.front first position next false)

-- each position has its rule's number
pub record AreOwners (rules : List Rule) (owners : List ℕ) : Type 0 where
  pub each : (position : ℕ) → position < length owners → IsOfRule rules position (slice_index owners position)

-- each category but 0 has one of its code points
pub record AreCodesOf (categories : ℕ) (ranges : List CategoryRange) (codes : List ℕ) : Type 0 where
  pub many : length codes ≡ categories
  pub code : (category : ℕ) → 1 ≤ category → category < categories → IsCodePoint (slice_index codes category)
  pub each : (category : ℕ) → 1 ≤ category → category < categories → category_of ranges (slice_index codes category) ≡ category

-- the row has the positions whose sets, by their numbers, hold the code point
pub record ReadCode (sets : List (List Range)) (numbers : List ℕ) (code : ℕ) (row : List ℕ) : Type 0 where
  pub each : (position : ℕ) → IsTrue (row_bit row position) ↔ ((position < length numbers) × Has (set_at sets (slice_index numbers position)) code)
