-- Rules, their words and front words, and the lists of rules that are lawful.
use Rattle.std.specs.Prelude.{◌≡◌, ◌≢◌, ℕ, ◌+◌, ◌≤◌, Bool, Option, List, [], ◌++◌, length, filter, sum_by, is_some, IsSome, IfSome, MatchOption}
use Rattle.std.specs.List.{AllByRecursion}
use Rattle.std.specs.Option.{option_map_or}
use Rattle.rbbi_model.specs.Words.{IsCharacter}
use Rattle.rbbi_model.specs.Ranges.{Has}
use Rattle.rbbi_model.specs.Spelling.{Tree, Leaf, Empty, Never, Then, Either, Repeat, Spells}

-- A rule has a front, perhaps a rest after the look-ahead sign, a mark whether it may be chained into, perhaps a
-- status number, and the place of its first token in the file.
pub record Rule : Type 0 where
  pub front : Tree
  pub rest : Option Tree
  pub chained_into : Bool
  pub tag : Option ℕ
  pub place : ℕ

-- the word is a spelling of the one tree followed by one of the other
abbrev pub SpellsBoth : Tree → Tree → List ℕ → Type 0
SpellsBoth front rest w = (u : List ℕ) × (v : List ℕ) × Spells front u × Spells rest v × (w ≡ u ++ v)

-- A word of a rule isn't empty. The front spells it, or where there is a rest, the front and then the rest.
abbrev pub IsWordOf : Rule → List ℕ → Type 0
IsWordOf rule w = (w ≢ []) × MatchOption rule.rest (Spells rule.front w) (λ rest. SpellsBoth rule.front rest w)

-- a rule with a rest
abbrev pub LooksAhead : Rule → Type 0
LooksAhead rule = IsSome rule.rest

-- A word of a look-ahead rule's front isn't empty either.
abbrev pub IsFrontWordOf : Rule → List ℕ → Type 0
IsFrontWordOf rule w = LooksAhead rule × (w ≢ []) × Spells rule.front w

-- the look-ahead rules in the order of the file; their numbers are their places in this list, from 0
abbrev pub look_aheads : List Rule → List Rule
look_aheads rules = filter (λ rule. is_some rule.rest) rules

-- how many leaves a tree has
abbrev pub leaf_count : Tree → ℕ
leaf_count (Leaf set) = 1
leaf_count Empty = 0
leaf_count Never = 0
leaf_count (Then first rest) = leaf_count first + leaf_count rest
leaf_count (Either first rest) = leaf_count first + leaf_count rest
leaf_count (Repeat repetition part) = leaf_count part

-- how many leaves a rule has, front and rest
abbrev pub leaves_of : Rule → ℕ
leaves_of rule = leaf_count rule.front + option_map_or leaf_count rule.rest 0

-- Each leaf's set holds a character and no surrogate, and each sequence and each choice has a part.
abbrev pub IsLawfulTree : Tree → Type 0
IsLawfulTree (Leaf set) = ((c : ℕ) × Has set c) × ((c : ℕ) → Has set c → IsCharacter c)
IsLawfulTree Empty = ⊥
IsLawfulTree Never = ⊥
IsLawfulTree (Then first rest) = IsLawfulTree first × IsLawfulTree rest
IsLawfulTree (Either first rest) = IsLawfulTree first × IsLawfulTree rest
IsLawfulTree (Repeat repetition part) = IsLawfulTree part

-- the largest status number
abbrev pub largest_tag : ℕ
largest_tag = 2147483647

-- Its trees are lawful, its status number isn't too large, and neither its front nor its rest spells the empty word
-- where it looks ahead.
pub record IsLawfulRule (rule : Rule) : Type 0 where
  pub front : IsLawfulTree rule.front
  pub rest : IfSome rule.rest IsLawfulTree
  pub tag : IfSome rule.tag (λ number. number ≤ largest_tag)
  pub front_not_empty : LooksAhead rule → ¬ Spells rule.front []
  pub rest_not_empty : IfSome rule.rest (λ rest. ¬ Spells rest [])

-- 1 to 4,096 lawful rules, at most 32 that look ahead, and at most 8,192 leaves in all
pub record AreLawful (rules : List Rule) : Type 0 where
  pub some : 1 ≤ length rules
  pub few : length rules ≤ 4096
  pub few_look_aheads : length (look_aheads rules) ≤ 32
  pub few_leaves : sum_by leaves_of rules ≤ 8192
  pub each : AllByRecursion IsLawfulRule rules
