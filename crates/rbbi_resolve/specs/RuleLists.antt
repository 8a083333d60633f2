-- What contracts see of the rules of a rule file, and the list of rules of the specification that it stands for.
use Rattle.std.specs.Prelude.{◌≡◌, ℕ, ◌<◌, List, [], ◌++◌, map, length, Contains, sum_by}
use Rattle.std.specs.List.{AllByRecursion, flat_map}
use Rattle.std.specs.Option.{option_map, option_map_or}
use Rattle.rbbi_model.specs.Words.{IsCharacter}
use Rattle.rbbi_model.specs.Ranges.{Range, Has}
use Rattle.rbbi_model.specs.Rules as model
use Rattle.rbbi_model.specs.Rules.{leaves_of, look_aheads}
use Rattle.rbbi_sets.specs.Rising.{AreRising}
use Rattle.rbbi_resolve.specs.declared.rules.Rule.{Rule}
use Rattle.rbbi_resolve.specs.RuleTrees.{tree_of, numbers_of}

-- the rules, whose leaves have the numbers of sets, and the sets
pub record RuleList : Type 0 where
  pub rules : List Rule
  pub sets : List (List Range)

-- the rule of the specification that a rule stands for, where its leaves have the numbers of these sets
abbrev pub rule_of : List (List Range) → Rule → model.Rule
rule_of sets rule =
    record {
      front = tree_of sets rule.front;
      rest = option_map (tree_of sets) rule.rest;
      chained_into = rule.chained_into;
      tag = rule.tag;
      place = rule.place;
    }

-- the list of rules of the specification that the rules and the sets stand for
abbrev pub rules_of : RuleList → List model.Rule
rules_of list = map (rule_of list.sets) list.rules

-- the numbers of a rule's leaves, its front before its rest
abbrev pub numbers_of_rule : Rule → List ℕ
numbers_of_rule rule = numbers_of rule.front ++ option_map_or numbers_of rule.rest []

-- the numbers of the leaves of all rules
abbrev pub leaf_numbers : RuleList → List ℕ
leaf_numbers list = flat_map numbers_of_rule list.rules

-- a set of a leaf: its ranges rise and neither overlap nor touch, it holds something, and nothing but characters
pub record IsLeafSet (set : List Range) : Type 0 where
  pub rising : AreRising set
  pub some : (c : ℕ) × Has set c
  pub characters : (c : ℕ) → Has set c → IsCharacter c

-- Each leaf has the number of a set, each set is that of a leaf, and the sets are those of leaves.
pub record AreWellFormed (list : RuleList) : Type 0 where
  pub numbered : AllByRecursion (λ number. number < length list.sets) (leaf_numbers list)
  pub used : (number : ℕ) → number < length list.sets → Contains (leaf_numbers list) number
  pub sets : AllByRecursion IsLeafSet list.sets

-- The rules are well formed, and have so many leaves, and so many of them a rest.
pub record AreCounted (list : RuleList) (leaves slashes : ℕ) : Type 0 where
  pub well_formed : AreWellFormed list
  pub leaf_count : leaves ≡ sum_by leaves_of (rules_of list)
  pub slash_count : slashes ≡ length (look_aheads (rules_of list))
