-- What holds of each set that a lawful leaf may have holds of all sets of lawful rules.
use Rattle.std.proofs.Common.{List, [], ◌∷◌, Option, Some, None}
use Rattle.std.specs.Prelude.{IfSome, flat_map}
use Rattle.std.specs.List.{AllByRecursion}
use Rattle.std.specs.Option.{option_map_or}
use Rattle.rbbi_model.specs.Ranges.{Range}
use Rattle.rbbi_model.specs.Spelling.{Tree, Leaf, Empty, Never, Then, Either, Repeat}
use Rattle.rbbi_model.specs.Rules.{Rule, IsLawfulTree, IsLawfulRule}
use Rattle.rbbi_model.specs.LeafSets.{all_sets, sets_of, sets_of_rule}
use Rattle.rbbi_model.proofs.Lists.{all_append}

module _ (P : List Range → Type 0) (leaf : (set : List Range) → IsLawfulTree (Leaf set) → P set) where
  each_leaf : (tree : Tree) → IsLawfulTree tree → AllByRecursion P (sets_of tree)
  each_leaf (Leaf set) lawful = (leaf set lawful, tt)
  each_leaf Empty lawful = absurd lawful
  each_leaf Never lawful = absurd lawful
  each_leaf (Then first rest) lawful = all_append P (sets_of first) (sets_of rest) (each_leaf first lawful.0) (each_leaf rest lawful.1)
  each_leaf (Either first rest) lawful = all_append P (sets_of first) (sets_of rest) (each_leaf first lawful.0) (each_leaf rest lawful.1)
  each_leaf (Repeat repetition part) lawful = each_leaf part lawful

  rest_leaves : (rest : Option Tree) → IfSome rest IsLawfulTree → AllByRecursion P (option_map_or sets_of rest [])
  rest_leaves None lawful = tt
  rest_leaves (Some tree) lawful = each_leaf tree lawful

  pub each_rule_leaf : (rule : Rule) → IsLawfulRule rule → AllByRecursion P (sets_of_rule rule)
  each_rule_leaf rule lawful =
      all_append P (sets_of rule.front) (option_map_or sets_of rule.rest []) (each_leaf rule.front lawful.front) (rest_leaves rule.rest lawful.rest)

  pub each_set : (rules : List Rule) → AllByRecursion IsLawfulRule rules → AllByRecursion P (all_sets rules)
  each_set [] lawful = tt
  each_set (rule ∷ rules) lawful = all_append P (sets_of_rule rule) (flat_map sets_of_rule rules) (each_rule_leaf rule lawful.0) (each_set rules lawful.1)
