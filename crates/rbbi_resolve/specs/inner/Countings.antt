-- What the counts of the code say of the active rules.
use Rattle.std.specs.Prelude.{◌≡◌, ℕ, ◌+◌, nat_lt, Option, Some, None, is_some, List, [], ◌∷◌, sum_by, if◌then◌else◌}
use Rattle.std.specs.Option.{option_or}
use Rattle.rbbi_resolve.specs.declared.counts.Count.{Count}
use Rattle.rbbi_resolve.specs.declared.counts.Counts as declared
use Rattle.rbbi_resolve.specs.Files.{RuleMeaning}
use Rattle.rbbi_resolve.specs.Counts.{leaves_meant}

-- the place of the first rule with which the sum of amounts exceeds the most, after rules with this sum
abbrev pub limit_place : (RuleMeaning → ℕ) → ℕ → ℕ → List RuleMeaning → Option ℕ
limit_place amount most sum [] = None
limit_place amount most sum (rule ∷ rules) =
    if nat_lt most (sum + amount rule) then Some rule.place else limit_place amount most (sum + amount rule) rules

-- The count goes on with the rules that are left: what it gives with them is what all rules give.
pub record IsPartialCount (amount : RuleMeaning → ℕ) (most : ℕ) (count : Count) (left all : List RuleMeaning) : Type 0 where
  pub place : option_or count.passed (limit_place amount most count.sum left) ≡ limit_place amount most 0 all
  pub sum_of : count.passed ≡ None → count.sum + sum_by amount left ≡ sum_by amount all

-- each rule counts as one
abbrev pub one : RuleMeaning → ℕ
one rule = 1

-- a rule with a rest counts as one
abbrev pub slash_of : RuleMeaning → ℕ
slash_of rule = if is_some rule.rest then 1 else 0

-- a rule that is too tall counts as one
abbrev pub tall_of : RuleMeaning → ℕ
tall_of rule = if nat_lt 256 rule.height then 1 else 0

-- the counts go on with the rules that are left
pub record AreCounting (counts : declared.Counts) (left all : List RuleMeaning) : Type 0 where
  pub rule_count : IsPartialCount one 4096 counts.rules left all
  pub leaf_count : IsPartialCount leaves_meant 8192 counts.leaves left all
  pub slash_count : IsPartialCount slash_of 32 counts.slashes left all
  pub tall_count : IsPartialCount tall_of 0 counts.tall left all
