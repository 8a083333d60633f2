-- What the state of a set that is being read stands for.
use Rattle.std.specs.Prelude.{◌≡◌, Some, None, ℕ, map, reverse, Option, Result, MatchResult}
use Rattle.rbbi_tree.specs.Values.{part_tree}
use Rattle.rbbi_tree.specs.inner.Sets.{SetLevelTree, OuterSetTree}
use Rattle.rbbi_tree.specs.declared.error.TreeErr.{TreeErr}
use Rattle.rbbi_tree.specs.declared.error.TreeErr.TheVariants.{Syntax, TooDeep, Memory}
use Rattle.rbbi_tree.specs.declared.set_level.SetLevel.{SetLevel}
use Rattle.rbbi_tree.specs.declared.set_level.OuterSet.{OuterSet}

-- the set so far that a value stands for
abbrev pub set_level_tree : SetLevel → SetLevelTree
set_level_tree s = record { place = s.place; negated = s.negated; parts = reverse (map part_tree s.parts.items); state = s.state }

-- the outer set that a value stands for
abbrev pub outer_set_tree : OuterSet → OuterSetTree
outer_set_tree o =
    let s = set_level_tree o.set in record { place = s.place; negated = s.negated; parts = s.parts; join = o.join }

-- what a refusal at a token of this place says of what the machine does: for a fault of syntax, that it is stuck there
abbrev pub IsStuckAt : {A : Type 0} → ℕ → Option A → TreeErr → Type 0
IsStuckAt at after (Syntax place) = (after ≡ None) × (place ≡ at)
IsStuckAt at after (TooDeep place) = ⊥
IsStuckAt at after Memory = Unit {0}

-- what reading something at this place answers, where the machine makes this of it: a value that stands for that, or a
-- refusal where the machine is stuck
abbrev pub FollowsMachine : {A V : Type 0} → ℕ → Option A → (V → A) → Result V TreeErr → Type 0
FollowsMachine at made tree result = MatchResult result (λ value. made ≡ Some (tree value)) (IsStuckAt at made)

-- what reading something in a set answers, where the machine makes it this set, and the set after it
abbrev pub ReadsInSet : ℕ → Option SetLevelTree → Result (Unit {0}) TreeErr → SetLevel → Type 0
ReadsInSet at made result after = FollowsMachine at made (λ _. set_level_tree after) result
