-- Abbreviations as a set.
use Rattle.std.specs.Prelude.{◌≡◌, ℕ, ◌≤◌, nat_eq, List, length}
use Rattle.std.specs.List.{AllByRecursion, list_any}
use Rattle.std.specs.Cmp.Lexicographic.{pointwise}

-- the same characters are in both lists, and none of them is longer
pub record AreMembers (list members : List (List ℕ)) (longest : ℕ) : Type 0 where
  pub same : (w : List ℕ) → list_any (pointwise nat_eq w) members ≡ list_any (pointwise nat_eq w) list
  pub most : AllByRecursion (λ member. length member ≤ longest) list
