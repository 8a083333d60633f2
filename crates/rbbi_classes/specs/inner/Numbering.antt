-- Pairs by numbers.
use Rattle.std.specs.Prelude.{◌≡◌, ℕ, ◌+◌, ◌*◌, ◌<◌, ◌⊎◌, List, [], ◌∷◌, ◌++◌, Some, length, slice_get, nat_eq}
use Rattle.std.specs.HashMap as hash
use Rattle.rbbi_classes.specs.declared.pairs.Pair.{Pair}
use Rattle.rbbi_classes.specs.declared.pairs.Pairs.{Pairs}

-- the number is that of a pair that was there before, or the pair was added at its place
abbrev pub IsNamed : List Pair → List Pair → Pair → ℕ → Type 0
IsNamed before after pair number = ((number < length before) × (after ≡ before)) ⊎ ((number ≡ length before) × (after ≡ before ++ pair ∷ []))

-- both numbers of a pair in one
abbrev pub key : Pair → ℕ
key pair = pair.left * 0x100000000 + pair.right

-- the map has the place of each pair at its key, and no other keys
pub record AreIndexed (pairs : Pairs) : Type 0 where
  pub found : (n : ℕ) (pair : Pair) → slice_get pairs.items.items n ≡ Some pair → hash.get nat_eq pairs.numbers (key pair) ≡ Some n
  pub named : (k n : ℕ) → hash.get nat_eq pairs.numbers k ≡ Some n →
      (pair : Pair) × (slice_get pairs.items.items n ≡ Some pair) × (key pair ≡ k) × (pair.right < 0x100000000)
