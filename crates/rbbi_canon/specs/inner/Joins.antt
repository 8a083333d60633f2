-- Labels of disjoint sets, and the pairs of numbers by which they were joined.
use Rattle.std.specs.Prelude.{◌≡◌, ℕ, ◌<◌, List, length, slice_index, if◌then◌else◌, ◌==◌}

-- the set of the second number takes the label of the first, and nothing else changes
pub record JoinsLabels (old : List ℕ) (this that : ℕ) (new : List ℕ) : Type 0 where
  pub all : length new ≡ length old
  pub each : (k : ℕ) → k < length old →
      slice_index new k ≡ (if slice_index old k == slice_index old that then slice_index old this else slice_index old k)

-- The two numbers of each of so many pairs have one label. What any function gives alike for the two of each pair, it gives alike for
-- all numbers of one label. So the sets are the least that the pairs allow.
pub record AreJoinedBy (count : ℕ) (labels : List ℕ) (many : ℕ) (this that : ℕ → ℕ) : Type 0 where
  pub all : length labels ≡ count
  pub within : (k : ℕ) → k < many → (this k < count) × (that k < count)
  pub pairs : (k : ℕ) → k < many → slice_index labels (this k) ≡ slice_index labels (that k)
  pub only : (f : ℕ → List ℕ) → ((k : ℕ) → k < many → f (this k) ≡ f (that k)) →
      (x y : ℕ) → x < count → y < count → slice_index labels x ≡ slice_index labels y → f x ≡ f y
