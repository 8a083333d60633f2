-- Numbers in the order in which they are first met.
use Rattle.std.specs.Prelude.{◌≡◌, ◌≢◌, ℕ, ◌+◌, ◌-◌, ◌<◌, ◌≤◌, ◌⊎◌, List, [], ◌∷◌, ◌++◌, length, slice_index}

-- for each number that was met 1 more than its place in the order, and 0 for the others
pub record IsIndexed (order places : List ℕ) : Type 0 where
  pub few : length places ≤ 4095
  pub each : (k : ℕ) → k < length order → (slice_index order k < length places) × (slice_index places (slice_index order k) ≡ k + 1)
  pub only : (number : ℕ) → number < length places → slice_index places number ≢ 0 →
      (slice_index places number ≤ length order) × (slice_index order (slice_index places number - 1) ≡ number)

-- the order stays, or the number comes last
abbrev pub KeepsOrAdds : List ℕ → ℕ → List ℕ → Type 0
KeepsOrAdds old number new = (new ≡ old) ⊎ (new ≡ old ++ number ∷ [])
