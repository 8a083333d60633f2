-- A text with spaces in place of some of its characters.
use Rattle.std.specs.Prelude.{◌≡◌, ℕ, ◌<◌, ◌≤◌, ◌⊎◌, List, length, slice_index}

-- The text y has spaces from one place up to another, and else the characters of x.
pub record IsBlanked (from to : ℕ) (x y : List ℕ) : Type 0 where
  pub same_length : length y ≡ length x
  pub inside : (k : ℕ) → from ≤ k → k < to → k < length x → slice_index y k ≡ 32
  pub outside : (k : ℕ) → (k < from) ⊎ (to ≤ k) → k < length x → slice_index y k ≡ slice_index x k
