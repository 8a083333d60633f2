-- What is known of the marks of a test between one boundary and the next.
use Rattle.std.specs.Prelude.{◌≡◌, ◌≢◌, ℕ, ◌-◌, ◌<◌, ◌≤◌, slice_index_or, false, ◌==◌}
use Rattle.rbbi_conform.specs.Tests.{Test}

-- the marks past one place and up to another are right, where the first boundary past the one is known
abbrev pub AreRight : Test → ℕ → ℕ → ℕ → Type 0
AreRight test last next place = (i : ℕ) → last < i → i ≤ place → slice_index_or test.marks (i - 1) false ≡ (i == next)

-- the place is the first past another with a wrong mark, where the first boundary past that other is known
pub record IsFirstWrong (test : Test) (last next place : ℕ) : Type 0 where
  pub past : last < place
  pub up_to : place ≤ next
  pub wrong : slice_index_or test.marks (place - 1) false ≢ (place == next)
  pub right : AreRight test last next (place - 1)
