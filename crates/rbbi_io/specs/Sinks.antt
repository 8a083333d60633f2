-- What a sink has taken, where it tells it.
use Rattle.std.specs.Prelude.{◌≡◌, ◌≤◌, ◌++◌, ℕ, List, length, take, Option, option_map}

-- a sink took these bytes between two moments, and nothing else
abbrev pub Takes : Option (List ℕ) → Option (List ℕ) → List ℕ → Type 0
Takes before now bytes = now ≡ option_map (λ taken. taken ++ bytes) before

-- a sink took a prefix of these bytes, and nothing else
abbrev pub TakesFront : Option (List ℕ) → Option (List ℕ) → List ℕ → Type 0
TakesFront before now bytes = (n : ℕ) × (n ≤ length bytes) × Takes before now (take n bytes)

-- Of the bytes that were made, a sink took a prefix between two moments, and the others wait.
pub record IsBuffered (before now : Option (List ℕ)) (made waiting : List ℕ) : Type 0 where
  pub flushed : List ℕ
  pub taken : Takes before now flushed
  pub parts : made ≡ flushed ++ waiting

-- a writer that is used as a sink, and how many of its puts failed
pub record WriterWithFaults (W : Type 0) : Type 0 where
  pub out : W
  pub faults : ℕ
