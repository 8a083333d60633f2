-- What may follow the words of a set.
use Rattle.std.specs.Prelude.{◌≡◌, ℕ, ◌+◌, ◌*◌, ◌<◌, ◌⊎◌, ◌↔◌, List, length, slice_index, IsTrue}
use Rattle.rbbi_model.specs.Places.{has_bit}
use Rattle.rbbi_bits.specs.BitRows.{Holds}
use Rattle.rbbi_bits.specs.NumberedRows.{listed_row}
use Rattle.rbbi_dfa.specs.inner.PositionRows.{PositionRows}

-- the position may follow one of those that the first so many bits of the word stand for, where it is word i of a set
abbrev pub FollowsBits : List (List ℕ) → ℕ → ℕ → ℕ → ℕ → Type 0
FollowsBits follow i word count next = (bit : ℕ) × (bit < count) × IsTrue (has_bit word bit) × Holds (listed_row follow (64 * i + bit)) next

-- the position may follow one of those of word i of a set
abbrev pub FollowsWord : List (List ℕ) → ℕ → ℕ → ℕ → Type 0
FollowsWord follow i word next = FollowsBits follow i word 64 next

-- what may follow the first so many bits of the word was added
abbrev pub AddsFollowers : List (List ℕ) → ℕ → ℕ → ℕ → List ℕ → List ℕ → Type 0
AddsFollowers follow i word count old new = (next : ℕ) → Holds new next ↔ (Holds old next ⊎ FollowsBits follow i word count next)

-- for each word what may follow it
pub record AreKept (rows : PositionRows) (words : List ℕ) (unions : List (List ℕ)) : Type 0 where
  pub many_words : length words ≡ rows.width
  pub many : length unions ≡ rows.width
  pub wide : (i : ℕ) → i < rows.width → length (listed_row unions i) ≡ rows.width
  pub each : (i : ℕ) → i < rows.width → (next : ℕ) → Holds (listed_row unions i) next ↔ FollowsWord rows.follow i (slice_index words i) next
