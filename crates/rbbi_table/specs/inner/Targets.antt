-- The rows that open rows lead to by a category, and whether these lead on to one row.
use Rattle.std.specs.Prelude.{◌≡◌, ℕ, ◌+◌, ◌*◌, ◌<◌, ◌≤◌, ◌⊎◌, ◌↔◌, IsTrue, Bool, true, false, List, length, slice_index, slice_index_or, count_by}
use Rattle.rbbi_model.specs.Tables.{Table, step}
use Rattle.rbbi_model.specs.SafePairs.{IsOpen, IsSafePair, stored_bit}

-- these are the rows that open rows lead to by the category
pub record AreTargets (table : Table) (category : ℕ) (targets : List ℕ) : Type 0 where
  pub all : (row : ℕ) → row < length table.rows → IsOpen table row → (i : ℕ) × (i < length targets) × (slice_index targets i ≡ step table row category)
  pub only : (i : ℕ) → i < length targets → (row : ℕ) × (row < length table.rows) × IsOpen table row × (step table row category ≡ slice_index targets i)

-- each row that was seen is among the targets, and they are as many
pub record IsGathered (seen : List Bool) (targets : List ℕ) : Type 0 where
  pub each : (target : ℕ) → target < length seen → slice_index_or seen target false ≡ true → (i : ℕ) × (i < length targets) × (slice_index targets i ≡ target)
  pub count : length targets ≡ count_by (λ is. is) seen

-- the new targets are the old ones, and the target is among them
pub record AddsTarget (old : List ℕ) (target : ℕ) (new : List ℕ) : Type 0 where
  pub has : (i : ℕ) × (i < length new) × (slice_index new i ≡ target)
  pub keeps : (i : ℕ) → i < length old → (i < length new) × (slice_index new i ≡ slice_index old i)
  pub only : (i : ℕ) → i < length new → ((i < length old) × (slice_index new i ≡ slice_index old i)) ⊎ (slice_index new i ≡ target)

-- all of the rows lead to one row by the category
abbrev pub LeadToOne : Table → ℕ → List ℕ → Type 0
LeadToOne table category targets = (goal : ℕ) × ((i : ℕ) → i < length targets → step table (slice_index targets i) category ≡ goal)

-- the bits below a number are those of the safe pairs, and none is set from there on
pub record AreFirstPairs (table : Table) (bytes : List ℕ) (count : ℕ) : Type 0 where
  pub exactly : (first second : ℕ) → first < table.categories → second < table.categories → first * table.categories + second < count →
      IsTrue (stored_bit bytes (first * table.categories + second)) ↔ IsSafePair table first second
  pub none : (i : ℕ) → count ≤ i → ¬ IsTrue (stored_bit bytes i)
