-- Values of statuses with their counts, while they are gathered list by list.
use Rattle.std.specs.Prelude.{◌≡◌, ℕ, zero, suc, ◌+◌, ◌<◌, List, map, sum_by, ◌==◌, if◌then◌else◌, slice_index}
use Rattle.std.specs.List.{AllByRecursion}
use Rattle.rbbi_model.specs.Places.{largest}
use Rattle.rbbi_model.specs.Lists.{IsRising}
use Rattle.rbbi_model.specs.Tables.{Table, statuses_of}
use Rattle.rbbi_tally.specs.declared.counts.ValueCount.{ValueCount}

-- how many segments have one of the first so many status lists, and this value as the largest status
abbrev pub count_below : Table → List ℕ → ℕ → ℕ → ℕ
count_below table counts zero value = 0
count_below table counts (suc lists) value =
    count_below table counts lists value + (if largest (statuses_of table lists) == value then slice_index counts lists else 0)

-- the count of a value among the pairs
abbrev pub sum_at : List ValueCount → ℕ → ℕ
sum_at pairs value = sum_by (λ pair. if pair.value == value then pair.count else 0) pairs

-- the values rise, no count is 0, and each value has this count
pub record AreValues (count : ℕ → ℕ) (pairs : List ValueCount) : Type 0 where
  pub rising : IsRising (map (λ pair. pair.value) pairs)
  pub positive : AllByRecursion (λ pair. 0 < pair.count) pairs
  pub at : (value : ℕ) → sum_at pairs value ≡ count value
