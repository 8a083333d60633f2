-- How the pairs of a tailoring are kept.
use Rattle.std.specs.Prelude.{◌≡◌, ℕ, ◌≤◌, List, length, Option, None, slice_index_or}
use Rattle.std.specs.List.{AllByRecursion}
use Rattle.rbbi_model.specs.Words.{IsCharacter}
use Rattle.rbbi_filter.specs.declared.pair.Pair.{Pair}
use Rattle.rbbi_filter.specs.Pairs.{second_of}

-- for each character up to some one, the second of its pair, if it has one; characters past that have none
pub record AreSeconds (pairs : List Pair) (seconds : List (Option ℕ)) : Type 0 where
  pub few : length seconds ≤ 0x110000
  pub each : (c : ℕ) → slice_index_or seconds c None ≡ second_of pairs c
  pub characters : AllByRecursion (λ pair. IsCharacter pair.to) pairs
