-- The text that leads to a pair, from its end.
use Rattle.std.proofs.Common.{◌≡◌, ◌≢◌, ◌⊎◌, ℕ, ◌<◌, List, [], length, map}
use Rattle.rbbi_model.specs.Words.{IsText}
use Rattle.rbbi_model.specs.Tables.{Table, category_of, row_along}
use Rattle.rbbi_canon.specs.declared.pairs.Pair.{Pair}
use Rattle.rbbi_canon.specs.inner.Pairs.{pair_at}

-- the text leads from the one pair to the other
pub record IsLedFrom (these those : Table) (pairs : List Pair) (at number : ℕ) (w : List ℕ) : Type 0 where
  pub within : at < length pairs
  pub is_text : IsText w
  pub this : row_along these (pair_at pairs at).this (map (category_of these.ranges) w) ≡ (pair_at pairs number).this
  pub that : row_along those (pair_at pairs at).that (map (category_of those.ranges) w) ≡ (pair_at pairs number).that
  pub some : (at ≡ number) ⊎ (w ≢ [])
