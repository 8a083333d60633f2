-- A run that is put before the others.
use Rattle.std.specs.Prelude.{◌≡◌, List, ◌∷◌}
use Rattle.rbbi_model.specs.Runs.{Run}
use Rattle.rbbi_cache.specs.Kept.{AreLeft}

-- the run stands first, and after it what is left of the runs that were kept before
pub record IsPutFirst (run : Run) (former now : List Run) : Type 0 where
  pub rest : List Run
  pub are : now ≡ run ∷ rest
  pub left : AreLeft run former rest
