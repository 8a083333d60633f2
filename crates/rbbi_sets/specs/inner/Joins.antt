-- What a list of ranges gains at its end.
use Rattle.std.specs.Prelude.{◌≡◌, ℕ, Bool, ◌||◌, List}
use Rattle.rbbi_model.specs.Ranges.{Range}
use Rattle.rbbi_sets.specs.Covers.{covers}
use Rattle.rbbi_sets.specs.Rising.{AreRising}
use Rattle.rbbi_sets.specs.inner.Rising.{BeginUpTo}

-- the new list covers what the old one does and the added code points, rises, and begins no range past a code point
pub record Joins (old new : List Range) (added : ℕ → Bool) (low : ℕ) : Type 0 where
  pub members : (c : ℕ) → covers new c ≡ (covers old c || added c)
  pub rising : AreRising new
  pub begin : BeginUpTo new low
