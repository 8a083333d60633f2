-- A scan that is fed through a handle.
use Rattle.std.specs.Prelude.{◌≡◌, false, Bool, List, ℕ, Result, Ok, Err, OnOk, OnErr, MatchResult}
use Rattle.rbbi_model.specs.declared.unit.Unit.{Unit as TextUnit}
use Rattle.rbbi_scan.specs.Feeding.{IsFed, IsStill, IsNotFed}
use Rattle.rbbi_scan.specs.declared.feeding.NotFed.{NotFed}
use Rattle.rbbi_scan.specs.declared.scanner.Scanner.{Scanner}
use Rattle.rbbi_c.specs.Feeding.{IsFedOrStill}

-- the piece was fed, or nothing was
pub fed_or_still : (unit : TextUnit) (piece : List ℕ) (is_last : Bool) (old new : Scanner) (outcome : Result (Unit {0}) NotFed)
    → OnOk outcome (IsFed unit piece is_last old new) → MatchResult outcome (λ _. old.is_last ≡ false) (IsNotFed unit old)
    → OnErr outcome (IsStill old new) → IsFedOrStill unit piece is_last old new outcome
fed_or_still unit piece is_last old new (Ok value) fed first still = (first, fed)
fed_or_still unit piece is_last old new (Err why) fed refused still = (refused, still)
