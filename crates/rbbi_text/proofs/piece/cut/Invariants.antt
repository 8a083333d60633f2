use Rattle.std.proofs.Common.{◌≡◌, ◌≤◌, ◌++◌, length}
use Rattle.std.specs.List.{AllByRecursion}
use Rattle.rbbi_model.specs.Spelling.{joined}
use Rattle.rbbi_text.specs.Cuts.{IsFilled}
use Rattle.rbbi_text.proofs.piece.cut.Given as goal

abbrev pub invariant-loop-rest : goal.invariant-loop-rest
invariant-loop-rest l =
    (joined l.pieces.items ++ l.rest ≡ l.characters) × AllByRecursion IsFilled l.pieces.items × (256 ≤ length l.characters → 256 ≤ length l.rest)

abbrev pub decreases-loop-rest : goal.decreases-loop-rest
decreases-loop-rest l = length l.rest
