use Rattle.std.proofs.Common.{◌≡◌, ◌++◌}
use Rattle.rbbi_model.specs.Spelling.{joined}
use Rattle.rbbi_text.specs.inner.Cuts.{AreSoFar}
use Rattle.rbbi_text.proofs.piece.pieces_of.Given as goal

-- the characters so far, in full pieces and the latest
abbrev pub invariant-loop-c : goal.invariant-loop-c
invariant-loop-c l = AreSoFar l.pieces.items l.latest.items × (joined l.pieces.items ++ l.latest.items ≡ l.yielded)
