use Rattle.std.proofs.Common.{◌≡◌, ◌+◌, ◌++◌, length, drop}
use Rattle.rbbi_model.specs.Spelling.{joined}
use Rattle.rbbi_text.specs.Cuts.{starts_from}
use Rattle.rbbi_text.proofs.places.push_starts.Given as goal

-- what is there and what is left
abbrev pub invariant-loop-piece : goal.invariant-loop-piece
invariant-loop-piece l =
    (l.starts.items ++ starts_from l.start (drop l.piece-index l.pieces) ≡ l.initial.starts.items ++ starts_from l.initial.start l.pieces)
    × (l.start + length (joined (drop l.piece-index l.pieces)) ≡ l.initial.start + length (joined l.pieces))
