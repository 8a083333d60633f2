use Rattle.std.proofs.Common.{◌≡◌, length, take, drop, map}
use Rattle.std.specs.Prelude.{vec_capacity}
use Rattle.rbbi_tally.specs.inner.Segments.{moved}
use Rattle.rbbi_tally.specs.inner.Pieces.{ArePieces, contents}
use Rattle.rbbi_tally.proofs.commit.shift_behind.Given as goal

-- the pieces before a number are moved, and those from there on are as before
abbrev pub invariant-loop-k : goal.invariant-loop-k
invariant-loop-k l =
    record {
      are_pieces : ArePieces l.pieces.items;
      len : length l.pieces.items ≡ length l.fn.pieces.items;
      room : vec_capacity l.pieces ≡ vec_capacity l.fn.pieces;
      before : take l.past l.pieces.items ≡ take l.past l.fn.pieces.items;
      behind : drop l.k l.pieces.items ≡ drop l.k l.fn.pieces.items;
      done : contents (drop l.past (take l.k l.pieces.items)) ≡ map (moved l.edit.removed l.edit.inserted) (contents (drop l.past (take l.k l.fn.pieces.items)));
    }
