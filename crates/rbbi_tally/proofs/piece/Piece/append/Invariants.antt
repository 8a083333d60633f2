use Rattle.std.proofs.Common.{◌≡◌, ◌+◌, ◌-◌, ◌≤◌, ◌++◌, length, take, vec_len, vec_capacity}
use Rattle.rbbi_tally.specs.inner.Pieces.{segments_by, segments_in}
use Rattle.rbbi_tally.proofs.piece.Piece.append.Given as goal

-- so many of the segments are behind its own, and there is room for the rest
abbrev pub invariant-loop-kept : goal.invariant-loop-kept
invariant-loop-kept l =
    record {
      segments : segments_in l.self ≡ segments_in l.fn.self ++ take l.kept-index (segments_by l.start l.items);
      room : vec_len l.self.items + (length l.items - l.kept-index) ≤ vec_capacity l.self.items;
      start : l.self.start ≡ l.fn.self.start;
      reach : l.self.reach ≡ l.fn.self.reach;
    }
