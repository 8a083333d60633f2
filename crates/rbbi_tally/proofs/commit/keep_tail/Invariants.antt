use Rattle.std.proofs.Common.{◌≡◌, ◌+◌, ◌-◌, ◌≤◌, ◌++◌, length, drop, map, vec_len, vec_capacity}
use Rattle.std.specs.List.{AllByRecursion}
use Rattle.rbbi_tally.specs.inner.Segments.{moved}
use Rattle.rbbi_tally.specs.inner.Pieces.{segments_by, segments_in}
use Rattle.rbbi_tally.specs.inner.Editing.{CanMove}
use Rattle.rbbi_tally.proofs.commit.keep_tail.Given as goal

-- what is added and what is left
abbrev pub invariant-loop-k : goal.invariant-loop-k
invariant-loop-k l =
    record {
      parts : segments_by l.start l.items.items ++ map (moved l.edit.removed l.edit.inserted) (drop l.k (segments_in l.piece))
          ≡ segments_by l.start l.fn.items.items ++ map (moved l.edit.removed l.edit.inserted) (drop l.met.item (segments_in l.piece));
      room : vec_len l.items + (length l.piece.items.items - l.k) ≤ vec_capacity l.items;
      movable : AllByRecursion (CanMove l.edit l.start) (drop l.k (segments_in l.piece));
    }
