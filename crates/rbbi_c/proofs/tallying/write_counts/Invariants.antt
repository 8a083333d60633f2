use Rattle.std.proofs.Common.{map, take}
use Rattle.rbbi_c.specs.Copying.{IsCopied}
use Rattle.rbbi_c.proofs.tallying.write_counts.Given as goal

-- the first pairs are written
abbrev pub invariant-loop-i : goal.invariant-loop-i
invariant-loop-i l = record {
  statuses : IsCopied (map (λ pair. pair.value) (take l.i l.list)) l.initial.statuses l.statuses;
  counts : IsCopied (map (λ pair. pair.count) (take l.i l.list)) l.initial.counts l.counts;
}
