use Rattle.std.proofs.Common.{◌≤◌, ◌-◌, length, take}
use Rattle.rbbi_io.specs.Puts.{ArePut}
use Rattle.rbbi_io.specs.Sinks.{Takes}
use Rattle.rbbi_io.proofs.sink.put_all.Given as goal

-- the sink took the bytes before `at`, by puts of which none was refused, and its count went on
abbrev pub invariant-loop-at : goal.invariant-loop-at
invariant-loop-at g l = record {
  within : l.at ≤ length l.bytes;
  taken : Takes (g.K.Sink.taken l.initial.out) (g.K.Sink.taken l.out) (take l.at l.bytes);
  faults : g.K.Sink.faults l.initial.out ≤ g.K.Sink.faults l.out;
  puts : ArePut g.K.Sink.put_gives l.bytes l.initial.out l.at l.out;
}

-- the bytes that are left
abbrev pub decreases-loop-at : goal.decreases-loop-at
decreases-loop-at g l = length l.bytes - l.at
