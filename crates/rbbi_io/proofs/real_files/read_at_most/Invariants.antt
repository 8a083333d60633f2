use Rattle.std.proofs.Common.{◌≡◌, ◌≤◌, length}
use Rattle.std.specs.Io.KnownBytes.{Consumes}
use Rattle.rbbi_io.proofs.real_files.read_at_most.Given as goal

-- no more bytes than the limit so far, these are what the reader lost, and no fault is kept
abbrev pub invariant-loop-turn : goal.invariant-loop-turn
invariant-loop-turn g l = record {
  few : length l.bytes.items ≤ l.limit;
  lost : Consumes (g.F.Read.remaining l.initial.reader) (g.F.Read.remaining l.reader) l.bytes.items;
  fault : l.fault ≡ l.initial.fault;
}
