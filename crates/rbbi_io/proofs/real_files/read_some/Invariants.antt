use Rattle.std.proofs.Common.{◌≡◌}
use Rattle.std.specs.Io.KnownBytes.{Keeps}
use Rattle.rbbi_io.proofs.real_files.read_some.Given as goal

-- the reader lost nothing so far, and no fault is kept
abbrev pub invariant-loop-turn : goal.invariant-loop-turn
invariant-loop-turn g l = record {
  bytes : Keeps (g.F.Read.remaining l.initial.file) (g.F.Read.remaining l.file);
  fault : l.fault ≡ l.initial.fault;
}
