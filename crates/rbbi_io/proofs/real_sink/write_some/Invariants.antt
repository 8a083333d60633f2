use Rattle.std.specs.Io.KnownBytes.{Keeps}
use Rattle.rbbi_io.proofs.real_sink.write_some.Given as goal

-- the writer took nothing so far
abbrev pub invariant-loop : goal.invariant-loop
invariant-loop g l = Keeps (g.W.Write.contents l.initial.out) (g.W.Write.contents l.out)
