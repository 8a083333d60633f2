use Rattle.std.proofs.Common.{refl, sym, subst}
use lib.Seq.{take-append-le}
use Rattle.std.specs.Io.KnownBytes.{Consumes}
use Rattle.std.proofs.KnownBytes.{Keeps-refl, Keeps-trans}
use Rattle.rbbi_io.proofs.Readers.{Consumes-late}
use Rattle.rbbi_io.proofs.real_files.read_some.Goals as goal

pub loop-turn-init : goal.loop-turn-init
loop-turn-init g c = record { bytes = Keeps-refl _; fault = refl }

pub returns-in-Ok-clause-bytes : goal.returns-in-Ok-clause-bytes
returns-in-Ok-clause-bytes g c =
    let read = c.in-Ok.ensures in
    subst (Consumes _ _) (sym (take-append-le _ _ _ read.bound.0)) (Consumes-late _ _ _ _ c.loop-turn.invariant.bytes read.bytes.0)

pub returns-then-ne-clause-bytes : goal.returns-then-ne-clause-bytes
returns-then-ne-clause-bytes g c = Keeps-trans _ _ _ c.loop-turn.invariant.bytes c.in-Err.ensures.bytes

pub loop-turn-preserved : goal.loop-turn-preserved
loop-turn-preserved g c = record {
  bytes = Keeps-trans _ _ _ c.loop-turn.invariant.bytes c.in-Err.ensures.bytes;
  fault = c.loop-turn.invariant.fault;
}

pub returns-clause-bytes : goal.returns-clause-bytes
returns-clause-bytes g c = c.loop-turn.invariant.bytes
