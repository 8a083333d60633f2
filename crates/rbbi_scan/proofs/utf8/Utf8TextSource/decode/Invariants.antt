use Rattle.std.proofs.Common.{◌-◌, length}
use Rattle.rbbi_model.specs.declared.unit.Unit.TheVariants.{Utf8}
use Rattle.rbbi_scan.specs.Decoded.{IsDecoded}
use Rattle.rbbi_scan.proofs.utf8.Utf8TextSource.decode.Given as goal

abbrev pub invariant-loop-decoded : goal.invariant-loop-decoded
invariant-loop-decoded l = IsDecoded Utf8 l.bytes l.chars l.ends l.decoded.count l.decoded.used

abbrev pub decreases-loop-decoded : goal.decreases-loop-decoded
decreases-loop-decoded l = length l.bytes - l.decoded.used
