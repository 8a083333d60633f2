use Rattle.std.proofs.Common.{◌+◌}
use Rattle.rbbi_model.specs.declared.unit.Unit.TheVariants.{Utf8}
use Rattle.rbbi_scan.specs.Decoded.{IsDecoded}
use Rattle.rbbi_scan.proofs.utf8.decode_ascii.Given as goal

abbrev pub invariant-loop-k : goal.invariant-loop-k
invariant-loop-k l = IsDecoded Utf8 l.bytes l.chars l.ends (l.fn.decoded.count + l.k) (l.fn.decoded.used + l.k)
