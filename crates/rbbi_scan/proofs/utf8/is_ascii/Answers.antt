use Rattle.std.proofs.Common.{arith, below_more}
use Rattle.std.proofs.lemmas.Bool.Decides.{nat_tests}
use Rattle.rbbi_scan.proofs.Decoding.{ascii_below}
use Rattle.rbbi_scan.proofs.utf8.is_ascii.Goals as goal

pub loop-byte-preserved : goal.loop-byte-preserved
loop-byte-preserved c = below_more _ _ (λ k h. omega (arith, c.loop-byte.invariant k h)) (omega arith)

pub returns : goal.returns
returns c = λ small. ascii_below c.args.bytes.now c.loop-byte.greatest (λ k h. c.loop-byte.invariant k (omega arith)) (grind (arith, nat_tests))
