use Rattle.std.proofs.Common.{arith}
use Rattle.rbbi_text.proofs.Digits.{last_four}
use Rattle.rbbi_text.proofs.counter.write_four.Goals as goal

pub returns : goal.returns
returns c = last_four c.args.digits.now _ _ _ _ (omega arith)
