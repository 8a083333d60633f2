use Rattle.std.proofs.Common.{arith}
use Rattle.rbbi_cache.specs.inner.Parts.{right_part}
use Rattle.rbbi_cache.proofs.AddedParts.{left_out}
use Rattle.rbbi_cache.proofs.edited.add_right.Goals as goal

pub returns-then-len-eq0-clause-added : goal.returns-then-len-eq0-clause-added
returns-then-len-eq0-clause-added c =
    left_out c.args.next.now c.args.count c.copy_right.new.part
    (right_part c.args.edit.at c.args.edit.removed c.args.edit.inserted c.args.pair c.args.run.now) c.copy_right.ensures c.requires.most
    (omega (arith, c.len.ensures.exact, c.if-len-eq0.true))
