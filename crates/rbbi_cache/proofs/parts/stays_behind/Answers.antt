use Rattle.std.proofs.Common.{arith}
use Rattle.rbbi_cache.proofs.Staying.{stays_behind_so}
use Rattle.rbbi_cache.proofs.parts.stays_behind.Goals as goal

pub returns : goal.returns
returns c so =
    stays_behind_so c.args.edit.at c.args.edit.removed c.args.edit.inserted c.args.run.now
    (omega (arith, c.anchor.ensures)) (omega (arith, c.anchor-else-anchor-eq0.ensures)) (omega arith) c.requires.movable (omega (arith, c.len.ensures.exact))
