use Rattle.std.proofs.Common.{arith}
use Rattle.rbbi_cache.specs.Edits.{left_part}
use Rattle.rbbi_cache.proofs.AddedParts.{none_added, left_out}
use Rattle.rbbi_cache.proofs.edited.add_left.Goals as goal

pub returns-then-len-eq0-clause-added : goal.returns-then-len-eq0-clause-added
returns-then-len-eq0-clause-added c =
    left_out c.args.next.now c.args.count c.copy_left.new.part (left_part c.args.edit.at c.args.run.now) c.copy_left.ensures c.requires.most
    (omega (arith, c.len.ensures.exact, c.if-len-eq0.true))

pub returns-then-has_no_left-clause-added : goal.returns-then-has_no_left-clause-added
returns-then-has_no_left-clause-added c =
    none_added c.args.next.now c.args.count (left_part c.args.edit.at c.args.run.now) c.requires.most (c.has_no_left.ensures c.if-has_no_left.true)
