use Rattle.std.proofs.Common.{refl}
use Rattle.rbbi_change.proofs.Least.{least_of}
use Rattle.rbbi_change.proofs.Meeting.{cost_is}
use Rattle.rbbi_change.proofs.change.changed.Goals as goal

pub returns-clause-least : goal.returns-clause-least
returns-clause-least g c =
    least_of c.args.table.now (g.S.Chars.characters c.args.old.now) (g.T.Chars.characters c.args.new.now) c.args.edit c.part_ways-parting.result
    c.meet_again-old_to.result _ c.part_ways-parting.ensures.parted c.meet_again-old_to.ensures.last refl refl refl

pub returns-clause-within : goal.returns-clause-within
returns-clause-within g c = c.meet_again-old_to.ensures.last.within

pub returns-clause-read : goal.returns-clause-read
returns-clause-read g c =
    cost_is c.args.table.now (g.S.Chars.characters c.args.old.now) (g.T.Chars.characters c.args.new.now) c.args.edit c.requires.edited
    c.quiet_start-start.result c.quiet_start-start.ensures.quiet c.quiet_start-start.ensures.from c.part_ways-parting.result c.args.steps.now
    c.quiet_start-start.new.steps c.part_ways-parting.new.steps c.meet_again-old_to.new.steps c.quiet_start-start.ensures.more
    c.quiet_start-start.ensures.read c.part_ways-parting.ensures.read c.meet_again-old_to.ensures.read
