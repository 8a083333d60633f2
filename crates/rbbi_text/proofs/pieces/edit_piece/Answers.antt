use Rattle.std.proofs.Common.{chars}
use Rattle.rbbi_text.proofs.MilestoneLemmas.{old_in_milestones, new_in_milestones, milestones_after}
use Rattle.rbbi_text.proofs.pieces.edit_piece.Goals as goal

pub shift_milestones-requires-clause-behind : goal.shift_milestones-requires-clause-behind
shift_milestones-requires-clause-behind c =
    old_in_milestones c.args.milestones.now.unit c.args.pieces.now.items c.args.milestones.now.sums.items c.args.first c.requires.milestones
    c.requires.number c.units-old.result c.index.result.now c.index.ensures c.units-old.ensures

pub shift_milestones-requires-clause-small : goal.shift_milestones-requires-clause-small
shift_milestones-requires-clause-small c =
    new_in_milestones c.args.milestones.now.unit c.args.pieces.now.items c.args.milestones.now.sums.items c.args.first c.requires.milestones
    c.requires.number c.units-new.result c.index-2.result.now c.put.new.self c.index_mut.result.now (chars c.args.insert.now) c.args.from c.args.remove
    c.requires.short c.index-2.ensures c.units-new.ensures c.in_ok-put.ensures.ok c.index_mut.ensures.value c.requires.within c.requires.few

pub returns-clause-milestones : goal.returns-clause-milestones
returns-clause-milestones c =
    milestones_after c.args.milestones.now.unit c.args.pieces.now.items c.args.milestones.now.sums.items c.args.first c.requires.milestones
    c.requires.number c.units-old.result c.units-new.result c.index.result.now c.index-2.result.now c.put.new.self c.shift_milestones.new.sums.items
    c.index.ensures c.units-old.ensures c.index-2.ensures c.units-new.ensures c.shift_milestones.ensures
