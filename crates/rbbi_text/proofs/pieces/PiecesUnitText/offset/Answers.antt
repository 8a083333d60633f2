use Rattle.std.proofs.Common.{sym, subst}
use Rattle.rbbi_text.specs.Milestones.{AreMilestones}
use Rattle.rbbi_text.specs.Weighed.{weight_of}
use Rattle.rbbi_text.proofs.MilestoneLemmas.{sums_are}
use Rattle.rbbi_text.proofs.Singles.{offset_of_single}
use Rattle.rbbi_text.proofs.pieces.PiecesUnitText.offset.Goals as goal

pub returns-then-is_single : goal.returns-then-is_single
returns-then-is_single c = sym (offset_of_single c.args.unit c.args.self.now (c.is_single.ensures c.if-is_single.true) c.args.i c.requires)

pub offset_in-requires-clause-sums : goal.offset_in-requires-clause-sums
offset_in-requires-clause-sums c =
    sums_are weight_of c.deref.result.now c.self.inside.milestones.unit c.args.unit c.self.inside.milestones.sums.items c.sums_in-sums.result.now
    (subst (λ ps. AreMilestones (weight_of c.self.inside.milestones.unit) ps c.self.inside.milestones.sums.items) (sym c.deref.ensures.value)
    c.self.invariant.1) c.sums_in-sums.ensures
