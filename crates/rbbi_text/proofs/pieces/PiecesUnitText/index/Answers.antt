use Rattle.std.proofs.Common.{◌≡◌, ℕ, List, length, leb, min, sym, ap, ◌∙◌, subst}
use Rattle.rbbi_text.specs.Indexes.{IsIndex}
use Rattle.rbbi_text.specs.Milestones.{AreMilestones}
use Rattle.rbbi_text.specs.Weighed.{weight_of}
use Rattle.rbbi_text.proofs.MilestoneLemmas.{sums_are}
use Rattle.rbbi_text.proofs.Singles.{index_of_single}
use Rattle.rbbi_text.proofs.pieces.PiecesUnitText.index.Goals as goal

pub returns-then-is_single : goal.returns-then-is_single
returns-then-is_single c =
    let x : List ℕ = c.args.self.now in
    let o : ℕ = c.args.o in
    let long : c.self.inside.len ≡ length x = c.self.invariant.0.long ∙ ap length c.self.view_is in
    subst (λ n. IsIndex c.args.unit x o (record { at = n; whole = leb o c.self.inside.len })) (sym c.min.ensures)
    (subst (λ n. IsIndex c.args.unit x o (record { at = min o n; whole = leb o n })) (sym long)
    (index_of_single c.args.unit x (c.is_single.ensures c.if-is_single.true) o))

pub index_in-requires-clause-sums : goal.index_in-requires-clause-sums
index_in-requires-clause-sums c =
    sums_are weight_of c.deref.result.now c.self.inside.milestones.unit c.args.unit c.self.inside.milestones.sums.items c.sums_in-sums.result.now
    (subst (λ ps. AreMilestones (weight_of c.self.inside.milestones.unit) ps c.self.inside.milestones.sums.items) (sym c.deref.ensures.value)
    c.self.invariant.1) c.sums_in-sums.ensures
