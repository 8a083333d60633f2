use Rattle.std.proofs.Common.{sum, sym, ap, subst, ◌∙◌, arith}
use Rattle.rbbi_tally.specs.Counts.{segment_count}
use Rattle.rbbi_tally.specs.Tallies.{boundaries_of}
use Rattle.rbbi_tally.specs.inner.Pieces.{contents}
use Rattle.rbbi_tally.specs.inner.Tallied.{IsTallied, seen}
use Rattle.rbbi_tally.proofs.Totals.{counted_all, sum_small}
use Rattle.rbbi_tally.proofs.tally.TallyBy.segments.Goals as goal

pub total-requires : goal.total-requires
total-requires g c =
    let x = g.T.Chars.characters c.deref-counted.result.now.text in
    let inv = subst (λ k. IsTallied c.table-table.result.now (g.T.Chars.characters k.text) k.pieces.items k.counts.items k.marks) (sym c.deref-counted.ensures)
    (subst (λ t. IsTallied t (g.T.Chars.characters c.self.inside.counted.value.text) c.self.inside.counted.value.pieces.items
    c.self.inside.counted.value.counts.items c.self.inside.counted.value.marks) (sym c.table-table.ensures) c.self.invariant) in
    let few = sum_small c.table-table.result.now x c.valid.ensures (contents c.deref-counted.result.now.pieces.items) inv.segments c.deref-counted.result.now.counts.items inv.counted in
    omega (arith, few, c.len-short.ensures.most, ap sum c.deref.ensures.value)

pub returns : goal.returns
returns g c =
    let x = g.T.Chars.characters c.deref-counted.result.now.text in
    let inv = subst (λ k. IsTallied c.table-table.result.now (g.T.Chars.characters k.text) k.pieces.items k.counts.items k.marks) (sym c.deref-counted.ensures)
    (subst (λ t. IsTallied t (g.T.Chars.characters c.self.inside.counted.value.text) c.self.inside.counted.value.pieces.items
    c.self.inside.counted.value.counts.items c.self.inside.counted.value.marks) (sym c.table-table.ensures) c.self.invariant) in
    c.total.ensures ∙ ap sum c.deref.ensures.value
    ∙ counted_all c.table-table.result.now x c.valid.ensures (contents c.deref-counted.result.now.pieces.items) inv.segments c.deref-counted.result.now.counts.items inv.counted
    ∙ ap (λ tally. segment_count (boundaries_of tally)) (ap (λ k. seen c.table-table.result.now (g.T.Chars.characters k.text)) c.deref-counted.ensures
    ∙ ap (λ t. seen t (g.T.Chars.characters c.self.inside.counted.value.text)) c.table-table.ensures ∙ c.self.view_is)
