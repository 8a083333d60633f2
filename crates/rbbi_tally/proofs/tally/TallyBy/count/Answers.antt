use Rattle.std.proofs.Common.{length, sym, ap, ◌∙◌, subst, arith}
use Rattle.rbbi_tally.specs.Counts.{count}
use Rattle.rbbi_tally.specs.Tallies.{boundaries_of}
use Rattle.rbbi_tally.specs.inner.Pieces.{contents}
use Rattle.rbbi_tally.specs.inner.Tallied.{IsTallied, seen}
use Rattle.rbbi_tally.specs.inner.Values.{count_below}
use Rattle.rbbi_tally.proofs.Totals.{counted_value, value_small}
use Rattle.rbbi_tally.proofs.tally.TallyBy.count.Goals as goal

pub count_of-requires-clause-small : goal.count_of-requires-clause-small
count_of-requires-clause-small g c =
    let x = g.T.Chars.characters c.deref-counted.result.now.text in
    let table = c.table-table.result.now in
    let inv = subst (λ k. IsTallied c.table-table.result.now (g.T.Chars.characters k.text) k.pieces.items k.counts.items k.marks) (sym c.deref-counted.ensures)
    (subst (λ t. IsTallied t (g.T.Chars.characters c.self.inside.counted.value.text) c.self.inside.counted.value.pieces.items
    c.self.inside.counted.value.counts.items c.self.inside.counted.value.marks) (sym c.table-table.ensures) c.self.invariant) in
    let few = value_small table x c.valid.ensures (contents c.deref-counted.result.now.pieces.items) inv.segments c.deref-counted.result.now.counts.items inv.counted c.args.value in
    omega (arith, few, c.len-short.ensures.most, ap (λ ns. count_below table ns (length table.lists) c.args.value) c.deref.ensures.value)

pub returns : goal.returns
returns g c =
    let x = g.T.Chars.characters c.deref-counted.result.now.text in
    let table = c.table-table.result.now in
    let inv = subst (λ k. IsTallied c.table-table.result.now (g.T.Chars.characters k.text) k.pieces.items k.counts.items k.marks) (sym c.deref-counted.ensures)
    (subst (λ t. IsTallied t (g.T.Chars.characters c.self.inside.counted.value.text) c.self.inside.counted.value.pieces.items
    c.self.inside.counted.value.counts.items c.self.inside.counted.value.marks) (sym c.table-table.ensures) c.self.invariant) in
    c.count_of.ensures ∙ ap (λ ns. count_below table ns (length table.lists) c.args.value) c.deref.ensures.value
    ∙ counted_value table x c.valid.ensures (contents c.deref-counted.result.now.pieces.items) inv.segments c.deref-counted.result.now.counts.items inv.counted c.args.value
    ∙ ap (λ tally. count (boundaries_of tally) c.args.value) (ap (λ k. seen c.table-table.result.now (g.T.Chars.characters k.text)) c.deref-counted.ensures
    ∙ ap (λ t. seen t (g.T.Chars.characters c.self.inside.counted.value.text)) c.table-table.ensures ∙ c.self.view_is)
