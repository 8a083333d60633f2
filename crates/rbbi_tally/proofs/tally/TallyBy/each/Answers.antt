use Rattle.std.proofs.Common.{length, sym, ap, ◌∙◌, subst, arith}
use Rattle.std.specs.Prelude.{Vec}
use Rattle.std.specs.Global.{Global}
use Rattle.std.proofs.lemmas.Result.{IfOk-weaker}
use Rattle.rbbi_tally.specs.declared.counts.ValueCount.{ValueCount}
use Rattle.rbbi_tally.specs.Counts.{AreCounts}
use Rattle.rbbi_tally.specs.Tallies.{boundaries_of}
use Rattle.rbbi_tally.specs.inner.Pieces.{contents}
use Rattle.rbbi_tally.specs.inner.Tallied.{IsTallied, seen}
use Rattle.rbbi_tally.specs.inner.Values.{count_below, AreValues}
use Rattle.rbbi_tally.proofs.Totals.{counted_each, value_small}
use Rattle.rbbi_tally.proofs.tally.TallyBy.each.Goals as goal

pub values_of-requires-clause-small : goal.values_of-requires-clause-small
values_of-requires-clause-small g c =
    let x = g.T.Chars.characters c.deref-counted.result.now.text in
    let table = c.table-table.result.now in
    let inv = subst (λ k. IsTallied c.table-table.result.now (g.T.Chars.characters k.text) k.pieces.items k.counts.items k.marks) (sym c.deref-counted.ensures)
    (subst (λ t. IsTallied t (g.T.Chars.characters c.self.inside.counted.value.text) c.self.inside.counted.value.pieces.items
    c.self.inside.counted.value.counts.items c.self.inside.counted.value.marks) (sym c.table-table.ensures) c.self.invariant) in
    λ value.
    let few = value_small table x c.valid.ensures (contents c.deref-counted.result.now.pieces.items) inv.segments c.deref-counted.result.now.counts.items inv.counted value in
    omega (arith, few, c.len-short.ensures.most, ap (λ ns. count_below table ns (length table.lists) value) c.deref.ensures.value)

pub returns : goal.returns
returns g c =
    let x = g.T.Chars.characters c.deref-counted.result.now.text in
    let table = c.table-table.result.now in
    let inv = subst (λ k. IsTallied c.table-table.result.now (g.T.Chars.characters k.text) k.pieces.items k.counts.items k.marks) (sym c.deref-counted.ensures)
    (subst (λ t. IsTallied t (g.T.Chars.characters c.self.inside.counted.value.text) c.self.inside.counted.value.pieces.items
    c.self.inside.counted.value.counts.items c.self.inside.counted.value.marks) (sym c.table-table.ensures) c.self.invariant) in
    let lists = length table.lists in
    IfOk-weaker c.values_of.result (λ (pairs : Vec ValueCount Global). AreValues (count_below table c.deref.result.now lists) pairs.items)
    (λ pairs. AreCounts (boundaries_of c.args.self.now) pairs.items)
    (λ pairs values.
    subst (λ tally. AreCounts (boundaries_of tally) pairs.items) (ap (λ k. seen c.table-table.result.now (g.T.Chars.characters k.text)) c.deref-counted.ensures
    ∙ ap (λ t. seen t (g.T.Chars.characters c.self.inside.counted.value.text)) c.table-table.ensures ∙ c.self.view_is)
    (counted_each table x c.valid.ensures (contents c.deref-counted.result.now.pieces.items) inv.segments c.deref-counted.result.now.counts.items inv.counted pairs.items
    (subst (λ ns. AreValues (count_below table ns lists) pairs.items) c.deref.ensures.value values)))
    c.values_of.ensures
