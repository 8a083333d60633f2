use Rattle.std.proofs.Common.{◌-◌, ◌<◌, length, sym, ap, ◌∙◌, arith}
use Rattle.std.proofs.lemmas.List.{get_or_read}
use Rattle.rbbi_bits.specs.NumberedRows.{listed_row, items_of}
use Rattle.rbbi_bits.proofs.RowLists.{items_at, items_many}
use Rattle.rbbi_bits.proofs.Buckets.{unfound_start, unfound_next, same_rows, other_rows}
use Rattle.rbbi_bits.proofs.numbered.NumberedRows.find.Goals as goal

pub index-requires : goal.index-requires
index-requires c = omega (arith, c.requires.within, c.self.invariant.many_buckets, c.self.inside.newest.ok.0)

pub loop-at-init : goal.loop-at-init
loop-at-init c =
    unfound_start (items_of c.self.inside.rows.items) c.self.inside.newest.items c.self.inside.older.items c.self.invariant c.args.row.now c.args.bucket
    c.index.result.now c.requires.within
    (get_or_read c.self.inside.newest.items c.args.bucket c.index.result.now (omega (arith, c.requires.within, c.self.invariant.many_buckets))
    c.index.ensures 0)

pub returns-then-eq-clause-found : goal.returns-then-eq-clause-found
returns-then-eq-clause-found c =
    let many = items_many c.self.inside.rows.items in
    let short : c.loop-at.at - 1 < length c.self.inside.rows.items = omega (arith, many, c.loop-at.invariant.within, c.loop-at-test.true) in
    let at = items_at c.self.inside.rows.items (c.loop-at.at - 1) c.index-in-loop-at.result.now short c.index-in-loop-at.ensures in (
      omega (arith, short, many, ap length c.self.view_is),
      ap (λ l. listed_row l (c.loop-at.at - 1)) (sym c.self.view_is) ∙ at ∙ sym c.as_slice.ensures.value
          ∙ same_rows c.as_slice.result.now c.args.row.now c.eq.result c.eq.ensures c.if-eq.true,
    )

pub loop-at-preserved : goal.loop-at-preserved
loop-at-preserved c =
    let many = items_many c.self.inside.rows.items in
    let short : c.loop-at.at - 1 < length c.self.inside.rows.items = omega (arith, many, c.loop-at.invariant.within, c.loop-at-test.true) in
    let at = items_at c.self.inside.rows.items (c.loop-at.at - 1) c.index-in-loop-at.result.now short c.index-in-loop-at.ensures in
    unfound_next (items_of c.self.inside.rows.items) c.self.inside.newest.items c.self.inside.older.items c.self.invariant c.args.row.now c.args.bucket
    c.loop-at.at c.index-in-loop-at-2.result.now
    c.loop-at.invariant (omega arith) (λ same. other_rows c.as_slice.result.now c.args.row.now c.eq.result c.eq.ensures c.if-eq.false
    (c.as_slice.ensures.value ∙ sym at ∙ same))
    (get_or_read c.self.inside.older.items (c.loop-at.at - 1) c.index-in-loop-at-2.result.now
    (omega (arith, short, many, c.self.invariant.room, c.self.invariant.few)) c.index-in-loop-at-2.ensures 0)
