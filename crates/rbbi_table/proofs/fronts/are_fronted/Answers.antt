use Rattle.std.proofs.Common.{sym, subst, ⊎_elim, arith}
use Rattle.std.proofs.lemmas.Bool.{cases_eq}
use Rattle.rbbi_model.specs.Tables.{Table}
use Rattle.rbbi_table.specs.Parts.{table_of}
use Rattle.rbbi_table.specs.inner.Fronts.{IsFronted}
use Rattle.rbbi_table.proofs.Truth.{refuted, granted, fails}
use Rattle.rbbi_table.proofs.RowLemmas.{steps_within, front_of, all_fronted}
use Rattle.rbbi_table.proofs.fronts.are_fronted.Goals as goal

pub is_fronted-requires-clause-steps : goal.is_fronted-requires-clause-steps
is_fronted-requires-clause-steps c =
    steps_within (table_of c.args.parts.now) c.as_slice-rows.result.now c.as_slice-cells.result.now c.as_slice-rows.ensures c.as_slice-cells.ensures
    c.requires.cells c.requires.rows

pub returns-then-not-fronted : goal.returns-then-not-fronted
returns-then-not-fronted c =
    let table : Table = table_of c.args.parts.now in
    refuted (λ fronted.
    fails c.in_ok-fronted.fronted c.in_ok-fronted.ensures c.if-not-fronted.true
    ((front_of table c.as_slice-rows.result.now c.as_slice-cells.result.now c.loop-slash.slash c.as_slice-rows.ensures c.as_slice-cells.ensures).1
    (λ way is completed. fronted way c.loop-slash.slash is completed)))

pub loop-slash-preserved : goal.loop-slash-preserved
loop-slash-preserved c = λ slash low.
    let table : Table = table_of c.args.parts.now in
    ⊎_elim
    (λ same.
    subst (λ n. IsFronted table n) (sym same)
    ((front_of table c.as_slice-rows.result.now c.as_slice-cells.result.now c.loop-slash.slash c.as_slice-rows.ensures c.as_slice-cells.ensures).0
    (c.in_ok-fronted.ensures.0 c.if-not-fronted.false)))
    (λ other. c.loop-slash.invariant slash (omega arith))
    (cases_eq slash c.loop-slash.slash)

pub returns : goal.returns
returns c =
    let table : Table = table_of c.args.parts.now in
    granted (all_fronted table c.requires.rows (λ slash low. c.loop-slash.invariant slash (omega (arith, low, c.loop-slash-test.false))))
