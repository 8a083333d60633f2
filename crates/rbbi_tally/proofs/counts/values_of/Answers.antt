use Rattle.std.proofs.Common.{◌≡◌, ◌+◌, ◌<◌, cond, eqb, length, get_or, sym, ap, ◌∙◌, subst, arith}
use Rattle.rbbi_model.specs.Places.{largest}
use Rattle.rbbi_model.specs.Tables.{statuses_of}
use Rattle.rbbi_tally.specs.inner.Values.{count_below, AreValues}
use Rattle.rbbi_tally.proofs.Values.{count_below_grows, count_below_one, count_below_here, values_same}
use Rattle.rbbi_tally.proofs.counts.values_of.Goals as goal

pub add-requires : goal.add-requires
add-requires c =
    let table = c.args.table.now in
    let counts = c.args.counts.now in
    let list = c.loop-list.list in
    let short : list < length table.lists = omega (arith, c.lists-list-end.ensures, c.loop-list-test.true) in
    let value : c.greatest.result ≡ largest (statuses_of table list) = c.greatest.ensures ∙ ap largest c.status_list.ensures in
    let grows = count_below_grows table counts c.greatest.result (list + 1) (length table.lists) (omega arith) in
    let here = count_below_here table counts list c.greatest.result (sym value) in
    omega (arith, c.loop-list.invariant.at c.greatest.result, c.requires.small c.greatest.result)

pub loop-list-preserved : goal.loop-list-preserved
loop-list-preserved c =
    let table = c.args.table.now in
    let counts = c.args.counts.now in
    let list = c.loop-list.list in
    let value : c.greatest.result ≡ largest (statuses_of table list) = c.greatest.ensures ∙ ap largest c.status_list.ensures in
    values_same (λ v. count_below table counts list v + cond (eqb c.greatest.result v) (get_or counts list 0) 0) (count_below table counts (list + 1))
    c.add.new.pairs.items
    (λ v. ap (λ n. count_below table counts list v + cond (eqb n v) (get_or counts list 0) 0) value ∙ sym (count_below_one table counts list v))
    (c.in_ok-add.ensures (count_below table counts list) c.loop-list.invariant)

pub returns : goal.returns
returns c =
    let last : c.loop-list.list ≡ length c.args.table.now.lists = omega (arith, c.lists-list-end.ensures, c.loop-list-test.false) in
    subst (λ n. AreValues (count_below c.args.table.now c.args.counts.now n) c.loop-list.pairs.items) last c.loop-list.invariant
