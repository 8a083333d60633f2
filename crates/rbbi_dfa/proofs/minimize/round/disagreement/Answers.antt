use Rattle.std.proofs.Common.{◌≡◌, ◌<◌, slice_index, arith, ap, ◌∙◌}
use Rattle.std.proofs.lemmas.List.{get_or_read_under}
use borrow.Author.Count.{below_more}
use Rattle.rbbi_model.specs.Tables.{Table, step}
use Rattle.rbbi_dfa.proofs.minimize.round.disagreement.Goals as goal

pub loop-row-preserved : goal.loop-row-preserved
loop-row-preserved c =
    let partition = c.args.partition.now in
    let row_of : c.loop-row.row < partition.classes.len =
    omega (arith, c.loop-row-test.true, c.rows-row-end.ensures, c.requires.partition.rows, partition.classes.ok.0) in
    let class_is : c.index.result.now ≡ slice_index partition.classes.items c.loop-row.row =
    get_or_read_under partition.classes.items c.loop-row.row partition.classes.len _ 0 c.index.ensures row_of partition.classes.ok.0 in
    let class_of : c.index.result.now < partition.firsts.len =
    omega (arith, class_is, c.requires.partition.within c.loop-row.row (omega (arith, row_of, partition.classes.ok.0)), partition.firsts.ok.0) in
    let first_is : c.index-first.result.now ≡ slice_index partition.firsts.items c.index.result.now =
    get_or_read_under partition.firsts.items c.index.result.now partition.firsts.len _ 0 c.index-first.ensures class_of partition.firsts.ok.0 in
    let first = first_is ∙ ap (λ k. slice_index partition.firsts.items k) class_is in
    λ row category h k.
    below_more
    (λ row. slice_index partition.classes.items (step c.args.automaton.now row category)
    ≡ slice_index partition.classes.items (step c.args.automaton.now (slice_index partition.firsts.items (slice_index partition.classes.items row)) category))
    c.loop-row.row
    (λ row h. c.loop-row.invariant row category h k)
    (c.in_default.ensures category k
    ∙ ap (λ row. slice_index partition.classes.items (step c.args.automaton.now row category)) first)
    row h
