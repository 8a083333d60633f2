use Rattle.std.proofs.Common.{◌≡◌, ◌<◌, slice_index, arith, ap, sym, ◌∙◌}
use Rattle.std.proofs.lemmas.List.{get_or_read_under}
use borrow.Author.Count.{below_more}
use Rattle.rbbi_model.specs.Tables.{step}
use Rattle.rbbi_dfa.proofs.minimize.round.difference.Goals as goal

pub loop-category-preserved : goal.loop-category-preserved
loop-category-preserved c =
    let classes = c.args.partition.now.classes in
    let this_low : c.next.result < classes.len = omega (arith, c.next.ensures.row, c.requires.partition.rows, classes.ok.0) in
    let that_low : c.next-in-loop-category.result < classes.len =
    omega (arith, c.next-in-loop-category.ensures.row, c.requires.partition.rows, classes.ok.0) in
    let this_is : c.index-class.result.now ≡ slice_index classes.items c.next.result =
    get_or_read_under classes.items c.next.result classes.len _ 0 c.index-class.ensures this_low classes.ok.0 in
    let that_is : c.index.result.now ≡ slice_index classes.items c.next-in-loop-category.result =
    get_or_read_under classes.items c.next-in-loop-category.result classes.len _ 0 c.index.ensures that_low classes.ok.0 in
    below_more
    (λ category. slice_index classes.items (step c.args.automaton.now c.args.this category)
    ≡ slice_index classes.items (step c.args.automaton.now c.args.that category))
    c.loop-category.category c.loop-category.invariant
    (ap (λ k. slice_index classes.items k) (sym c.next.ensures.exact) ∙ sym this_is ∙ c.if-class-index.false ∙ that_is
    ∙ ap (λ k. slice_index classes.items k) c.next-in-loop-category.ensures.exact)
