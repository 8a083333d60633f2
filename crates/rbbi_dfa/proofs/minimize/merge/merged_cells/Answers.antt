use Rattle.std.proofs.Common.{◌≡◌, ◌<◌, ◌*◌, ◌/◌, ◌%◌, ℕ, slice_index, ap, ◌∙◌, subst, arith}
use Rattle.std.proofs.lemmas.Nat.{div_below}
use Rattle.std.proofs.lemmas.List.{get_or_read_under}
use Rattle.rbbi_model.specs.Tables.{Table, step}
use Rattle.rbbi_dfa.proofs.Merging.{HaveCells-more}
use Rattle.rbbi_dfa.proofs.minimize.merge.merged_cells.Goals as goal

pub loop-place-preserved : goal.loop-place-preserved
loop-place-preserved c =
    let automaton = c.args.automaton.now in
    let classes = c.args.partition.now.classes in
    let firsts = c.args.partition.now.firsts in
    let place = c.loop-place.place in
    let width = c.automaton.inside.categories in
    let width_is : c.automaton.inside.categories ≡ automaton.categories = ap (λ (table : Table). table.categories) c.automaton.view_is in
    let below : place < firsts.len * width = subst (λ (n : ℕ). place < n * width) c.len-2.ensures c.loop-place-test.true in
    let first_place : place / width < firsts.len = div_below place width firsts.len (omega (arith, width_is, c.requires.determined.some_categories)) below in
    let first_is : c.index-first.result.now ≡ slice_index firsts.items (place / width) =
    get_or_read_under firsts.items (place / width) firsts.len _ 0 c.index-first.ensures first_place firsts.ok.0 in
    let class_is : c.index.result.now ≡ slice_index classes.items c.next-next.result =
    get_or_read_under classes.items c.next-next.result classes.len _ 0 c.index.ensures
    (omega (arith, c.next-next.ensures.row, c.requires.minimized.partition.rows, classes.ok.0)) classes.ok.0 in
    HaveCells-more _ _ _ _ _ place _ c.loop-place.invariant
    (class_is
    ∙ ap (λ row. slice_index classes.items row) c.next-next.ensures.exact
    ∙ ap (λ row. slice_index classes.items (step automaton row (place % width))) first_is
    ∙ ap (λ n. slice_index classes.items (step automaton (slice_index firsts.items (place / n)) (place % n))) width_is)
    c.in_ok-push.ensures.items
