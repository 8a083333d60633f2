use Rattle.std.proofs.Common.{◌≡◌, ◌<◌, List, ℕ, length, slice_index, map, nat_eq, ap, sym, ◌∙◌, arith}
use Rattle.std.proofs.lemmas.List.{get_or_read_under}
use Rattle.rbbi_model.specs.Tables.{step}
use Rattle.rbbi_dfa.specs.inner.Partitions.{leads_inside}
use Rattle.rbbi_dfa.proofs.Refining.{sides_differ}
use Rattle.rbbi_dfa.proofs.minimize.split_off.Goals as goal

pub returns-clause-grows : goal.returns-clause-grows
returns-clause-grows c =
    let automaton = c.args.automaton.now in
    let classes = c.args.partition.now.classes in
    let firsts = c.args.partition.now.firsts in
    let partition = c.requires.partition in
    let row = c.args.row in
    let category = c.args.category in
    let row_class : row < length classes.items = omega (arith, partition.rows, c.requires.row) in
    let class_is : c.index-class.result.now ≡ slice_index classes.items row =
    get_or_read_under classes.items row classes.len _ 0 c.index-class.ensures (omega (arith, row_class, classes.ok.0)) classes.ok.0 in
    let next_row : step automaton row category < length classes.items =
    omega (arith, c.next.ensures.exact, c.next.ensures.row, partition.rows) in
    let target_read : c.index-target.result.now ≡ slice_index classes.items c.next.result =
    get_or_read_under classes.items c.next.result classes.len _ 0 c.index-target.ensures (omega (arith, c.next.ensures.row, partition.rows, classes.ok.0))
    classes.ok.0 in
    let target_is = target_read ∙ ap (λ k. slice_index classes.items k) c.next.ensures.exact in
    let first = slice_index firsts.items (slice_index classes.items row) in
    let first_row : slice_index firsts.items (slice_index classes.items row) < length automaton.rows =
    omega (arith, partition.first_row (slice_index classes.items row) (partition.within row row_class), partition.rows) in
    let first_next : step automaton (slice_index firsts.items (slice_index classes.items row)) category < length classes.items =
    omega (
      arith,
      (c.requires.determined.each (slice_index firsts.items (slice_index classes.items row)) first_row).next category c.requires.category,
      partition.rows,
    ) in
    let inside_is = c.deref-2.ensures.value ∙ c.in_ok-inside.ensures.exact
    ∙ ap (λ (xs : List ℕ). map (λ of. nat_eq of c.index-target.result.now) xs) c.deref.ensures.value in
    let differ = sides_differ automaton classes.items _ c.index-target.result.now row (slice_index firsts.items (slice_index classes.items row)) category
    inside_is target_is next_row first_next c.requires.differs in
    c.in_ok-split.ensures.splits row c.requires.row (sym class_is)
    (λ e. differ (e ∙ ap (λ k. leads_inside automaton c.deref-2.result.now category (slice_index firsts.items k)) class_is))
