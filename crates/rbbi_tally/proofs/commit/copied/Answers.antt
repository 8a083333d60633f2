use Rattle.std.proofs.Common.{◌+◌, ◌≤◌, ◌++◌, ◌∷◌, [], get_or, sym, ap, ◌∙◌, subst, arith}
use Rattle.std.specs.List.{AllByRecursion}
use Rattle.std.proofs.lemmas.List.{take_all, length-map}
use Rattle.rbbi_model.proofs.Lists.{all_through}
use Rattle.rbbi_tally.specs.inner.Segments.{Segment}
use Rattle.rbbi_tally.specs.inner.Editing.{FitText}
use Rattle.rbbi_tally.specs.inner.Pieces.{segment_of, segments_by, most_looked}
use Rattle.rbbi_tally.proofs.PieceLists.{take_map_more, no_item, segments_push, same_segment}
use Rattle.rbbi_tally.proofs.Copying.{rising_first}
use Rattle.rbbi_tally.proofs.commit.copied.Goals as goal

pub overflow_sub-at : goal.overflow_sub-at
overflow_sub-at c =
    omega (arith, c.at.ensures.value, c.at-first.ensures.value, rising_first c.args.items.now c.loop-kept.kept-index c.requires.rise c.loop-kept-test.true)

pub loop-kept-preserved : goal.loop-kept-preserved
loop-kept-preserved c =
    let i = c.loop-kept.kept-index in
    let items = c.args.items.now in
    let s : Segment = segment_of c.args.start (get_or items i no_item) in
    let least = rising_first items i c.requires.rise c.loop-kept-test.true in
    segments_push (c.args.start + c.at-first.result) c.loop-kept.own.items c.push.new.self.items c.new.result s c.in_ok-push.ensures.items
    (same_segment (segment_of (c.args.start + c.at-first.result) c.new.result) s
    (omega (arith, c.new.ensures.at, c.at.ensures.value, c.at-first.ensures.value, least))
    (omega (arith, c.new.ensures.at, c.new.ensures.ahead, c.at.ensures.value, c.ahead.ensures.value, c.at-first.ensures.value, least))
    (c.new.ensures.list ∙ c.list.ensures.value))
    ∙ ap (λ l. l ++ s ∷ []) c.loop-kept.invariant
    ∙ sym (take_map_more (segment_of c.args.start) items i no_item c.loop-kept-test.true)

pub new-requires-2-clause-small : goal.new-requires-2-clause-small
new-requires-2-clause-small c =
    let all = segments_by c.args.start c.args.items.now in
    let is = c.loop-kept.invariant
    ∙ take_all c.loop-kept.kept-index all (omega (arith, length-map c.args.items.now (segment_of c.args.start), c.loop-kept-test.false)) in
    subst (λ l. AllByRecursion (λ s. s.look ≤ most_looked) l) (sym is)
    (all_through FitText (λ (s : Segment). s.look ≤ most_looked) (λ s fit. fit.look) all c.requires.small)
