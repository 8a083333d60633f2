use Rattle.std.proofs.Common.{length, ◌≤◌, get_or, subst, ap, arith}
use Rattle.std.specs.List.{AllByRecursion}
use Rattle.std.proofs.lemmas.List.{drop_all, length-map}
use Rattle.rbbi_model.proofs.Lists.{all_drop}
use Rattle.rbbi_tally.specs.inner.Pieces.{segment_of, segments_by, farthest, most_looked}
use Rattle.rbbi_tally.proofs.PieceLists.{drop_map_more, no_item}
use Rattle.rbbi_tally.proofs.piece.reach_of.Goals as goal
use Rattle.rbbi_tally.proofs.piece.reach_of.Goals.{In-loop-kept}

small : (c : In-loop-kept) → (segment_of c.args.start (get_or c.args.items.now c.loop-kept.kept-index no_item)).look ≤ most_looked
small c =
    let here = drop_map_more (segment_of c.args.start) c.args.items.now c.loop-kept.kept-index no_item (omega arith) in
    (subst (λ l. AllByRecursion (λ s. s.look ≤ most_looked) l) here (all_drop (λ s. s.look ≤ most_looked) c.loop-kept.kept-index
    (segments_by c.args.start c.args.items.now) c.requires)).0

pub overflow_add-start : goal.overflow_add-start
overflow_add-start c = omega (arith, c.at.ensures.value, small (goal.at.overflow_add-start c).In-loop-kept)

pub overflow_add-start-in-loop-kept : goal.overflow_add-start-in-loop-kept
overflow_add-start-in-loop-kept c =
    omega (arith, c.at.ensures.value, c.ahead.ensures.value, small (goal.at.overflow_add-start-in-loop-kept c).In-loop-kept)

pub loop-kept-preserved : goal.loop-kept-preserved
loop-kept-preserved c =
    let far = ap farthest (drop_map_more (segment_of c.args.start) c.args.items.now c.loop-kept.kept-index no_item (omega arith)) in (
      omega (arith, c.loop-kept.invariant.0, c.max-reach.ensures, c.at.ensures.value, c.ahead.ensures.value),
      omega (arith, c.max-reach.ensures, c.at.ensures.value, c.ahead.ensures.value, small (goal.at.loop-kept-preserved c).In-loop-kept),
    )

pub returns-clause-exact : goal.returns-clause-exact
returns-clause-exact c =
    let all = segments_by c.args.start c.args.items.now in
    let past : length all ≤ c.loop-kept.kept-index = omega (arith, length-map c.args.items.now (segment_of c.args.start)) in
    omega (arith, ap farthest (drop_all c.loop-kept.kept-index all past))

pub returns-clause-small : goal.returns-clause-small
returns-clause-small c = c.loop-kept.invariant.1
