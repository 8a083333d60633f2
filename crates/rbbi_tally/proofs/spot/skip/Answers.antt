use Rattle.std.proofs.Common.{◌≡◌, ◌-◌, ◌<◌, ◌≤◌, ◌++◌, ◌∷◌, [], List, drop, get_or, set, sym, ap, ◌∙◌, subst, arith, append_assoc}
use Rattle.rbbi_model.proofs.Lists.{all_append}
use Rattle.rbbi_tally.specs.inner.Segments.{Segment, place_of}
use Rattle.rbbi_tally.specs.inner.Pieces.{segment_of, segments_from}
use Rattle.rbbi_tally.proofs.PieceLists.{nothing_at_end, up_to_on}
use Rattle.rbbi_tally.proofs.Skipping.{IsReadAt, read_at}
use Rattle.rbbi_tally.proofs.Counted.{count_first, one_gone, recounted_on}
use Rattle.rbbi_tally.proofs.spot.skip.Goals as goal
use Rattle.rbbi_tally.proofs.spot.skip.Goals.{After-index-kept}

read : (c : After-index-kept) → IsReadAt c.args.pieces.now c.loop-spot.spot c.index-pieces-spot.result c.index-kept.result.now c.loop-spot.counts
read c =
    read_at c.args.pieces.now c.loop-spot.spot c.index-pieces-spot.result c.index-kept.result.now c.args.place c.args.from c.args.counts.now
    c.loop-spot.counts c.loop-spot.invariant.is_spot c.loop-spot-test.true c.index-pieces-spot.is c.index-kept.ensures c.requires.counted
    c.loop-spot.invariant.passed

pub returns-then-piece-at-clause-skipped : goal.returns-then-piece-at-clause-skipped
returns-then-piece-at-clause-skipped c =
    let at = read (goal.at.returns-then-piece-at-clause-skipped c).After-index-kept in
    record {
      are_passed = c.loop-spot.invariant.passed;
      reached = λ end within. omega (arith, ap (λ l. place_of l end) at.is, c.at.ensures.value, c.if-piece-at.true);
    }

pub bounds-counts-list : goal.bounds-counts-list
bounds-counts-list c = omega (arith, (read (goal.at.bounds-counts-list c).After-index-kept).counted.listed.0, c.list.ensures.value)

pub bounds-counts-list-in-loop-spot : goal.bounds-counts-list-in-loop-spot
bounds-counts-list-in-loop-spot c = omega (arith, (read (goal.at.bounds-counts-list-in-loop-spot c).After-index-kept).counted.listed.0, c.list.ensures.value)

pub overflow_sub-counts : goal.overflow_sub-counts
overflow_sub-counts c =
    let at = read (goal.at.overflow_sub-counts c).After-index-kept in
    let first = count_first (segment_of c.index-pieces-spot.result.start c.index-kept.result.now) at.rest in
    omega (arith, first, at.counted.each _ at.counted.listed.0, ap (λ n. get_or c.loop-spot.counts n 0) c.list.ensures.value)

pub loop-spot-preserved : goal.loop-spot-preserved
loop-spot-preserved c =
    let at = read (goal.at.loop-spot-preserved c).After-index-kept in
    let s : Segment = segment_of c.index-pieces-spot.result.start c.index-kept.result.now in
    let passed = c.loop-spot.invariant.passed in
    let next : segments_from c.args.pieces.now c.next-spot.result ≡ at.rest = c.next-spot.ensures.rest ∙ ap (drop 1) at.is in
    let first = count_first s at.rest in
    let enough = at.counted.each s.list at.counted.listed.0 in
    let old : List _ = c.loop-spot.counts in
    let one = one_gone s old (set old c.list.result (get_or old c.list.result 0 - 1)) (get_or old s.list 0 - 1) at.counted.listed.0 (omega arith)
    (ap (λ n. set old n (get_or old n 0 - 1)) c.list.ensures.value) in
    record {
      is_spot = c.next-spot.ensures.spot;
      passed =
          record {
            gone = passed.gone ++ s ∷ [];
            parted =
                passed.parted ∙ ap (λ l. passed.gone ++ l) at.is ∙ sym (append_assoc passed.gone (s ∷ []) at.rest)
                ∙ ap (λ l. (passed.gone ++ s ∷ []) ++ l) (sym next);
            passed =
                all_append (λ (t : Segment). t.at < c.args.place) passed.gone (s ∷ []) passed.passed
                (omega (arith, c.at.ensures.value, c.if-piece-at.false), tt);
            counted = recounted_on passed.gone (s ∷ []) [] [] c.args.counts.now old _ passed.counted one;
          };
      order = up_to_on c.args.from c.loop-spot.spot c.next-spot.result c.loop-spot.invariant.order c.next-spot.ensures.order;
    }

pub returns-clause-skipped : goal.returns-clause-skipped
returns-clause-skipped c =
    record {
      are_passed = c.loop-spot.invariant.passed;
      reached = λ end within.
          subst (λ l. c.args.place ≤ place_of l end) (sym (nothing_at_end c.args.pieces.now c.loop-spot.spot c.loop-spot-test.false)) within;
    }
