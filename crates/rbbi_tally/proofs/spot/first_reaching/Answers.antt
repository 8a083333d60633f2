use Rattle.std.proofs.Common.{◌≤◌, ◌<◌, ◌+◌, length, take, drop, subst, sym, ⊎_elim, arith, length-drop}
use Rattle.std.specs.List.{AllByRecursion}
use Rattle.std.proofs.lemmas.Bool.{cases_lt}
use Rattle.std.proofs.lemmas.List.{take_all}
use Rattle.rbbi_model.proofs.Lists.{all_append}
use Rattle.rbbi_tally.specs.inner.Segments.{Segment}
use Rattle.rbbi_tally.specs.inner.Spots.{LooksPast}
use Rattle.rbbi_tally.specs.inner.Pieces.{segments_in, contents}
use Rattle.rbbi_tally.proofs.PieceLists.{contents_more, looks_within, farthest_least, item_spot, before_item, from_item, looks_past_more, length_in, piece_is}
use Rattle.rbbi_tally.proofs.spot.first_reaching.Goals as goal
use Rattle.rbbi_tally.proofs.spot.first_reaching.Goals.{After-first_reaching-item}

pub loop-piece-preserved : goal.loop-piece-preserved
loop-piece-preserved c =
    let ps = c.args.pieces.now in
    let p = c.index-pieces-piece.result in
    let is = piece_is ps c.loop-piece.piece p c.requires c.loop-piece-test.true c.index-pieces-piece.is in
    subst (λ l. AllByRecursion (λ s. s.look ≤ c.args.place) l) (sym (contents_more ps c.loop-piece.piece p c.loop-piece-test.true c.index-pieces-piece.is))
    (all_append (λ (s : Segment). s.look ≤ c.args.place) (contents (take c.loop-piece.piece ps)) (segments_in p) c.loop-piece.invariant
    (looks_within c.args.place (segments_in p) (subst (λ n. n ≤ c.args.place) is.reach_is c.if-here-place.false)))

-- there is a segment whose search looks past the place
some_item : (c : After-first_reaching-item) → c.first_reaching-item.result < length c.index-pieces-piece.result.items.items
some_item c =
    let p = c.index-pieces-piece.result in
    let is = piece_is c.args.pieces.now c.loop-piece.piece p c.requires c.loop-piece-test.true c.index-pieces-piece.is in
    ⊎_elim
    (λ short. short)
    (λ past.
    let all = subst (λ l. AllByRecursion (λ (s : Segment). s.look ≤ c.args.place) l) (take_all c.first_reaching-item.result (segments_in p) (omega
    (arith, length_in p))) c.first_reaching-item.ensures.before in
    absurd (omega (arith, farthest_least c.args.place (segments_in p) all, is.reach_is, c.if-here-place.true)))
    (cases_lt c.first_reaching-item.result (length p.items.items))

pub returns-then-here-place-clause-spot : goal.returns-then-here-place-clause-spot
returns-then-here-place-clause-spot c =
    item_spot c.args.pieces.now c.loop-piece.piece c.first_reaching-item.result c.index-pieces-piece.result c.loop-piece-test.true c.index-pieces-piece.is
    (some_item c)

pub returns-then-here-place-clause-first : goal.returns-then-here-place-clause-first
returns-then-here-place-clause-first c =
    let ps = c.args.pieces.now in
    let p = c.index-pieces-piece.result in
    let item = c.first_reaching-item.result in
    let short = some_item c in
    let before = before_item ps c.loop-piece.piece item p c.loop-piece-test.true c.index-pieces-piece.is (omega (arith, short)) in
    let after = from_item ps c.loop-piece.piece item p c.loop-piece-test.true c.index-pieces-piece.is (omega (arith, short)) in
    record {
      short =
          subst (λ l. AllByRecursion (λ s. s.look ≤ c.args.place) l) (sym before)
          (all_append (λ (s : Segment). s.look ≤ c.args.place) (contents (take c.loop-piece.piece ps)) (take item (segments_in p)) c.loop-piece.invariant
          c.first_reaching-item.ensures.before);
      far =
          subst (LooksPast c.args.place) (sym after)
          (looks_past_more c.args.place (drop item (segments_in p)) (contents (drop (c.loop-piece.piece + 1) ps))
          (omega (arith, length-drop item (segments_in p), length_in p, short)) c.first_reaching-item.ensures.first);
    }
