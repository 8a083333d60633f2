use Rattle.std.proofs.Common.{◌≡◌, false, [], List, ℕ, sym, refl, ap, ◌∙◌, subst, inr, arith}
use Rattle.std.proofs.lemmas.List.{length-map}
use Rattle.std.proofs.lemmas.List.Sums.{sum_by_push}
use Rattle.rbbi_model.specs.Costs.{characters_read}
use Rattle.rbbi_model.proofs.Found.{found_lies}
use Rattle.std.specs.List.{AllByRecursion}
use Rattle.rbbi_tally.specs.inner.Segments.{Segment, segment_at, AreSegments}
use Rattle.rbbi_tally.specs.inner.Counting.{IsRecounted}
use Rattle.rbbi_tally.proofs.Counted.{recounted_start}
use Rattle.rbbi_tally.specs.inner.Searching.{AreFound, IsMet, reads_of}
use Rattle.rbbi_tally.specs.inner.Pieces.{segment_of, segments_by, segments_from}
use Rattle.rbbi_tally.proofs.PieceLists.{up_to_on}
use Rattle.rbbi_tally.proofs.SegmentLists.{segments_go_on}
use Rattle.rbbi_tally.proofs.SearchingAgain.{IsReady, counted_now, gone_ready, gone_met, ready_room, ready_few, next_found}
use Rattle.rbbi_tally.proofs.search.search_again.Given.{Over}
use Rattle.rbbi_tally.proofs.search.search_again.Goals as goal
use Rattle.rbbi_tally.proofs.search.search_again.Goals.{After-meets}

-- where the old and the new ones don't meet, the next search may begin
ready : (g : Over) (c : After-meets g) → c.meets.result ≡ false → IsReady c.args.table.now (g.T.Chars.characters c.args.text.now) c.args.edit
    c.args.start (segments_from c.args.pieces.now c.args.first) c.args.end (segments_by c.args.start c.loop-edit.items.items) c.loop-edit.place
    (segments_from c.args.pieces.now c.meets.new.spot) c.args.counts.now c.meets.new.counts
ready g c none =
    let inv = c.loop-edit.invariant in
    gone_ready _ _ _ _ _ _ _ _ _ _ _ _ _ _ c.requires.length c.requires.within inv.within c.requires.rise inv.are_found c.meets.ensures.gone_to none

pub meets-requires-clause-counted : goal.meets-requires-clause-counted
meets-requires-clause-counted g c = counted_now _ _ _ _ _ _ _ _ _ _ _ c.requires.counted c.loop-edit.invariant.are_found

pub meets-requires-clause-reach : goal.meets-requires-clause-reach
meets-requires-clause-reach g c = omega (arith, c.requires.length, c.loop-edit.invariant.within)

pub meets-requires-clause-small : goal.meets-requires-clause-small
meets-requires-clause-small g c = omega (arith, c.requires.length, c.requires.within, c.len-short.ensures.most)

pub returns-then-meets-clause-met : goal.returns-then-meets-clause-met
returns-then-meets-clause-met g c =
    let inv = c.loop-edit.invariant in
    gone_met _ _ _ _ _ _ _ _ _ _ _ _ _ _ c.requires.length c.requires.within inv.within c.requires.rise inv.are_found c.meets.ensures.gone_to c.if-meets.true

pub search_from-place-requires-clause-within : goal.search_from-place-requires-clause-within
search_from-place-requires-clause-within g c = (ready g (goal.at.search_from-place-requires-clause-within g c).After-meets c.if-meets.false).short

pub search_from-place-requires-clause-start : goal.search_from-place-requires-clause-start
search_from-place-requires-clause-start g c =
    let items : List Segment = segments_by c.args.start c.loop-edit.items.items in
    omega (
      arith,
      segments_go_on c.args.table.now (g.T.Chars.characters c.args.text.now) c.args.start c.loop-edit.place items
          (ready g (goal.at.search_from-place-requires-clause-start g c).After-meets c.if-meets.false).are_found.segments,
    )

pub search_from-place-requires-clause-room : goal.search_from-place-requires-clause-room
search_from-place-requires-clause-room g c =
    let room = ready_room _ _ _ _ _ _ _ _ _ _ _ (ready g (goal.at.search_from-place-requires-clause-room g c).After-meets c.if-meets.false) in
    omega (arith, c.loop-edit.invariant.room, c.requires.room, length-map c.loop-edit.items.items (segment_of c.args.start), room)

pub search_from-place-requires-clause-few : goal.search_from-place-requires-clause-few
search_from-place-requires-clause-few g c =
    ready_few _ _ _ _ _ _ _ _ _ _ _ (ready g (goal.at.search_from-place-requires-clause-few g c).After-meets c.if-meets.false)
    c.len-short.ensures.most c.requires.few

pub search_from-place-requires-clause-lists : goal.search_from-place-requires-clause-lists
search_from-place-requires-clause-lists g c =
    (ready g (goal.at.search_from-place-requires-clause-lists g c).After-meets c.if-meets.false).are_found.counted.all ∙ c.requires.lists

pub loop-edit-smaller : goal.loop-edit-smaller
loop-edit-smaller g c =
    let short = (ready g (goal.at.loop-edit-smaller g c).After-meets c.if-meets.false).short in
    omega (arith, short, c.search_from-place.ensures.place, found_lies c.args.table.now (g.T.Chars.characters c.args.text.now) c.loop-edit.place short)

pub loop-edit-preserved : goal.loop-edit-preserved
loop-edit-preserved g c =
    let x = g.T.Chars.characters c.args.text.now in
    let items : List Segment = segments_by c.args.start c.loop-edit.items.items in
    let inv = c.loop-edit.invariant in
    let here = ready g (goal.at.loop-edit-preserved g c).After-meets c.if-meets.false in
    let lies = found_lies c.args.table.now x c.loop-edit.place here.short in
    let f : Segment → ℕ = λ s. characters_read c.args.table.now x s.at in
    let found' : List Segment = segments_by c.args.start c.search_from-place.new.items.items in
    record {
      is_spot = c.meets.ensures.spot;
      order = up_to_on c.args.first c.loop-edit.spot c.meets.new.spot inv.order c.meets.ensures.order;
      are_found =
          subst (λ p. AreFound c.args.table.now x c.args.edit c.args.start (segments_from c.args.pieces.now c.args.first) c.args.end found' p
          (segments_from c.args.pieces.now c.meets.new.spot) c.args.counts.now c.search_from-place.new.counts) (sym c.search_from-place.ensures.place)
          (next_found _ _ _ _ _ _ items _ _ _ _ _ found' here c.search_from-place.ensures.items c.search_from-place.ensures.counted);
      within = omega (arith, c.search_from-place.ensures.place, lies.1);
      read =
          omega (
            arith,
            ap (λ l. reads_of c.args.table.now x l) c.search_from-place.ensures.items,
            sum_by_push f items (segment_at c.args.table.now x c.loop-edit.place),
          );
      room = c.search_from-place.ensures.room ∙ inv.room;
      fit = c.search_from-place.ensures.fit ∙ inv.fit;
    }

pub loop-edit-init : goal.loop-edit-init
loop-edit-init g c =
    let x = g.T.Chars.characters c.args.text.now in
    let start = c.args.start in
    let old : List Segment = segments_from c.args.pieces.now c.args.first in
    let none = sym c.requires.empty in
    record {
      is_spot = c.requires.spot;
      order = inr (refl, omega arith);
      are_found =
          record {
            gone = [];
            parted = refl;
            passed = tt;
            segments = subst (λ l. AreSegments c.args.table.now x start start (segments_by start l)) none refl;
            none_met = subst (λ l. AllByRecursion (λ s. ¬ IsMet c.args.edit old c.args.end s.at) (segments_by start l)) none tt;
            counted = subst (λ l. IsRecounted [] (segments_by start l) c.args.counts.now c.args.counts.now) none (recounted_start c.args.counts.now);
          };
      within = c.requires.start;
      read = omega (arith, ap (λ l. reads_of c.args.table.now x (segments_by start l)) c.requires.empty);
      room = refl;
      fit = c.requires.fit;
    }
