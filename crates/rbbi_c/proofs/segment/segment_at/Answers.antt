use Rattle.std.proofs.Common.{List, ℕ, sym, subst}
use Rattle.rbbi_session.specs.Sessions.{Session}
use Rattle.rbbi_session.specs.inner.UnitPlaces.{IsPlaceUpTo}
use Rattle.rbbi_c.specs.inner.Bounds.{HasSameText}
use Rattle.rbbi_c.proofs.Segments.{some_end, holds_place}
use Rattle.rbbi_c.proofs.Found.{ends_before}
use Rattle.rbbi_c.proofs.segment.segment_at.Goals as goal

pub segment_to_end-segment-requires-clause-some : goal.segment_to_end-segment-requires-clause-some
segment_to_end-segment-requires-clause-some g c =
    some_end c.args.session.now.table c.args.unit c.args.session.now.state.text c.place_up_to-place.result c.find_past-end.result c.find_past-end.ensures.found

pub returns-clause-found : goal.returns-clause-found
returns-clause-found g c =
    let old = c.args.session.now in
    holds_place old.table c.args.unit old.state.text c.args.at c.place_up_to-place.result c.find_past-end.result c.segment_to_end-segment.result
    (subst (λ (x : List ℕ). IsPlaceUpTo c.args.unit x c.args.at c.place_up_to-place.result) c.text.ensures c.place_up_to-place.ensures.up_to)
    c.find_past-end.ensures.found
    (ends_before old c.find_past-end.new.session c.args.unit c.find_past-end.ensures.same c.find_past-end.result c.segment_to_end-segment.result
    c.segment_to_end-segment.ensures.ends)
