use Rattle.std.proofs.Common.{◌<◌, length, sym, subst}
use Rattle.rbbi_session.proofs.Stepping.{left_of}
use Rattle.rbbi_demo.proofs.Counting.{AreCounted, counted_start, counted_further}
use Rattle.rbbi_demo.proofs.demonstration.count_boundaries.Goals as goal

pub loop-place-init : goal.loop-place-init
loop-place-init g c = counted_start c.args.session.now c.first.new.self c.first.result c.first.ensures.answers

pub loop-place-smaller : goal.loop-place-smaller
loop-place-smaller g c =
    let further = counted_further c.args.session.now c.loop-place.session c.in-Some._at c.loop-place.count
    (subst (λ p. AreCounted c.args.session.now c.loop-place.session p c.loop-place.count) c.in-Some.is c.loop-place.invariant)
    c.next-place.result c.next-place.new.self c.next-place.ensures.answers in
    subst (λ p. left_of (length c.args.session.now.state.text) c.next-place.result < left_of (length c.args.session.now.state.text) p)
    (sym c.in-Some.is) further.less

pub loop-place-preserved : goal.loop-place-preserved
loop-place-preserved g c =
    let further = counted_further c.args.session.now c.loop-place.session c.in-Some._at c.loop-place.count
    (subst (λ p. AreCounted c.args.session.now c.loop-place.session p c.loop-place.count) c.in-Some.is c.loop-place.invariant)
    c.next-place.result c.next-place.new.self c.next-place.ensures.answers in
    further.counted
