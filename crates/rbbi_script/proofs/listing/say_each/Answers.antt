use Rattle.std.proofs.Common.{◌<◌, sym, subst}
use Rattle.std.proofs.lemmas.Result.{err_from_is_err_and}
use Rattle.rbbi_session.proofs.Stepping.{left_of}
use Rattle.rbbi_script.proofs.Listed.{IsListed, units_of, listed_start, listed_further, listed_broken, listed_paid}
use Rattle.rbbi_script.proofs.listing.say_each.Goals as goal

pub loop-place-init : goal.loop-place-init
loop-place-init g c =
    listed_start g.S.Walk.view c.laws.ensures.cover c.args.session.now c.first.new.self c.first.result c.args.reply.now.items c.args.steps.now
    c.first.ensures.replied c.first.ensures.asked

pub returns-in_err-say_bound-clause-lines : goal.returns-in_err-say_bound-clause-lines
returns-in_err-say_bound-clause-lines g c =
    let ended = err_from_is_err_and c.from_residual.result c.from_residual.ensures.1 in
    rw ended.1
    (listed_broken g.S.Walk.view c.laws.ensures.cover c.args.session.now c.loop-place.session c.in-Some.at c.args.reply.now.items
    c.loop-place.reply.items c.args.steps.now c.loop-place.steps
    (subst (λ p. IsListed g.S.Walk.view c.args.session.now c.loop-place.session p c.args.reply.now.items
    c.loop-place.reply.items c.args.steps.now c.loop-place.steps) c.in-Some.is c.loop-place.invariant)
    c.status_list.result.now c.status_list.ensures c.say_bound.new.reply.items c.in_err-say_bound.ensures)

pub returns-in_err-say_bound-clause-cost : goal.returns-in_err-say_bound-clause-cost
returns-in_err-say_bound-clause-cost g c =
    listed_paid g.S.Walk.view c.args.session.now c.loop-place.session c.loop-place.place c.args.reply.now.items c.loop-place.reply.items
    c.args.steps.now c.loop-place.steps c.loop-place.invariant

pub returns-in_err-say_bound-clause-lists : goal.returns-in_err-say_bound-clause-lists
returns-in_err-say_bound-clause-lists g c =
    let ended = err_from_is_err_and c.from_residual.result c.from_residual.ensures.1 in
    let listed = c.loop-place.invariant in
    rw ended.1 (listed.done, listed.rest, listed.whole, listed.asked)

pub loop-place-smaller : goal.loop-place-smaller
loop-place-smaller g c =
    let further = listed_further g.S.Walk.view c.laws.ensures.cover c.args.session.now c.loop-place.session c.in-Some.at c.args.reply.now.items
    c.loop-place.reply.items c.args.steps.now c.loop-place.steps
    (subst (λ p. IsListed g.S.Walk.view c.args.session.now c.loop-place.session p c.args.reply.now.items
    c.loop-place.reply.items c.args.steps.now c.loop-place.steps) c.in-Some.is c.loop-place.invariant)
    c.status_list.result.now c.status_list.ensures c.next-place.result c.next-place.new.self c.say_bound.new.reply.items
    c.next-place.new.steps c.in_ok-say_bound.ensures c.next-place.ensures.replied c.next-place.ensures.asked in
    subst (λ p. left_of (units_of g.S.Walk.view c.args.session.now) c.next-place.result
    < left_of (units_of g.S.Walk.view c.args.session.now) p) (sym c.in-Some.is) further.1

pub loop-place-preserved : goal.loop-place-preserved
loop-place-preserved g c =
    (listed_further g.S.Walk.view c.laws.ensures.cover c.args.session.now c.loop-place.session c.in-Some.at c.args.reply.now.items
    c.loop-place.reply.items c.args.steps.now c.loop-place.steps
    (subst (λ p. IsListed g.S.Walk.view c.args.session.now c.loop-place.session p c.args.reply.now.items
    c.loop-place.reply.items c.args.steps.now c.loop-place.steps) c.in-Some.is c.loop-place.invariant)
    c.status_list.result.now c.status_list.ensures c.next-place.result c.next-place.new.self c.say_bound.new.reply.items
    c.next-place.new.steps c.in_ok-say_bound.ensures c.next-place.ensures.replied c.next-place.ensures.asked).0
