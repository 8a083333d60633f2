use Rattle.rbbi_session.proofs.Stepping.{left_of}
use Rattle.rbbi_script.proofs.Listed.{IsListed, units_of}
use Rattle.rbbi_script.proofs.listing.say_each.Given as goal

abbrev pub invariant-loop-place : goal.invariant-loop-place
invariant-loop-place g l = IsListed g.S.Walk.view l.fn.session l.session l.place l.fn.reply.items l.reply.items l.fn.steps l.steps

abbrev pub decreases-loop-place : goal.decreases-loop-place
decreases-loop-place g l = left_of (units_of g.S.Walk.view l.fn.session) l.place
