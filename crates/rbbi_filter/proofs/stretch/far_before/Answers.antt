use Rattle.std.proofs.Common.{sym, arith}
use Rattle.rbbi_filter.proofs.Stretches.{goes_to_start, goes_on}
use Rattle.rbbi_filter.proofs.stretch.far_before.Goals as goal

pub returns-then-first-eq0 : goal.returns-then-first-eq0
returns-then-first-eq0 g c =
    goes_to_start (g.A.Lists.list_of c.args.held.now) c.args.session.now c.args.o c.stretches.session c.stretches.from c.args.steps.now c.stretches.steps c.stretches.invariant
    c.begin_stretch-first.result c.begin_stretch-first.new.self c.begin_stretch-first.new.steps c.begin_stretch-first.ensures c.if-first-eq0.true 0
    (sym c.if-first-eq0.true)

pub stretches-preserved : goal.stretches-preserved
stretches-preserved g c =
    goes_on (g.A.Lists.list_of c.args.held.now) c.args.session.now c.args.o c.stretches.session c.stretches.from c.args.steps.now c.stretches.steps c.stretches.invariant
    c.begin_stretch-first.result c.begin_stretch-first.new.self c.begin_stretch-first.new.steps c.begin_stretch-first.ensures
    (omega (arith, c.if-first-eq0.false)) c.last_reported.new.session c.last_reported.ensures.table c.last_reported.ensures.text c.last_reported.new.steps
    c.last_reported.ensures.more c.last_reported.ensures.cost c.in_default.ensures.found
