use Rattle.std.proofs.Common.{arith}
use Rattle.rbbi_session.proofs.Answering.{answers_no_preceding}
use Rattle.rbbi_session.proofs.session.SessionBy.preceding.Goals as goal

pub returns-then-o-eq0-clause-answers : goal.returns-then-o-eq0-clause-answers
returns-then-o-eq0-clause-answers g c =
    answers_no_preceding c.args.self.now c.first.new.self c.args.o c.first.result (omega (arith, c.if-o-eq0.true)) c.first.ensures.answers
