use Rattle.std.proofs.Common.{◌≡◌, length, ap, ◌∙◌, arith}
use Rattle.rbbi_session.proofs.Answering.{answers_behind, answers_whether}
use Rattle.rbbi_session.proofs.Asked.{asks_whether}
use Rattle.rbbi_session.proofs.session.SessionBy.is_boundary.Goals as goal

pub returns-then-o-len-clause-answers : goal.returns-then-o-len-clause-answers
returns-then-o-len-clause-answers g c =
    let same : c.len.result ≡ length c.args.self.now.state.text = c.len.ensures.exact ∙ ap length c.text.ensures in
    answers_behind c.args.self.now c.last.new.self c.args.o c.last.result (omega (arith, same, c.if-o-len.true)) c.last.ensures.answers

pub returns-clause-answers : goal.returns-clause-answers
returns-clause-answers g c =
    answers_whether c.args.self.now c.go_past.new.self c.args.o c.go_past.result (omega (arith, c.if-o-eq0.false)) c.go_past.ensures.first
    c.go_past.ensures.moved

pub returns-clause-reads : goal.returns-clause-reads
returns-clause-reads g c =
    let same : c.len.result ≡ length c.args.self.now.state.text = c.len.ensures.exact ∙ ap length c.text.ensures in
    asks_whether c.args.self.now c.go_past.new.self c.args.steps.now c.go_past.new.steps c.args.o (omega (arith, c.if-o-eq0.false))
    (omega (arith, same, c.if-o-len.false)) c.go_past.ensures.reads
