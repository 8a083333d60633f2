use Rattle.std.proofs.Common.{◌≡◌, length, ap, ◌∙◌, arith}
use Rattle.rbbi_session.proofs.Answering.{answers_no_next}
use Rattle.rbbi_session.proofs.session.SessionBy.next.Goals as goal

pub returns-then-at-len-clause-answers : goal.returns-then-at-len-clause-answers
returns-then-at-len-clause-answers g c =
    let same : c.len.result ≡ length c.args.self.now.state.text = c.len.ensures.exact ∙ ap length c.text.ensures in
    answers_no_next c.args.self.now (omega (arith, same, c.here-at.ensures.at, ap (λ s. s.state.cursor) c.self.view_is, c.if-at-len.true))
