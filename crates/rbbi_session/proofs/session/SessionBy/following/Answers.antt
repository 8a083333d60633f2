use Rattle.std.proofs.Common.{◌≡◌, length, ap, ◌∙◌, arith}
use Rattle.rbbi_session.proofs.Answering.{answers_no_following}
use Rattle.rbbi_session.proofs.session.SessionBy.following.Goals as goal

pub returns-then-o-len-clause-answers : goal.returns-then-o-len-clause-answers
returns-then-o-len-clause-answers g c =
    let same : c.len.result ≡ length c.args.self.now.state.text = c.len.ensures.exact ∙ ap length c.text.ensures in
    answers_no_following c.args.self.now c.last.new.self c.args.o c.last.result (omega (arith, same, c.if-o-len.true)) c.last.ensures.answers
