use Rattle.std.proofs.Common.{◌≡◌, ◌-◌, length, sym, ap, ◌∙◌, arith}
use Rattle.rbbi_model.specs.Answers.{first_after}
use Rattle.rbbi_session.specs.Sessions.{boundaries_of}
use Rattle.rbbi_session.proofs.Answering.{answers_last}
use Rattle.rbbi_session.proofs.session.SessionBy.last.Goals as goal

pub returns-clause-answers : goal.returns-clause-answers
returns-clause-answers g c =
    let same : c.len-len.result ≡ length c.args.self.now.state.text = c.len-len.ensures.exact ∙ ap length c.text.ensures in
    answers_last c.args.self.now c.go_past.new.self c.go_past.result (omega (arith, same, c.if-len-eq0.false))
    (ap (λ n. first_after (boundaries_of c.args.self.now) (n - 1)) (sym same) ∙ c.go_past.ensures.first)
    c.go_past.ensures.moved
