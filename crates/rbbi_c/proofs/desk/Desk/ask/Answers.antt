use Rattle.std.proofs.Common.{ap, ◌∙◌}
use Rattle.rbbi_session.specs.Walks.{reply_to}
use Rattle.rbbi_session.specs.UnitWalks.{UnitSetting, unit_view}
use Rattle.rbbi_c.specs.Asking.{question_of, told_of}
use Rattle.rbbi_c.proofs.desk.Desk.ask.Goals as goal

pub invariant_of-self : goal.invariant_of-self
invariant_of-self g c = (ap (λ (s : UnitSetting). s.below) c.answered.ensures.asked.same ∙ c.self.invariant.0, c.self.invariant.1)

pub returns-clause-told : goal.returns-clause-told
returns-clause-told g c = c.answered.ensures.told ∙ ap (λ s. told_of (reply_to unit_view s (question_of c.args.asked))) c.self.view_is
