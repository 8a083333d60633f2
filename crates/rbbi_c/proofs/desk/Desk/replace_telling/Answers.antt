use Rattle.std.proofs.Common.{chars, ap, ◌∙◌}
use Rattle.rbbi_session.specs.UnitWalks.{UnitSetting}
use Rattle.rbbi_c.proofs.Desks.{edited-keeps}
use Rattle.rbbi_c.proofs.desk.Desk.replace_telling.Goals as goal

pub invariant_of-self : goal.invariant_of-self
invariant_of-self g c =
    let is = c.replace_telling.ensures.edits in
    let kept = edited-keeps c.self.inside.session c.args.at c.args.remove (chars c.args.insert.now) c.replace_telling.result c.replace_telling.new.session
    is.before is.after is.edits in
    (ap (λ (s : UnitSetting). s.below) kept ∙ c.self.invariant.0, c.replace_telling.ensures.fit ∙ c.self.invariant.1)
