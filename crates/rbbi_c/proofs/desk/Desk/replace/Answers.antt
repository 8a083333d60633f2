use Rattle.std.proofs.Common.{chars, ap, ◌∙◌}
use Rattle.rbbi_session.specs.UnitWalks.{UnitSetting}
use Rattle.rbbi_c.proofs.Desks.{edited-keeps}
use Rattle.rbbi_c.proofs.desk.Desk.replace.Goals as goal

pub invariant_of-self : goal.invariant_of-self
invariant_of-self g c =
    let kept = edited-keeps c.self.inside.session c.args.at c.args.remove (chars c.args.insert.now) c.replace.result c.replace.new.self c.args.steps.now
    c.replace.new.steps c.replace.ensures in
    (ap (λ (s : UnitSetting). s.below) kept ∙ c.self.invariant.0, c.self.invariant.1)
