use Rattle.std.proofs.Common.{length, refl, ap, subst, arith}
use Rattle.rbbi_model.specs.Answers.{Next, Done}
use Rattle.rbbi_session.specs.Walks.{IsAnswered}
use Rattle.rbbi_session.proofs.Answering.{no_next}
use Rattle.rbbi_filter.specs.FilterSessions.{filter_view}
use Rattle.rbbi_filter.proofs.Covering.{covers}
use Rattle.rbbi_filter.proofs.Answering.{stays, answered}
use Rattle.rbbi_filter.proofs.through.ThroughWalk.next.Goals as goal

pub returns-then-cursor-len : goal.returns-then-cursor-len
returns-then-cursor-len g c =
    subst (λ s. IsAnswered filter_view s Next Done s c.args.steps.now c.args.steps.now) c.self.view_is
    (answered refl Next _ (no_next _ _ (covers (g.M.Moves.session c.self.inside.moves)) _
    (omega (arith, c.if-cursor-len.true, c.current-cursor.ensures.at, c.len.ensures.exact, ap length c.text.ensures)))
    (g.M.Moves.session c.self.inside.moves) _ _ (stays (g.M.Moves.session c.self.inside.moves)) (record { more = omega arith; cost = omega arith }))
