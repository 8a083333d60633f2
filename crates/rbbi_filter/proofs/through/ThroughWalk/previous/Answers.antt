use Rattle.std.proofs.Common.{refl, subst, arith}
use Rattle.rbbi_model.specs.Answers.{Previous, Done}
use Rattle.rbbi_session.specs.Walks.{IsAnswered}
use Rattle.rbbi_session.proofs.Answering.{no_previous}
use Rattle.rbbi_filter.specs.FilterSessions.{filter_view}
use Rattle.rbbi_filter.proofs.Covering.{covers}
use Rattle.rbbi_filter.proofs.Answering.{within_text, stays, answered}
use Rattle.rbbi_filter.proofs.through.ThroughWalk.previous.Goals as goal

pub returns-then-cursor-eq0 : goal.returns-then-cursor-eq0
returns-then-cursor-eq0 g c =
    subst (λ s. IsAnswered filter_view s Previous Done s c.args.steps.now c.args.steps.now) c.self.view_is
    (answered refl Previous _ (no_previous _ _ (covers (g.M.Moves.session c.self.inside.moves)) _ (omega (arith, c.if-cursor-eq0.true, c.current-cursor.ensures.at)))
    (g.M.Moves.session c.self.inside.moves) _ _ (stays (g.M.Moves.session c.self.inside.moves)) (record { more = omega arith; cost = omega arith }))

pub before-requires-clause-within : goal.before-requires-clause-within
before-requires-clause-within g c = within_text (g.M.Moves.session c.self.inside.moves) c.current-cursor.result c.current-cursor.ensures.boundary
