use Rattle.rbbi_model.specs.Answers.{Last}
use Rattle.rbbi_session.proofs.Answering.{last_is}
use Rattle.rbbi_filter.proofs.Covering.{covers}
use Rattle.rbbi_filter.proofs.Answering.{answered}
use Rattle.rbbi_filter.proofs.through.ThroughWalk.last.Goals as goal

pub returns : goal.returns
returns g c =
    answered c.self.view_is Last _
    (last_is _ _ (covers (g.M.Moves.session c.self.inside.moves)) (g.M.Moves.session c.self.inside.moves).state.cursor _ c.to_end.ensures.end)
    (g.M.Moves.session c.to_end.new.self) _ _ c.to_end.ensures.moved c.to_end.ensures.cost
