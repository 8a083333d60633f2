use Rattle.std.proofs.Common.{subst}
use Rattle.rbbi_model.specs.Cover.{IsPlaceOf}
use Rattle.rbbi_session.proofs.Reaching.{is_a_place}
use Rattle.rbbi_filter.specs.Pairs.{turned}
use Rattle.rbbi_filter.specs.FilterSessions.{boundaries_of}
use Rattle.rbbi_filter.proofs.tailored.TurnedMoves.current.Goals as goal

pub returns-clause-boundary : goal.returns-clause-boundary
returns-clause-boundary g c =
    let x = turned (g.M.Maps.pairs_of c.self.inside.held) (g.T.Chars.characters c.self.inside.text) in
    subst (λ s. IsPlaceOf (boundaries_of s) c.self.inside.at) c.self.view_is
    (is_a_place (g.H.Holds.table_of c.self.inside.table) x c.self.inside.at c.self.inside.status c.self.invariant.reached)
