use Rattle.std.proofs.Common.{sym, subst}
use Rattle.rbbi_session.specs.Sessions.{boundaries_of}
use Rattle.rbbi_model.specs.Cover.{IsPlaceOf}
use Rattle.rbbi_session.proofs.Reaching.{is_a_place}
use Rattle.rbbi_session.proofs.session.SessionBy.current.Goals as goal

pub returns-clause-boundary : goal.returns-clause-boundary
returns-clause-boundary g c =
    let kept = c.self.inside.kept in
    subst (λ n. IsPlaceOf (boundaries_of c.args.self.now) n) (sym c.here.ensures.at)
    (subst (λ s. IsPlaceOf (boundaries_of s) kept.state.cursor) c.self.view_is
    (is_a_place (g.H.Holds.table_of c.self.inside.table) kept.state.text kept.state.cursor kept.list c.self.invariant.reached))
