use Rattle.std.proofs.Common.{◌≡◌, subst}
use Rattle.rbbi_model.specs.Cover.{IsPlaceOf}
use Rattle.rbbi_session.specs.Sessions as plain
use Rattle.rbbi_filter.specs.FilterSessions.{boundaries_of}
use Rattle.rbbi_filter.proofs.Filtering.{told_place}
use Rattle.rbbi_filter.proofs.filtered.SuppressedMoves.current.Goals as goal

pub returns-clause-boundary : goal.returns-clause-boundary
returns-clause-boundary g c =
    let at : c.current.result ≡ c.self.inside.session.state.cursor = cc (c.current.ensures.answer) in
    subst (λ s. IsPlaceOf (boundaries_of s) c.current.result) c.self.view_is
    (rw at
    (told_place (g.A.Lists.list_of c.self.inside.held) c.self.inside.session c.self.invariant
    (subst (λ p. IsPlaceOf (plain.boundaries_of c.self.inside.session) p) at c.current.ensures.boundary)))
