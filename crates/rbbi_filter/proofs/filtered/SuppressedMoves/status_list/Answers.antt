use Rattle.std.proofs.Common.{◌≡◌, sym, ap, ◌∙◌}
use Rattle.rbbi_model.specs.Answers.{statuses_at}
use Rattle.rbbi_session.specs.Sessions as plain
use Rattle.rbbi_filter.specs.FilterSessions.{boundaries_of}
use Rattle.rbbi_filter.proofs.Filtering.{told_statuses}
use Rattle.rbbi_filter.proofs.filtered.SuppressedMoves.status_list.Goals as goal

pub returns : goal.returns
returns g c =
    let told : c.status_list.result.now ≡ statuses_at (plain.boundaries_of c.self.inside.session) c.self.inside.session.state.cursor =
    cc (c.status_list.ensures) in
    told
    ∙ sym (told_statuses (g.A.Lists.list_of c.self.inside.held) c.self.inside.session c.self.invariant)
    ∙ ap (λ s. statuses_at (boundaries_of s) s.state.cursor) c.self.view_is
