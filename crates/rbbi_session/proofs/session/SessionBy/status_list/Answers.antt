use Rattle.std.proofs.Common.{sym, ap, ◌∙◌}
use Rattle.rbbi_model.specs.Tables.{statuses_of}
use Rattle.rbbi_model.specs.Answers.{AllOf, statuses_at}
use Rattle.rbbi_session.specs.Sessions.{boundaries_of}
use Rattle.rbbi_session.proofs.Reaching.{statuses_are}
use Rattle.rbbi_session.proofs.session.SessionBy.status_list.Goals as goal

pub returns : goal.returns
returns g c =
    let table = g.H.Holds.table_of c.self.inside.table in
    let kept = c.self.inside.kept in
    ap AllOf
    (c.status_list.ensures
    ∙ ap (λ t. statuses_of t c.here.result.status) c.table.ensures
    ∙ ap (statuses_of table) c.here.ensures.list
    ∙ sym (statuses_are table kept.state.text kept.state.cursor kept.list c.self.invariant.reached)
    ∙ ap (λ s. statuses_at (boundaries_of s) s.state.cursor) c.self.view_is)
