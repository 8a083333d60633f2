use Rattle.std.proofs.Common.{sym, ap, ◌∙◌}
use Rattle.rbbi_model.specs.Tables.{statuses_of}
use Rattle.rbbi_model.specs.Answers.{statuses_at}
use Rattle.rbbi_session.proofs.Reaching.{statuses_are}
use Rattle.rbbi_filter.specs.Pairs.{turned}
use Rattle.rbbi_filter.specs.FilterSessions.{boundaries_of}
use Rattle.rbbi_filter.proofs.tailored.TurnedMoves.status_list.Goals as goal

pub returns : goal.returns
returns g c =
    let x = turned (g.M.Maps.pairs_of c.self.inside.held) (g.T.Chars.characters c.self.inside.text) in
    c.status_list.ensures
    ∙ ap (λ t. statuses_of t c.self.inside.status) c.table.ensures
    ∙ sym (statuses_are (g.H.Holds.table_of c.self.inside.table) x c.self.inside.at c.self.inside.status c.self.invariant.reached)
    ∙ ap (λ s. statuses_at (boundaries_of s) s.state.cursor) c.self.view_is
