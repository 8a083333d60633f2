use Rattle.std.proofs.Common.{◌≡◌, ap, ◌∙◌, length}
use Rattle.rbbi_model.specs.Cover.{end_of}
use Rattle.rbbi_model.proofs.Covering.{table_covers}
use Rattle.rbbi_session.specs.Sessions as plain
use Rattle.rbbi_filter.specs.Abbreviations.{is_suppressed}
use Rattle.rbbi_filter.proofs.Covering.{end_is_told}
use Rattle.rbbi_filter.proofs.filtered.SuppressedMoves.to_end.Goals as goal

pub invariant_of-self : goal.invariant_of-self
invariant_of-self g c =
    let s = c.self.inside.session in
    ap (λ t. is_suppressed (g.A.Lists.list_of c.self.inside.held) t.text t.cursor) c.last.ensures.answers.moved.state_is
    ∙ end_is_told (g.A.Lists.list_of c.self.inside.held) s.state.text (end_of (plain.boundaries_of s)) (table_covers s.table s.state.text).reach

pub returns-clause-end : goal.returns-clause-end
returns-clause-end g c =
    let s = c.self.inside.session in
    let end : c.last.result ≡ end_of (plain.boundaries_of c.self.inside.session) = cc (c.last.ensures.answers.replied) in
    end ∙ (table_covers s.table s.state.text).reach ∙ ap (λ t. length t.state.text) c.self.view_is
