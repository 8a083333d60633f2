use Rattle.std.proofs.Common.{◌≡◌, ℕ, ◌≤◌, List, length, ap, ◌∙◌, subst, arith}
use Rattle.rbbi_session.proofs.Answering.{answers_no_previous}
use Rattle.rbbi_model.specs.Costs.{preceding_cost}
use Rattle.rbbi_session.specs.Questions.{Back}
use Rattle.rbbi_session.specs.Asking.{IsAsked}
use Rattle.rbbi_model.specs.Searches.{table_boundaries}
use Rattle.rbbi_session.proofs.Answering.{none_past, place_within}
use Rattle.rbbi_session.proofs.Asked.{asks_previous}
use Rattle.rbbi_session.proofs.Reaching.{is_a_place}
use Rattle.rbbi_session.proofs.session.SessionBy.previous.Goals as goal

pub returns-then-at-eq0-clause-answers : goal.returns-then-at-eq0-clause-answers
returns-then-at-eq0-clause-answers g c =
    answers_no_previous c.args.self.now (omega (arith, c.here-at.ensures.at, ap (λ s. s.state.cursor) c.self.view_is, c.if-at-eq0.true))

pub returns-clause-reads : goal.returns-clause-reads
returns-clause-reads g c =
    let table = g.H.Holds.table_of c.self.inside.table in
    let kept = c.self.inside.kept in
    let x : List ℕ = kept.state.text in
    let at : c.here-at.result.at ≡ c.args.self.now.state.cursor = c.here-at.ensures.at ∙ ap (λ s. s.state.cursor) c.self.view_is in
    let within : c.args.self.now.state.cursor ≤ length c.args.self.now.state.text =
    subst (λ s. s.state.cursor ≤ length s.state.text) c.self.view_is
    (place_within (table_boundaries table x) kept.state.cursor (length x) (none_past table x)
    (is_a_place table x kept.state.cursor kept.list c.self.invariant.reached)) in
    asks_previous c.args.self.now c.go_before.new.self c.args.steps.now c.go_before.new.steps (omega (arith, at, c.if-at-eq0.false)) within
    (subst (λ p. IsAsked c.args.self.now (Back p) (preceding_cost c.args.self.now.table c.args.self.now.state.text p) c.go_before.new.self c.args.steps.now
    c.go_before.new.steps)
    at c.go_before.ensures.reads)
