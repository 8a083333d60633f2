use Rattle.std.proofs.Common.{◌≡◌, ℕ, List, max, get_or, sym, ap, ◌∙◌, arith, rules}
use Rattle.std.proofs.lemmas.List.{take_all}
use Rattle.rbbi_model.specs.Places.{largest}
use Rattle.rbbi_session.proofs.Answering.{largest_more}
use Rattle.rbbi_session.proofs.statuses.greatest.Goals as goal

pub loop-status-preserved : goal.loop-status-preserved
loop-status-preserved c =
    let items : List ℕ = c.args.statuses.now in
    let i : ℕ = c.loop-status.status-index in
    let most : c.max-greatest.result ≡ max c.loop-status.greatest (get_or c.args.statuses.now c.loop-status.status-index 0) = search rules in
    most ∙ ap (λ n. max n (get_or items i 0)) c.loop-status.invariant ∙ sym (largest_more items i c.loop-status-test.true)

pub returns : goal.returns
returns c = c.loop-status.invariant ∙ ap largest (take_all c.loop-status.status-index c.args.statuses.now (omega (arith, c.loop-status-test.false)))
