use Rattle.std.proofs.Common.{◌≡◌, ℕ, List, max, get_or, sym, ap, ◌∙◌, arith, rules}
use Rattle.std.proofs.lemmas.List.{take_all}
use Rattle.rbbi_model.specs.Places.{largest}
use Rattle.rbbi_scan.proofs.Statuses.{largest_more}
use Rattle.rbbi_scan.proofs.greatest.largest_of.Goals as goal

pub loop-number-preserved : goal.loop-number-preserved
loop-number-preserved c =
    let items : List ℕ = c.args.numbers.now in
    let i : ℕ = c.loop-number.number-index in
    let most : c.max-most.result ≡ max c.loop-number.most (get_or c.args.numbers.now c.loop-number.number-index 0) = search rules in
    most ∙ ap (λ n. max n (get_or items i 0)) c.loop-number.invariant ∙ sym (largest_more items i c.loop-number-test.true)

pub returns : goal.returns
returns c =
    c.loop-number.invariant ∙ ap largest (take_all c.loop-number.number-index c.args.numbers.now (omega (arith, c.loop-number-test.false)))
