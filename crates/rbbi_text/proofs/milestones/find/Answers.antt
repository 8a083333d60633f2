use Rattle.std.proofs.Common.{ℕ, ◌*◌, ◌-◌, ◌≤◌, length, ◌∙◌, subst, arith}
use Rattle.std.proofs.lemmas.List.{take_rest}
use Rattle.rbbi_text.specs.inner.Fits.{IsFit}
use Rattle.rbbi_text.proofs.MilestoneLemmas.{milestone_at, fit_behind}
use Rattle.rbbi_text.proofs.milestones.find.Goals as goal

pub returns : goal.returns
returns g c =
    let from : ℕ = c.last_milestone-number.result * 8 in
    let within : from ≤ length c.args.items.now = omega (arith, c.requires.sums.few, c.last_milestone-number.ensures.within) in
    let at = milestone_at (g.T.Measure.weight c.args.unit) c.args.items.now c.args.sums.now c.last_milestone-number.result c.requires.sums
    c.last_milestone-number.ensures.within in
    fit_behind (g.T.Measure.weight c.args.unit) c.args.items.now from c.args.most c.at_milestone-units.result c.fit_in-fit.result.count
    c.fit_in-fit.result.units within
    (c.at_milestone-units.ensures ∙ at)
    (omega (arith, c.at_milestone-units.ensures, c.last_milestone-number.ensures.low))
    (subst (λ l. IsFit (g.T.Measure.weight c.args.unit) l (c.args.most - c.at_milestone-units.result) c.fit_in-fit.result.count c.fit_in-fit.result.units)
    (take_rest c.args.items.now from) c.fit_in-fit.ensures)
