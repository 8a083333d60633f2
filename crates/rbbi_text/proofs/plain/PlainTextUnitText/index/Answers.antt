use Rattle.std.proofs.Common.{eqb, ◌∙◌, subst}
use Rattle.rbbi_text.specs.Indexes.{IsIndex}
use Rattle.rbbi_text.proofs.MilestoneLemmas.{index_is}
use Rattle.rbbi_text.proofs.plain.PlainTextUnitText.index.Goals as goal

pub returns : goal.returns
returns c =
    let fit = c.fit_characters-fit.result in
    subst (λ x. IsIndex c.args.unit x c.args.o (record { at = fit.count; whole = eqb fit.units c.args.o })) (c.deref.ensures.value ∙ c.self.view_is)
    (index_is c.args.unit c.deref.result.now c.args.o fit.count fit.units c.fit_characters-fit.ensures)
