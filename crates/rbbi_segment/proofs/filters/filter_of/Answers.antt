use Rattle.std.proofs.Common.{refl, sym, subst}
use Rattle.std.specs.Prelude.{IfOk}
use Rattle.rbbi_segment.specs.Filters.{IsFilterOf}
use Rattle.rbbi_segment.proofs.Carried.{if_ok}
use Rattle.rbbi_segment.proofs.filters.filter_of.Goals as goal

pub returns-in-Language-clause-filter : goal.returns-in-Language-clause-filter
returns-in-Language-clause-filter g c =
    let input = g.R.Read.remaining c.args.input.now in
    subst (λ f. IfOk c.of_language.result (λ filter. IsFilterOf (g.F.Files.contents c.args.files.now) input f filter input)) (sym c.in-Language.is)
    (if_ok c.of_language.result (λ filter lists. (lists, refl)) c.of_language.ensures)
