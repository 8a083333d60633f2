use Rattle.std.proofs.Common.{◌≤◌, length, filter, leb, sym, ap, ◌∙◌, subst, arith}
use Rattle.std.specs.List.{AllByRecursion}
use Rattle.std.proofs.lemmas.List.{take_all}
use Rattle.rbbi_model.specs.Runs.{Entry}
use Rattle.rbbi_cache.proofs.Staying.{stays_so}
use Rattle.rbbi_cache.proofs.parts.stays.Goals as goal

pub returns : goal.returns
returns c so =
    let within = c.count_reaching.ensures.within in
    let same = take_all c.count_reaching.result c.entries-entries.result.now c.if-count_reaching-entries.false ∙ c.entries-entries.ensures in
    stays_so c.args.edit.at c.args.edit.removed c.args.run.now c.requires (omega (arith, ap length c.entries-entries.ensures)) (omega (arith, c.anchor.ensures))
    (subst (λ l. AllByRecursion (λ e. e.reach ≤ c.args.edit.at) l) same c.count_reaching.ensures.up_to)
    (sym same ∙ c.count_reaching.ensures.first ∙ ap (filter (λ (e : Entry). leb e.reach c.args.edit.at)) c.entries-entries.ensures)
