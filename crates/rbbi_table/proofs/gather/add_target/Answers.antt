use Rattle.std.proofs.Common.{◌≡◌, true, false, List, ℕ, set, get_or, sym, ◌∙◌, subst}
use Rattle.std.proofs.lemmas.List.{get_or_read}
use Rattle.rbbi_table.specs.inner.Targets.{IsGathered}
use Rattle.rbbi_table.proofs.TargetLemmas.{gathers_one}
use Rattle.rbbi_table.proofs.gather.add_target.Goals as goal

pub returns-in_ok-push-clause-gathered : goal.returns-in_ok-push-clause-gathered
returns-in_ok-push-clause-gathered c =
    let read = get_or_read c.args.seen.now.items c.args.target c.index.result.now c.requires.row c.index.ensures false in
    let isnt : get_or c.args.seen.now.items c.args.target false ≡ false = sym read ∙ c.if-not-index.true in
    subst (λ (l : List ℕ). IsGathered (set c.args.seen.now.items c.args.target true) l) (sym c.in_ok-push.ensures.items)
    (gathers_one c.args.seen.now.items c.args.targets.now.items c.args.target c.requires.row c.requires.gathered isnt)
