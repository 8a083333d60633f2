use Rattle.std.proofs.Common.{◌≤◌, [], length, drop, get_or, sym, refl, ap, ◌∙◌, subst, arith}
use Rattle.std.specs.List.{AllByRecursion}
use Rattle.rbbi_model.specs.Runs.{IsTrueRun}
use Rattle.rbbi_cache.proofs.Keeping.{keeps_stepped}
use Rattle.rbbi_cache.proofs.Quieting.{unknown_to_first}
use Rattle.rbbi_cache.proofs.Slots.{first_is, written_is}
use Rattle.rbbi_cache.proofs.run_list.RunList.step.Goals as goal

pub step-requires-clause-is_true : goal.step-requires-clause-is_true
step-requires-clause-is_true g c =
    let short : c.self.inside.count ≤ length c.self.inside.slots = omega (arith, c.self.invariant.0, c.self.invariant.1) in
    let first = first_is c.self.inside.slots c.self.inside.count c.if-self-eq0.false short c.index-self-0.result in
    (subst (AllByRecursion (IsTrueRun c.args.table.now (g.T.Chars.characters c.args.text.now))) (sym c.self.view_is ∙ first.1) c.requires.are_true).0

pub returns-clause-kept : goal.returns-clause-kept
returns-clause-kept g c =
    let short : c.self.inside.count ≤ length c.self.inside.slots = omega (arith, c.self.invariant.0, c.self.invariant.1) in
    let first = first_is c.self.inside.slots c.self.inside.count c.if-self-eq0.false short c.index-self-0.result in
    keeps_stepped c.args.table.now c.valid.ensures (g.T.Chars.characters c.args.text.now) c.args.i c.args.self.now c.requires.are_true
    (get_or c.self.inside.slots 0 c.index-self-0.result) first.0 (sym c.self.view_is ∙ first.1) c.step.new.run _
    (written_is c.self.inside.slots c.self.inside.count short c.args.self.now [] (get_or c.self.inside.slots 0 c.index-self-0.result) first.0 c.self.view_is
    (sym c.self.view_is ∙ first.1) 0 refl c.step.new.run) c.args.steps.now c.step.new.steps c.step.result c.step.ensures.gone_on

pub returns-clause-others : goal.returns-clause-others
returns-clause-others g c =
    let short : c.self.inside.count ≤ length c.self.inside.slots = omega (arith, c.self.invariant.0, c.self.invariant.1) in
    let first = first_is c.self.inside.slots c.self.inside.count c.if-self-eq0.false short c.index-self-0.result in
    ap (drop 1) (written_is c.self.inside.slots c.self.inside.count short c.args.self.now [] (get_or c.self.inside.slots 0 c.index-self-0.result) first.0
    c.self.view_is (sym c.self.view_is ∙ first.1) 0 refl c.step.new.run) ∙ sym (ap (drop 1) (sym c.self.view_is ∙ first.1))

pub returns-clause-unknown : goal.returns-clause-unknown
returns-clause-unknown g c =
    let short : c.self.inside.count ≤ length c.self.inside.slots = omega (arith, c.self.invariant.0, c.self.invariant.1) in
    let first = first_is c.self.inside.slots c.self.inside.count c.if-self-eq0.false short c.index-self-0.result in
    unknown_to_first c.args.i c.step.result (get_or c.self.inside.slots 0 c.index-self-0.result) first.0 c.args.self.now (sym c.self.view_is ∙ first.1)
    c.step.ensures.unknown
