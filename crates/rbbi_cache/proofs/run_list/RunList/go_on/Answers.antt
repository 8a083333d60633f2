use Rattle.std.proofs.Common.{rules, ◌<◌, ◌≤◌, ◌∷◌, length, sym, subst, arith}
use Rattle.std.specs.List.{AllByRecursion}
use Rattle.rbbi_model.specs.Runs.{IsTrueRun}
use Rattle.rbbi_model.proofs.Lists.{all_right}
use Rattle.rbbi_cache.specs.inner.Lists.{GoesOnFrom}
use Rattle.rbbi_cache.specs.inner.Ready.{GoesOnAs}
use Rattle.rbbi_cache.proofs.Slots.{below, read_is, written_is}
use Rattle.rbbi_cache.proofs.run_list.RunList.go_on.Goals as goal

pub bounds-slots-k : goal.bounds-slots-k
bounds-slots-k g c =
    let at = c.requires.from in
    let short : c.self.inside.count ≤ length c.self.inside.slots = omega (arith, c.self.invariant.0, c.self.invariant.1) in
    let k = below c.self.inside.slots c.self.inside.count short c.args.self.now at.before at.run at.after c.self.view_is at.whole
    c.args.k at.number in
    omega (arith, k)

pub offset_bounds-slots-k : goal.offset_bounds-slots-k
offset_bounds-slots-k g c =
    let at = c.requires.from in
    let short : c.self.inside.count ≤ length c.self.inside.slots = omega (arith, c.self.invariant.0, c.self.invariant.1) in
    let k = below c.self.inside.slots c.self.inside.count short c.args.self.now at.before at.run at.after c.self.view_is at.whole
    c.args.k at.number in
    let few : c.args.k < 16 = omega (arith, k, c.self.invariant.0) in
    search rules

pub go_on-requires-clause-is_true : goal.go_on-requires-clause-is_true
go_on-requires-clause-is_true g c =
    let at = c.requires.from in
    let short : c.self.inside.count ≤ length c.self.inside.slots = omega (arith, c.self.invariant.0, c.self.invariant.1) in
    let here = read_is c.self.inside.slots c.self.inside.count short c.args.self.now at.before at.run at.after
    c.self.view_is at.whole c.args.k at.number c.index-slots-k.result in
    let each = subst (AllByRecursion (IsTrueRun c.args.table.now (g.T.Chars.characters c.args.text.now))) at.whole c.requires.are_true in
    subst (IsTrueRun c.args.table.now (g.T.Chars.characters c.args.text.now)) (sym here) (all_right (IsTrueRun c.args.table.now (g.T.Chars.characters
    c.args.text.now)) at.before (at.run ∷ at.after) each).0

pub go_on-requires-clause-from : goal.go_on-requires-clause-from
go_on-requires-clause-from g c =
    let at = c.requires.from in
    let short : c.self.inside.count ≤ length c.self.inside.slots = omega (arith, c.self.invariant.0, c.self.invariant.1) in
    let here = read_is c.self.inside.slots c.self.inside.count short c.args.self.now at.before at.run at.after
    c.self.view_is at.whole c.args.k at.number c.index-slots-k.result in
    subst (GoesOnFrom c.args.i c.args.from) (sym here) at.such

pub returns-clause-gone_on : goal.returns-clause-gone_on
returns-clause-gone_on g c before after run whole number =
    let short : c.self.inside.count ≤ length c.self.inside.slots = omega (arith, c.self.invariant.0, c.self.invariant.1) in
    let here = read_is c.self.inside.slots c.self.inside.count short c.args.self.now before run after c.self.view_is
    whole c.args.k number c.index-slots-k.result in
    record {
      run = c.go_on.new.run;
      whole = written_is c.self.inside.slots c.self.inside.count short c.args.self.now before run after c.self.view_is whole c.args.k number
          c.go_on.new.run;
      gone_on = subst (λ r. GoesOnAs c.args.table.now (g.T.Chars.characters c.args.text.now) c.args.i r c.go_on.result.0 c.go_on.result.1 c.go_on.new.run
          c.go_on.new.spare) here c.go_on.ensures.gone_on;
    }
