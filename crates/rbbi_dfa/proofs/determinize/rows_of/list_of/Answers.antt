use Rattle.std.proofs.Common.{◌≡◌, ◌+◌, sym, subst, arith}
use Rattle.rbbi_dfa.proofs.MarkedLists.{AreMarkedUpTo, marked_none, marked_takes, marked_stays}
use Rattle.rbbi_dfa.proofs.determinize.rows_of.list_of.Goals as goal
use Rattle.rbbi_dfa.proofs.determinize.rows_of.list_of.Goals.{in-Some+in_ok-push-in-Some, in-None}

pub loop-position-init : goal.loop-position-init
loop-position-init c = marked_none c.args.positions.now c.args.kind c.new-list.result.items c.new-list.ensures.items

pub loop-position-preserved : goal.loop-position-preserved
loop-position-preserved c =
    let marks = c.args.positions.now in
    let kind = c.args.kind in
    let old = c.loop-position.list.items in
    let position = c.loop-position.position in
    elim c.match-mark_of.branch [
      | in-Some+in_ok-push-in-Some w ↦
          subst (λ v. AreMarkedUpTo marks kind v.items (position + 1)) (sym w.list-is)
          (subst (λ l. AreMarkedUpTo marks kind l (position + 1)) (sym w.in_ok-push-in-Some.ensures.items)
          (marked_takes marks kind old position c.loop-position.invariant w.in-Some.mark (sym w.in-Some.ensures)))
      | in-None w ↦
          subst (λ v. AreMarkedUpTo marks kind v.items (position + 1)) (sym w.list-is)
          (marked_stays marks kind old position c.loop-position.invariant (sym w.in-None.ensures))
    ]

pub returns : goal.returns
returns c =
    let same : c.loop-position.position ≡ c.args.positions.now.leaves =
    omega (arith, c.loop-position-test.false, c.leaves-position-end.ensures, c.loop-position.auto.position-end) in
    subst (AreMarkedUpTo c.args.positions.now c.args.kind c.loop-position.list.items) same c.loop-position.invariant
