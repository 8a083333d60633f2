use Rattle.std.proofs.Common.{Option, sym, subst}
use Rattle.std.specs.Prelude.{MatchOption, ⊤}
use Rattle.rbbi_cache.specs.declared.runs.Shown.{Shown}
use Rattle.rbbi_cache.specs.inner.Lists.{HasAt, GoesOnFrom}
use Rattle.rbbi_cache.proofs.RunLists.{has_at}
use Rattle.rbbi_cache.proofs.runs.find_nearest.Goals as goal
use Rattle.rbbi_cache.proofs.runs.find_nearest.Goals.{in-Some+else-entry-i+then-is_nearer, in-Some+else-entry-i+else-is_nearer, in_default}

pub returns-then-entry-i : goal.returns-then-entry-i
returns-then-entry-i c =
    has_at (GoesOnFrom c.args.i c.in-Some.entry) c.args.runs.now c.loop-k.k c.index-runs-k.result c.loop-k-test.true c.index-runs-k.is c.in-Some.ensures

pub loop-k-preserved : goal.loop-k-preserved
loop-k-preserved c =
    let Ok : Option Shown → Type 0 = λ best. MatchOption best ⊤ (λ shown. HasAt c.args.runs.now shown.run (GoesOnFrom c.args.i shown.entry)) in
    elim c.match-last_up_to.branch [
      | in-Some+else-entry-i+then-is_nearer w ↦ subst Ok (sym w.best-is)
          (has_at (GoesOnFrom c.args.i w.in-Some.entry) c.args.runs.now c.loop-k.k c.index-runs-k.result c.loop-k-test.true c.index-runs-k.is w.in-Some.ensures)
      | in-Some+else-entry-i+else-is_nearer w ↦ subst Ok (sym w.best-is) c.loop-k.invariant
      | in_default w ↦ subst Ok (sym w.best-is) c.loop-k.invariant
    ]
