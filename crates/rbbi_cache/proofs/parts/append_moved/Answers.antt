use Rattle.std.proofs.Common.{◌≡◌, ap, ◌∙◌, subst, sym, arith}
use Rattle.rbbi_model.proofs.Lists.{all_at}
use Rattle.rbbi_cache.specs.inner.Parts.{CanMove}
use Rattle.rbbi_cache.proofs.Appended.{moved_is, added, skipped}
use Rattle.rbbi_cache.proofs.parts.append_moved.Goals as goal
use Rattle.rbbi_cache.proofs.parts.append_moved.Goals.{then-moved-first, else-moved-first}

pub loop-entry-preserved : goal.loop-entry-preserved
loop-entry-preserved c =
    let can : CanMove c.args.edit.removed c.entry-item.result =
    subst (CanMove c.args.edit.removed) (sym c.entry-item.is)
    (all_at (CanMove c.args.edit.removed) c.args.entries.now c.loop-entry.entry-index c.entry-item.result c.loop-entry-test.true c.requires.can_move) in
    let at : c.entry.inside.at ≡ c.entry-item.result.at = ap (λ e. e.at) c.entry.view_is in
    let is = moved_is c.args.edit.removed c.args.edit.inserted c.entry-item.result c.entry.inside.at c.entry.inside.status c.entry.inside.reach can at
    (ap (λ e. e.status) c.entry.view_is) (ap (λ e. e.reach) c.entry.view_is) in
    elim c.if-moved-first.branch [
      | then-moved-first w ↦
          w.run-is
          ∙ added c.args.edit.removed c.args.edit.inserted c.args.first c.args.run.now c.args.entries.now c.loop-entry.entry-index c.entry-item.result
          c.loop-entry.run c.loop-entry-test.true c.entry-item.is c.loop-entry.invariant
          _ w.push.new.self is (omega (arith, ap (λ e. e.at) is, w.if-moved-first.true)) c.requires.room w.push.ensures
      | else-moved-first w ↦
          w.run-is
          ∙ skipped c.args.edit.removed c.args.edit.inserted c.args.first c.args.run.now c.args.entries.now c.loop-entry.entry-index c.entry-item.result
          c.loop-entry.run c.loop-entry-test.true c.entry-item.is c.loop-entry.invariant
          (omega (arith, ap (λ e. e.at) is, w.if-moved-first.false))
    ]
