use Rattle.std.proofs.Common.{◌≡◌, ◌+◌, ◌-◌, ◌<◌, ◌⊎◌, not, ◌&&◌, eqb, inl, inr, arith}
use Rattle.std.proofs.lemmas.Bool.Decides.{nat_tests}
use Rattle.rbbi_cache.proofs.Copied.{other_is, zero_is, zero_can_move}
use Rattle.rbbi_cache.proofs.parts.copy_moved.Goals as goal
use Rattle.rbbi_cache.proofs.parts.copy_moved.Goals.{then-leads, else-leads, then-anchor-gt0-2, else-anchor-gt0-2}

pub returns-then-anchor-gt0 : goal.returns-then-anchor-gt0
returns-then-anchor-gt0 c =
    let leads : c.if-leads.restart ≡ (c.args.run.now.leads && not (eqb (c.args.run.now.anchor - c.args.edit.removed + c.args.edit.inserted) 0)) =
    elim c.if-leads.branch [
      | then-leads w ↦ grind (arith, nat_tests, w.restart-is, w.if-leads.true, c.leads.ensures, c.anchor.ensures)
      | else-leads w ↦ grind
          (arith, nat_tests, w.restart-is, w.if-leads.false, c.leads.ensures)
    ] in
    other_is c.args.edit.at c.args.edit.removed c.args.edit.inserted c.args.run.now (omega (arith, c.anchor-2.ensures, c.if-anchor-gt0.true))
    c.requires.behind c.anchor.result c.if-leads.restart c.entries.result.now c.restart.new.run c.append_moved.new.run
    c.anchor.ensures leads c.entries.ensures c.restart.ensures c.append_moved.ensures

pub append_moved-requires-2-clause-can_move : goal.append_moved-requires-2-clause-can_move
append_moved-requires-2-clause-can_move c =
    zero_can_move c.args.edit.at c.args.edit.removed c.args.edit.inserted c.args.run.now c.requires.movable
    (omega (arith, c.anchor-2.ensures, c.if-anchor-gt0.false)) c.requires.behind c.count_reaching-left.result c.entries-3.result.now c.entries-3.ensures

pub returns : goal.returns
returns c =
    let first : ((0 < c.anchor.result - c.args.edit.removed + c.args.edit.inserted) ×
    (c.if-anchor-gt0-2.first ≡ c.anchor.result - c.args.edit.removed + c.args.edit.inserted + 2)) ⊎
    ((c.anchor.result - c.args.edit.removed + c.args.edit.inserted ≡ 0) × (c.if-anchor-gt0-2.first ≡ 0)) =
    elim c.if-anchor-gt0-2.branch [ then-anchor-gt0-2 w ↦ inl (w.if-anchor-gt0-2.true, w.first-is) | else-anchor-gt0-2 w ↦ inr (omega arith, w.first-is) ] in
    zero_is c.args.edit.at c.args.edit.removed c.args.edit.inserted c.args.run.now (omega (arith, c.anchor-2.ensures, c.if-anchor-gt0.false))
    c.requires.behind c.anchor.result c.if-anchor-gt0-2.first c.count_reaching-left.result c.leads-2.result
    c.entries-2.result.now c.entries-3.result.now c.restart-2.new.run c.append_moved-2.new.run c.anchor.ensures c.leads-2.ensures c.entries-2.ensures
    c.entries-3.ensures first c.count_reaching-left.ensures.others c.restart-2.ensures c.append_moved-2.ensures
