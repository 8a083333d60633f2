use Rattle.std.proofs.Common.{ℕ, cond, ap, sym, ◌∙◌, arith}
use Rattle.rbbi_dfa.proofs.LookAheads.{counted_more}
use Rattle.rbbi_dfa.proofs.compile.look_aheads.Goals as goal
use Rattle.rbbi_dfa.proofs.compile.look_aheads.Goals.{then-is_some, else-is_some}

pub loop-rule-preserved : goal.loop-rule-preserved
loop-rule-preserved c =
    let before = c.loop-rule.invariant in
    let more = counted_more c.args.positions.now.rules c.loop-rule.rule c.slash.result c.slash.ensures in
    elim c.if-is_some.branch [
      | then-is_some w ↦
          let one = ap {B = ℕ} (λ b. cond b 1 0) (sym c.is_some.ensures ∙ w.if-is_some.true) in
          record { exact = omega (arith, one, more, before.exact, w.count-is); few = omega (arith, before.few, w.count-is) }
      | else-is_some w ↦
          let none = ap {B = ℕ} (λ b. cond b 1 0) (sym c.is_some.ensures ∙ w.if-is_some.false) in
          record { exact = omega (arith, none, more, before.exact, w.count-is); few = omega (arith, before.few, w.count-is) }
    ]
