-- Each stretch is kept whole or left out whole, as the operation tells.
use Rattle.std.proofs.Common.{◌<◌, ◌≤◌, ◌↔◌, ℕ, sym, ◌∙◌, inl, inr, arith}
use Rattle.std.specs.Prelude.{IsTrue}
use Rattle.std.proofs.lemmas.Bool.{false≢true}
use Rattle.rbbi_model.specs.Ranges.{Has}
use Rattle.rbbi_sets.specs.inner.Sweeps.{Combined}
use Rattle.rbbi_sets.proofs.Sweeping.{have-skip, have-more, combined-iff, combined-some, has-iff, members-points}
use Rattle.rbbi_sets.proofs.sweep.sweep.Goals as goal
use Rattle.rbbi_sets.proofs.sweep.sweep.Goals.{then-is_kept+in_ok-push, else-is_kept}

pub stretches-preserved : goal.stretches-preserved
stretches-preserved c =
    let xs = c.ranges-lefts.result.now in
    let ys = c.ranges-rights.result.now in
    let at : ℕ = c.stretches.at in
    let end : ℕ = c.min-end.result in
    let before = c.stretches.invariant.have in
    let Wanted : ℕ → Type 0 = λ code. Combined c.args.operation (Has xs code) (Has ys code) in
    let told : (code : ℕ) → at ≤ code → code < end → Wanted code ↔ IsTrue c.is_kept.result =
    λ code l m.
    let left = has-iff xs code c.stretch_from-of_left.result.is_inside (c.stretch_from-of_left.ensures.same code l (omega arith)) in
    let right = has-iff ys code c.stretch_from-of_right.result.is_inside (c.stretch_from-of_right.ensures.same code l (omega arith)) in
    let both = combined-iff c.args.operation left right in
    (λ p. c.is_kept.ensures.1 (both.0 p), λ t. both.1 (c.is_kept.ensures.0 t)) in
    record {
      have =
          elim c.if-is_kept.branch [
            | then-is_kept+in_ok-push w ↦
                rw w.set-is
                (have-more Wanted c.stretches.set at end before w.push.new.self _ (omega arith) (omega arith)
                (λ code l m. (told code l m).1 w.if-is_kept.true) w.in_ok-push.ensures.members w.in_ok-push.ensures.form)
            | else-is_kept w ↦
                rw w.set-is
                (have-skip Wanted c.stretches.set at end before (omega arith)
                (λ code l m p. false≢true (sym w.if-is_kept.false ∙ (told code l m).0 p)))
          ];
      point = omega arith;
      left_within = c.next_after-next_left.ensures.within;
      left_place = c.next_after-next_left.ensures.place;
      right_within = c.next_after-next_right.ensures.within;
      right_place = c.next_after-next_right.ensures.place;
    }

pub returns-clause-members : goal.returns-clause-members
returns-clause-members c =
    let found = c.stretches.invariant.have in
    rw (← c.ranges-lefts.ensures.value, ← c.ranges-rights.ensures.value) (λ code. (
      λ h. ((found.members code).0 h).1,
      λ p.
          let point : code ≤ 0x10FFFF =
          elim (combined-some c.args.operation p) [
            | inl x ↦ members-points 0 c.ranges-lefts.result.now code c.ranges-lefts.ensures.form x
            | inr y ↦ members-points 0 c.ranges-rights.result.now code c.ranges-rights.ensures.form y
          ] in
          (found.members code).1 (omega arith, p),
    ))
