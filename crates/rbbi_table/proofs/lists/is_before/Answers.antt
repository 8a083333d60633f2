use Rattle.std.proofs.Common.{ℕ, ◌<◌, length, get_or, inl, inr, ⊎_elim, arith}
use Rattle.std.proofs.lemmas.Bool.{ltb-true, lt-ltb}
use Rattle.rbbi_table.proofs.ListLemmas.{ending, both_more, both_back}
use Rattle.rbbi_table.proofs.lists.is_before.Goals as goal

pub returns-then-this-that : goal.returns-then-this-that
returns-then-this-that c =
    let i : ℕ = c.loop-i.i in
    let this : i < length c.args.these.now = omega (arith, c.min-shared.ensures) in
    let that : i < length c.args.those.now = omega (arith, c.min-shared.ensures) in (
      λ is. c.loop-i.invariant.1 (both_back c.args.these.now c.args.those.now i this that
          (inl (ltb-true (get_or c.args.these.now i 0) (get_or c.args.those.now i 0) is))),
      λ before.
          ⊎_elim
          (λ less. lt-ltb (get_or c.args.these.now i 0) (get_or c.args.those.now i 0) less)
          (λ same. absurd (c.if-this-that.true same.0))
          (both_more c.args.these.now c.args.those.now i this that (c.loop-i.invariant.0 before)),
    )

pub loop-i-preserved : goal.loop-i-preserved
loop-i-preserved c =
    let i : ℕ = c.loop-i.i in
    let this : i < length c.args.these.now = omega (arith, c.min-shared.ensures) in
    let that : i < length c.args.those.now = omega (arith, c.min-shared.ensures) in (
      λ before.
          ⊎_elim
          (λ less. absurd (omega (arith, less, c.if-this-that.false)))
          (λ same. same.1)
          (both_more c.args.these.now c.args.those.now i this that (c.loop-i.invariant.0 before)),
      λ before. c.loop-i.invariant.1 (both_back c.args.these.now c.args.those.now i this that (inr (c.if-this-that.false, before))),
    )

pub returns : goal.returns
returns c =
    let i : ℕ = c.loop-i.i in
    let end = ending c.args.these.now c.args.those.now i (omega (arith, c.min-shared.ensures)) in (
      λ is. c.loop-i.invariant.1 (end.0 (ltb-true (length c.args.these.now) (length c.args.those.now) is)),
      λ before. lt-ltb (length c.args.these.now) (length c.args.those.now) (end.1 (c.loop-i.invariant.0 before)),
    )
