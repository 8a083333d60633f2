use Rattle.std.proofs.Common.{◌≡◌, ◌++◌, take, drop, length, refl, ap, ◌∙◌, subst, arith}
use Rattle.std.proofs.lemmas.List.{take_at}
use Rattle.rbbi_text.specs.inner.Cuts.{shifted}
use Rattle.rbbi_text.proofs.CutLemmas.{shifted_is}
use Rattle.rbbi_text.proofs.places.shift.Goals as goal

pub returns-then-removed-added : goal.returns-then-removed-added
returns-then-removed-added c =
    shifted_is c.args.starts.now.items c.args.starts.now.items c.args.from c.args.removed c.args.added refl c.requires.from (λ i less. refl)
    (λ i low short. omega (arith, c.requires.behind i low short, c.if-removed-added.true))

pub returns : goal.returns
returns c =
    let moved = c.loop-k.moved in
    let starts = c.args.starts.now in
    let same = c.as_mut_slice-moved.ensures.value in
    take_at moved (drop (length moved) starts.items) starts.len (omega (arith, starts.ok.0, ap length same, c.loop-k.auto.moved))
    ∙ subst (λ s. moved ≡ take c.args.from s ++ shifted c.args.removed c.args.added (drop c.args.from s)) same
    (shifted_is c.as_mut_slice-moved.result.now moved c.args.from c.args.removed c.args.added (omega arith)
    (omega (arith, c.requires.from, ap length same)) c.loop-k.invariant.0 (λ i low short. c.loop-k.invariant.1 i low (omega (arith, short))))
