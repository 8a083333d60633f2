use Rattle.std.proofs.Common.{◌≡◌, ◌<◌, ◌≤◌, ℕ, List, length, ap, sym, subst, ◌∙◌, arith}
use Rattle.rbbi_model.specs.Tables.{Table}
use Rattle.rbbi_model.specs.Searches.{found}
use Rattle.rbbi_model.proofs.Found.{found_lies}
use Rattle.rbbi_conform.specs.inner.Verdicts.{AreRight, IsFirstWrong}
use Rattle.rbbi_conform.proofs.Judging.{IsJudgedTo, IsJudged-start, IsJudged-more, IsJudged-wrong}
use Rattle.rbbi_conform.proofs.verdict.judge.Goals as goal

-- where the search from the last boundary went: it found this place, which lies past that boundary and in the text
searched : (table : Table) (x y : List ℕ) (last at : ℕ) → y ≡ x → last < length y → at ≡ (found table y last).at
    → (last < length x) × (at ≡ (found table x last).at) × (last < at) × (at ≤ length x)
searched table x y last at same below is =
    let short : last < length x = omega (arith, ap length same) in
    let place : at ≡ (found table x last).at = is ∙ ap (λ z. (found table z last).at) same in
    let lies = found_lies table x last short in
    (short, place, omega (arith, lies.0), omega (arith, lies.1))

pub loop-last-init : goal.loop-last-init
loop-last-init g c = (IsJudged-start c.args.table.now c.args.test.now, c.requires)

pub first_wrong-requires-clause-past : goal.first_wrong-requires-clause-past
first_wrong-requires-clause-past g c = (searched c.args.table.now _ _ _ _ c.text-text.ensures (omega (arith, c.len.ensures.exact)) c.next-next.ensures.at).2

pub first_wrong-requires-clause-within : goal.first_wrong-requires-clause-within
first_wrong-requires-clause-within g c = (searched c.args.table.now _ _ _ _ c.text-text.ensures (omega (arith, c.len.ensures.exact)) c.next-next.ensures.at).3

pub returns-in-Some-clause-verdict : goal.returns-in-Some-clause-verdict
returns-in-Some-clause-verdict g c =
    let next = searched c.args.table.now _ _ _ _ c.text-text.ensures (omega (arith, c.len.ensures.exact)) c.next-next.ensures.at in
    IsJudged-wrong c.args.table.now c.args.test.now c.loop-last.last c.in-Some.place c.loop-last.invariant.0 next.0
    (subst (λ p. IsFirstWrong c.args.test.now c.loop-last.last p c.in-Some.place) next.1 c.in-Some.ensures)

pub loop-last-smaller : goal.loop-last-smaller
loop-last-smaller g c =
    let next = searched c.args.table.now _ _ _ _ c.text-text.ensures (omega (arith, c.len.ensures.exact)) c.next-next.ensures.at in
    omega (arith, next.2, next.3)

pub loop-last-preserved : goal.loop-last-preserved
loop-last-preserved g c =
    let last = c.loop-last.last in
    let next = searched c.args.table.now _ _ _ _ c.text-text.ensures (omega (arith, c.len.ensures.exact)) c.next-next.ensures.at in (
      subst (λ p. IsJudgedTo c.args.table.now c.args.test.now p) (sym next.1)
          (IsJudged-more c.args.table.now c.args.test.now last c.loop-last.invariant.0 next.0
          (subst (λ p. AreRight c.args.test.now last p p) next.1 c.in_default.ensures)),
      c.next-next.ensures.fit ∙ c.loop-last.invariant.1,
    )
