use Rattle.std.proofs.Common.{◌≡◌, ◌+◌, ◌-◌, ◌<◌, length, drop, get_or, sym, ap, ◌∙◌, subst, arith}
use Rattle.std.specs.List.{AllByRecursion}
use Rattle.std.proofs.lemmas.List.{drop_more, get_or_default}
use Rattle.rbbi_tally.specs.declared.counts.ValueCount.{ValueCount}
use Rattle.rbbi_tally.proofs.Values.{more_at, new_at, none_at, count_within}
use Rattle.rbbi_tally.proofs.counts.add.Goals as goal
use Rattle.rbbi_tally.proofs.counts.add.Goals.{else-place-gt0-via-then-place-gt0+else-index-value-2, else-place-gt0-via-else-place-gt0}
use Rattle.rbbi_tally.proofs.counts.add.Goals.{After-index_mut, then-loop-place-test+else-index-value, else-loop-place-test}

pub returns-then-count-eq0 : goal.returns-then-count-eq0
returns-then-count-eq0 c = λ of are. none_at of c.args.pairs.now.items c.args.value c.args.count c.if-count-eq0.true are

pub loop-place-preserved : goal.loop-place-preserved
loop-place-preserved c =
    let pairs = c.args.pairs.now.items in
    let place = c.loop-place.place in
    let e : place - 1 + 1 ≡ place = omega (arith, c.loop-place-test.true) in
    let here = drop_more pairs (place - 1) c.index.result.now (omega (arith, c.loop-place.invariant.0, c.loop-place-test.true)) in (
      omega (arith, c.loop-place.invariant.0),
      subst (AllByRecursion (λ (p : ValueCount). c.args.value < p.value)) (sym here) (
        omega (arith, ap (λ (p : ValueCount). p.value) c.index.ensures, c.if-index-value.true),
        subst (λ n. AllByRecursion (λ (p : ValueCount). c.args.value < p.value) (drop n pairs)) (sym e) c.loop-place.invariant.1,
      ),
    )

-- the pair before the place has the value
there : (c : After-index_mut) → (c.loop-place.place - 1 < length c.args.pairs.now.items)
    × ((get_or c.args.pairs.now.items (c.loop-place.place - 1) c.index_mut.result.now).value ≡ c.args.value)
there c =
    let short : c.loop-place.place - 1 < length c.args.pairs.now.items = omega (arith, c.loop-place.invariant.0, c.if-place-gt0.true) in
    let same = get_or_default c.args.pairs.now.items (c.loop-place.place - 1) c.index_mut.result.now c.index-then-place-gt0.result.now short in
    (short, ap (λ (p : ValueCount). p.value) (same ∙ sym c.index-then-place-gt0.ensures) ∙ c.if-index-value-2.true)

pub overflow_add-index_mut : goal.overflow_add-index_mut
overflow_add-index_mut c =
    let here = there (goal.at.overflow_add-index_mut c).After-index_mut in
    let within = count_within _ _ _ _ here.0 here.1 in
    omega (arith, ap (λ (p : ValueCount). p.count) c.index_mut.ensures.value)

pub returns-then-index-value-2 : goal.returns-then-index-value-2
returns-then-index-value-2 c = λ of are.
    let here = there (goal.at.returns-then-index-value-2 c).After-index_mut in
    more_at of _ _ c.args.value c.args.count _ _ here.0 here.1 (ap (λ (p : ValueCount). p.value) c.index_mut.ensures.value ∙ here.1)
    (ap (λ (p : ValueCount). p.count + c.args.count) c.index_mut.ensures.value) are

pub returns : goal.returns
returns c = λ of are.
    let pairs = c.args.pairs.now.items in
    let place = c.loop-place.place in
    let d : ValueCount = record { value = 0; count = 0 } in
    let low : 0 < place → (get_or pairs (place - 1) d).value < c.args.value =
    λ some.
    elim c.else-place-gt0.branch [
      | else-place-gt0-via-then-place-gt0+else-index-value-2 w ↦
          elim c.loop-place-test.branch [
            | then-loop-place-test+else-index-value v ↦
                let short : place - 1 < length pairs = omega (arith, c.loop-place.invariant.0, some) in
                let same = get_or_default pairs (place - 1) d v.index.result.now short ∙ sym v.index.ensures in
                let same' = get_or_default pairs (place - 1) d w.index-then-place-gt0.result.now short ∙ sym w.index-then-place-gt0.ensures in
                omega (arith, ap (λ (p : ValueCount). p.value) same, ap (λ (p : ValueCount). p.value) same')
            | else-loop-place-test v ↦ absurd (omega (arith, some, v.loop-place-test.false))
          ]
      | else-place-gt0-via-else-place-gt0 w ↦ absurd (omega (arith, some, w.if-place-gt0.false))
    ] in
    new_at of pairs c.insert.new.self.items place c.args.value c.args.count d (omega (arith, c.loop-place.invariant.0)) low c.loop-place.invariant.1
    (omega (arith, c.if-count-eq0.false)) c.in_ok-insert.ensures.items are
