use Rattle.std.proofs.Common.{◌≡◌, ℕ, List, ◌+◌, ◌-◌, ◌≤◌, get_or, length, sym, ap, ◌∙◌, ⊎_elim, arith}
use Rattle.std.proofs.lemmas.Bool.{cases_eq, false≢true}
use Rattle.rbbi_model.specs.Tables.{CategoryRange, category_of}
use Rattle.rbbi_model.proofs.Found.{found_lies}
use Rattle.rbbi_change.specs.Costs.{is_barrier}
use Rattle.rbbi_change.proofs.Settled.{quiet_zero, quiet_at, pair_looks, barrier_ends, barrier_up_to}
use Rattle.rbbi_change.proofs.quiet.quiet_start.Given.{Over}
use Rattle.rbbi_change.proofs.quiet.quiet_start.Goals as goal
use Rattle.rbbi_change.proofs.quiet.quiet_start.Goals.{After-ends_all}

-- the pair that begins where the walk is
record IsPair (ranges : List CategoryRange) (x : List ℕ) (p here next : ℕ) : Type 0 where
  room : p + 2 ≤ length x
  here_is : here ≡ category_of ranges (get_or x p 0)
  next_is : next ≡ category_of ranges (get_or x (p + 1) 0)

pair : (g : Over) (c : After-ends_all g) → IsPair c.args.table.now.ranges (g.T.Chars.characters c.args.text.now) (c.loop-place.place - 1)
    c.category-here.result c.loop-place.next
pair g c =
    let low = c.loop-place.invariant.low in
    let some = c.loop-place.invariant.some in
    let within = c.requires.within in
    let there : c.loop-place.place - 1 + 1 ≡ c.loop-place.place = omega arith in
    record {
      room = omega arith;
      here_is = c.category-here.ensures.value ∙ ap (category_of c.args.table.now.ranges) c.char_at-in-loop-place.ensures.character;
      next_is =
          c.loop-place.invariant.next ∙ ap (λ n. category_of c.args.table.now.ranges (get_or (g.T.Chars.characters c.args.text.now) n 0)) (sym there);
    }

pub returns-then-at-lt4-clause-quiet : goal.returns-then-at-lt4-clause-quiet
returns-then-at-lt4-clause-quiet g c = quiet_zero c.args.table.now (g.T.Chars.characters c.args.text.now) c.args.at

pub returns-then-at-lt4-clause-from : goal.returns-then-at-lt4-clause-from
returns-then-at-lt4-clause-from g c =
    barrier_up_to c.args.table.now (g.T.Chars.characters c.args.text.now) c.args.at 0 (λ q past early _. omega arith)

pub returns-then-at-lt4-clause-read : goal.returns-then-at-lt4-clause-read
returns-then-at-lt4-clause-read g c =
    omega (arith, barrier_up_to c.args.table.now (g.T.Chars.characters c.args.text.now) c.args.at 0 (λ q past early _. omega arith))

pub returns-clause-quiet : goal.returns-clause-quiet
returns-clause-quiet g c = quiet_zero c.args.table.now (g.T.Chars.characters c.args.text.now) c.args.at

pub returns-clause-from : goal.returns-clause-from
returns-clause-from g c =
    barrier_up_to c.args.table.now (g.T.Chars.characters c.args.text.now) c.args.at 0
    (λ q past early. c.loop-place.invariant.none q (omega arith) early)

pub returns-clause-read : goal.returns-clause-read
returns-clause-read g c =
    omega (
      arith,
      c.loop-place.invariant.read,
      barrier_up_to c.args.table.now (g.T.Chars.characters c.args.text.now) c.args.at 0
          (λ q past early. c.loop-place.invariant.none q (omega arith) early),
    )

pub returns-then-ends_all-clause-quiet : goal.returns-then-ends_all-clause-quiet
returns-then-ends_all-clause-quiet g c =
    let is = pair g (goal.at.returns-then-ends_all-clause-quiet g c).After-ends_all in
    let low = c.loop-place.invariant.low in
    let some = c.loop-place.invariant.some in
    quiet_at c.args.table.now c.valid.ensures (g.T.Chars.characters c.args.text.now) (c.loop-place.place - 1) c.category-here.result c.loop-place.next
    is.room is.here_is is.next_is (sym c.ends_all.ensures ∙ c.if-ends_all.true) c.args.at (omega arith) c.next.result.at c.next.ensures.at

pub returns-then-ends_all-clause-from : goal.returns-then-ends_all-clause-from
returns-then-ends_all-clause-from g c =
    let is = pair g (goal.at.returns-then-ends_all-clause-from g c).After-ends_all in
    let some = c.loop-place.invariant.some in
    omega (
      arith,
      barrier_up_to c.args.table.now (g.T.Chars.characters c.args.text.now) c.args.at (c.loop-place.place - 1)
          (λ q past early. c.loop-place.invariant.none q (omega arith) early),
      found_lies c.args.table.now (g.T.Chars.characters c.args.text.now) (c.loop-place.place - 1) (omega (arith, is.room)),
      c.next.ensures.at,
    )

pub returns-then-ends_all-clause-read : goal.returns-then-ends_all-clause-read
returns-then-ends_all-clause-read g c =
    let is = pair g (goal.at.returns-then-ends_all-clause-read g c).After-ends_all in
    let some = c.loop-place.invariant.some in
    omega (
      arith,
      barrier_up_to c.args.table.now (g.T.Chars.characters c.args.text.now) c.args.at (c.loop-place.place - 1)
          (λ q past early. c.loop-place.invariant.none q (omega arith) early),
      pair_looks c.args.table.now c.valid.ensures (g.T.Chars.characters c.args.text.now) (c.loop-place.place - 1) c.category-here.result c.loop-place.next
          is.room is.here_is is.next_is (sym c.ends_all.ensures ∙ c.if-ends_all.true),
      c.loop-place.invariant.read,
      c.char_at-in-loop-place.ensures.step,
      c.next.ensures.read,
    )

pub loop-place-preserved : goal.loop-place-preserved
loop-place-preserved g c =
    let is = pair g (goal.at.loop-place-preserved g c).After-ends_all in
    let p = c.loop-place.place - 1 in
    let x = g.T.Chars.characters c.args.text.now in
    let low = c.loop-place.invariant.low in
    let some = c.loop-place.invariant.some in
    let goes = c.loop-place-test.true in
    record {
      low = omega arith;
      some = omega arith;
      next = is.here_is;
      category = c.category-here.ensures.within;
      none = λ q from early barrier.
          ⊎_elim
          (λ same.
          false≢true (sym (sym c.ends_all.ensures ∙ c.if-ends_all.false)
          ∙ barrier_ends c.args.table.now c.valid.ensures x p c.category-here.result c.loop-place.next is.room is.here_is is.next_is (omega arith)
          (ap (is_barrier c.args.table.now x) (sym same) ∙ barrier)))
          (λ other. c.loop-place.invariant.none q (omega arith) early barrier)
          (cases_eq q p);
      read = omega (arith, c.loop-place.invariant.read, c.char_at-in-loop-place.ensures.step);
      fit = c.loop-place.invariant.fit;
    }
