use Rattle.std.proofs.Common.{ℕ, ◌+◌, ◌-◌, ◌/◌, ◌<◌, ◌≤◌, take, sym, ap, subst, add-one, arith}
use Rattle.std.specs.List.{AllByRecursion}
use Rattle.rbbi_cache.proofs.Showing.{up_to_one, past_one, all_up_to, all_past, none_up_to}
use Rattle.rbbi_cache.proofs.shown.count_up_to.Goals as goal

pub returns-then-len-eq0 : goal.returns-then-len-eq0
returns-then-len-eq0 c = none_up_to c.args.entries.now c.args.i (omega arith)

pub returns-then-last-i : goal.returns-then-last-i
returns-then-last-i c =
    all_up_to c.args.entries.now c.args.i c.index-entries-len.result c.requires (omega arith)
    (omega (arith, ap (λ e. e.at) c.index-entries-len.is, ap (λ e. e.at) c.last.view_is, c.if-last-i.true))

pub returns-then-first-i : goal.returns-then-first-i
returns-then-first-i c =
    all_past c.args.entries.now c.args.i c.index-entries-0.result c.requires (omega arith)
    (omega (arith, ap (λ e. e.at) c.index-entries-0.is, ap (λ e. e.at) c.first.view_is, c.if-first-i.true))

pub loop-start-preserved-then-entry-i : goal.loop-start-preserved-then-entry-i
loop-start-preserved-then-entry-i c =
    let within = c.loop-start.invariant.1 in
    let middle : ℕ = c.loop-start.start + (c.loop-start.end - c.loop-start.start) / 2 in
    let short : c.loop-start.start + (c.loop-start.end - c.loop-start.start) / 2 < c.loop-start.end = omega arith in (
      omega arith,
      c.loop-start.invariant.1,
      subst (λ n. AllByRecursion (λ e. e.at ≤ c.args.i) (take n c.args.entries.now)) (sym (add-one middle))
          (up_to_one c.args.entries.now c.args.i middle c.index-entries-middle.result c.requires (omega arith)
          (omega (arith, ap (λ e. e.at) c.index-entries-middle.is, ap (λ e. e.at) c.entry.view_is, c.if-entry-i.true))),
      c.loop-start.invariant.3,
    )

pub loop-start-preserved : goal.loop-start-preserved
loop-start-preserved c =
    let within = c.loop-start.invariant.1 in
    let middle : ℕ = c.loop-start.start + (c.loop-start.end - c.loop-start.start) / 2 in
    let short : c.loop-start.start + (c.loop-start.end - c.loop-start.start) / 2 < c.loop-start.end = omega arith in (
      omega arith,
      omega arith,
      c.loop-start.invariant.2,
      past_one c.args.entries.now c.args.i middle c.index-entries-middle.result c.requires (omega arith)
          (omega (arith, ap (λ e. e.at) c.index-entries-middle.is, ap (λ e. e.at) c.entry.view_is, c.if-entry-i.false)),
    )
