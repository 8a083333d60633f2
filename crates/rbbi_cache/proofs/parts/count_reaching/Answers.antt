use Rattle.std.proofs.Common.{ap, arith}
use Rattle.rbbi_cache.proofs.Cuts.{reaching_first, reaching_others, past_at, none_past, up_to_all, all_up_to}
use Rattle.rbbi_cache.proofs.parts.count_reaching.Goals as goal

pub returns-then-entry-place-clause-first : goal.returns-then-entry-place-clause-first
returns-then-entry-place-clause-first c =
    reaching_first c.args.entries.now c.args.place c.loop-k.k c.loop-k.invariant
    (past_at c.args.entries.now c.args.place c.loop-k.k c.index-entries-k.result c.requires c.loop-k-test.true c.index-entries-k.is
    (omega (arith, ap (λ e. e.reach) c.entry.view_is, c.if-entry-place.true)))

pub returns-then-entry-place-clause-others : goal.returns-then-entry-place-clause-others
returns-then-entry-place-clause-others c =
    reaching_others c.args.entries.now c.args.place c.loop-k.k c.loop-k.invariant
    (past_at c.args.entries.now c.args.place c.loop-k.k c.index-entries-k.result c.requires c.loop-k-test.true c.index-entries-k.is
    (omega (arith, ap (λ e. e.reach) c.entry.view_is, c.if-entry-place.true)))

pub returns-clause-first : goal.returns-clause-first
returns-clause-first c =
    reaching_first c.args.entries.now c.args.place _ (up_to_all c.args.entries.now c.args.place c.loop-k.k (omega arith) c.loop-k.invariant)
    (none_past c.args.entries.now c.args.place)

pub returns-clause-others : goal.returns-clause-others
returns-clause-others c =
    reaching_others c.args.entries.now c.args.place _ (up_to_all c.args.entries.now c.args.place c.loop-k.k (omega arith) c.loop-k.invariant)
    (none_past c.args.entries.now c.args.place)

pub returns-clause-up_to : goal.returns-clause-up_to
returns-clause-up_to c = up_to_all c.args.entries.now c.args.place c.loop-k.k (omega arith) c.loop-k.invariant

pub returns-then-last-place-clause-up_to : goal.returns-then-last-place-clause-up_to
returns-then-last-place-clause-up_to c =
    all_up_to c.args.entries.now c.args.place c.index-entries-len.result c.requires c.if-len-gt0.true c.index-entries-len.is
    (omega (arith, ap (λ e. e.reach) c.last.view_is, c.if-last-place.true))

pub returns-then-last-place-clause-first : goal.returns-then-last-place-clause-first
returns-then-last-place-clause-first c =
    reaching_first c.args.entries.now c.args.place _ (returns-then-last-place-clause-up_to c) (none_past c.args.entries.now c.args.place)

pub returns-then-last-place-clause-others : goal.returns-then-last-place-clause-others
returns-then-last-place-clause-others c =
    reaching_others c.args.entries.now c.args.place _ (returns-then-last-place-clause-up_to c) (none_past c.args.entries.now c.args.place)
