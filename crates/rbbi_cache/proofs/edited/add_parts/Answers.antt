use Rattle.std.proofs.Common.{◌++◌, [], ◌∷◌, List, take, filter, ap, ◌∙◌, arith}
use Rattle.rbbi_model.specs.Runs.{Run}
use Rattle.rbbi_cache.specs.Kept.{most_runs}
use Rattle.rbbi_cache.specs.Edits.{has_entries}
use Rattle.rbbi_cache.specs.inner.Parts.{right_part}
use Rattle.rbbi_cache.proofs.Staying.{whole_left, whole_right}
use Rattle.rbbi_cache.proofs.edited.add_parts.Goals as goal

pub returns-clause-added : goal.returns-clause-added
returns-clause-added c =
    let and_right : List Run → List Run = λ l. take most_runs (l ++ filter has_entries (right_part c.args.edit.at c.args.edit.removed c.args.edit.inserted
    c.args.pair c.args.run.now ∷ [])) in
    c.add_right.ensures.added ∙ ap and_right c.add_left-count.ensures.added

pub returns-then-stays-clause-added : goal.returns-then-stays-clause-added
returns-then-stays-clause-added c =
    whole_left c.args.next.now _ c.args.count c.args.edit.at c.args.edit.removed c.args.edit.inserted c.args.pair c.args.run.now (omega arith)
    c.add_whole.ensures.added (c.stays.ensures c.if-stays.true)

pub returns-then-stays_behind-clause-added : goal.returns-then-stays_behind-clause-added
returns-then-stays_behind-clause-added c =
    whole_right c.args.next.now _ c.args.count c.args.edit.at c.args.edit.removed c.args.edit.inserted c.args.pair c.args.run.now
    (omega (arith, c.if-count-lt-MOST_RUNS-2.true)) c.add_whole-then-stays_behind.ensures.added (c.stays_behind.ensures c.if-stays_behind.true)
