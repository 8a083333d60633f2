use Rattle.std.proofs.Common.{◌+◌, take, drop, filter, get_or, sym, refl, ap, ◌∙◌, subst, arith}
use Rattle.std.proofs.lemmas.List.{take_all, drop-set-lt, drop-drop, length-set}
use Rattle.rbbi_cache.proofs.Staying.{same_after}
use Rattle.rbbi_model.specs.Runs.{IsTrueRun}
use Rattle.rbbi_model.proofs.Lists.{all_at}
use Rattle.rbbi_cache.specs.Kept.{most_runs}
use Rattle.rbbi_cache.specs.Edits.{has_entries}
use Rattle.rbbi_cache.specs.inner.Parts.{IsMovable, all_parts}
use Rattle.rbbi_cache.proofs.PartsTruth.{movable, are_kept, kept_true}
use Rattle.rbbi_cache.proofs.PartsList.{with_one_more}
use Rattle.rbbi_cache.proofs.edited.keep_edited.Goals as goal

pub add_parts-count-requires-clause-movable : goal.add_parts-count-requires-clause-movable
add_parts-count-requires-clause-movable g c =
    let short = c.loop-k-test.true in
    let here = same_after c.loop-k.former c.args.former.now c.loop-k.k c.index-former-k.result c.loop-k.invariant.2 in
    subst IsMovable (sym here)
    (movable c.args.table.now c.valid.ensures c.requires.were_true.text _
    (all_at (IsTrueRun c.args.table.now c.requires.were_true.text) c.args.former.now c.loop-k.k c.index-former-k.result (omega (arith, c.loop-k.invariant.3))
    c.requires.were_true.are_true) c.requires.were_true.small)

pub loop-k-preserved : goal.loop-k-preserved
loop-k-preserved g c =
    let short = c.loop-k-test.true in
    let here = same_after c.loop-k.former c.args.former.now c.loop-k.k c.index-former-k.result c.loop-k.invariant.2 in
    let size = length-set c.loop-k.former c.loop-k.k c.add_parts-count.new.run in (
      c.add_parts-count.ensures.most,
      with_one_more c.args.edit.at c.args.edit.removed c.args.edit.inserted c.first_pair-pair.result c.args.former.now c.loop-k.k
          (get_or c.loop-k.former c.loop-k.k c.index-former-k.result) (take c.loop-k.count c.loop-k.next) _
          (take c.add_parts-count.result c.add_parts-count.new.next) (omega (arith, c.loop-k.invariant.3))
          (here ∙ ap (λ d. get_or c.args.former.now c.loop-k.k d) c.index-former-k.is) c.loop-k.invariant.1 refl c.add_parts-count.ensures.added,
      drop-set-lt (c.loop-k.k + 1) c.loop-k.former c.loop-k.k c.add_parts-count.new.run (omega arith)
          ∙ sym (drop-drop 1 c.loop-k.k c.loop-k.former) ∙ ap (drop 1) c.loop-k.invariant.2 ∙ drop-drop 1 c.loop-k.k c.args.former.now,
      size ∙ c.loop-k.invariant.3,
      omega (arith, size),
    )

pub returns-clause-kept : goal.returns-clause-kept
returns-clause-kept g c x edited are_true =
    are_kept c.args.table.now c.valid.ensures x (g.T.Chars.characters c.args.text.now) c.args.edit.at c.args.edit.removed c.args.edit.inserted edited
    c.first_pair-pair.result c.first_pair-pair.ensures.pair c.args.former.now _ are_true
    (c.loop-k.invariant.1
    ∙ ap (λ l. take most_runs (filter has_entries (all_parts c.args.edit.at c.args.edit.removed c.args.edit.inserted c.first_pair-pair.result l)))
    (take_all c.loop-k.k c.args.former.now (omega arith)))

pub returns-clause-are_true : goal.returns-clause-are_true
returns-clause-are_true g c =
    kept_true c.args.table.now c.valid.ensures c.requires.were_true.text (g.T.Chars.characters c.args.text.now) c.args.edit.at c.args.edit.removed
    c.args.edit.inserted c.requires.were_true.edited c.first_pair-pair.result c.first_pair-pair.ensures.pair c.args.former.now _
    c.requires.were_true.are_true
    (c.loop-k.invariant.1
    ∙ ap (λ l. take most_runs (filter has_entries (all_parts c.args.edit.at c.args.edit.removed c.args.edit.inserted c.first_pair-pair.result l)))
    (take_all c.loop-k.k c.args.former.now (omega arith)))
