-- The words of the text are all yielded.
use Rattle.std.proofs.Common.{◌++◌, ap, ◌∙◌, lit<}
use Rattle.std.proofs.lemmas.Iterator.Consumers.{YieldsList-end}
use Rattle.std.proofs.lemmas.Iterator.Splits.{YieldsList-from_str_split}
use Rattle.std.specs.Str.Iter.{split_text, split_has_more, split_pattern}
use Rattle.rbbi_props.specs.RunRows.{rows_under_names}
use Rattle.rbbi_props.proofs.run_file.push_names.Goals as goal

pub returns : goal.returns
returns c =
    let split = c.split-name-items.ensures in
    let start = c.into_iter-name-iterator.ensures.into_iter_gives in
    let road = YieldsList-from_str_split 32 c.args.names.now (lit< tt)
    (ap (λ s. split_text s) start ∙ split.text) (ap (λ s. split_has_more s) start ∙ split.has_more) (ap (λ s. split_pattern s) start ∙ split.pattern) in
    let all = YieldsList-end road c.loop-name.yielded _ c.loop-name.yielded_by _ _ c.in-None.is c.next.ensures.steps in
    c.loop-name.invariant ∙ ap (λ words. c.args.rows.now.items ++ rows_under_names c.args.range words) all.0
