use Rattle.std.proofs.Common.{[], ◌∷◌, ◌++◌, sym, ap, ◌∙◌, arith}
use Rattle.std.proofs.lemmas.List.{map_more}
use Rattle.rbbi_script.specs.LineEnds.{line_end}
use Rattle.rbbi_tool.proofs.line_ends.line_ends.Goals as goal

pub loop-list-preserved : goal.loop-list-preserved
loop-list-preserved c =
    c.in_ok-push.ensures.items
    ∙ (λ i. c.loop-list.invariant i ++ (c.in_ok-end.ensures ∙ ap line_end c.status_list.ensures) i ∷ [])
    ∙ sym (map_more line_end c.args.table.now.lists c.loop-list.list [] (omega arith))
