use Rattle.std.proofs.Common.{◌∙◌, drop, ap, sym, arith}
use Rattle.std.proofs.lemmas.List.{take_rest}
use Rattle.std.proofs.lemmas.List.Sums.{prefix_len_is}
use Rattle.rbbi_text.specs.LineParts.{is_blank}
use Rattle.rbbi_text.proofs.line_parts.trim_start.Goals as goal
use Rattle.rbbi_text.proofs.line_parts.trim_start.Goals.{then-loop-start-test+else-is_blank, else-loop-start-test}

pub returns : goal.returns
returns c =
    let counted = prefix_len_is is_blank c.args.text.now c.loop-start.start 0 c.loop-start.invariant.0 c.loop-start.invariant.1
    (λ l. elim c.loop-start-test.branch [
      | then-loop-start-test+else-is_blank w ↦ sym w.is_blank.ensures ∙ w.if-is_blank.false
      | else-loop-start-test w ↦ absurd (omega arith)
    ]) in
    take_rest c.args.text.now c.loop-start.start ∙ ap (λ n. drop n c.args.text.now) (sym counted)
