use Rattle.std.proofs.Common.{◌∙◌, take, ap, sym, arith}
use Rattle.std.proofs.lemmas.List.Sums.{suffix_len_is}
use Rattle.rbbi_text.specs.LineParts.{is_blank}
use Rattle.rbbi_text.proofs.line_parts.trim_end.Goals as goal
use Rattle.rbbi_text.proofs.line_parts.trim_end.Goals.{then-loop-end-test+else-is_blank, else-loop-end-test}

pub returns : goal.returns
returns c =
    let counted = suffix_len_is is_blank c.args.text.now c.loop-end.end 0 c.loop-end.invariant.0 c.loop-end.invariant.1
    (λ l. elim c.loop-end-test.branch [
      | then-loop-end-test+else-is_blank w ↦ sym w.is_blank.ensures ∙ w.if-is_blank.false
      | else-loop-end-test w ↦ absurd (omega arith)
    ]) in
    ap (λ n. take n c.args.text.now) (omega (arith, counted))
