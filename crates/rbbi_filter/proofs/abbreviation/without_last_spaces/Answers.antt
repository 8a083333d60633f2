use Rattle.std.proofs.Common.{take, ap, ◌∙◌, arith}
use Rattle.std.proofs.lemmas.Bool.{ne_eqb}
use Rattle.std.proofs.lemmas.List.{get_or_read}
use Rattle.std.proofs.lemmas.List.Sums.{suffix_len_is}
use Rattle.rbbi_filter.specs.Abbreviations.{is_space}
use Rattle.rbbi_filter.proofs.abbreviation.without_last_spaces.Goals as goal
use Rattle.rbbi_filter.proofs.abbreviation.without_last_spaces.Goals.{then-loop-end-test+else-w-end-eq32, else-loop-end-test}

pub returns : goal.returns
returns c =
    let counted = suffix_len_is is_space c.args.w.now c.loop-end.end 0 c.loop-end.invariant.0 c.loop-end.invariant.1
    (λ l. elim c.loop-end-test.branch [
      | then-loop-end-test+else-w-end-eq32 w ↦ ne_eqb _ _ (λ e. w.if-w-end-eq32.false (get_or_read c.args.w.now _ _ (omega arith) w.index-w-end.is 0 ∙ e))
      | else-loop-end-test w ↦ absurd (omega arith)
    ]) in
    ap (λ n. take n c.args.w.now) (omega (arith, counted))
