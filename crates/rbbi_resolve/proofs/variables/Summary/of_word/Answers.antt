use Rattle.std.proofs.Common.{◌≡◌, eqb, subst, sym, ◌∙◌, ap, arith}
use Rattle.rbbi_resolve.specs.inner.Summaries.{IsCapped}
use Rattle.rbbi_resolve.specs.Expressions.{height_of_word}
use Rattle.rbbi_resolve.proofs.Words.{leaves_in-word_of, height-long, height-short, spells_empty-word_of}
use Rattle.rbbi_resolve.proofs.variables.Summary.of_word.Goals as goal
use Rattle.rbbi_resolve.proofs.variables.Summary.of_word.Goals.{then-len-gt1, else-len-gt1}

pub returns : goal.returns
returns c =
    let word = c.args.word.now in
    record {
      leaf_sum = subst (λ n. IsCapped 8193 n c.capped.result) (c.count_of-len.ensures ∙ sym (leaves_in-word_of word)) c.capped.ensures;
      height_sum =
          elim c.if-len-gt1.branch [
            | then-len-gt1 w ↦
                let e : height_of_word word ≡ 1 = height-long word (omega arith) in
                record { within = omega arith; below = λ p. e ∙ sym w.result-is; past = λ p. omega arith }
            | else-len-gt1 w ↦
                let e : height_of_word word ≡ 0 = height-short word (omega arith) in
                record { within = omega arith; below = λ p. e ∙ sym w.result-is; past = λ p. omega arith }
          ];
      empty_sum = ap (λ n. eqb n 0) c.count_of-len.ensures ∙ sym (spells_empty-word_of word);
    }
