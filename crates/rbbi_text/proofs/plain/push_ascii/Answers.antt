use Rattle.std.proofs.Common.{[], ◌∷◌, ◌++◌, get_or, sym, ap, ◌∙◌, arith, length-set}
use Rattle.std.proofs.lemmas.List.{take_more, take_more_set}
use Rattle.rbbi_text.proofs.plain.push_ascii.Goals as goal

pub loop-k-preserved : goal.loop-k-preserved
loop-k-preserved c =
    let k = c.loop-k.k in
    let block = c.args.block.now in
    record {
      same = take_more_set c.loop-k.characters k (get_or block k 0) (omega (arith, c.loop-k.invariant.long))
          ∙ ap (λ xs. xs ++ get_or block k 0 ∷ []) c.loop-k.invariant.same
          ∙ sym (take_more block k 0 (omega arith));
      long = omega (arith, length-set c.loop-k.characters k (get_or block k 0), c.loop-k.invariant.long);
    }
