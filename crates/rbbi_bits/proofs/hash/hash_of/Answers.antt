use Rattle.std.proofs.Common.{◌∙◌, sym, ap, get_or, arith}
use Rattle.std.specs.List.{fold}
use Rattle.std.proofs.lemmas.List.{take_all}
use Rattle.std.proofs.lemmas.List.Sums.{fold_more}
use Rattle.rbbi_bits.specs.Hashes.{mixed_with}
use Rattle.rbbi_bits.proofs.hash.hash_of.Goals as goal

pub loop-word-preserved : goal.loop-word-preserved
loop-word-preserved c =
    c.mixed-hash.ensures ∙ ap (λ h. mixed_with h (get_or c.args.words.now c.loop-word.word-index 0)) c.loop-word.invariant
    ∙ sym (fold_more mixed_with 0 c.args.words.now c.loop-word.word-index 0 (omega arith))

pub returns : goal.returns
returns c = c.loop-word.invariant ∙ ap (λ l. fold mixed_with 0 l) (take_all c.loop-word.word-index c.args.words.now (omega arith))
