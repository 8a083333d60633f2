use Rattle.std.proofs.Common.{ap, sym, ◌∙◌, ◌++◌, ◌∷◌, [], List, ℕ, arith}
use Rattle.std.proofs.lemmas.Str.{chars-nil}
use Rattle.std.specs.Prelude.{chars}
use Rattle.rbbi_lex.proofs.WordLemmas.{slice_range-none, slice_range-more}
use Rattle.rbbi_lex.proofs.words.word_between.Goals as goal

pub loop-i-init : goal.loop-i-init
loop-i-init c =
    ap chars c.new-word.ensures.bytes ∙ chars-nil ∙ sym (slice_range-none c.args.text.now c.args.from)

pub loop-i-preserved : goal.loop-i-preserved
loop-i-preserved c =
    let ch = c.index-text-i.result in
    c.in_ok-push_character.ensures
    ∙ ap (λ (v : List ℕ). v ++ ch ∷ []) c.loop-i.invariant
    ∙ sym (slice_range-more c.args.text.now c.args.from c.loop-i.i ch (omega arith) (omega arith) c.index-text-i.is)
