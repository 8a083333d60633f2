use Rattle.std.proofs.Common.{ℕ, List, [], ◌∷◌, ◌++◌, sym, ap, ◌∙◌}
use Rattle.std.specs.Prelude.{chars, string_bytes}
use Rattle.std.proofs.lemmas.Str.{chars-nil}
use Rattle.rbbi_demo.specs.Generator.{next_state, drawn_character}
use Rattle.rbbi_demo.proofs.Drawing.{state_none, state_more, text_more}
use Rattle.rbbi_demo.proofs.text.drawn_string.Goals as goal

pub loop-drawn-init : goal.loop-drawn-init
loop-drawn-init c = (ap chars c.new-text.ensures.bytes ∙ chars-nil, sym (state_none c.args.generator.now.state))

pub loop-drawn-preserved : goal.loop-drawn-preserved
loop-drawn-preserved c =
    let seed : ℕ = c.args.generator.now.state in
    let n : ℕ = c.loop-drawn._drawn in
    let now = c.loop-drawn.invariant in
    let pushed = c.in_ok-push_character.ensures ∙ ap (λ (l : List ℕ). l ++ c.character.result ∷ []) now.0 in
    let character = c.character.ensures.character ∙ ap (λ s. drawn_character s 1) now.1 in (
      text_more seed n (chars (string_bytes c.push_character.new.string)) c.character.result pushed character,
      c.character.ensures.state ∙ ap next_state now.1 ∙ sym (state_more seed n),
    )
