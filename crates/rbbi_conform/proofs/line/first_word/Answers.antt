use Rattle.std.proofs.Common.{◌≡◌, ◌∷◌, ◌<◌, length, take, sym, ◌∙◌, ap, arith}
use Rattle.std.specs.List.{prefix_len}
use Rattle.std.proofs.lemmas.List.{take_rest, length-drop, length-take-le}
use Rattle.rbbi_text.specs.LineParts.{is_blank}
use Rattle.rbbi_conform.specs.Grammar.{words_of}
use Rattle.rbbi_conform.proofs.BlankWords.{words_trimmed, trimmed, no_word, first_word}
use Rattle.rbbi_conform.proofs.line.first_word.Goals as goal

pub returns-then-end-eq0 : goal.returns-then-end-eq0
returns-then-end-eq0 c =
    let trim = c.trim_start-text.ensures in
    words_trimmed c.args.text.now ∙ ap words_of (sym trim)
    ∙ no_word c.trim_start-text.result.now (ap (prefix_len is_blank) trim ∙ trimmed c.args.text.now) (sym c.word_len-end.ensures.place ∙ c.if-end-eq0.true)

pub returns : goal.returns
returns c =
    let trim = c.trim_start-text.ensures in
    let text = c.trim_start-text.result.now in
    let end = c.word_len-end.result in
    let some : 0 < end = omega (arith, c.if-end-eq0.false) in
    let bound = c.word_len-end.ensures.bound in
    let taken : length (take end text) ≡ end = length-take-le end text bound in
    let rest = ap length (take_rest text end) in
    let dropped = length-drop end text in
    let shorter = ap length trim in
    let shorter2 = length-drop (prefix_len is_blank c.args.text.now) c.args.text.now in record {
      words =
          words_trimmed c.args.text.now ∙ ap words_of (sym trim)
          ∙ first_word text end c.word_len-end.ensures.place some
          ∙ ap (λ r. take end text ∷ words_of r) (sym (take_rest text end));
      some = omega arith;
      parts = omega arith;
    }
