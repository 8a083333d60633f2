use Rattle.std.proofs.Common.{◌≡◌, [], ◌∷◌, ◌++◌, ap, sym, subst, ◌∙◌}
use Rattle.std.specs.Prelude.{chars, string_bytes, IsUtf8}
use Rattle.std.proofs.lemmas.Str.{IsUtf8-string_bytes, chars-nil, chars-append}
use Rattle.rbbi_script.specs.inner.Readings.{IsOnlyWord}
use Rattle.rbbi_script.proofs.Words.{IsWriting, IsWriting-start, IsWriting-more, IsWriting-bad, IsWriting-end, utf8_before, utf8_left}
use Rattle.rbbi_script.proofs.escape.word_of.Goals as goal

pub loop-before-init : goal.loop-before-init
loop-before-init c = (
  subst (λ w. IsWriting c.args.text.now w c.args.text.now) (sym (ap chars c.new-word.ensures.bytes ∙ chars-nil)) (IsWriting-start c.args.text.now),
  c.utf8.text,
)

pub cut_at-requires-text-text : goal.cut_at-requires-text-text
cut_at-requires-text-text c κs = c.loop-before.invariant.1

pub returns-in_default-escape_at : goal.returns-in_default-escape_at
returns-in_default-escape_at c =
    let utf8 = subst IsUtf8 c.in-Some.ensures.parts c.loop-before.invariant.1 in
    IsWriting-bad c.args.text.now (chars (string_bytes c.loop-before.word)) c.loop-before.rest.now c.in-Some.before.now c.in-Some.escaped.now
    c.loop-before.invariant.0 c.in-Some.ensures.parts c.in-Some.ensures.first
    (utf8_before c.in-Some.before.now c.in-Some.escaped.now utf8) c.in_default-escape_at.ensures

pub loop-before-preserved : goal.loop-before-preserved
loop-before-preserved c =
    let word = string_bytes c.loop-before.word in
    let before = c.in-Some.before.now in
    let after = c.in-Some.escaped.now in
    let utf8 = subst IsUtf8 c.in-Some.ensures.parts c.loop-before.invariant.1 in
    let pushed : chars (string_bytes c.push_character.new.string) ≡ chars word ++ chars before ++ c.in-Some-escape_at.character ∷ [] =
    c.in_ok-push_character.ensures
    ∙ ap (λ w. w ++ c.in-Some-escape_at.character ∷ []) (ap chars c.in_ok-push_str.ensures.bytes
    ∙ chars-append word before (IsUtf8-string_bytes c.loop-before.word)) in (
      subst (λ w. IsWriting c.args.text.now w c.in-Some-escape_at.next.now) (sym pushed)
          (IsWriting-more c.args.text.now (chars word) c.loop-before.rest.now before after c.in-Some-escape_at.character
          c.in-Some-escape_at.next.now c.loop-before.invariant.0 c.in-Some.ensures.parts
          c.in-Some.ensures.first (utf8_before before after utf8) c.in-Some-escape_at.ensures),
      utf8_left before after c.in-Some-escape_at.character c.in-Some-escape_at.next.now utf8 c.in-Some-escape_at.ensures,
    )

pub push_str-requires-2-text-string : goal.push_str-requires-2-text-string
push_str-requires-2-text-string c κs = c.loop-before.invariant.1

pub returns : goal.returns
returns c =
    let word = string_bytes c.loop-before.word in
    let whole : c.in_ok-word.word ≡ chars word ++ chars c.loop-before.rest.now =
    c.in_ok-word.ensures
    ∙ ap chars c.deref.ensures
    ∙ ap chars c.in_ok-push_str-2.ensures.bytes
    ∙ chars-append word c.loop-before.rest.now (IsUtf8-string_bytes c.loop-before.word) in
    subst (IsOnlyWord c.args.text.now) (sym whole)
    (IsWriting-end c.args.text.now (chars word) c.loop-before.rest.now c.loop-before.invariant.0 c.in_default.ensures c.loop-before.invariant.1)
