use Rattle.std.proofs.Common.{◌≡◌, Some, None, option_map, chars, string_bytes, sym, ap, ap₂, ◌∙◌, rules}
use Rattle.std.specs.Prelude.{encode_utf8_all}
use Rattle.std.proofs.lemmas.Str.{encodes-chars, IsUtf8-string_bytes}
use Rattle.rbbi_props.specs.Lookups.{lookup}
use Rattle.rbbi_resolve.proofs.SameProperties.{question_for}
use Rattle.rbbi_resolve.proofs.question.Question.is_for.Goals as goal

pub returns-in-Some-value : goal.returns-in-Some-value
returns-in-Some-value c =
    λ holds.
    let own = c.in-Some.own_value in
    let asked = encode_utf8_all c.args.name.now in
    let sign : c.args.self.now.negated ≡ c.args.negated = search rules in
    question_for c.args.self.now c.args.negated c.args.name.now c.args.value.now (Some c.as_str.result.now) sign
    (ap Some (c.as_str.ensures.value ∙ sym (encodes-chars (string_bytes own) (IsUtf8-string_bytes own)))
    ∙ sym (ap (λ v. option_map encode_utf8_all (option_map (λ text. chars (string_bytes text)) v)) c.in-Some.is))
    (λ files.
    ap (λ n. lookup files n (Some c.as_str.result.now)) (sym c.as_str-own.ensures.value)
    ∙ c.are_alike.ensures.found holds files
    ∙ ap₂ (λ n v. lookup files n (Some v)) c.as_str-asked.ensures.bytes c.as_str-in-Some-value.ensures.bytes
    ∙ sym (ap (λ v. lookup files asked (option_map encode_utf8_all v)) c.in-Some-value.is))

pub returns-then-is_none : goal.returns-then-is_none
returns-then-is_none c =
    λ holds.
    let asked = encode_utf8_all c.args.name.now in
    let sign : c.args.self.now.negated ≡ c.args.negated = search rules in
    let none : c.args.value.now ≡ None = search rules in
    question_for c.args.self.now c.args.negated c.args.name.now c.args.value.now None sign
    (sym (ap (λ v. option_map encode_utf8_all (option_map (λ text. chars (string_bytes text)) v)) c.in-None.is))
    (λ files.
    ap (λ n. lookup files n None) (sym c.as_str-own.ensures.value)
    ∙ c.are_alike-then-is_none.ensures.found holds files
    ∙ ap (λ n. lookup files n None) c.as_str-asked.ensures.bytes
    ∙ sym (ap (λ v. lookup files asked (option_map encode_utf8_all v)) none))
