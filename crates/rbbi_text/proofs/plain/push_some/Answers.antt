use Rattle.std.proofs.Common.{◌≡◌, [], ◌∷◌, ◌++◌, length, sym, ap, ◌∙◌, subst, arith, append_assoc, chars, length-append}
use Rattle.std.specs.Str.{IsUtf8}
use Rattle.std.specs.Str.Iter.{chars_rest}
use Rattle.std.specs.Prelude.{encode_utf8}
use Rattle.std.proofs.lemmas.Str.{chars_past_char, IsUtf8-past_char, length-encode, len_utf8_bounds}
use Rattle.rbbi_text.proofs.plain.push_some.Goals as goal

pub loop-turn-init : goal.loop-turn-init
loop-turn-init c = record {
  same = ap (λ bs. c.args.items.now.items ++ chars bs) c.chars-left.ensures.rest;
  utf8 = subst IsUtf8 (sym c.chars-left.ensures.rest) c.utf8.text;
  shorter = omega (arith, ap length c.chars-left.ensures.rest);
}

pub loop-turn-preserved : goal.loop-turn-preserved
loop-turn-preserved c =
    let gives = rw c.in-Some.is at c.next.ensures.steps in
    let given = gives.0 in
    let old = chars_rest c.loop-turn.left in
    let new = chars_rest c.next.new.self in
    let item = c.in-Some.c in
    let past : chars old ≡ item ∷ chars new = chars_past_char old new item c.loop-turn.invariant.utf8 given in
    record {
      same = ap (λ xs. xs ++ chars new) c.in_ok-push-in-Some.ensures.items ∙ append_assoc c.loop-turn.items.items (item ∷ []) (chars new)
          ∙ ap (λ xs. c.loop-turn.items.items ++ xs) (sym past) ∙ c.loop-turn.invariant.same;
      utf8 = IsUtf8-past_char old new item c.loop-turn.invariant.utf8 given;
      shorter = omega
          (arith, ap length given, length-append (encode_utf8 item) new, length-encode item, len_utf8_bounds item, c.loop-turn.invariant.shorter);
    }

pub returns-in-None : goal.returns-in-None
returns-in-None c =
    let ended = rw c.in-None.is at c.next.ensures.steps in
    let rest = c.as_str.ensures ∙ ap chars_rest ended.0.1 in (
      ap (λ bs. c.loop-turn.items.items ++ chars bs) rest ∙ c.loop-turn.invariant.same,
      omega (arith, ap length rest, ended.0.0, c.requires),
    )

pub returns : goal.returns
returns c = (
  ap (λ bs. c.loop-turn.items.items ++ chars bs) c.as_str-2.ensures ∙ c.loop-turn.invariant.same,
  omega (arith, ap length c.as_str-2.ensures, c.loop-turn.invariant.shorter),
)
