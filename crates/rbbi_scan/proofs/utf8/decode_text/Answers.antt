use Rattle.std.proofs.Common.{◌≡◌, ℕ, List, ◌+◌, ◌++◌, length, drop, sym, ap, ◌∙◌, subst, arith, append_assoc, length-append, refl}
use Rattle.std.specs.Prelude.{encode_utf8}
use Rattle.std.specs.Str.{IsUtf8}
use Rattle.std.specs.Str.Iter.{chars_rest}
use Rattle.std.proofs.lemmas.List.{drop-drop, drop_at, take-append-drop}
use Rattle.std.proofs.lemmas.Str.{chars_past_char, IsUtf8-past_char, length-encode}
use Rattle.rbbi_model.specs.declared.unit.Unit.TheVariants.{Utf8}
use Rattle.rbbi_model.specs.Words.{IsCharacter, IsText}
use Rattle.rbbi_text.proofs.Characters.{IsText-chars}
use Rattle.rbbi_scan.proofs.Decoding.{decoded_more, offset_small}
use Rattle.rbbi_scan.proofs.Spelling.{size_some}
use Rattle.rbbi_scan.proofs.utf8.decode_text.Goals as goal

pub loop-now-init : goal.loop-now-init
loop-now-init c =
    let n : ℕ = length c.args.text.now in
    let rest : List ℕ = drop c.args.decoded.used c.args.bytes.now in
    record {
      decoded = c.requires.decoded;
      left =
          sym (take-append-drop n rest)
          ∙ ap (λ l. l ++ drop n rest) (sym (c.chars-left.ensures.rest ∙ c.requires.text))
          ∙ ap (λ l. chars_rest c.chars-left.result ++ l) (drop-drop n c.args.decoded.used c.args.bytes.now);
      utf8 = subst IsUtf8 (sym c.chars-left.ensures.rest) c.utf8.text;
      whole = omega (arith, ap length c.chars-left.ensures.rest);
      further = omega arith;
      used = omega arith;
    }

pub overflow_cast-ends : goal.overflow_cast-ends
overflow_cast-ends c =
    omega (
      arith,
      c.len_utf8.ensures.upper_bound,
      c.loop-now.invariant.decoded.used_is,
      offset_small Utf8 c.loop-now.chars c.loop-now.now.count,
      c.requires.few,
      c.loop-now.auto.chars,
    )

pub loop-now-preserved : goal.loop-now-preserved
loop-now-preserved c =
    let gives = rw c.in-Some.is at c.next.ensures.steps in
    let bytes : List ℕ = c.args.bytes.now in
    let old : List ℕ = chars_rest c.loop-now.left in
    let new : List ℕ = chars_rest c.next.new.self in
    let item : ℕ = c.in-Some.c in
    let used : ℕ = c.loop-now.now.used in
    let next : ℕ = used + c.len_utf8.result in
    let tail : List ℕ = drop (c.args.decoded.used + length c.args.text.now) bytes in
    let size : length (encode_utf8 item) ≡ c.len_utf8.result = length-encode item ∙ sym c.len_utf8.ensures.value in
    let here : drop used bytes ≡ encode_utf8 item ++ (new ++ tail) =
    c.loop-now.invariant.left ∙ ap (λ l. l ++ tail) gives.0 ∙ append_assoc (encode_utf8 item) new tail in
    let left : drop next bytes ≡ new ++ tail =
    sym (drop-drop c.len_utf8.result used bytes) ∙ ap (drop c.len_utf8.result) here ∙ drop_at (encode_utf8 item) (new ++ tail) c.len_utf8.result size in
    let whole : old ≡ encode_utf8 item ++ new = gives.0 in
    let utf8 : IsUtf8 old = c.loop-now.invariant.utf8 in
    let is : IsCharacter item = (subst IsText (chars_past_char old new item utf8 whole) (IsText-chars old utf8)).0 in
    record {
      decoded = decoded_more Utf8 bytes c.loop-now.chars c.loop-now.ends _ _ c.loop-now.now.count used next item c.loop-now.invariant.decoded
          c.loop-now-test.true (omega (arith, c.loop-now.auto.chars, c.loop-now.auto.ends, c.requires.room)) is
          (ap (λ n. used + n) c.len_utf8.ensures.value) (here ∙ ap (λ l. encode_utf8 item ++ l) (sym left)) refl refl;
      left = left;
      utf8 = IsUtf8-past_char old new item c.loop-now.invariant.utf8 whole;
      whole = omega (arith, c.loop-now.invariant.whole, ap length whole, length-append (encode_utf8 item) new, size);
      further = omega (arith, c.loop-now.invariant.further);
      used = omega (arith, c.loop-now.invariant.used, c.loop-now.invariant.further, c.len_utf8.ensures.value, (size_some Utf8 item).0);
    }
