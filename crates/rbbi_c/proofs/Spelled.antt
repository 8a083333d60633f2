-- Texts that are spelled character by character.
use Rattle.std.proofs.Common.{◌≡◌, ℕ, ◌+◌, ◌-◌, ◌<◌, ◌≤◌, List, [], ◌∷◌, ◌++◌, length, get_or, take, drop}
use Rattle.std.proofs.Common.{true, ltb, ◌&&◌, slice_range, encode_utf8, encode_utf8_all, refl, sym, ap, ◌∙◌, ⊎_elim, arith}
use Rattle.std.specs.Prelude.{slice_index}
use Rattle.std.proofs.lemmas.Bool.{cond-false, lt-ltb, le-ltb, le-leb}
use Rattle.std.proofs.lemmas.List.{take_more, get_or-drop, length-drop, flat_map_more}
use Rattle.core.specs.Char.Escape.{encode_utf16}
use Rattle.core.specs.Char.{InScalarRange}
use Rattle.core.proofs.str.Laws.{scalars-append}
use lib.Utf8.{scalar, low_scalar}
use Rattle.std_alloc.proofs.Utf8Push.{encodes_more}
use Rattle.rbbi_c.specs.Wide.{IsWideText, Spells}

-- one character more of a part of a text
pub part_more : (x : List ℕ) (first at : ℕ) (bytes : List ℕ) → first ≤ at → at < length x → bytes ≡ encode_utf8_all (slice_range x first at)
    → bytes ++ encode_utf8 (slice_index x at) ≡ encode_utf8_all (slice_range x first (at + 1))
part_more x first at bytes order inside is =
    let long : at - first < length (drop first x) = omega (arith, order, inside, length-drop first x) in
    let more : slice_range x first (at + 1) ≡ slice_range x first at ++ slice_index x at ∷ [] =
    ap (λ n. take n (drop first x)) (omega (arith, order))
    ∙ take_more (drop first x) (at - first) 0 long
    ∙ ap (λ c. slice_range x first at ++ c ∷ []) (get_or-drop first x (at - first) 0 ∙ ap (λ n. get_or x n 0) (omega (arith, order))) in
    ap (λ l. l ++ encode_utf8 (slice_index x at)) is
    ∙ encodes_more [] (slice_range x first at) (slice_index x at)
    ∙ ap encode_utf8_all (sym more)

-- a character in these ranges is a scalar value
scalar_from : (c : ℕ) → InScalarRange c → scalar c ≡ true
scalar_from c =
    ⊎_elim
    (λ low. low_scalar c low)
    (λ high.
    let from : 57344 ≤ c = high.0 in
    let to : c < 1114112 = omega (arith, high.1) in
    cond-false (ltb c 55296) true _ (le-ltb c 55296 (omega (arith, from)))
    ∙ ap (λ v. v && ltb c 1114112) (le-leb 57344 c from) ∙ lt-ltb c 1114112 to)

-- one character more of a text in UTF-16
pub wide_more : (units bytes now : List ℕ) (at next c : ℕ) → IsWideText (take at units) bytes → InScalarRange c
    → take next units ≡ take at units ++ encode_utf16 c → now ≡ bytes ++ encode_utf8 c → IsWideText (take next units) now
wide_more units bytes now at next c so_far is more pushed =
    let text = so_far.text in
    record {
      text = text ++ c ∷ [];
      spelled = record {
        scalar = scalars-append text (c ∷ []) so_far.spelled.scalar (ap (λ b. b && true) (scalar_from c is));
        units_are = more ∙ ap (λ l. l ++ encode_utf16 c) so_far.spelled.units_are ∙ flat_map_more encode_utf16 [] text c;
      };
      bytes_are = pushed ∙ ap (λ l. l ++ encode_utf8 c) so_far.bytes_are ∙ encodes_more [] text c;
    }
