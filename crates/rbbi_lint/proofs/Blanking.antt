-- Blanking, character after character.
use Rattle.std.proofs.Common.{◌≡◌, ℕ, ◌+◌, ◌<◌, ◌≤◌, ◌⊎◌, inl, inr, List, [], ◌∷◌, ◌++◌, length, refl, ap, sym, ◌∙◌, arith, length-append}
use Rattle.std.specs.Prelude.{encode_utf8, encode_utf8_all}
use Rattle.std.proofs.lemmas.Bool.{cases_lt}
use Rattle.std.proofs.lemmas.List.{get_or_append_left, get_or_push, length_push}
use Rattle.std.proofs.lemmas.Str.{encodes-append}
use Rattle.rbbi_lint.specs.Blanks.{IsBlanked}

pub blanked_nil : (from to : ℕ) → IsBlanked from to [] []
blanked_nil from to = record {
  same_length = refl;
  inside = λ k low high short. absurd (omega arith);
  outside = λ k side short. absurd (omega arith);
}

pub blanked_push : (from to : ℕ) (x y : List ℕ) (c d : ℕ) → IsBlanked from to x y → (from ≤ length x → length x < to → d ≡ 32) →
    ((length x < from) ⊎ (to ≤ length x) → d ≡ c) → IsBlanked from to (x ++ c ∷ []) (y ++ d ∷ [])
blanked_push from to x y c d old inside outside = record {
  same_length = length_push y d ∙ ap (λ n. n + 1) old.same_length ∙ sym (length_push x c);
  inside = λ k low high short. elim (cases_lt k (length x)) [
    | inl less ↦ get_or_append_left y (d ∷ []) 0 k (omega (arith, old.same_length)) ∙ old.inside k low high less
    | inr more ↦
        let last : k ≡ length x = omega (arith, length_push x c) in
        get_or_push y d 0 k (old.same_length ∙ sym last) ∙ inside (omega arith) (omega arith)
  ];
  outside = λ k side short. elim (cases_lt k (length x)) [
    | inl less ↦
        get_or_append_left y (d ∷ []) 0 k (omega (arith, old.same_length)) ∙ old.outside k side less ∙ sym (get_or_append_left x (c ∷ []) 0 k less)
    | inr more ↦
        let last : k ≡ length x = omega (arith, length_push x c) in
        let here : (length x < from) ⊎ (to ≤ length x) = elim side [ inl below ↦ inl (omega arith) | inr above ↦ inr (omega arith) ] in
        get_or_push y d 0 k (old.same_length ∙ sym last) ∙ outside here ∙ sym (get_or_push x c 0 k (sym last))
  ];
}

one : (c : ℕ) → length (encode_utf8_all (c ∷ [])) ≡ length (encode_utf8 c)
one c = length-append (encode_utf8 c) [] ∙ omega arith

-- a character that isn't longer leaves a text that isn't longer
pub no_longer_push : (x y : List ℕ) (c d : ℕ) → length (encode_utf8_all y) ≤ length (encode_utf8_all x) → length (encode_utf8 d) ≤ length (encode_utf8 c) →
    length (encode_utf8_all (y ++ d ∷ [])) ≤ length (encode_utf8_all (x ++ c ∷ []))
no_longer_push x y c d short least =
    let this : length (encode_utf8_all (y ++ d ∷ [])) ≡ length (encode_utf8_all y) + length (encode_utf8 d) =
    ap length (encodes-append y (d ∷ [])) ∙ length-append (encode_utf8_all y) (encode_utf8_all (d ∷ [])) ∙ ap (λ n. length (encode_utf8_all y) + n) (one d) in
    let that : length (encode_utf8_all (x ++ c ∷ [])) ≡ length (encode_utf8_all x) + length (encode_utf8 c) =
    ap length (encodes-append x (c ∷ [])) ∙ length-append (encode_utf8_all x) (encode_utf8_all (c ∷ [])) ∙ ap (λ n. length (encode_utf8_all x) + n) (one c) in
    omega arith
