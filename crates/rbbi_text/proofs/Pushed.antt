-- A text with a character more.
use Rattle.std.proofs.Common.{◌≡◌, ℕ, cond, List, [], ◌∷◌, ◌++◌, ap, sym, ◌∙◌, append-nil}
use Rattle.std.specs.Prelude.{Result, Ok, Err, is_ok, OnOk, chars, encode_utf8, IsUtf8}
use Rattle.std.specs.Char.{IsScalar}
use Rattle.std.specs.declared.alloc.AllocError.{AllocError}
use Rattle.std.proofs.lemmas.Str.{chars-append, chars_past_char, chars-nil, IsUtf8-encode}

pub one_character : (c : ℕ) → IsScalar c → chars (encode_utf8 c) ≡ c ∷ []
one_character c scalar = chars_past_char (encode_utf8 c) [] c (IsUtf8-encode c scalar) (sym (append-nil (encode_utf8 c))) ∙ ap (λ x. c ∷ x) chars-nil

pub chars-push : (bs : List ℕ) (c : ℕ) → IsUtf8 bs → IsScalar c → chars (bs ++ encode_utf8 c) ≡ chars bs ++ c ∷ []
chars-push bs c utf8 scalar = chars-append bs (encode_utf8 c) utf8 ∙ ap (λ x. chars bs ++ x) (one_character c scalar)

-- what a string's push leaves, where there was memory
pub pushed : (r : Result (Unit {0}) AllocError) (bs new : List ℕ) (c : ℕ) → new ≡ cond (is_ok r) (bs ++ encode_utf8 c) bs → IsUtf8 bs → IsScalar c →
    OnOk r (chars new ≡ chars bs ++ c ∷ [])
pushed (Ok u) bs new c e utf8 scalar = ap chars e ∙ chars-push bs c utf8 scalar
pushed (Err u) bs new c e utf8 scalar = tt
