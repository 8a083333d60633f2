-- Where a text is cut at the first of a byte, and the number before it.
use Rattle.std.proofs.Common.{◌≡◌, ◌≢◌, ℕ, suc, ◌&&◌, nat_le, ◌<◌, Bool, true, false, cond, nat_lt, List, [], ◌∷◌, ◌++◌, length, get_or, Option, Some, None}
use Rattle.std.proofs.Common.{refl, ap, sym, ◌∙◌, arith}
use Rattle.std.specs.List.{list_all}
use Rattle.std.specs.Char.{is_ascii_digit, is_ascii_hexdigit}
use Rattle.std.proofs.lemmas.Bool.Decides.{nat_tests}
use Rattle.std.proofs.lemmas.List.Sums.{AllPass-from_list_all}
use Rattle.rbbi_text.specs.Numbers.{number, at_most, decimal, hexadecimal}
use Rattle.rbbi_script.specs.Grammar.{most_number, WritesNumber, IsField}
use Rattle.rbbi_script.specs.inner.Readings.{HasNone, IsFirstCut, IsOnlyField}

none_behind : (c x : ℕ) (xs : List ℕ) → HasNone c (x ∷ xs) → HasNone c xs
none_behind c x xs h i l = h (suc i) (omega arith)

-- a text is cut in one way
pub same_cut : (c : ℕ) (before after others rest : List ℕ) → HasNone c before → HasNone c others → before ++ c ∷ after ≡ others ++ c ∷ rest →
    (before ≡ others) × (after ≡ rest)
same_cut c [] after [] rest h k e = (refl, cc)
same_cut c [] after (y ∷ others) rest h k e = let same : y ≡ c = cc in absurd (k 0 (omega arith) same)
same_cut c (x ∷ before) after [] rest h k e = let same : x ≡ c = cc in absurd (h 0 (omega arith) same)
same_cut c (x ∷ before) after (y ∷ others) rest h k e =
    let head : x ≡ y = cc in
    let tail : before ++ c ∷ after ≡ others ++ c ∷ rest = cc in
    let more = same_cut c before after others rest (none_behind c x before h) (none_behind c y others k) tail in
    (rw (head, more.0) refl, more.1)

first_true : (b z : Bool) (o : Option ℕ) (n : ℕ) → cond (b && z) o None ≡ Some n → b ≡ true
first_true true z o n e = refl
first_true false z o n e = absurd (cc)

pub digits_pass : (digits : List ℕ) (most n : ℕ) → decimal most digits ≡ Some n → list_all is_ascii_digit digits ≡ true
digits_pass digits most n e = first_true (list_all is_ascii_digit digits) (nat_lt 0 (length digits)) (at_most most (number 10 digits)) n e

pub hexadecimal_pass : (digits : List ℕ) (fewest longest most n : ℕ) → hexadecimal fewest longest most digits ≡ Some n →
    list_all is_ascii_hexdigit digits ≡ true
hexadecimal_pass digits fewest longest most n e =
    first_true (list_all is_ascii_hexdigit digits) (nat_le fewest (length digits) && nat_le (length digits) longest) (at_most most (number 16 digits)) n e

digit_is_no_space : (b : ℕ) → is_ascii_digit b ≡ true → b ≢ 32
digit_is_no_space b h e = grind (arith, nat_tests)

hexdigit_is_no_brace : (b : ℕ) → is_ascii_hexdigit b ≡ true → b ≢ 125
hexdigit_is_no_brace b h e = grind (arith, nat_tests)

pub no_space : (digits : List ℕ) (n : ℕ) → WritesNumber digits n → HasNone 32 digits
no_space digits n e i l = digit_is_no_space (get_or digits i 0) (AllPass-from_list_all is_ascii_digit digits (digits_pass digits most_number n e) i 0 l)

pub no_brace : (digits : List ℕ) (n : ℕ) → hexadecimal 1 6 0x10FFFF digits ≡ Some n → HasNone 125 digits
no_brace digits n e i l =
    hexdigit_is_no_brace (get_or digits i 0) (AllPass-from_list_all is_ascii_hexdigit digits (hexadecimal_pass digits 1 6 0x10FFFF n e) i 0 l)

some_same : (m n : ℕ) → Some m ≡ Some n → m ≡ n
some_same m n e = cc

-- the number before the first space is the only one that the text begins with
pub only_field : (text before after : List ℕ) (n : ℕ) → IsFirstCut 32 text before after → decimal most_number before ≡ Some n → IsOnlyField text n after
only_field text before after n cut number = record {
  is = record { digits = before; number = number; spelled = cut.parts };
  only = λ m others field.
      let same = same_cut 32 before after field.digits others cut.first (no_space field.digits m field.number) (sym cut.parts ∙ field.spelled) in
      (some_same m n (sym field.number ∙ ap (decimal most_number) (sym same.0) ∙ number), sym same.1);
}

-- a text without a space begins with no number and space
pub no_field-none : (text : List ℕ) → HasNone 32 text → (n : ℕ) (rest : List ℕ) → ¬ IsField text n rest
no_field-none text none n rest field =
    let at : get_or text (length field.digits) 0 ≡ 32 = ap (λ t. get_or t (length field.digits) 0) field.spelled ∙ seam field.digits rest in
    none (length field.digits) (let long = ap length field.spelled in omega (arith, long, length_seam field.digits rest)) at
  where
    seam : (xs ys : List ℕ) → get_or (xs ++ 32 ∷ ys) (length xs) 0 ≡ 32
    seam [] ys = refl
    seam (x ∷ xs) ys = seam xs ys

    length_seam : (xs ys : List ℕ) → length xs < length (xs ++ 32 ∷ ys)
    length_seam [] ys = omega arith
    length_seam (x ∷ xs) ys = let l = length_seam xs ys in omega arith

-- a text whose part before the first space is no number begins with none
pub no_field-bad : (text before after : List ℕ) → IsFirstCut 32 text before after → decimal most_number before ≡ None → (n : ℕ) (rest : List ℕ) →
    ¬ IsField text n rest
no_field-bad text before after cut bad n rest field =
    let same = same_cut 32 before after field.digits rest cut.first (no_space field.digits n field.number) (sym cut.parts ∙ field.spelled) in
    let clash : None ≡ Some n = sym bad ∙ ap (decimal most_number) same.0 ∙ field.number in
    absurd (cc)
