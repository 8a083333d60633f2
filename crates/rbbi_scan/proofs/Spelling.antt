-- How much characters take in a unit, and that units begin with one text alone.
use Rattle.std.proofs.Common.{◌≡◌, ℕ, ◌+◌, ◌-◌, ◌/◌, ◌%◌, ◌<◌, ◌≤◌, true, false, cond, ltb, List, [], ◌∷◌, ◌++◌, length, refl, sym, ap}
use Rattle.std.proofs.Common.{◌∙◌, ◌&&◌, ⊎_elim, arith, append_assoc, length-append}
use Rattle.std.specs.Prelude.{encode_utf8, chars, sum_by}
use Rattle.std.specs.Char.{IsScalar}
use Rattle.std.specs.Char.Escape.{encode_utf16}
use Rattle.std.proofs.lemmas.Bool.{cond-true, cond-false, lt-ltb, le-ltb, le-leb, cases_lt}
use Rattle.std.proofs.lemmas.List.{append_cancel_left}
use Rattle.std.proofs.lemmas.List.Concat.{flat_map-append}
use Rattle.std.proofs.lemmas.List.Sums.{sum_by-cons}
use Rattle.std.proofs.lemmas.Str.{chars-append, IsUtf8-encode, length-encode, len_utf8_bounds}
use Rattle.rbbi_model.specs.declared.unit.Unit.{Unit as TextUnit}
use Rattle.rbbi_model.specs.declared.unit.Unit.TheVariants.{Chars, Utf8, Utf16}
use Rattle.rbbi_model.specs.Units.{size_of}
use Rattle.rbbi_model.specs.Words.{IsCharacter, IsText}
use Rattle.rbbi_text.proofs.Pushed.{one_character}
use Rattle.rbbi_scan.specs.Spelled.{spelling_of, spelled, BeginWithNone}

-- a character's spelling is as long as the character takes of the unit
pub size_is : (unit : TextUnit) (c : ℕ) → length (spelling_of unit c) ≡ size_of unit c
size_is Chars c = refl
size_is Utf8 c = length-encode c
size_is Utf16 c =
    elim (ltb c 0x10000) as (λ v. length (cond v (c ∷ []) ((0xD800 + (c - 0x10000) / 0x400) ∷ (0xDC00 + (c - 0x10000) % 0x400) ∷ [])) ≡ cond v 1 2)
    [ true ↦ refl | false ↦ refl ]

pub size_some : (unit : TextUnit) (c : ℕ) → (1 ≤ size_of unit c) × (size_of unit c ≤ 4)
size_some Chars c = (omega arith, omega arith)
size_some Utf8 c = len_utf8_bounds c
size_some Utf16 c =
    elim (ltb c 0x10000) as (λ v. (1 ≤ cond v 1 2) × (cond v 1 2 ≤ 4)) [ true ↦ (omega arith, omega arith) | false ↦ (omega arith, omega arith) ]

pub scalar_of : (c : ℕ) → IsCharacter c → IsScalar c
scalar_of c is =
    ⊎_elim
    (λ low. cond-true (ltb c 55296) true _ (lt-ltb c 55296 low))
    (λ high.
    let from : 57344 ≤ c = ⊎_elim (λ less. absurd (is.1 (high, omega (arith, less)))) (λ more. more) (cases_lt c 57344) in
    let past = is.0 in
    cond-false (ltb c 55296) true _ (le-ltb c 55296 high)
    ∙ ap (λ v. v && ltb c 1114112) (le-leb 57344 c from) ∙ lt-ltb c 1114112 (omega (arith, past)))
    (cases_lt c 55296)

-- two spellings that the same units begin with are of the same character
one_utf16 : (c d : ℕ) (r s : List ℕ) → IsCharacter c → IsCharacter d → encode_utf16 c ++ r ≡ encode_utf16 d ++ s → c ≡ d
one_utf16 c d r s is are same =
    let wide : ℕ → List ℕ = λ n. (0xD800 + (n - 0x10000) / 0x400) ∷ (0xDC00 + (n - 0x10000) % 0x400) ∷ [] in
    let short : (n : ℕ) → n < 0x10000 → encode_utf16 n ≡ n ∷ [] = λ n low. cond-true (ltb n 0x10000) (n ∷ []) (wide n) (lt-ltb n 0x10000 low) in
    let long : (n : ℕ) → 0x10000 ≤ n → encode_utf16 n ≡ wide n = λ n high. cond-false (ltb n 0x10000) (n ∷ []) (wide n) (le-ltb n 0x10000 high) in
    let apart : (m n : ℕ) → IsCharacter m → IsCharacter n → m ≡ 0xD800 + (n - 0x10000) / 0x400 → c ≡ d =
    λ m n a b e. let high = b.0 in absurd (a.1 (omega arith, omega arith)) in
    ⊎_elim
    (λ low.
    ⊎_elim
    (λ also. heads_same c d r s (ap (λ l. l ++ r) (sym (short c low)) ∙ same ∙ ap (λ l. l ++ s) (short d also)))
    (λ more. apart c d is are (heads_wide c (0xD800 + (d - 0x10000) / 0x400) (0xDC00 + (d - 0x10000) % 0x400) r s
    (ap (λ l. l ++ r) (sym (short c low)) ∙ same ∙ ap (λ l. l ++ s) (long d more))))
    (cases_lt d 0x10000))
    (λ high.
    ⊎_elim
    (λ also. apart d c are is (heads_wide d (0xD800 + (c - 0x10000) / 0x400) (0xDC00 + (c - 0x10000) % 0x400) s r
    (ap (λ l. l ++ s) (sym (short d also)) ∙ sym same ∙ ap (λ l. l ++ r) (long c high))))
    (λ more.
    let both = heads_both (0xD800 + (c - 0x10000) / 0x400) (0xDC00 + (c - 0x10000) % 0x400) (0xD800 + (d - 0x10000) / 0x400)
    (0xDC00 + (d - 0x10000) % 0x400) r s (ap (λ l. l ++ r) (sym (long c high)) ∙ same ∙ ap (λ l. l ++ s) (long d more)) in
    let first = both.0 in
    let second = both.1 in
    omega arith)
    (cases_lt d 0x10000))
    (cases_lt c 0x10000)
  where
    heads_same : (c d : ℕ) (r s : List ℕ) → (c ∷ []) ++ r ≡ (d ∷ []) ++ s → c ≡ d
    heads_same c d r s same = cc

    heads_wide : (c a b : ℕ) (r s : List ℕ) → (c ∷ []) ++ r ≡ (a ∷ b ∷ []) ++ s → c ≡ a
    heads_wide c a b r s same = cc

    heads_both : (a b c d : ℕ) (r s : List ℕ) → (a ∷ b ∷ []) ++ r ≡ (c ∷ d ∷ []) ++ s → (a ≡ c) × (b ≡ d)
    heads_both a b c d r s same = (cc, cc)

one_utf8 : (c d : ℕ) (r s : List ℕ) → IsCharacter c → IsCharacter d → encode_utf8 c ++ r ≡ encode_utf8 d ++ s → c ≡ d
one_utf8 c d r s is are same =
    let first : (n : ℕ) (l : List ℕ) → IsCharacter n → chars (encode_utf8 n ++ l) ≡ n ∷ chars l =
    λ n l good. let scalar = scalar_of n good in
    chars-append (encode_utf8 n) l (IsUtf8-encode n scalar) ∙ ap (λ m. m ++ chars l) (one_character n scalar) in
    let both : c ∷ chars r ≡ d ∷ chars s = sym (first c r is) ∙ ap chars same ∙ first d s are in
    cc

pub one_first : (unit : TextUnit) (c d : ℕ) (r s : List ℕ) → IsCharacter c → IsCharacter d → spelling_of unit c ++ r ≡ spelling_of unit d ++ s → c ≡ d
one_first Chars c d r s is are same = cc
one_first Utf8 c d r s is are same = one_utf8 c d r s is are same
one_first Utf16 c d r s is are same = one_utf16 c d r s is are same

-- characters that units begin with are the first of a text that they begin with and that no more follow
pub first_of_text : (unit : TextUnit) (y w e r : List ℕ) → IsText y → IsText w → BeginWithNone unit e → spelled unit y ++ e ≡ spelled unit w ++ r →
    (rest : List ℕ) × (y ≡ w ++ rest)
first_of_text unit y [] e r text these none same = (y, refl)
first_of_text unit [] (c ∷ w) e r text these none same =
    absurd (none c these.0 (spelled unit w ++ r, same ∙ append_assoc (spelling_of unit c) (spelled unit w) r))
first_of_text unit (d ∷ y) (c ∷ w) e r text these none same =
    let both : spelling_of unit d ++ (spelled unit y ++ e) ≡ spelling_of unit c ++ (spelled unit w ++ r) =
    sym (append_assoc (spelling_of unit d) (spelled unit y) e) ∙ same ∙ append_assoc (spelling_of unit c) (spelled unit w) r in
    let first : d ≡ c = one_first unit d c (spelled unit y ++ e) (spelled unit w ++ r) text.0 these.0 both in
    let others : spelled unit y ++ e ≡ spelled unit w ++ r =
    append_cancel_left (spelling_of unit c) (spelled unit y ++ e) (spelled unit w ++ r)
    (ap (λ k. spelling_of unit k ++ (spelled unit y ++ e)) (sym first) ∙ both) in
    let more = first_of_text unit y w e r text.1 these.1 none others in
    (more.0, ap (λ k. k ∷ y) first ∙ ap (λ l. c ∷ l) more.1)

-- and what is left of the text is spelled by the units that are left
pub rest_of_text : (unit : TextUnit) (w rest e r : List ℕ) → spelled unit (w ++ rest) ++ e ≡ spelled unit w ++ r → spelled unit rest ++ e ≡ r
rest_of_text unit w rest e r same =
    append_cancel_left (spelled unit w) (spelled unit rest ++ e) r
    (sym (append_assoc (spelled unit w) (spelled unit rest) e)
    ∙ ap (λ l. l ++ e) (sym (flat_map-append (spelling_of unit) w rest)) ∙ same)

-- a text takes as many units as spell it
pub length_spelled : (unit : TextUnit) (x : List ℕ) → length (spelled unit x) ≡ sum_by (size_of unit) x
length_spelled unit [] = refl
length_spelled unit (c ∷ x) =
    let long : length (spelled unit (c ∷ x)) ≡ length (spelling_of unit c) + length (spelled unit x) =
    length-append (spelling_of unit c) (spelled unit x) in
    let sum : sum_by (size_of unit) (c ∷ x) ≡ size_of unit c + sum_by (size_of unit) x = sum_by-cons (size_of unit) c x in
    omega (arith, long, sum, size_is unit c, length_spelled unit x)

-- an empty spelling is of no character
pub none_spelled : (unit : TextUnit) (x : List ℕ) → length (spelled unit x) ≡ 0 → x ≡ []
none_spelled unit [] none = refl
none_spelled unit (c ∷ x) none =
    let long : length (spelled unit (c ∷ x)) ≡ length (spelling_of unit c) + length (spelled unit x) =
    length-append (spelling_of unit c) (spelled unit x) in
    absurd (omega (arith, none, long, size_is unit c, (size_some unit c).0))
