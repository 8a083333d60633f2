-- Rows of bits, word by word and bit by bit.
use Rattle.std.proofs.Common.{◌≡◌, ◌≢◌, ℕ, ◌+◌, ◌*◌, ◌/◌, ◌%◌, ◌^◌, ◌<◌, ◌≤◌, ◌⊎◌, ◌↔◌, Bool, true, false, ◌||◌, ◌&&◌, List, [], length, get_or, replicate}
use Rattle.std.proofs.Common.{refl, sym, ap, ◌∙◌, inl, inr, ⊎_elim, arith}
use Rattle.std.specs.Prelude.{bit_and}
use Rattle.std.specs.Int.RustNames.{bit_or}
use Rattle.std.proofs.lemmas.Bool.{cases_lt, false≢true, or_cases, or_left, or_right, and_parts, and_from}
use Rattle.std.proofs.lemmas.List.{get_or_past, get_or-replicate, length-replicate, ext_get_or}
use Rattle.rbbi_model.specs.Places.{has_bit}
use Rattle.rbbi_bits.specs.BitRows.{row_bit, Holds}
use Rattle.rbbi_bits.proofs.WordBits.{no_bit, has_bit_or, has_bit_and, some_bit, same_words}

-- a row whose words are those of others united or intersected
pub or_words : (row these those : List ℕ) → ((k : ℕ) → get_or row k 0 ≡ bit_or (get_or these k 0) (get_or those k 0)) → (place : ℕ) →
    row_bit row place ≡ (row_bit these place || row_bit those place)
or_words row these those each place =
    ap (λ n. has_bit n (place % 64)) (each (place / 64)) ∙ has_bit_or (get_or these (place / 64) 0) (get_or those (place / 64) 0) (place % 64)

pub and_words : (row these those : List ℕ) → ((k : ℕ) → get_or row k 0 ≡ bit_and (get_or these k 0) (get_or those k 0)) → (place : ℕ) →
    row_bit row place ≡ (row_bit these place && row_bit those place)
and_words row these those each place =
    ap (λ n. has_bit n (place % 64)) (each (place / 64)) ∙ has_bit_and (get_or these (place / 64) 0) (get_or those (place / 64) 0) (place % 64)

pub or_and_words : (row old these those : List ℕ) →
    ((k : ℕ) → get_or row k 0 ≡ bit_or (get_or old k 0) (bit_and (get_or these k 0) (get_or those k 0))) → (place : ℕ) →
    row_bit row place ≡ (row_bit old place || (row_bit these place && row_bit those place))
or_and_words row old these those each place =
    ap (λ n. has_bit n (place % 64)) (each (place / 64))
    ∙ has_bit_or (get_or old (place / 64) 0) (bit_and (get_or these (place / 64) 0) (get_or those (place / 64) 0)) (place % 64)
    ∙ ap (λ x. row_bit old place || x) (has_bit_and (get_or these (place / 64) 0) (get_or those (place / 64) 0) (place % 64))

-- the same as relations
pub or_holds : (a b d : Bool) → a ≡ (b || d) → (a ≡ true) ↔ ((b ≡ true) ⊎ (d ≡ true))
or_holds a b d is = (λ holds. or_cases b d (sym is ∙ holds), ⊎_elim (λ one. is ∙ or_left b d one) (λ one. is ∙ or_right b d one))

pub and_holds : (a b d : Bool) → a ≡ (b && d) → (a ≡ true) ↔ ((b ≡ true) × (d ≡ true))
and_holds a b d is = (λ holds. and_parts b d (sym is ∙ holds), λ both. is ∙ and_from b d both.0 both.1)

pub or_and_holds : (a b d e : Bool) → a ≡ (b || (d && e)) → (a ≡ true) ↔ ((b ≡ true) ⊎ ((d ≡ true) × (e ≡ true)))
or_and_holds a b d e is = (
  λ holds. ⊎_elim (λ one. inl one) (λ both. inr (and_parts d e both)) ((or_holds a b (d && e) is).0 holds),
  ⊎_elim (λ one. (or_holds a b (d && e) is).1 (inl one)) (λ both. (or_holds a b (d && e) is).1 (inr (and_from d e both.0 both.1))),
)

-- past the last word there is nothing
pub bit_past : (row : List ℕ) (place : ℕ) → length row ≤ place / 64 → row_bit row place ≡ false
bit_past row place past = ap (λ n. has_bit n (place % 64)) (get_or_past row (place / 64) 0 past) ∙ no_bit (place % 64)

pub none_past : (row : List ℕ) (place : ℕ) → 64 * length row ≤ place → ¬ Holds row place
none_past row place past = λ holds. false≢true (sym (bit_past row place (omega (arith, past))) ∙ holds)

pub none_in_empty : (row : List ℕ) (place : ℕ) → row ≡ [] → ¬ Holds row place
none_in_empty row place none = none_past row place (omega (arith, ap length none))

-- a row of zeros
pub blank : (row : List ℕ) (n place : ℕ) → row ≡ replicate n 0 → row_bit row place ≡ false
blank row n place is =
    ⊎_elim
    (λ short. ap (λ r. row_bit r place) is ∙ ap (λ m. has_bit m (place % 64)) (get_or-replicate n (place / 64) 0 0 short) ∙ no_bit (place % 64))
    (λ past. bit_past row place (omega (arith, past, ap length is, length-replicate {A = ℕ} n 0)))
    (cases_lt (place / 64) n)

-- a bit by its word and its place there
pub word_bit : (row : List ℕ) (k t : ℕ) → t < 64 → row_bit row (64 * k + t) ≡ has_bit (get_or row k 0) t
word_bit row k t small =
    let word : (64 * k + t) / 64 ≡ k = omega (arith, small) in
    let place : (64 * k + t) % 64 ≡ t = omega (arith, small) in
    ap (λ n. has_bit (get_or row n 0) ((64 * k + t) % 64)) word ∙ ap (λ n. has_bit (get_or row k 0) n) place

-- words with a bit in common
pub words_meet : (these those : List ℕ) (k : ℕ) → bit_and (get_or these k 0) (get_or those k 0) ≢ 0 →
    bit_and (get_or these k 0) (get_or those k 0) < 2 ^ 64 → (place : ℕ) × Holds these place × Holds those place
words_meet these those k some small =
    let bit = some_bit (bit_and (get_or these k 0) (get_or those k 0)) some small in
    let both = and_parts (has_bit (get_or these k 0) bit.0) (has_bit (get_or those k 0) bit.0)
    (sym (has_bit_and (get_or these k 0) (get_or those k 0) bit.0) ∙ bit.2) in
    (64 * k + bit.0, word_bit these k bit.0 bit.1 ∙ both.0, word_bit those k bit.0 bit.1 ∙ both.1)

pub words_apart : (these those : List ℕ) → ((k : ℕ) → bit_and (get_or these k 0) (get_or those k 0) ≡ 0) → (place : ℕ) → Holds these place → ¬ Holds those place
words_apart these those each place holds = λ holds'.
    let both = has_bit_and (get_or these (place / 64) 0) (get_or those (place / 64) 0) (place % 64) in
    let zero = ap (λ n. has_bit n (place % 64)) (each (place / 64)) ∙ no_bit (place % 64) in
    false≢true (sym zero ∙ both ∙ and_from (row_bit these place) (row_bit those place) holds holds')

-- rows of one length that hold the same are equal
same_tests : (a b : Bool) → (a ≡ true) ↔ (b ≡ true) → a ≡ b
same_tests true b same = sym (same.0 refl)
same_tests false true same = same.1 refl
same_tests false false same = refl

pub same_rows : (these those : List ℕ) → length these ≡ length those → ((k : ℕ) → get_or these k 0 < 2 ^ 64) → ((k : ℕ) → get_or those k 0 < 2 ^ 64) →
    ((place : ℕ) → Holds these place ↔ Holds those place) → these ≡ those
same_rows these those long small small' same =
    let bits : (place : ℕ) → row_bit these place ≡ row_bit those place = λ place. same_tests (row_bit these place) (row_bit those place) (same place) in
    ext_get_or 0 these those long (λ k _. same_words (get_or these k 0) (get_or those k 0) (small k) (small' k)
    (λ t below. sym (word_bit these k t below) ∙ bits (64 * k + t) ∙ word_bit those k t below))
