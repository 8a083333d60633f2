-- What stands for ill-formed sequences, piece by piece.
use Rattle.std.proofs.Common.{◌≡◌, ℕ, zero, suc, ◌+◌, ◌-◌, ◌*◌, ◌/◌, ◌%◌, ◌<◌, ◌≤◌, ◌⊎◌, Bool, true, false, cond, List, [], ◌∷◌, ◌++◌, Option, Some, None}
use Rattle.std.proofs.Common.{length, take, drop, IsUtf8, refl, sym, ap, ◌∙◌, subst, inl, inr, ⊎_elim, arith, append_assoc, append-nil, length-append}
use Rattle.std.proofs.Common.{length-drop, length-take, take_all, take-append-drop, drop-drop, true≢false, drop_at, take_at}
use Rattle.std.specs.Prelude.{unwrap_or}
use Rattle.std.proofs.lemmas.Bool.{and_parts, cases_Bool, cases_lt, cond-true, cond-false}
use Rattle.std.proofs.lemmas.Bool.Decides.{nat_tests}
use Rattle.std.proofs.lemmas.List.{take-append-le, drop-append-le}
use Rattle.std.proofs.lemmas.Str.{IsUtf8-from_is_utf8, is_utf8-from_IsUtf8, IsUtf8-append, IsUtf8-drop, IsUtf8-encode}
use Rattle.std.proofs.lemmas.Str.{IsCharBoundary-from_take, length-encode, len_utf8_bounds}
use Rattle.std.proofs.lemmas.Str.{utf8_lossy-IsUtf8, utf8_lossy_step, utf8_lossy_chunk, utf8_lossy_empty, utf8_valid_len-IsValidUpTo, utf8_valid_len-IsUtf8}
use Rattle.std.specs.Str.{chars, IsValidUpTo, is_utf8}
use Rattle.std.specs.Str.Lossy.{valid_len_up_to, utf8_valid_len, utf8_error_len, utf8_invalid_len, after_first_chunk, utf8_lossy}
use Rattle.std.specs.Str.Lossy.{replacement_bytes, second_byte_min, second_byte_max}
use Rattle.std.specs.Int.{is_in_range}
use Rattle.std.specs.Char.{IsScalar}
use lib.Utf8.{encode, encodes, scalars, next, scalar_cases}

longest_front : (bs : List ℕ) (m : ℕ)
    → IsUtf8 (take (valid_len_up_to bs m) bs) × ((k : ℕ) → valid_len_up_to bs m < k → k ≤ m → ¬ (IsUtf8 (take k bs)))
longest_front bs zero = (([], (refl, refl)), λ k above within. absurd (omega arith))
longest_front bs (suc m) =
    let rest = longest_front bs m in
    ⊎_elim
    (λ yes.
    let is : valid_len_up_to bs (suc m) ≡ suc m = cond-true _ _ _ yes in
    (subst (λ n. IsUtf8 (take n bs)) (sym is) (IsUtf8-from_is_utf8 _ yes), λ k above within. absurd (omega arith)))
    (λ no.
    let is : valid_len_up_to bs (suc m) ≡ valid_len_up_to bs m = cond-false _ _ _ no in (
      subst (λ n. IsUtf8 (take n bs)) (sym is) rest.0,
      λ k above within u. ⊎_elim
          (λ (top : m < k).
          let same : k ≡ suc m = omega arith in
          true≢false (sym (is_utf8-from_IsUtf8 _ (subst (λ n. IsUtf8 (take n bs)) same u)) ∙ no))
          (λ (low : k ≤ m). rest.1 k (omega arith) low u)
          (cases_lt m k),
    ))
    (cases_Bool (is_utf8 (take (suc m) bs)))

-- bytes are UTF-8, or they stop being it at `utf8_valid_len`
valid_cases : (bs : List ℕ) → IsUtf8 bs ⊎ IsValidUpTo bs (utf8_valid_len bs)
unfolding utf8_valid_len
valid_cases bs =
    let n = utf8_valid_len bs in
    let front = longest_front bs (length bs) in
    ⊎_elim
    (λ (short : n < length bs). inr (record {
      short = short;
      front = front.0;
      longest = λ m above u. ⊎_elim
          (λ (past : length bs < m).
          front.1 (length bs) short (omega arith) (subst IsUtf8 (take_all m bs (omega arith) ∙ sym (take_all (length bs) bs (omega arith))) u))
          (λ (within : m ≤ length bs). front.1 m above within u)
          (cases_lt (length bs) m);
    }))
    (λ (whole : length bs ≤ n). inl (subst IsUtf8 (take_all n bs whole) front.0))
    (cases_lt n (length bs))

-- what follows a text at the front of UTF-8 is UTF-8
rest_is : (v p : List ℕ) → IsUtf8 v → IsUtf8 (v ++ p) → IsUtf8 p
rest_is v p front whole =
    let here : take (length v) (v ++ p) ≡ v = take_at v p (length v) refl in
    subst IsUtf8 (drop_at v p (length v) refl)
    (IsUtf8-drop (v ++ p) (length v) whole
    (IsCharBoundary-from_take (v ++ p) (length v) whole (omega (arith, length-append v p)) (subst IsUtf8 (sym here) front)))

take_past : (v r : List ℕ) (m : ℕ) → length v ≤ m → take m (v ++ r) ≡ v ++ take (m - length v) r
take_past [] r m high = ap (λ n. take n r) (let e : m ≡ m - 0 = omega arith in e)
take_past (b ∷ v) r zero high = absurd (omega arith)
take_past (b ∷ v) r (suc m) high =
    ap (λ l. b ∷ l) (take_past v r m (omega arith)) ∙ ap (λ i. b ∷ (v ++ take i r)) (let e : m - length v ≡ suc m - suc (length v) = omega arith in e)

drop_past : (v r : List ℕ) (m : ℕ) → drop (length v + m) (v ++ r) ≡ drop m r
drop_past v r m =
    sym (drop-drop m (length v) (v ++ r)) ∙ ap (drop m) (drop_at v r (length v) refl)

-- UTF-8 at the front stays, and what follows is as it would be alone
pub lossy_front : (v r : List ℕ) → IsUtf8 v → utf8_lossy (v ++ r) ≡ v ++ utf8_lossy r
lossy_front v r front =
    ⊎_elim
    (λ rest. utf8_lossy-IsUtf8 (v ++ r) (IsUtf8-append v r front rest) ∙ ap (λ l. v ++ l) (sym (utf8_lossy-IsUtf8 r rest)))
    (λ valid.
    let n : ℕ = utf8_valid_len r in
    let k : ℕ = utf8_invalid_len (drop n r) in
    let longer : IsValidUpTo (v ++ r) (length v + n) = record {
      short = omega (arith, valid.short, length-append v r);
      front = subst IsUtf8 (sym (take_past v r (length v + n) (omega arith) ∙ ap (λ i. v ++ take i r) (let e : length v + n - length v ≡ n = omega arith in e)))
          (IsUtf8-append v (take n r) front valid.front);
      longest = λ m above u. valid.longest (m - length v) (omega arith)
          (rest_is v (take (m - length v) r) front (subst IsUtf8 (take_past v r m (omega arith)) u));
    } in
    let at : utf8_valid_len (v ++ r) ≡ length v + n = utf8_valid_len-IsValidUpTo (v ++ r) (length v + n) longer in
    let short = valid.short in
    let text : take (utf8_valid_len (v ++ r)) (v ++ r) ≡ v ++ take n r =
    ap (λ i. take i (v ++ r)) at ∙ take_past v r (length v + n) (omega arith)
    ∙ ap (λ i. v ++ take i r) (let e : length v + n - length v ≡ n = omega arith in e) in
    let after : after_first_chunk (v ++ r) ≡ after_first_chunk r =
    ap (λ i. drop (i + utf8_invalid_len (drop i (v ++ r))) (v ++ r)) at
    ∙ ap (λ l. drop (length v + n + utf8_invalid_len l) (v ++ r)) (drop_past v r n)
    ∙ ap (λ i. drop i (v ++ r)) (let e : length v + n + k ≡ length v + (n + k) = omega arith in e)
    ∙ drop_past v r (n + k) in
    utf8_lossy_step (v ++ r) (λ e. omega (arith, e, at, short, length-append v r))
    ∙ (λ i. text i ++ (replacement_bytes ++ utf8_lossy (after i)))
    ∙ append_assoc v (take n r) (replacement_bytes ++ utf8_lossy (after_first_chunk r))
    ∙ ap (λ l. v ++ l) (sym (utf8_lossy_step r (λ e. omega (arith, e, short)))))
    (valid_cases r)

-- bytes that begin a character and end within it
open_one : (a : ℕ) → 0xC2 ≤ a → a ≤ 0xF4 → utf8_error_len (a ∷ []) ≡ None
unfolding utf8_error_len
open_one a low high = grind (arith, nat_tests)

open_two : (a b : ℕ) → 0xC2 ≤ a → a ≤ 0xF4 → is_in_range (second_byte_min a) (second_byte_max a) b ≡ true → utf8_error_len (a ∷ b ∷ []) ≡ None
unfolding utf8_error_len
open_two a b low high second = grind (arith, nat_tests)

open_three : (a b c : ℕ) → 0xC2 ≤ a → a ≤ 0xF4 → is_in_range (second_byte_min a) (second_byte_max a) b ≡ true → 0x80 ≤ c → c ≤ 0xBF
    → utf8_error_len (a ∷ b ∷ c ∷ []) ≡ None
unfolding utf8_error_len
open_three a b c low high second from to = grind (arith, nat_tests)

second_of_three : (c : ℕ) → 2048 ≤ c → c < 65536 → (c < 55296) ⊎ ((57344 ≤ c) × (c < 1114112))
    → is_in_range (second_byte_min (224 + c / 4096)) (second_byte_max (224 + c / 4096)) (next (c / 64)) ≡ true
second_of_three c low high scalar = grind (arith, nat_tests)

second_of_four : (c : ℕ) → 65536 ≤ c → c < 1114112
    → is_in_range (second_byte_min (240 + c / 262144)) (second_byte_max (240 + c / 262144)) (next (c / 4096)) ≡ true
second_of_four c low high = grind (arith, nat_tests)

one_to_three : (P : ℕ → Type 0) (j : ℕ) → 0 < j → j < 4 → P 1 → (1 < j → P 2) → (2 < j → P 3) → P j
one_to_three P zero some few one two three = absurd (omega arith)
one_to_three P (suc zero) some few one two three = one
one_to_three P (suc (suc zero)) some few one two three = two (omega arith)
one_to_three P (suc (suc (suc zero))) some few one two three = three (omega arith)
one_to_three P (suc (suc (suc (suc j)))) some few one two three = absurd (omega arith)

shape : (c : ℕ) → ((c < 128) × (encode c ≡ c ∷ [])) ⊎ ((128 ≤ c) × (c < 2048) × (encode c ≡ (192 + c / 64) ∷ next c ∷ []))
    ⊎ ((2048 ≤ c) × (c < 65536) × (encode c ≡ (224 + c / 4096) ∷ next (c / 64) ∷ next c ∷ []))
    ⊎ ((65536 ≤ c) × (encode c ≡ (240 + c / 262144) ∷ next (c / 4096) ∷ next (c / 64) ∷ next c ∷ []))
unfolding encode
shape c = grind (arith, nat_tests)

-- the first bytes of a character, without its last
prefix_open : (c j : ℕ) → IsScalar c → 0 < j → j < length (encode c) → utf8_error_len (take j (encode c)) ≡ None
prefix_open c j scalar some less =
    let Open : ℕ → List ℕ → Type 0 = λ k l. utf8_error_len (take k l) ≡ None in
    let range = scalar_cases c scalar in
    ⊎_elim
    (λ one. absurd (omega (arith, ap length one.1)))
    (λ other. ⊎_elim
    (λ two. subst (Open j) (sym two.2) (subst (λ k. Open k ((192 + c / 64) ∷ next c ∷ [])) (let e : 1 ≡ j = omega (arith, ap length two.2) in e)
    (open_one (192 + c / 64) (omega (arith, two.0)) (omega (arith, two.1)))))
    (λ more. ⊎_elim
    (λ three. subst (Open j) (sym three.2)
    (one_to_three (λ k. Open k ((224 + c / 4096) ∷ next (c / 64) ∷ next c ∷ [])) j some (omega (arith, ap length three.2))
    (open_one (224 + c / 4096) (omega arith) (omega (arith, three.1)))
    (λ _. open_two (224 + c / 4096) (next (c / 64)) (omega arith) (omega (arith, three.1)) (second_of_three c three.0 three.1 range))
    (λ long. absurd (omega (arith, ap length three.2)))))
    (λ four.
    let top : c < 1114112 = ⊎_elim (λ low. omega arith) (λ high. high.1) range in
    let last : 240 + c / 262144 ≤ 0xF4 = omega arith in
    subst (Open j) (sym four.1)
    (one_to_three (λ k. Open k ((240 + c / 262144) ∷ next (c / 4096) ∷ next (c / 64) ∷ next c ∷ [])) j some (omega (arith, ap length four.1))
    (open_one (240 + c / 262144) (omega arith) last)
    (λ _. open_two (240 + c / 262144) (next (c / 4096)) (omega arith) last (second_of_four c four.0 top))
    (λ _. open_three (240 + c / 262144) (next (c / 4096)) (next (c / 64)) (omega arith) last (second_of_four c four.0 top) (omega arith) (omega arith))))
    more)
    other)
    (shape c)

-- an ill-formed sequence is as long whatever follows
error_stays : (r y : List ℕ) (k : ℕ) → utf8_error_len r ≡ Some k → utf8_error_len (r ++ y) ≡ Some k
unfolding utf8_error_len
error_stays [] y k is = grind arith
error_stays (a ∷ []) y k is = grind (arith, nat_tests)
error_stays (a ∷ b ∷ []) y k is = grind (arith, nat_tests)
error_stays (a ∷ b ∷ c ∷ []) y k is = grind (arith, nat_tests)
error_stays (a ∷ b ∷ c ∷ d ∷ r) y k is = grind (arith, nat_tests)

module _ (r : List ℕ) (k : ℕ) (valid : IsValidUpTo r 0) (error : utf8_error_len r ≡ Some k) where
  -- no character begins there, whatever follows
  none_begins : (y : List ℕ) → IsValidUpTo (r ++ y) 0
  none_begins y = record {
    short = let short = valid.short in omega (arith, short, length-append r y);
    front = ([], (refl, refl));
    longest = λ m above u. by_text m above u.0 u.1.0 u.1.1;
  }
    where
      by_text : (m : ℕ) → 0 < m → (cs : List ℕ) → scalars cs ≡ true → encodes cs ≡ take m (r ++ y) → ⊥
      by_text m above [] all is = let short = valid.short in omega (arith, short, ap length is, length-take m (r ++ y), length-append r y)
      by_text m above (c ∷ cs) all is =
          let z : List ℕ = encodes cs ++ drop m (r ++ y) in
          let whole : r ++ y ≡ encode c ++ z =
          sym (take-append-drop m (r ++ y)) ∙ ap (λ l. l ++ drop m (r ++ y)) (sym is) ∙ append_assoc (encode c) (encodes cs) (drop m (r ++ y)) in
          let n : ℕ = length r in
          let size : ℕ = length (encode c) in
          let scalar : IsScalar c = (and_parts _ _ all).0 in
          let some : 0 < size = omega (arith, length-encode c, (len_utf8_bounds c).0) in
          ⊎_elim
          (λ (within : n < size).
          let front : r ≡ take n (encode c) = sym (take_at r y n refl) ∙ ap (take n) whole ∙ take-append-le n (encode c) z (omega arith) in
          let cut : None ≡ Some k = sym (prefix_open c n scalar valid.short within) ∙ ap utf8_error_len (sym front) ∙ error in
          absurd (grind arith))
          (λ (fits : size ≤ n).
          let front : take size r ≡ encode c = sym (take-append-le size r y fits) ∙ ap (take size) whole ∙ take_at (encode c) z size refl in
          valid.longest size some (subst IsUtf8 (sym front) (IsUtf8-encode c scalar)))
          (cases_lt n size)

  -- an ill-formed sequence is replaced, and what follows is as it would be alone
  pub lossy_step : (y : List ℕ) → 0 < k → k ≤ length r → utf8_lossy (r ++ y) ≡ replacement_bytes ++ utf8_lossy (drop k r ++ y)
  lossy_step y some within =
      let at : utf8_valid_len (r ++ y) ≡ 0 = utf8_valid_len-IsValidUpTo (r ++ y) 0 (none_begins y) in
      let long : length (take k r) ≡ k = omega (arith, length-take k r) in
      utf8_lossy_chunk (r ++ y) [] (take k r) (drop k r ++ y)
      (ap (λ l. l ++ y) (sym (take-append-drop k r)) ∙ append_assoc (take k r) (drop k r) y)
      (sym at)
      (long ∙ sym (ap (λ o. unwrap_or o (length (r ++ y))) (error_stays r y k error)) ∙ ap (λ i. utf8_invalid_len (drop i (r ++ y))) (sym at))
      (omega (arith, long))

-- the last bytes, where no character begins and more could follow, are replaced
pub lossy_last : (r : List ℕ) → IsValidUpTo r 0 → utf8_error_len r ≡ None → utf8_lossy r ≡ replacement_bytes
lossy_last r valid error =
    let at : utf8_valid_len r ≡ 0 = utf8_valid_len-IsValidUpTo r 0 valid in
    utf8_lossy_chunk r [] r [] (sym (append-nil r)) (sym at)
    (sym (ap (λ o. unwrap_or o (length r)) error) ∙ ap (λ i. utf8_invalid_len (drop i r)) (sym at)) valid.short
    ∙ ap (λ l. replacement_bytes ++ l) (utf8_lossy_empty [] refl)

-- past a text at the front the bytes begin with no character
pub valid_rest : (bs : List ℕ) (n : ℕ) → IsValidUpTo bs n → IsValidUpTo (drop n bs) 0
valid_rest bs n valid =
    let short = valid.short in
    let v : List ℕ = take n bs in
    let size : length v ≡ n = omega (arith, length-take n bs) in
    let both = λ (m : ℕ). ap (take (n + m)) (sym (take-append-drop n bs)) ∙ take_past v (drop n bs) (n + m) (omega (arith, size))
    ∙ ap (λ i. v ++ take i (drop n bs)) (let e : n + m - length v ≡ m = omega (arith, size) in e) in
    record {
      short = omega (arith, length-drop n bs);
      front = ([], (refl, refl));
      longest = λ m above u. valid.longest (n + m) (omega arith)
          (subst IsUtf8 (sym (both m)) (IsUtf8-append v (take m (drop n bs)) valid.front u));
    }

-- U+FFFD in UTF-8
pub chars_mark : (z : List ℕ) → chars (replacement_bytes ++ z) ≡ 0xFFFD ∷ chars z
unfolding chars
chars_mark [] = refl
chars_mark (b ∷ z) = refl
