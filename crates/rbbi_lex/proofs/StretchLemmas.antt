-- Where stretches end.
use Rattle.std.proofs.Common.{◌≡◌, ℕ, zero, suc, ◌+◌, ◌<◌, ◌≤◌, Bool, true, false, cond, List, [], ◌∷◌, length, get_or, drop, refl, sym, ap, ◌∙◌, arith}
use Rattle.std.proofs.Common.{slice_get, length-drop}
use Rattle.std.proofs.lemmas.Bool.{false≢true}
use Rattle.std.proofs.lemmas.List.{at_drop_more, at_drop_all}
use Rattle.std.proofs.lemmas.Option.{slice_get_within}
use Rattle.std.specs.Prelude.{Option, None, Some, IsTrue}
use Rattle.rbbi_lex.specs.declared.stretch.Stretch.{Stretch}
use Rattle.rbbi_lex.specs.Characters.{is_sign, passes}
use Rattle.rbbi_lex.specs.Stretches.{goes_on, stretch_len, stretch_end}
use Rattle.rbbi_lex.specs.Points.{is_at}

stretch_len-step : (b : Bool) (n m : ℕ) → n ≤ m → cond b (n + 1) 0 ≤ m + 1
stretch_len-step true n m h = omega arith
stretch_len-step false n m h = omega arith

-- a stretch is no longer than the text
pub stretch_len-within : (stretch : Stretch) (x : List ℕ) → stretch_len stretch x ≤ length x
stretch_len-within stretch [] = omega arith
stretch_len-within stretch (c ∷ x) =
    let rest = stretch_len-within stretch x in
    let step = stretch_len-step (goes_on stretch c (slice_get x 0)) (stretch_len stretch x) (length x) rest in omega arith

-- nor does it reach past its end
pub stretch_end-within : (stretch : Stretch) (x : List ℕ) (i : ℕ) → i ≤ length x → stretch_end stretch x i ≤ length x
stretch_end-within stretch x i h =
    let within = stretch_len-within stretch (drop i x) in
    let left = length-drop i x in omega arith

-- where a stretch isn't empty, it ends within the text
pub stretch_end-moved : (stretch : Stretch) (x : List ℕ) (i : ℕ) → i < stretch_end stretch x i → stretch_end stretch x i ≤ length x
stretch_end-moved stretch x i h =
    let within = stretch_len-within stretch (drop i x) in
    let left = length-drop i x in omega arith

slice_get-drop : (n : ℕ) (x : List ℕ) → slice_get (drop n x) 0 ≡ slice_get x n
slice_get-drop zero x = refl
slice_get-drop (suc n) [] = refl
slice_get-drop (suc n) (c ∷ x) = slice_get-drop n x

picked : (b : Bool) (m n : ℕ) → b ≡ true → m ≡ cond b (n + 1) 0 → m ≡ n + 1
picked true m n h e = e
picked false m n h e = absurd (false≢true h)

left : (b : Bool) (m n : ℕ) → b ≡ false → m ≡ cond b (n + 1) 0 → m ≡ 0
left true m n h e = absurd (false≢true (sym h))
left false m n h e = e

tested : (stretch : Stretch) (x : List ℕ) (i c : ℕ) (b : Bool) → c ≡ get_or x i c → goes_on stretch c (slice_get x (i + 1)) ≡ b →
    goes_on stretch (get_or x i c) (slice_get (drop (i + 1) x) 0) ≡ b
tested stretch x i c b at test =
    ap (λ d. goes_on stretch d (slice_get (drop (i + 1) x) 0)) (sym at) ∙ ap (goes_on stretch c) (slice_get-drop (i + 1) x) ∙ test

-- one more character of a stretch
pub stretch_end-more : (stretch : Stretch) (x : List ℕ) (i c : ℕ) → i < length x → c ≡ get_or x i c → goes_on stretch c (slice_get x (i + 1)) ≡ true →
    stretch_end stretch x i ≡ stretch_end stretch x (i + 1)
stretch_end-more stretch x i c h at holds =
    let e = at_drop_more (stretch_len stretch) x i c h in
    let n = picked (goes_on stretch (get_or x i c) (slice_get (drop (i + 1) x) 0)) (stretch_len stretch (drop i x)) (stretch_len stretch (drop (i + 1) x))
    (tested stretch x i c true at holds) e in omega arith

-- the character at which a stretch ends
pub stretch_end-here : (stretch : Stretch) (x : List ℕ) (i c : ℕ) → i < length x → c ≡ get_or x i c → goes_on stretch c (slice_get x (i + 1)) ≡ false →
    stretch_end stretch x i ≡ i
stretch_end-here stretch x i c h at fails =
    let e = at_drop_more (stretch_len stretch) x i c h in
    let n = left (goes_on stretch (get_or x i c) (slice_get (drop (i + 1) x) 0)) (stretch_len stretch (drop i x)) (stretch_len stretch (drop (i + 1) x))
    (tested stretch x i c false at fails) e in omega arith

-- a stretch ends at the end of the text
pub stretch_end-past : (stretch : Stretch) (x : List ℕ) (i : ℕ) → length x ≤ i → stretch_end stretch x i ≡ i
stretch_end-past stretch x i h =
    let e = at_drop_all (stretch_len stretch) x i h in omega arith

found : (x : List ℕ) (i sign : ℕ) (o : Option ℕ) → slice_get x i ≡ o → IsTrue (is_sign o sign) → i < length x
found x i sign None e h = absurd (false≢true h)
found x i sign (Some c) e h = slice_get_within x i c e

-- where a character stands, the text goes on
pub is_at-within : (x : List ℕ) (i sign : ℕ) → IsTrue (is_at x i sign) → i < length x
is_at-within x i sign h = found x i sign (slice_get x i) refl h

passed : (test : ℕ → Bool) (x : List ℕ) (i : ℕ) (o : Option ℕ) → slice_get x i ≡ o → IsTrue (passes test o) → i < length x
passed test x i None e h = absurd (false≢true h)
passed test x i (Some c) e h = slice_get_within x i c e

-- where a character passes a test, the text goes on
pub passes-within : (test : ℕ → Bool) (x : List ℕ) (i : ℕ) → IsTrue (passes test (slice_get x i)) → i < length x
passes-within test x i h = passed test x i (slice_get x i) refl h
