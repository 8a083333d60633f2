-- The last four digits of a number, written alone.
use Rattle.std.proofs.Common.{◌≡◌, ℕ, ◌+◌, ◌/◌, ◌%◌, ◌^◌, ◌<◌, ◌≤◌, List, [], ◌∷◌, ◌++◌, length, take, drop, set, refl, sym, ap, ◌∙◌, subst, arith}
use Rattle.std.specs.Fmt.{decimal}
use Rattle.std.proofs.lemmas.List.{drop-take, drop-append-le, length-drop, length-take-le}
use Rattle.std.proofs.Math.Seq.{take-append_seam}
use Rattle.itoa.proofs.Decimal.{decimal_four, length_four}
use Rattle.rbbi_text.specs.inner.Digits.{four_digits}

-- the last four of ten digits are written
pub last_four : (ds : List ℕ) (a b c d : ℕ) → length ds ≡ 10 → set (set (set (set ds 6 a) 7 b) 8 c) 9 d ≡ take 6 ds ++ (a ∷ b ∷ c ∷ d ∷ [])
last_four (x0 ∷ x1 ∷ x2 ∷ x3 ∷ x4 ∷ x5 ∷ x6 ∷ x7 ∷ x8 ∷ x9 ∷ []) a b c d h = refl
last_four _ a b c d h = absurd (omega arith)

-- where the digits before the last four stay, those are the number's
pub counted_four : (ds : List ℕ) (start old new : ℕ) → length ds ≡ 10 → start ≤ 10 → drop start ds ≡ decimal old → 10000 ≤ new → old ≤ new →
    new / 10000 ≡ old / 10000 → new < 2 ^ 32 → drop start (take 6 ds ++ four_digits (new % 10000)) ≡ decimal new
counted_four ds start old new ten within digits great forward same small =
    let high = decimal (old / 10000) in
    let parts = decimal_four old (omega arith) (omega arith) in
    let six : start + length high ≡ 6 = omega (arith, length-drop start ds, ap length digits, length_four old (omega arith) (omega arith)) in
    let front : drop start (take 6 ds) ≡ high =
    subst (λ n. drop start (take n ds) ≡ high) six
    (drop-take start (length high) ds ∙ ap (take (length high)) (digits ∙ parts) ∙ take-append_seam high _) in
    drop-append-le start (take 6 ds) (four_digits (new % 10000)) (omega (arith, length-take-le 6 ds (omega arith)))
    ∙ ap (λ xs. xs ++ four_digits (new % 10000)) (front ∙ ap decimal (sym same))
    ∙ sym (decimal_four new great (omega arith))
