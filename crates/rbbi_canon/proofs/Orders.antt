-- An order of numbers, each once, and one more number in it.
use Rattle.std.proofs.Common.{◌≡◌, ◌⊎◌, ℕ, zero, suc, ◌+◌, ◌<◌, ◌≤◌, true, ◌||◌, eqb, List, [], ◌∷◌, length, get_or, refl}
use Rattle.std.proofs.Common.{ap, sym, ◌∙◌, subst, inl, inr, ⊎_elim, arith}
use Rattle.std.specs.List.{AllByRecursion, list_any}
use Rattle.std.proofs.lemmas.Bool.{cases_Bool, cases_lt, eq-eqb, eqb-true, ne_eqb, false≢true}
use Rattle.std.proofs.lemmas.List.{get_or_append_left, get_or_push, length_push}
use Rattle.std.proofs.lemmas.Map.Keys.{IsDistinct-from_apart}
use Rattle.std.proofs.lemmas.Map.Steps.{length-le_from_distinct_below, le-length_from_below}
use Rattle.rbbi_model.proofs.Lists.{all_by_index}
use Rattle.rbbi_canon.specs.inner.Numberings.{IsIndexed, KeepsOrAdds}

-- no number stands at two places
abbrev pub AreOnce : List ℕ → Type 0
AreOnce xs = (j k : ℕ) → j < length xs → k < length xs → get_or xs j 0 ≡ get_or xs k 0 → j ≡ k

each_member : (P : ℕ → Type 0) (xs : List ℕ) → AllByRecursion P xs → (q : ℕ) → list_any (eqb q) xs ≡ true → P q
each_member P [] all q member = absurd (false≢true member)
each_member P (x ∷ xs) all q member =
    ⊎_elim
    (λ here. subst P (sym (eqb-true q x here)) all.0)
    (λ other. each_member P xs all.1 q (ap (λ b. b || list_any (eqb q) xs) (sym other) ∙ member))
    (cases_Bool (eqb q x))

-- numbers below a bound, each once, are no more than the bound
pub few_once : (xs : List ℕ) (bound : ℕ) → AreOnce xs → ((k : ℕ) → k < length xs → get_or xs k 0 < bound) → length xs ≤ bound
few_once xs bound once below =
    length-le_from_distinct_below xs bound
    (IsDistinct-from_apart eqb xs (λ i j d less short.
    ne_eqb (get_or xs i d) (get_or xs j d) (λ same. omega (
      arith,
      less,
      once i j (omega (arith, less, short)) short
          (at_default i d (omega (arith, less, short)) ∙ same ∙ sym (at_default j d short)),
    ))))
    (each_member (λ x. x < bound) xs (all_by_index (λ x. x < bound) 0 xs below))
  where
    default : (xs : List ℕ) (i d : ℕ) → i < length xs → get_or xs i 0 ≡ get_or xs i d
    default [] i d short = absurd (omega (arith, short))
    default (x ∷ xs) zero d short = refl
    default (x ∷ xs) (suc i) d short = default xs i d (omega (arith, short))

    at_default : (i d : ℕ) → i < length xs → get_or xs i 0 ≡ get_or xs i d
    at_default i d short = default xs i d short

is_member : (xs : List ℕ) (k : ℕ) → k < length xs → list_any (eqb (get_or xs k 0)) xs ≡ true
is_member [] k short = absurd (omega (arith, short))
is_member (x ∷ xs) zero short = ap (λ b. b || list_any (eqb x) xs) (eq-eqb x x refl)
is_member (x ∷ xs) (suc k) short =
    let q : ℕ = get_or xs k 0 in
    ⊎_elim
    (λ here. ap (λ b. b || list_any (eqb q) xs) here)
    (λ other. ap (λ b. b || list_any (eqb q) xs) other ∙ is_member xs k (omega (arith, short)))
    (cases_Bool (eqb q x))

-- a list that has each number below a bound is as long
pub long_with_all : (xs : List ℕ) (bound : ℕ) → ((q : ℕ) → q < bound → (k : ℕ) × (k < length xs) × (get_or xs k 0 ≡ q)) → bound ≤ length xs
long_with_all xs bound all =
    le-length_from_below xs bound
    (λ q low. let at = all q low in subst (λ n. list_any (eqb n) xs ≡ true) at.2 (is_member xs at.0 at.1))

module _ (order places : List ℕ) (h : IsIndexed order places) where
  pub indexed_once : AreOnce order
  indexed_once j k low low' same = omega (arith, (h.each j low).1, (h.each k low').1, ap (λ n. get_or places n 0) same)

  pub indexed_few : length order ≤ length places
  indexed_few = few_once order (length places) indexed_once (λ k low. (h.each k low).0)

-- An order that stays, or has one more number: that at this place.
pub record Grows (old new : List ℕ) (place : ℕ) : Type 0 where
  pub more : length old ≤ length new
  pub old_at : (k : ℕ) → k < length old → get_or new k 0 ≡ get_or old k 0
  pub only : (k : ℕ) → k < length new → (k < length old) ⊎ (k ≡ place)
  pub up_to : place ≤ length old

pub grows : (old new : List ℕ) (number place : ℕ) → KeepsOrAdds old number new → AreOnce new → place < length new → get_or new place 0 ≡ number →
    Grows old new place
grows old new number place keeps once low is =
    ⊎_elim
    (λ same. record {
      more = omega (arith, ap length same);
      old_at = λ k short. ap (λ (l : List ℕ). get_or l k 0) same;
      only = λ k short. inl (subst (λ (l : List ℕ). k < length l) same short);
      up_to = let e : place < length old = subst (λ (l : List ℕ). place < length l) same low in omega (arith, e);
    })
    (λ adds.
    let long : length new ≡ length old + 1 = ap length adds ∙ length_push old number in
    let last : get_or new (length old) 0 ≡ number = ap (λ (l : List ℕ). get_or l (length old) 0) adds ∙ get_or_push old number 0 (length old) refl in
    let end : place ≡ length old = once place (length old) low (omega (arith, long)) (is ∙ sym last) in
    record {
      more = omega (arith, long);
      old_at = λ k short. ap (λ (l : List ℕ). get_or l k 0) adds ∙ get_or_append_left old (number ∷ []) 0 k short;
      only = λ k short. ⊎_elim (λ less. inl less) (λ most. inr (omega (arith, most, short, long, end))) (cases_lt k (length old));
      up_to = omega (arith, end);
    })
    keeps
