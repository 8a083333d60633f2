-- Valid ranges are told by the categories that they give.
use Rattle.std.proofs.Common.{◌≡◌, ◌≢◌, ℕ, ◌<◌, ◌≤◌, List, [], ◌∷◌, refl, ap, sym, ◌∙◌, subst, ⊎_elim, arith, leb}
use Rattle.std.proofs.lemmas.Bool.{cases_order, cond-true, cond-false, le-leb, lt-leb}
use Rattle.std.specs.List.{AllByRecursion}
use Rattle.rbbi_model.specs.Words.{IsCodePoint}
use Rattle.rbbi_model.specs.Tables.{CategoryRange, category_from, category_of}
use Rattle.rbbi_model.specs.ValidTables.{AreApart, IsWithin, AreValidRanges}

-- the category goes on from a range that starts at c or before it
goes_on : (before c : ℕ) (range : CategoryRange) (ranges : List CategoryRange) → range.start ≤ c →
    category_from before (range ∷ ranges) c ≡ category_from range.category ranges c
goes_on before c range ranges starts = cond-true (leb range.start c) (category_from range.category ranges c) before (le-leb range.start c starts)

-- and ends before one that starts past c
ends : (before c : ℕ) (range : CategoryRange) (ranges : List CategoryRange) → c < range.start → category_from before (range ∷ ranges) c ≡ before
ends before c range ranges starts = cond-false (leb range.start c) (category_from range.category ranges c) before (lt-leb range.start c starts)

-- after ranges of one start, the next range's start gives its category
abbrev Agree : ℕ → List CategoryRange → List CategoryRange → ℕ → Type 0
Agree category these those low =
    (c : ℕ) → low ≤ c → IsCodePoint c → category_from category these c ≡ category_from category those c

-- a further range changes the category at its start, and the others have none there
no_further : (count category low : ℕ) (next : CategoryRange) (these those : List CategoryRange) → low < next.start → category ≢ next.category →
    AreApart (next ∷ these) → AllByRecursion (IsWithin count) (next ∷ these) → Agree category (next ∷ these) those low →
    (category_from category those next.start ≡ category) → ⊥
no_further count category low next these those later other apart within agree none =
    other (sym none ∙ sym (agree next.start (omega (arith, later)) within.0.0) ∙ goes_on category next.start next these (omega arith) ∙ own these apart)
  where
    own : (these : List CategoryRange) → AreApart (next ∷ these) → category_from next.category these next.start ≡ next.category
    own [] h = refl
    own (third ∷ rest) h = ends next.category next.start third rest h.0

-- at its start a range gives its category
first : (range : CategoryRange) (ranges : List CategoryRange) → AreApart (range ∷ ranges) → category_from range.category ranges range.start ≡ range.category
first range [] h = refl
first range (next ∷ ranges) h = ends range.category range.start next ranges h.0

module _ (count : ℕ) where
  -- what follows a range is told by the categories from its start on
  followers : (range other : CategoryRange) (these those : List CategoryRange) → range.category ≡ other.category → range.start ≡ other.start →
      AreApart (range ∷ these) → AreApart (other ∷ those) → AllByRecursion (IsWithin count) these → AllByRecursion (IsWithin count) those →
      Agree range.category these those range.start → these ≡ those
  followers range other [] [] same start apart apart' within within' agree = refl
  followers range other (next ∷ these) [] same start apart apart' within within' agree =
      absurd (no_further count range.category range.start next these [] apart.0 apart.1 apart.2 within agree refl)
  followers range other [] (next ∷ those) same start apart apart' within within' agree =
      absurd (no_further count range.category range.start next those [] (omega (arith, apart'.0, start)) (λ e. apart'.1 (sym same ∙ e)) apart'.2 within'
      (λ c low code. sym (agree c low code)) refl)
  followers range other (next ∷ these) (last ∷ those) same start apart apart' within within' agree =
      let at : next.start ≡ last.start =
      ⊎_elim (λ equal. equal)
      (⊎_elim
      (λ less. absurd (no_further count range.category range.start next these (last ∷ those) apart.0 apart.1 apart.2 within agree
      (ends range.category next.start last those less)))
      (λ more. absurd (no_further count range.category range.start last those (next ∷ these) (omega (arith, apart'.0, start)) (λ e. apart'.1 (sym same ∙ e))
      apart'.2 within' (λ c low code. sym (agree c low code)) (ends range.category last.start next these more))))
      (cases_order next.start last.start) in
      let agree' = λ (c : ℕ) (low : next.start ≤ c) (code : IsCodePoint c).
      sym (goes_on range.category c next these low) ∙ agree c (omega (arith, low, apart.0)) code
      ∙ goes_on range.category c last those (omega (arith, low, at)) in
      let category : next.category ≡ last.category =
      sym (first next these apart.2) ∙ agree' next.start (omega arith) within.0.0 ∙ ap (λ n. category_from last.category those n) at ∙ first last those apart'.2
      in
      let rest : these ≡ those =
      followers next last these those category at apart.2 apart'.2 within.1 within'.1
      (λ c low code. agree' c low code ∙ ap (λ n. category_from n those c) (sym category)) in
      λ i. record { start = at i; category = category i } ∷ rest i

pub same_ranges : (count count' : ℕ) (these those : List CategoryRange) → AreValidRanges count these → AreValidRanges count' those → count ≡ count' →
    ((c : ℕ) → IsCodePoint c → category_of these c ≡ category_of those c) → these ≡ those
same_ranges count count' [] those valid valid' same agree = absurd valid.from_zero
same_ranges count count' (range ∷ these) [] valid valid' same agree = absurd valid'.from_zero
same_ranges count count' (range ∷ these) (other ∷ those) valid valid' same agree =
    let start : range.start ≡ other.start = omega (arith, valid.from_zero, valid'.from_zero) in
    let left = λ (c : ℕ). goes_on 0 c range these (omega (arith, valid.from_zero)) in
    let right = λ (c : ℕ). goes_on 0 c other those (omega (arith, valid'.from_zero)) in
    let category : range.category ≡ other.category =
    sym (first range these valid.apart) ∙ sym (left range.start) ∙ agree range.start (omega (arith, valid.from_zero)) ∙ right range.start
    ∙ ap (λ n. category_from other.category those n) start ∙ first other those valid'.apart in
    let rest : these ≡ those =
    followers count range other these those category start valid.apart valid'.apart valid.within.1
    (subst (λ n. AllByRecursion (IsWithin n) those) (sym same) valid'.within.1)
    (λ c low code. sym (left c) ∙ agree c code ∙ right c ∙ ap (λ n. category_from n those c) (sym category)) in
    λ i. record { start = start i; category = category i } ∷ rest i
