-- Each code point has one category.
use Rattle.std.proofs.Common.{◌≡◌, ℕ, ◌<◌, ◌≤◌, ◌↔◌, leb, List, [], ◌∷◌, sym, refl, ◌∙◌, subst, inl, inr, ⊎_elim, arith}
use Rattle.std.proofs.lemmas.Bool.{cases_lt, cond-true, cond-false, le-leb, lt-leb}
use Rattle.rbbi_model.specs.Words.{last_code_point, IsCodePoint}
use Rattle.rbbi_model.specs.Tables.{CategoryRange, HasCategory, category_from, category_of}
use Rattle.rbbi_model.specs.ValidTables.{AreApart, AreValidRanges, IsWithin}
use Rattle.std.specs.List.{AllByRecursion}

-- the category goes on from a range that starts at c or before it
category_goes_on : (before c : ℕ) (range : CategoryRange) (ranges : List CategoryRange) → range.start ≤ c →
    category_from before (range ∷ ranges) c ≡ category_from range.category ranges c
category_goes_on before c range ranges starts = cond-true (leb range.start c) (category_from range.category ranges c) before (le-leb range.start c starts)

-- and ends before one that starts past c
category_ends : (before c : ℕ) (range : CategoryRange) (ranges : List CategoryRange) → c < range.start → category_from before (range ∷ ranges) c ≡ before
category_ends before c range ranges starts = cond-false (leb range.start c) (category_from range.category ranges c) before (lt-leb range.start c starts)

has_own : (c : ℕ) (range : CategoryRange) (ranges : List CategoryRange) → range.start ≤ c → c ≤ last_code_point →
    HasCategory (range ∷ ranges) c (category_from range.category ranges c)
has_own c range [] starts small = (starts, small, refl)
has_own c range (next ∷ ranges) starts small =
    ⊎_elim
    (λ later. inl (starts, later, sym (category_ends range.category c next ranges later)))
    (λ past. inr (subst (λ k. HasCategory (next ∷ ranges) c k) (sym (category_goes_on range.category c next ranges past)) (has_own c next ranges past small)))
    (cases_lt c next.start)

only_own : (c category : ℕ) (range : CategoryRange) (ranges : List CategoryRange) → AreApart (range ∷ ranges) → HasCategory (range ∷ ranges) c category →
    (range.start ≤ c) × (category ≡ category_from range.category ranges c)
only_own c category range [] apart has = (has.0, sym has.2)
only_own c category range (next ∷ ranges) apart has =
    ⊎_elim
    (λ own. (own.0, sym own.2 ∙ sym (category_ends range.category c next ranges own.1)))
    (λ later.
    let found = only_own c category next ranges apart.2 later in
    (omega (arith, apart.0, found.0), found.1 ∙ sym (category_goes_on range.category c next ranges found.0)))
    has

pub one_category : (categories : ℕ) (ranges : List CategoryRange) (c category : ℕ) → AreValidRanges categories ranges → IsCodePoint c →
    HasCategory ranges c category ↔ (category ≡ category_of ranges c)
one_category categories [] c category valid small = absurd valid.from_zero
one_category categories (range ∷ ranges) c category valid small =
    let starts : range.start ≤ c = omega (arith, valid.from_zero) in
    let own = category_goes_on 0 c range ranges starts in (
      λ has. (only_own c category range ranges valid.apart has).1 ∙ sym own,
      λ is. subst (λ k. HasCategory (range ∷ ranges) c k) (sym (is ∙ own)) (has_own c range ranges starts small),
    )

within_from : (categories before c : ℕ) (ranges : List CategoryRange) → before < categories → AllByRecursion (IsWithin categories) ranges →
    category_from before ranges c < categories
within_from categories before c [] small within = small
within_from categories before c (range ∷ ranges) small within =
    ⊎_elim
    (λ later. subst (λ k. k < categories) (sym (category_ends before c range ranges later)) small)
    (λ past. subst (λ k. k < categories) (sym (category_goes_on before c range ranges past))
    (within_from categories range.category c ranges within.0.1 within.1))
    (cases_lt c range.start)

pub category_within : (categories : ℕ) (ranges : List CategoryRange) (c : ℕ) → AreValidRanges categories ranges → category_of ranges c < categories
category_within categories ranges c valid = let some = valid.some_categories in within_from categories 0 c ranges (omega arith) valid.within
