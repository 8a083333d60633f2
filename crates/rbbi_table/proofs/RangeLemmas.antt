-- Ranges that rise: which of them holds a code point, and whether all of them are valid.
use Rattle.std.proofs.Common.{◌≡◌, ℕ, suc, zero, ◌+◌, ◌<◌, ◌≤◌, ◌↔◌, leb, List, [], ◌∷◌, length, drop, get_or, ap, ◌∙◌, subst, arith}
use Rattle.std.proofs.lemmas.Bool.{cond-true, cond-false, le-leb, lt-leb}
use Rattle.std.proofs.lemmas.List.{drop_more}
use Rattle.std.specs.List.{AllByRecursion}
use Rattle.rbbi_model.specs.Tables.{CategoryRange, category_from, category_of}
use Rattle.rbbi_model.specs.ValidTables.{AreApart, IsWithin, AreValidRanges}
use Rattle.rbbi_table.specs.inner.Ranges.{IsValidBehind, start_of, HoldsCodePoint}

abbrev pub no_range : CategoryRange
no_range = record { start = 0; category = 0 }

rise : (range : CategoryRange) (ranges : List CategoryRange) (k : ℕ) → AreApart (range ∷ ranges) → k < length (range ∷ ranges) →
    range.start ≤ start_of (range ∷ ranges) k
rise range ranges zero apart short = omega arith
rise range [] (suc k) apart short = absurd (omega (arith, short))
rise range (next ∷ ranges) (suc k) apart short = let further = rise next ranges k apart.2 (omega (arith, short)) in omega (arith, further, apart.0)

rise_suc : (ranges : List CategoryRange) (k : ℕ) → AreApart ranges → suc k < length ranges → start_of ranges k < start_of ranges (suc k)
rise_suc [] k apart short = absurd (omega (arith, short))
rise_suc (range ∷ []) k apart short = absurd (omega (arith, short))
rise_suc (range ∷ next ∷ ranges) zero apart short = apart.0
rise_suc (range ∷ next ∷ ranges) (suc k) apart short = rise_suc (next ∷ ranges) k apart.2 (omega (arith, short))

pub rise_next : (ranges : List CategoryRange) (k : ℕ) → AreApart ranges → k + 1 < length ranges → start_of ranges k < start_of ranges (k + 1)
rise_next ranges k apart short =
    let one : suc k ≡ k + 1 = omega arith in
    subst (λ m. start_of ranges k < start_of ranges m) one (rise_suc ranges k apart (omega (arith, short)))

held : (before : ℕ) (ranges : List CategoryRange) (k c : ℕ) → AreApart ranges → k < length ranges → start_of ranges k ≤ c →
    (suc k < length ranges → c < start_of ranges (suc k)) → category_from before ranges c ≡ (get_or ranges k no_range).category
held before [] k c apart short begins ends = absurd (omega (arith, short))
held before (range ∷ []) zero c apart short begins ends = cond-true (leb range.start c) (category_from range.category [] c) before (le-leb range.start c begins)
held before (range ∷ next ∷ ranges) zero c apart short begins ends =
    cond-true (leb range.start c) (category_from range.category (next ∷ ranges) c) before (le-leb range.start c begins)
    ∙ cond-false (leb next.start c) (category_from next.category ranges c) range.category (lt-leb next.start c (ends (omega arith)))
held before (range ∷ []) (suc k) c apart short begins ends = absurd (omega (arith, short))
held before (range ∷ next ∷ ranges) (suc k) c apart short begins ends =
    let up = rise next ranges k apart.2 (omega (arith, short)) in
    cond-true (leb range.start c) (category_from range.category (next ∷ ranges) c) before (le-leb range.start c (omega (arith, up, apart.0, begins)))
    ∙ held range.category (next ∷ ranges) k c apart.2 (omega (arith, short)) begins (λ more. ends (omega (arith, more)))

-- the category of a code point is that of the range that holds it
pub category_held : (ranges : List CategoryRange) (k c : ℕ) → AreApart ranges → HoldsCodePoint ranges k c →
    category_of ranges c ≡ (get_or ranges k no_range).category
category_held ranges k c apart holds =
    let one : k + 1 ≡ suc k = omega arith in
    held 0 ranges k c apart holds.within holds.begins (λ more. subst (λ m. c < start_of ranges m) one (holds.ends (omega (arith, more))))

-- each of the ranges is valid after the one before it
abbrev pub GoOn : ℕ → CategoryRange → List CategoryRange → Type 0
GoOn categories previous [] = Unit {0}
GoOn categories previous (range ∷ ranges) =
    IsValidBehind categories previous range × GoOn categories range ranges

all_go_on : (categories : ℕ) (range : CategoryRange) (ranges : List CategoryRange) → AreApart (range ∷ ranges) → AllByRecursion (IsWithin categories) ranges →
    GoOn categories range ranges
all_go_on categories range [] apart within = tt
all_go_on categories range (next ∷ ranges) apart within = ((apart.0, apart.1, within.0), all_go_on categories next ranges apart.2 within.1)

are_apart : (categories : ℕ) (range : CategoryRange) (ranges : List CategoryRange) → GoOn categories range ranges → AreApart (range ∷ ranges) ×
    AllByRecursion (IsWithin categories) ranges
are_apart categories range [] go = (tt, tt)
are_apart categories range (next ∷ ranges) go =
    let rest = are_apart categories next ranges go.1 in
    ((go.0.0, go.0.1, rest.0), (go.0.2, rest.1))

-- ranges are valid where the first is, and each after the one before it
pub valid_where_go_on : (categories : ℕ) (ranges : List CategoryRange) → 1 ≤ categories → categories ≤ 1000 → 1 ≤ length ranges →
    (get_or ranges 0 no_range).start ≡ 0 → (get_or ranges 0 no_range).category < categories →
    AreValidRanges categories ranges ↔ GoOn categories (get_or ranges 0 no_range) (drop 1 ranges)
valid_where_go_on categories [] some few one starts within = absurd (omega (arith, one))
valid_where_go_on categories (range ∷ ranges) some few one starts within = (
  λ valid. all_go_on categories range ranges valid.apart valid.within.1,
  λ go.
      let parts = are_apart categories range ranges go in
      record {
        some_categories = some;
        few_categories = few;
        some_ranges = one;
        from_zero = starts;
        apart = parts.0;
        within = ((omega (arith, starts), within), parts.1);
      },
)

-- one step along the ranges
pub goes_on : (categories : ℕ) (previous : CategoryRange) (ranges : List CategoryRange) (i : ℕ) → i < length ranges →
    GoOn categories previous (drop i ranges) ≡ GoOn categories previous (get_or ranges i no_range ∷ drop (i + 1) ranges)
goes_on categories previous ranges i short = ap (λ l. GoOn categories previous l) (drop_more ranges i no_range short)

few_from : (categories : ℕ) (range : CategoryRange) (ranges : List CategoryRange) → AreApart (range ∷ ranges) →
    AllByRecursion (IsWithin categories) (range ∷ ranges) → range.start + length (range ∷ ranges) ≤ 1114112
few_from categories range [] apart within = omega (arith, within.0.0)
few_from categories range (next ∷ ranges) apart within = omega (arith, apart.0, few_from categories next ranges apart.2 within.1)

-- starts rise, so there are no more ranges than code points
pub few_ranges : (categories : ℕ) (ranges : List CategoryRange) → AreValidRanges categories ranges → length ranges ≤ 1114112
few_ranges categories [] valid = omega arith
few_ranges categories (range ∷ ranges) valid = omega (arith, few_from categories range ranges valid.apart valid.within)
