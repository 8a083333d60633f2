-- The ranges of categories, step by step.
use Rattle.std.proofs.Common.{◌≡◌, ◌≢◌, ℕ, ◌+◌, ◌≤◌, ◌<◌, leb, cond, List, [], ◌∷◌, ◌++◌, length, get_or, drop, refl, ap, sym, ◌∙◌, inl, inr, arith}
use Rattle.std.specs.List.{AllByRecursion}
use Rattle.std.proofs.lemmas.Bool.{cases_lt, le-leb, lt-leb}
use Rattle.rbbi_model.specs.Tables.{CategoryRange, category_from, category_of}
use Rattle.rbbi_model.specs.ValidTables.{StartsAtZero, AreApart, IsWithin}
use Rattle.rbbi_model.proofs.Lists.{all_append}
use Rattle.rbbi_classes.specs.Steps.{number_from, number_at, AreSteps, AreStepsFrom}
use Rattle.rbbi_classes.specs.declared.steps.Step.{Step}
use Rattle.rbbi_classes.proofs.Stepping.{number-before}
use Rattle.rbbi_classes.proofs.DividedMembers.{AreLeft, left-next, left-same, left-more, left-none}
use Rattle.rbbi_cats.specs.inner.Ranges.{AreRangesOf}

-- a further range doesn't count before its start
category_before : (ranges : List CategoryRange) (b c : ℕ) (last : CategoryRange) → c < last.start →
    category_from b (ranges ++ last ∷ []) c ≡ category_from b ranges c
category_before [] b c last less = ap (λ t. cond t last.category b) (lt-leb last.start c less)
category_before (range ∷ ranges) b c last less = ap (λ n. cond (leb range.start c) n b) (category_before ranges range.category c last less)

-- and counts alone from its start on
category_behind : (ranges : List CategoryRange) (b c : ℕ) (last : CategoryRange) → last.start ≤ c →
    AllByRecursion (λ (range : CategoryRange). range.start ≤ c) ranges → category_from b (ranges ++ last ∷ []) c ≡ last.category
category_behind [] b c last from all = ap (λ t. cond t last.category b) (le-leb last.start c from)
category_behind (range ∷ ranges) b c last from all =
    ap (λ t. cond t (category_from range.category (ranges ++ last ∷ []) c) b) (le-leb range.start c all.0) ∙
    category_behind ranges range.category c last from all.1

apart_push : (front : List CategoryRange) (last new : CategoryRange) → AreApart (front ++ last ∷ []) → last.start < new.start → last.category ≢ new.category →
    AreApart ((front ++ last ∷ []) ++ new ∷ [])
apart_push [] last new h less other = (less, other, tt)
apart_push (range ∷ []) last new h less other = (h.0, h.1, apart_push [] last new h.2 less other)
apart_push (range ∷ next ∷ front) last new h less other = (h.0, h.1, apart_push (next ∷ front) last new h.2 less other)

zero_push : (front : List CategoryRange) (last new : CategoryRange) → StartsAtZero (front ++ last ∷ []) → StartsAtZero ((front ++ last ∷ []) ++ new ∷ [])
zero_push [] last new h = h
zero_push (range ∷ front) last new h = h

up_to : (ranges : List CategoryRange) (low high : ℕ) → low ≤ high → AllByRecursion (λ (range : CategoryRange). range.start ≤ low) ranges →
    AllByRecursion (λ (range : CategoryRange). range.start ≤ high) ranges
up_to [] low high less h = tt
up_to (range ∷ ranges) low high less h = (omega (arith, h.0, less), up_to ranges low high less h.1)

-- a step's code point has its number
left-here : (steps : List Step) (i start class : ℕ) → AreLeft steps i start class → number_at steps start ≡ class
left-here steps i start class h = h.numbers start (omega arith) ∙ first (drop i steps) h.form
  where
    first : (rest : List Step) → AreStepsFrom (start + 1) rest → number_from class rest start ≡ class
    first [] form = refl
    first (step ∷ rest) form = number-before class step rest start (omega (arith, form.0))

-- the ranges, and the last of them, that the first so many steps make, of which the last begins at this start and has this class
pub record RangesSoFar (steps : List Step) (categories : List ℕ) (ranges : List CategoryRange) (last : CategoryRange) (i : ℕ) : Type 0 where
  pub start : ℕ
  pub class : ℕ
  pub left : AreLeft steps i start class
  pub before : (c : ℕ) → c < start → category_of (ranges ++ last ∷ []) c ≡ get_or categories (number_at steps c) 0
  pub behind : (c : ℕ) → start ≤ c → category_of (ranges ++ last ∷ []) c ≡ get_or categories class 0
  pub last_is : last.category ≡ get_or categories class 0
  pub last_from : last.start ≤ start
  pub starts : AllByRecursion (λ (range : CategoryRange). range.start ≤ start) ranges
  pub from_zero : StartsAtZero (ranges ++ last ∷ [])
  pub apart : AreApart (ranges ++ last ∷ [])
  pub within : (count : ℕ) → ((class : ℕ) → get_or categories class 0 < count) → AllByRecursion (IsWithin count) ranges

module _ (steps : List Step) (categories : List ℕ) (ranges : List CategoryRange) (last : CategoryRange) (i : ℕ) (step d : Step) (inside : i < length steps)
    (is : step ≡ get_or steps i d) (h : RangesSoFar steps categories ranges last i) where
  later : h.start < step.start
  later = (left-next steps i h.start h.class h.left step d inside is).0

  -- up to the step
  so_far : (c : ℕ) → c < step.start → category_of (ranges ++ last ∷ []) c ≡ get_or categories (number_at steps c) 0
  so_far c less = elim (cases_lt c h.start) [
    | inl early ↦ h.before c early
    | inr from ↦ h.behind c from ∙ ap (λ n. get_or categories n 0) (sym (left-same steps i h.start h.class h.left step d inside is c from less))
  ]

  pub class_within : ((c : ℕ) → c ≤ 0x10FFFF → number_at steps c < length categories) → step.number < length categories
  class_within all =
      let more = left-more steps i h.start h.class h.left step d inside is in
      omega (arith, all step.start more.point, left-here steps (i + 1) step.start step.number more)

  pub range_kept : get_or categories step.number 0 ≡ last.category → RangesSoFar steps categories ranges last (i + 1)
  range_kept same = record {
    start = step.start;
    class = step.number;
    left = left-more steps i h.start h.class h.left step d inside is;
    before = so_far;
    behind = λ c from. h.behind c (omega (arith, from, later)) ∙ sym h.last_is ∙ sym same;
    last_is = sym same;
    last_from = omega (arith, h.last_from, later);
    starts = up_to ranges h.start step.start (omega (arith, later)) h.starts;
    from_zero = h.from_zero;
    apart = h.apart;
    within = h.within;
  }

  pub range_made : (new : CategoryRange) → new.start ≡ step.start → new.category ≡ get_or categories step.number 0 → new.category ≢ last.category →
      RangesSoFar steps categories (ranges ++ last ∷ []) new (i + 1)
  range_made new from is_category other = record {
    start = step.start;
    class = step.number;
    left = more;
    before = λ c less. category_before (ranges ++ last ∷ []) 0 c new (omega (arith, less, from)) ∙ so_far c less;
    behind = λ c past. category_behind (ranges ++ last ∷ []) 0 c new (omega (arith, past, from)) (up_to (ranges ++ last ∷ []) step.start c past all_starts)
        ∙ is_category;
    last_is = is_category;
    last_from = omega (arith, from);
    starts = all_starts;
    from_zero = zero_push ranges last new h.from_zero;
    apart = apart_push ranges last new h.apart (omega (arith, h.last_from, later, from)) (λ e. other (sym e));
    within = λ count small. all_append (IsWithin count) ranges (last ∷ []) (h.within count small)
        ((omega (arith, h.last_from, h.left.point), omega (arith, h.last_is, small h.class)), tt);
  }
    where
      more : AreLeft steps (i + 1) step.start step.number
      more = left-more steps i h.start h.class h.left step d inside is

      all_starts : AllByRecursion (λ (range : CategoryRange). range.start ≤ step.start) (ranges ++ last ∷ [])
      all_starts = all_append (λ (range : CategoryRange). range.start ≤ step.start) ranges (last ∷ [])
          (up_to ranges h.start step.start (omega (arith, later)) h.starts) (omega (arith, h.last_from, later), tt)

pub all_ranges : (steps : List Step) (categories : List ℕ) (ranges : List CategoryRange) (last : CategoryRange) (i : ℕ) → length steps ≤ i →
    RangesSoFar steps categories ranges last i → AreRangesOf steps categories (ranges ++ last ∷ [])
all_ranges steps categories ranges last i past h = record {
  category = λ c. elim (cases_lt c h.start) [
    | inl early ↦ h.before c early
    | inr from ↦ h.behind c from ∙ ap (λ n. get_or categories n 0) (sym (left-none steps i h.start h.class h.left past c from))
  ];
  some = some ranges;
  from_zero = h.from_zero;
  apart = h.apart;
  within = λ count small. all_append (IsWithin count) ranges (last ∷ []) (h.within count small)
      ((omega (arith, h.last_from, h.left.point), omega (arith, h.last_is, small h.class)), tt);
}
  where
    some : (ranges : List CategoryRange) → 1 ≤ length (ranges ++ last ∷ [])
    some [] = omega arith
    some (range ∷ ranges) = omega arith
