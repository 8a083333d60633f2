-- The categories of the rules.
use Rattle.std.proofs.Common.{◌≡◌, ℕ, zero, suc, ◌+◌, ◌-◌, ◌≤◌, ◌<◌, Bool, true, false, ◌||◌, eqb, List, [], ◌∷◌, length, get_or, ap, sym, ◌∙◌, subst, inl, inr}
use Rattle.std.proofs.Common.{arith}
use Rattle.std.specs.Prelude.{map, AllPairs}
use Rattle.std.specs.List.{AllByRecursion, IsDistinct, list_any}
use Rattle.std.proofs.lemmas.List.Elements.{recursion_from_All}
use Rattle.std.proofs.lemmas.Map.Steps.{length-le_from_distinct_below}
use Rattle.std.proofs.lemmas.Bool.{cases_eq, cases_lt, ne_eqb}
use Rattle.std.proofs.lemmas.List.{get_or_past, length-map}
use Rattle.rbbi_model.specs.Words.{IsCodePoint}
use Rattle.rbbi_model.specs.Rules.{Rule}
use Rattle.rbbi_model.specs.Tables.{CategoryRange, category_of}
use Rattle.rbbi_model.specs.ValidTables.{AreValidRanges}
use Rattle.rbbi_model.specs.Compiled.{AreAlike, AreClasses}
use Rattle.rbbi_resolve.specs.RuleLists.{RuleList, rules_of, AreWellFormed}
use Rattle.rbbi_classes.specs.Classes.{AreBounds}
use Rattle.rbbi_classes.specs.Divisions.{ClassDivision, IsDivision, first_of}
use Rattle.rbbi_classes.specs.Steps.{number_at}
use Rattle.rbbi_classes.proofs.ClassBounds.{bounds-range, bounds-rise}
use Rattle.rbbi_classes.proofs.FirstCodePoints.{first-is_point}
use Rattle.rbbi_cats.specs.CategoryLists.{HasClasses, IsReadCodePoint}
use Rattle.rbbi_cats.specs.inner.Categories.{IsHeld, AreCategories, HasTold}
use Rattle.rbbi_cats.specs.inner.Ranges.{AreRangesOf}
use Rattle.rbbi_cats.specs.inner.Refinements.{AreNumbered}
use Rattle.rbbi_cats.proofs.LeafSets.{read_is, alike_is}

-- the first code points of classes rise
firsts_rise : (bounds : List ℕ) → AreBounds bounds → (j k : ℕ) → j < k → k ≤ length bounds → first_of bounds j < first_of bounds k
firsts_rise bounds h j zero less inside = absurd (omega (arith, less))
firsts_rise bounds h zero (suc k) less inside = (bounds-range 0 bounds h k (omega (arith, inside))).0
firsts_rise bounds h (suc j) (suc k) less inside = bounds-rise 0 bounds h j k (omega (arith, less)) (omega (arith, inside))

-- code points that the sets tell apart are told apart by the rules' leaves
pub has_classes : (list : RuleList) (count : ℕ) → AreWellFormed list → HasTold list.sets count → HasClasses (rules_of list) count
has_classes list count w h = record {
  codes = h.codes;
  many = h.many;
  each = each h.codes h.each;
  apart = λ i j d less inside alike. h.apart i j d less inside ((alike_is list (get_or h.codes i d) (get_or h.codes j d) w).0 alike);
}
  where
    each : (codes : List ℕ) → AllByRecursion (λ c. (c ≤ 0x10FFFF) × IsHeld list.sets c) codes → AllByRecursion (IsReadCodePoint (rules_of list)) codes
    each [] h = tt
    each (c ∷ codes) ((small, held), h) = ((small, (read_is list c w).1 held), each codes h)

-- What the categories of classes and their ranges say of the rules.
module _ {list : RuleList} {division : ClassDivision} {categories : List ℕ} {ranges : List CategoryRange} {count : ℕ} (w : AreWellFormed list)
    (form : IsDivision division) (many : length categories ≡ length division.bounds + 1) (told : AreCategories division.steps list.sets categories)
    (numbered : AreNumbered categories count) (are : AreRangesOf division.steps categories ranges) where
  -- the category of the first code point of a class
  of_first : (k : ℕ) → k < length categories → category_of ranges (first_of division.bounds k) ≡ get_or categories k 0
  of_first k below = are.category (first_of division.bounds k) ∙ ap (λ n. get_or categories n 0) (form.first k (omega (arith, below, many)))

  pub are_classes : AreClasses (rules_of list) count ranges
  are_classes = record {
    none = λ c code. (
      λ e read. (told.some c code).1 ((read_is list c w).0 read) (sym (are.category c) ∙ e),
      λ none. elim (cases_eq (category_of ranges c) 0) [
        | inl zero' ↦ zero'
        | inr other ↦ absurd (none ((read_is list c w).1 ((told.some c code).0 (λ e. other (are.category c ∙ e)))))
      ],
    );
    alike = λ c d code code'. (
      λ e. (alike_is list c d w).1 ((told.alike c d code code').0 (sym (are.category c) ∙ e ∙ are.category d)),
      λ alike. are.category c ∙ (told.alike c d code code').1 ((alike_is list c d w).0 alike) ∙ sym (are.category d),
    );
    used = λ category one less.
        let (k, below, e) = numbered.used category one less in
        (first_of division.bounds k, first-is_point division.bounds form.bounds k (omega (arith, below, many)), of_first k below ∙ e);
    numbered = λ category later d one less code e.
        let k = number_at division.steps d in
        let inside = form.within d code in
        let (j, sooner, is) = numbered.earlier k category (omega (arith, inside, many)) one (omega (arith, less, sym (are.category d) ∙ e)) in (
          first_of division.bounds j,
          omega (arith, firsts_rise division.bounds form.bounds j k sooner inside, form.least d code),
          of_first j (omega (arith, sooner, inside, many)) ∙ is,
        );
  }

  pub small : (k : ℕ) → get_or categories k 0 < count
  small k = elim (cases_lt k (length categories)) [
    | inl inside ↦ numbered.within k inside
    | inr past ↦ omega (arith, get_or_past categories k 0 past, numbered.some)
  ]

  pub are_valid : count ≤ 1000 → AreValidRanges count ranges
  are_valid few = record {
    some_categories = numbered.some;
    few_categories = few;
    some_ranges = are.some;
    from_zero = are.from_zero;
    apart = are.apart;
    within = are.within count small;
  }

-- no more classes than there are categories beside category 0
module _ (rules : List Rule) (categories : ℕ) (ranges : List CategoryRange) (h : AreClasses rules categories ranges)
    (within : (c : ℕ) → IsCodePoint c → category_of ranges c < categories) where
  place : ℕ → ℕ
  place c = category_of ranges c - 1

  read_positive : (c : ℕ) → IsReadCodePoint rules c → 1 ≤ category_of ranges c
  read_positive c (code, read) = elim (cases_eq (category_of ranges c) 0) [ inl z ↦ absurd ((h.none c code).0 z read) | inr n ↦ omega (arith, n) ]

  places_below : (codes : List ℕ) → AllByRecursion (IsReadCodePoint rules) codes → (q : ℕ) → list_any (eqb q) (map place codes) ≡ true → q < categories - 1
  unfolding place
  places_below [] each q e = absurd (cc)
  places_below (c ∷ codes) (read, each) q e =
      elim (cases_eq q (place c)) [
        | inl same ↦ omega (arith, same, read_positive c read, within c read.0)
        | inr other ↦ places_below codes each q (subst (λ (t : Bool). (t || list_any (eqb q) (map place codes)) ≡ true) (ne_eqb q (place c) other) e)
      ]

  apart_from : (c : ℕ) → IsReadCodePoint rules c → (codes : List ℕ) → AllByRecursion (IsReadCodePoint rules) codes →
      AllByRecursion (λ d. ¬ AreAlike rules c d) codes →
      AllByRecursion (λ y. eqb (place c) y ≡ false) (map place codes)
  unfolding place
  apart_from c read [] each apart = tt
  apart_from c read (d ∷ codes) (read', each) (other, apart) = (
    ne_eqb (place c) (place d) (λ e. other ((h.alike c d read.0 read'.0).0 (omega (arith, e, read_positive c read, read_positive d read')))),
    apart_from c read codes each apart,
  )

  places_apart : (codes : List ℕ) → AllByRecursion (IsReadCodePoint rules) codes → AllPairs (λ c d. ¬ AreAlike rules c d) codes →
      IsDistinct eqb (map place codes)
  unfolding place IsDistinct
  places_apart [] each apart = tt
  places_apart (c ∷ codes) (read, each) apart = (
    apart_from c read codes each (recursion_from_All (λ d. ¬ AreAlike rules c d) codes (λ k d inside. apart 0 (suc k) d (omega arith) (omega (arith, inside)))),
    places_apart codes each (λ i j d less inside. apart (suc i) (suc j) d (omega (arith, less)) (omega (arith, inside))),
  )

  pub few : (count : ℕ) → categories ≤ count → HasClasses rules count → ⊥
  few count small m =
      let places = length-le_from_distinct_below (map place m.codes) (categories - 1) (places_apart m.codes m.each m.apart) (places_below m.codes m.each) in
      omega (arith, places, length-map m.codes place, m.many, small, some_positive m.codes m.many)
    where
      some_positive : (codes : List ℕ) → length codes ≡ count → 1 ≤ categories
      some_positive codes e = omega (arith, within 0 (omega arith))
