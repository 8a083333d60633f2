-- Code points of categories: the starts of ranges.
use Rattle.std.proofs.Common.{◌≡◌, ◌≢◌, ℕ, zero, suc, ◌+◌, ◌<◌, ◌≤◌, Bool, true, false, cond, Some, List, [], ◌∷◌, length, get_or, set, refl, ap, sym, ◌∙◌}
use Rattle.std.proofs.Common.{subst, ⊎_elim, arith}
use Rattle.std.specs.Prelude.{slice_get, nat_le}
use Rattle.std.specs.List.{AllByRecursion}
use Rattle.std.proofs.lemmas.Bool.{cases_eq, le-leb, lt-leb}
use Rattle.std.proofs.lemmas.List.{get_or-set_same, get_or-set_other}
use Rattle.rbbi_model.specs.Tables.{CategoryRange, category_from, category_of}
use Rattle.rbbi_model.specs.ValidTables.{AreApart, AreValidRanges, IsWithin}
use Rattle.rbbi_positions.specs.inner.RuleTests.{AreCodesOf}
use Rattle.rbbi_positions.specs.inner.Readers.{HasEachCategory}

-- the member at a place
pub get_slice : {X : Type 0} (xs : List X) (i : ℕ) (x : X) → i < length xs → x ≡ get_or xs i x → slice_get xs i ≡ Some x
get_slice [] i x below is = absurd (omega (arith, below))
get_slice (y ∷ xs) zero x below is = ap (λ z. Some z) (sym is)
get_slice (y ∷ xs) (suc i) x below is = get_slice xs i x (omega (arith, below)) is

pub all_get : {X : Type 0} (P : X → Type 0) (xs : List X) (i : ℕ) (x : X) → slice_get xs i ≡ Some x → AllByRecursion P xs → P x
all_get P [] i x is h = absurd (cc)
all_get P (y ∷ xs) zero x is h = (let same : y ≡ x = cc in subst P same h.0)
all_get P (y ∷ xs) (suc i) x is h = all_get P xs i x is h.1

-- a range of the category starts at the code point
pub record IsStart (ranges : List CategoryRange) (category code : ℕ) : Type 0 where
  pub place : ℕ
  pub range : CategoryRange
  pub is : slice_get ranges place ≡ Some range
  pub category_is : range.category ≡ category
  pub start_is : range.start ≡ code

-- the categories of the first ranges have starts as code points
abbrev pub HaveStarts : List CategoryRange → List ℕ → ℕ → Type 0
HaveStarts ranges codes i = (j : ℕ) (range : CategoryRange) → j < i → slice_get ranges j ≡ Some range →
    IsStart ranges range.category (get_or codes range.category 0)

pub starts_more : (ranges : List CategoryRange) (codes : List ℕ) (i : ℕ) (range : CategoryRange) → slice_get ranges i ≡ Some range →
    range.category < length codes → HaveStarts ranges codes i →
    HaveStarts ranges (set codes range.category range.start) (i + 1)
starts_more ranges codes i range is short old j other below is' =
    ⊎_elim
    (λ same. record {
      place = i;
      range = range;
      is = is;
      category_is = sym same;
      start_is = sym (ap (λ (n : ℕ). get_or (set codes range.category range.start) n 0) same ∙ get_or-set_same codes range.category range.start 0 short);
    })
    (λ apart.
    let before : j < i = ⊎_elim (λ e. absurd (apart (here e))) (λ n. omega (arith, n, below)) (cases_eq j i) in
    let h = old j other before is' in
    record {
      place = h.place;
      range = h.range;
      is = h.is;
      category_is = h.category_is;
      start_is = h.start_is ∙ sym (get_or-set_other codes range.category other.category range.start 0 apart);
    })
    (cases_eq other.category range.category)
  where
    here : j ≡ i → other.category ≡ range.category
    here e =
        let is'' : slice_get ranges i ≡ Some other = subst (λ (n : ℕ). slice_get ranges n ≡ Some other) e is' in
        let same : other ≡ range = cc in
        ap (λ (r : CategoryRange). r.category) same

-- a category that some code point has is some range's
range_from : (before : ℕ) (ranges : List CategoryRange) (c category : ℕ) → category_from before ranges c ≡ category → before ≢ category →
    (place : ℕ) × (range : CategoryRange) × (slice_get ranges place ≡ Some range) × (range.category ≡ category)
range_from before [] c category e other = absurd (other e)
range_from before (range ∷ ranges) c category e other = go (λ h apart. range_from range.category ranges c category h apart) (nat_le range.start c) e
  where
    go : (category_from range.category ranges c ≡ category → range.category ≢ category →
        (place : ℕ) × (found : CategoryRange) × (slice_get ranges place ≡ Some found) × (found.category ≡ category)) →
        (test : Bool) → cond test (category_from range.category ranges c) before ≡ category →
        (place : ℕ) × (found : CategoryRange) × (slice_get (range ∷ ranges) place ≡ Some found) × (found.category ≡ category)
    go later false e = absurd (other e)
    go later true e =
        ⊎_elim (λ same. (0, range, refl, same))
        (λ apart. let found = later e apart in (suc found.0, found.1, found.2, found.3))
        (cases_eq range.category category)

-- starts rise
rise : (range : CategoryRange) (ranges : List CategoryRange) (place : ℕ) (other : CategoryRange) → AreApart (range ∷ ranges) →
    slice_get ranges place ≡ Some other → range.start < other.start
rise range [] place other apart is = absurd (cc)
rise range (next ∷ ranges) zero other apart is = (let same : next ≡ other = cc in omega (arith, apart.0, ap (λ (r : CategoryRange). r.start) same))
rise range (next ∷ ranges) (suc place) other apart is = omega (arith, apart.0, rise next ranges place other apart.2 is)

apart_rest : (range : CategoryRange) (ranges : List CategoryRange) → AreApart (range ∷ ranges) → AreApart ranges
apart_rest range [] apart = tt
apart_rest range (next ∷ ranges) apart = apart.2

taken : (before : ℕ) (range : CategoryRange) (ranges : List CategoryRange) (c : ℕ) → range.start ≤ c →
    category_from before (range ∷ ranges) c ≡ category_from range.category ranges c
taken before range ranges c past = ap (λ test. cond test (category_from range.category ranges c) before) (le-leb range.start c past)

-- where a range starts its category begins
start_from : (before : ℕ) (ranges : List CategoryRange) (place : ℕ) (range : CategoryRange) → AreApart ranges → slice_get ranges place ≡ Some range →
    category_from before ranges range.start ≡ range.category
start_from before [] place range apart is = absurd (cc)
start_from before (first ∷ ranges) (suc place) range apart is =
    taken before first ranges range.start (omega (arith, rise first ranges place range apart is))
    ∙ start_from first.category ranges place range (apart_rest first ranges apart) is
start_from before (first ∷ []) zero range apart is =
    let same : first ≡ range = cc in
    taken before first [] range.start (omega (arith, ap (λ (r : CategoryRange). r.start) same)) ∙ ap (λ (r : CategoryRange). r.category) same
start_from before (first ∷ next ∷ ranges) zero range apart is =
    let same : first ≡ range = cc in
    taken before first (next ∷ ranges) range.start (omega (arith, ap (λ (r : CategoryRange). r.start) same))
    ∙ ap (λ test. cond test (category_from next.category ranges range.start) first.category)
    (lt-leb next.start range.start (omega (arith, apart.0, ap (λ (r : CategoryRange). r.start) same)))
    ∙ ap (λ (r : CategoryRange). r.category) same

pub starts_are_codes : (categories : ℕ) (ranges : List CategoryRange) (codes : List ℕ) (i : ℕ) → AreValidRanges categories ranges →
    HasEachCategory categories ranges → length codes ≡ categories → length ranges ≤ i →
    HaveStarts ranges codes i → AreCodesOf categories ranges codes
starts_are_codes categories ranges codes i valid used many past starts = record {
  many = many;
  code = λ category some few. let h = start category some few in
      omega (arith, (all_get (IsWithin categories) ranges h.place h.range h.is valid.within).0, h.start_is);
  each = λ category some few. (let h = start category some few in ap (λ (c : ℕ). category_of ranges c) (sym h.start_is)
      ∙ start_from 0 ranges h.place h.range valid.apart h.is ∙ h.category_is);
}
  where
    below : {X : Type 0} (xs : List X) (n : ℕ) (x : X) → slice_get xs n ≡ Some x → n < length xs
    below [] n x is = absurd (cc)
    below (y ∷ xs) zero x is = omega arith
    below (y ∷ xs) (suc n) x is = omega (arith, below xs n x is)

    start : (category : ℕ) → 1 ≤ category → category < categories → IsStart ranges category (get_or codes category 0)
    start category some few =
        let (c, code, is) = used category some few in
        let (place, range, at, same) = range_from 0 ranges c category is (λ none. omega (arith, none, some)) in
        let within : place < i = omega (arith, past, below ranges place range at) in
        subst (λ (n : ℕ). IsStart ranges n (get_or codes n 0)) same (starts place range within at)
