-- The pairs of a class's category and its bit in a row get their numbers, class by class.
use Rattle.std.proofs.Common.{◌≡◌, ◌≢◌, ℕ, ◌+◌, ◌*◌, ◌/◌, ◌%◌, ◌≤◌, ◌<◌, ◌⊎◌, ◌↔◌, Bool, true, false, List, length, get_or, set, refl, ap, sym, ◌∙◌, subst}
use Rattle.std.proofs.Common.{inl, inr, arith, get_or-set_same, get_or-set_other}
use Rattle.std.proofs.lemmas.Bool.{cases_eq, cases_lt, false≢true}
use Rattle.rbbi_model.specs.Places.{has_bit}
use Rattle.rbbi_classes.specs.Classes.{ClassBits, word_at}
use Rattle.rbbi_cats.specs.inner.Refinements.{AreNumbered, Refines, IsNext, paired}

-- the category of a class and its bit in a row in one number
abbrev pub pair_of : ClassBits → List ℕ → ℕ → ℕ
pair_of row before k = paired (get_or before k 0) (has_bit (word_at row (k / 64)) (k % 64))

-- the pairs of the first so many classes have their numbers
pub record PairsSoFar (pair : ℕ → ℕ) (numbers : List ℕ) (greatest k : ℕ) : Type 0 where
  pub zero_is : get_or numbers 0 0 ≡ 0
  pub some : (j : ℕ) → j < k → pair j ≢ 0 → get_or numbers (pair j) 0 ≢ 0
  pub apart : (p q : ℕ) → get_or numbers p 0 ≢ 0 → get_or numbers p 0 ≡ get_or numbers q 0 → p ≡ q
  pub earlier : (i number : ℕ) → i < k → 1 ≤ number → number < get_or numbers (pair i) 0 → (j : ℕ) × (j < i) × (get_or numbers (pair j) 0 ≡ number)
  pub used : (number : ℕ) → 1 ≤ number → number ≤ greatest → (j : ℕ) × (j < k) × (get_or numbers (pair j) 0 ≡ number)
  pub small : (p : ℕ) → get_or numbers p 0 ≤ greatest
  pub few : greatest ≤ k

-- the next pair has its number already, or is 0
kept : (pair : ℕ → ℕ) (numbers : List ℕ) (greatest k : ℕ) → (pair k ≡ 0) ⊎ (get_or numbers (pair k) 0 ≢ 0) → PairsSoFar pair numbers greatest k →
    PairsSoFar pair numbers greatest (k + 1)
kept pair numbers greatest k known h = record {
  zero_is = h.zero_is;
  apart = h.apart;
  small = h.small;
  few = omega (arith, h.few);
  some = λ j below other. elim (cases_lt j k) [
    | inl sooner ↦ h.some j sooner other
    | inr now ↦
        let same : j ≡ k = omega arith in
        elim known [
          | inl none ↦ absurd (other (ap pair same ∙ none))
          | inr some ↦ λ e. some (ap (λ n. get_or numbers (pair n) 0) (sym same) ∙ e)
        ]
  ];
  earlier = λ i number below one less. elim (cases_lt i k) [
    | inl sooner ↦ h.earlier i number sooner one less
    | inr now ↦
        let same : i ≡ k = omega arith in
        let (j, before, e) = h.used number one (omega (arith, less, h.small (pair i))) in
        (j, omega (arith, before, same), e)
  ];
  used = λ number one few. (let (j, below, e) = h.used number one few in (j, omega (arith, below), e));
}

-- the next pair gets the next number
module _ (pair : ℕ → ℕ) (numbers : List ℕ) (greatest k : ℕ) (inside : pair k < length numbers) (other : pair k ≢ 0) (free : get_or numbers (pair k) 0 ≡ 0)
    (h : PairsSoFar pair numbers greatest k) where
  abbrev after : List ℕ
  after = set numbers (pair k) (greatest + 1)

  there : get_or after (pair k) 0 ≡ greatest + 1
  there = get_or-set_same numbers (pair k) (greatest + 1) 0 inside

  elsewhere : (p : ℕ) → p ≢ pair k → get_or after p 0 ≡ get_or numbers p 0
  elsewhere p n = get_or-set_other numbers (pair k) p (greatest + 1) 0 n

  -- a pair that came has another number
  came : (j : ℕ) → j < k → pair j ≢ pair k
  came j below same = h.some j below (λ z. other (sym same ∙ z)) (ap (λ p. get_or numbers p 0) same ∙ free)

  -- a number that was given stays
  stays : (p n : ℕ) → 1 ≤ n → get_or numbers p 0 ≡ n → get_or after p 0 ≡ n
  stays p n one e = elsewhere p (λ s. absurd (omega (arith, e, one, ap (λ m. get_or numbers m 0) s, free))) ∙ e

  at_pair : (p : ℕ) → p ≡ pair k → get_or after p 0 ≡ greatest + 1
  at_pair p same = ap (λ m. get_or after m 0) same ∙ there

  apart_more : (p q : ℕ) → get_or after p 0 ≢ 0 → get_or after p 0 ≡ get_or after q 0 → p ≡ q
  apart_more p q n e =
      elim (cases_eq p (pair k)) [
        | inl same ↦ elim (cases_eq q (pair k)) [
          | inl same' ↦ same ∙ sym same'
          | inr other' ↦ absurd (omega (arith, h.small q, elsewhere q other', e, at_pair p same))
        ]
        | inr apart ↦ elim (cases_eq q (pair k)) [
          | inl same' ↦ absurd (omega (arith, h.small p, elsewhere p apart, e, at_pair q same'))
          | inr apart' ↦ h.apart p q (λ z. n (elsewhere p apart ∙ z)) (sym (elsewhere p apart) ∙ e ∙ elsewhere q apart')
        ]
      ]

  some_more : (j : ℕ) → j < k + 1 → pair j ≢ 0 → get_or after (pair j) 0 ≢ 0
  some_more j below n e =
      elim (cases_lt j k) [
        | inl sooner ↦ h.some j sooner n (sym (elsewhere (pair j) (came j sooner)) ∙ e)
        | inr now ↦ let same : j ≡ k = omega arith in absurd (omega (arith, e, at_pair (pair j) (ap pair same)))
      ]

  earlier_more : (i number : ℕ) → i < k + 1 → 1 ≤ number → number < get_or after (pair i) 0 → (j : ℕ) × (j < i) × (get_or after (pair j) 0 ≡ number)
  earlier_more i number below one less =
      elim (cases_lt i k) [
        | inl sooner ↦
            let (j, before, e) = h.earlier i number sooner one (omega (arith, less, elsewhere (pair i) (came i sooner))) in
            (j, before, stays (pair j) number one e)
        | inr now ↦
            let same : i ≡ k = omega arith in
            let (j, before, e) = h.used number one (omega (arith, less, at_pair (pair i) (ap pair same))) in
            (j, omega (arith, before, same), stays (pair j) number one e)
      ]

  used_more : (number : ℕ) → 1 ≤ number → number ≤ greatest + 1 → (j : ℕ) × (j < k + 1) × (get_or after (pair j) 0 ≡ number)
  used_more number one few =
      elim (cases_lt greatest number) [
        | inl last ↦ (k, omega arith, there ∙ omega (arith, last, few))
        | inr old ↦ (let (j, before, e) = h.used number one old in (j, omega (arith, before), stays (pair j) number one e))
      ]

  small_more : (p : ℕ) → get_or after p 0 ≤ greatest + 1
  small_more p = elim (cases_eq p (pair k)) [ inl same ↦ omega (arith, at_pair p same) | inr apart ↦ omega (arith, elsewhere p apart, h.small p) ]

  made : PairsSoFar pair after (greatest + 1) (k + 1)
  made = record {
    zero_is = elsewhere 0 (λ e. other (sym e)) ∙ h.zero_is;
    some = some_more;
    apart = apart_more;
    earlier = earlier_more;
    used = used_more;
    small = small_more;
    few = omega (arith, h.few);
  }

-- the next pair has its number
next : (pair : ℕ → ℕ) (numbers after : List ℕ) (greatest last k : ℕ) → pair k < length numbers → IsNext numbers greatest (pair k) after last →
    PairsSoFar pair numbers greatest k → PairsSoFar pair after last (k + 1) × ((j : ℕ) → j < k → get_or after (pair j) 0 ≡ get_or numbers (pair j) 0)
next pair numbers after greatest last k inside (inl (known, same, is)) h = (
  subst (λ (list : List ℕ). PairsSoFar pair list last (k + 1)) (sym same)
      (subst (λ (n : ℕ). PairsSoFar pair numbers n (k + 1)) (sym is) (kept pair numbers greatest k known h)),
  λ j below. ap (λ (list : List ℕ). get_or list (pair j) 0) same,
)
next pair numbers after greatest last k inside (inr (other, free, same, is)) h = (
  subst (λ (list : List ℕ). PairsSoFar pair list last (k + 1)) (sym same)
      (subst (λ (n : ℕ). PairsSoFar pair (set numbers (pair k) (greatest + 1)) n (k + 1)) (sym is) (made pair numbers greatest k inside other free h)),
  λ j below. ap (λ (list : List ℕ). get_or list (pair j) 0) same ∙ elsewhere pair numbers greatest k inside other free h (pair j)
      (came pair numbers greatest k inside other free h j below),
)

-- The first so many classes have the numbers of their pairs, and the others the categories that they had. The word is that of the next
-- class, unless that begins one.
pub record RefinedSoFar (row : ClassBits) (before after numbers : List ℕ) (greatest word k : ℕ) : Type 0 where
  pub pairs : PairsSoFar (pair_of row before) numbers greatest k
  pub done : (j : ℕ) → j < k → get_or after j 0 ≡ get_or numbers (pair_of row before j) 0
  pub rest : (j : ℕ) → k ≤ j → get_or after j 0 ≡ get_or before j 0
  pub word_is : k % 64 ≢ 0 → word ≡ word_at row (k / 64)

pub refined_more : {row : ClassBits} {before after numbers : List ℕ} {greatest old k : ℕ} (numbers' : List ℕ) (last word pair : ℕ) →
    RefinedSoFar row before after numbers greatest old k → word ≡ word_at row (k / 64) →
    pair ≡ paired (get_or after k 0) (has_bit word (k % 64)) →
    pair < length numbers → k < length after → IsNext numbers greatest pair numbers' last →
    RefinedSoFar row before (set after k (get_or numbers' pair 0)) numbers' last word (k + 1)
refined_more {row = row} {before = before} {after = after} {numbers = numbers} {greatest = greatest} {k = k} numbers' last word pair h word_is is inside below
    step = record { pairs = more.0; done = done; rest = rest; word_is = λ n. word_is ∙ ap (λ i. word_at row i) (omega (arith, n)) }
  where
    same : pair ≡ pair_of row before k
    same = is ∙ ap (λ n. paired n (has_bit word (k % 64))) (h.rest k (omega arith)) ∙ ap (λ w. paired (get_or before k 0) (has_bit w (k % 64))) word_is

    more : PairsSoFar (pair_of row before) numbers' last (k + 1) × ((j : ℕ) → j < k → get_or numbers' (pair_of row before j) 0 ≡
        get_or numbers (pair_of row before j) 0)
    more = next (pair_of row before) numbers numbers' greatest last k (omega (arith, inside, same))
        (subst (λ (p : ℕ). IsNext numbers greatest p numbers' last) same step) h.pairs

    done : (j : ℕ) → j < k + 1 → get_or (set after k (get_or numbers' pair 0)) j 0 ≡ get_or numbers' (pair_of row before j) 0
    done j less = elim (cases_eq j k) [
      | inl now ↦
          ap (λ i. get_or (set after k (get_or numbers' pair 0)) i 0) now ∙ get_or-set_same after k (get_or numbers' pair 0) 0 below
          ∙ ap (λ p. get_or numbers' p 0) (same ∙ ap (pair_of row before) (sym now))
      | inr other ↦
          let sooner : j < k = omega (arith, less, other) in
          get_or-set_other after k j (get_or numbers' pair 0) 0 other ∙ h.done j sooner ∙ sym (more.1 j sooner)
    ]

    rest : (j : ℕ) → k + 1 ≤ j → get_or (set after k (get_or numbers' pair 0)) j 0 ≡ get_or before j 0
    rest j later = get_or-set_other after k j (get_or numbers' pair 0) 0 (λ e. absurd (omega (arith, later, e))) ∙ h.rest j (omega (arith, later))

pub paired-small : (n : ℕ) (a : Bool) → paired n a < 2 * n + 2
paired-small n true = omega arith
paired-small n false = omega arith

-- pairs are equal where their parts are
paired-same : (m n : ℕ) (a b : Bool) → (paired m a ≡ paired n b) ↔ ((m ≡ n) × ((a ≡ true) ↔ (b ≡ true)))
paired-same m n true true = (λ e. (omega (arith, e), (λ t. t, λ t. t)), λ h. omega (arith, h.0))
paired-same m n true false = (λ e. absurd (omega (arith, e)), λ h. absurd (false≢true (h.1.0 refl)))
paired-same m n false true = (λ e. absurd (omega (arith, e)), λ h. absurd (false≢true (h.1.1 refl)))
paired-same m n false false = (λ e. (omega (arith, e), (λ t. t, λ t. t)), λ h. omega (arith, h.0))

-- and one isn't 0 where some part isn't
paired-some : (n : ℕ) (a : Bool) → (paired n a ≢ 0) ↔ ((n ≢ 0) ⊎ (a ≡ true))
paired-some n true = (λ e. inr refl, λ h e. absurd (omega (arith, e)))
paired-some n false = (λ e. inl (λ z. e (omega (arith, z))), λ h e. elim h [ inl other ↦ other (omega (arith, e)) | inr t ↦ false≢true t ])

module _ (row : ClassBits) (before after numbers : List ℕ) (greatest word k : ℕ) (all : k ≡ length before) (long : length after ≡ length before)
    (h : RefinedSoFar row before after numbers greatest word k) where
  at : (j : ℕ) → j < length before → get_or after j 0 ≡ get_or numbers (pair_of row before j) 0
  at j below = h.done j (omega (arith, below, all))

  -- a pair has the number 0 where it is 0
  pair_some : (j : ℕ) → j < length before → (get_or after j 0 ≢ 0) ↔ (pair_of row before j ≢ 0)
  pair_some j below = (
    λ some none. some (at j below ∙ ap (λ p. get_or numbers p 0) none ∙ h.pairs.zero_is),
    λ other z. h.pairs.some j (omega (arith, below, all)) other (sym (at j below) ∙ z),
  )

  pair_same : (i j : ℕ) → i < length before → j < length before → (get_or after i 0 ≡ get_or after j 0) ↔ (pair_of row before i ≡ pair_of row before j)
  pair_same i j low below = (
    λ e. elim (cases_eq (get_or after i 0) 0) [
      | inl none ↦
          elim (cases_eq (pair_of row before i) 0) [
            | inl z ↦ elim (cases_eq (pair_of row before j) 0) [ inl z' ↦ z ∙ sym z' | inr n ↦ absurd ((pair_some j below).1 n (sym e ∙ none)) ]
            | inr n ↦ absurd ((pair_some i low).1 n none)
          ]
      | inr some ↦ h.pairs.apart (pair_of row before i) (pair_of row before j) (λ z. some (at i low ∙ z)) (sym (at i low) ∙ e ∙ at j below)
    ],
    λ e. at i low ∙ ap (λ p. get_or numbers p 0) e ∙ sym (at j below),
  )

  pub are_numbered : AreNumbered after (greatest + 1)
  are_numbered = record {
    some = omega arith;
    within = λ j below. let low : j < length before = omega (arith, below, long) in omega (arith, at j low, h.pairs.small (pair_of row before j));
    used = λ category one less.
        let (j, below, e) = h.pairs.used category one (omega (arith, less)) in
        let low : j < length before = omega (arith, below, all) in
        (j, omega (arith, low, long), at j low ∙ e);
    earlier = λ i category below one less.
        let low : i < length before = omega (arith, below, long) in
        let (j, sooner, e) = h.pairs.earlier i category (omega (arith, low, all)) one (omega (arith, less, at i low)) in
        (j, sooner, at j (omega (arith, sooner, low)) ∙ e);
  }

  pub are_refined : Refines row before after
  are_refined = record {
    many = long;
    alike = λ i j low below.
        let pairs = pair_same i j low below in
        let parts = paired-same (get_or before i 0) (get_or before j 0) (has_bit (word_at row (i / 64)) (i % 64)) (has_bit (word_at row (j / 64)) (j % 64)) in
        (λ e. parts.0 (pairs.0 e), λ both. pairs.1 (parts.1 both));
    some = λ j below.
        let pairs = pair_some j below in
        let parts = paired-some (get_or before j 0) (has_bit (word_at row (j / 64)) (j % 64)) in
        (λ n. parts.0 (pairs.0 n), λ either. pairs.1 (parts.1 either));
  }
