-- A monitor whose states are numbers tells what another one does, where it passes the tests that compare them: each number stands for a state.
use Rattle.std.proofs.Common.{◌≡◌, ℕ, zero, suc, ◌+◌, ◌*◌, ◌/◌, ◌%◌, ◌^◌, ◌<◌, Bool, true, ◌&&◌, cond, eqb, ltb, List, [], ◌∷◌, get_or}
use Rattle.std.proofs.Common.{sym, refl, ap, ◌∙◌, subst, arith}
use Rattle.std.specs.Bool.{beq}
use Rattle.std.proofs.lemmas.Bool.{cond-true, and_parts, ltb-true, eqb-true}
use Rattle.ucd_table.proofs.TrieCheck.{all_below, all_below-at}
use Rattle.ucd_table.proofs.Facts.{same_from_beq}
use Rattle.unicode_segmentation.specs.Segments.{Rule}
use Rattle.rbbi_model.specs.Words.{IsCharacter, IsText}
use Rattle.rbbi_annexes.proofs.Checker.{values, each}
use Rattle.rbbi_annexes.proofs.Monitors.{Monitor, seen, coming, labelled, Tells}

-- the numbers below n
unfoldable pub below : ℕ → List ℕ
below n = values (λ i. i) 0 n

each-from : (test : ℕ → Bool) (k n i : ℕ) → each test (values (λ j. j) k n) ≡ true → i < n → test (k + i) ≡ true
unfolding each values
each-from test k zero i all within = absurd (omega (arith, within))
each-from test k (suc n) zero all within =
    subst (λ m. test m ≡ true) (let e : k ≡ k + 0 = omega arith in e) (and_parts (test k) (each test (values (λ j. j) (k + 1) n)) all).0
each-from test k (suc n) (suc i) all within =
    subst (λ m. test m ≡ true) (let e : k + 1 + i ≡ k + suc i = omega arith in e)
    (each-from test (k + 1) n i (and_parts (test k) (each test (values (λ j. j) (k + 1) n)) all).1 (omega (arith, within)))

each-below : (test : ℕ → Bool) (n i : ℕ) → each test (below n) ≡ true → i < n → test i ≡ true
unfolding below
each-below test n i all within = subst (λ m. test m ≡ true) (let e : 0 + i ≡ i = omega arith in e) (each-from test 0 n i all within)

module _ {S : Type 0} (monitor : Monitor S) where
  -- the state after these categories, of which the first comes first
  unfoldable pub state_after : S → List ℕ → S
  state_after state [] = state
  state_after state (k ∷ ks) = state_after (monitor.next state k) ks

  -- The monitor by the numbers of its states. Each state has a number whose digits to base 256 are those of the next states, and one that has
  -- so many bits for each category: whether the rule breaks, for each number of what comes after that.
  module _ (categories kinds : ℕ) (nexts breaks : List ℕ) where
    unfoldable pub aheads_by : ℕ → List ℕ
    aheads_by k = values (λ p. monitor.ahead k p) 0 kinds

    unfoldable pub by_number : Monitor ℕ
    by_number =
        let aheads = values aheads_by 0 categories in
        record {
          start = 0;
          next = λ i. let digits = get_or nexts i 0 in λ k. digits / 256 ^ k % 256;
          nothing = monitor.nothing;
          ahead = λ k. let row = get_or aheads k [] in λ p. get_or row p 0;
          breaks = λ i. let bits = get_or breaks i 0 in λ k. let from = bits / 2 ^ (k * kinds) in λ p. eqb (from / 2 ^ p % 2) 1;
          label = monitor.label;
          status = monitor.status;
        }

module _ {S : Type 0} (same : S → S → Bool) (monitor : Monitor S) (numbered : Monitor ℕ) (categories kinds count : ℕ) (lives : ℕ → Bool)
    (states : List S) where
  unfoldable pub state_of : ℕ → S
  state_of i = get_or states i monitor.start

  -- each category that is used passes
  unfoldable pub each_used : (ℕ → Bool) → Bool
  each_used test = all_below (λ k. let passed = test k in cond (lives k) passed true) categories

  each_used-at : (test : ℕ → Bool) → each_used test ≡ true → (k : ℕ) → k < categories → lives k ≡ true → test k ≡ true
  unfolding each_used
  each_used-at test all k few alive =
      sym (cond-true (lives k) (test k) true alive) ∙ all_below-at (λ j. cond (lives j) (test j) true) categories k all few

  -- the number is that of the state
  unfoldable pub stands_for : ℕ → S → Bool
  stands_for i state = ltb i count && same (state_of i) state

  unfoldable pub leads_right : ℕ → Bool
  leads_right i =
      let at = monitor.next (state_of i) in
      let to = numbered.next i in
      each_used (λ k. stands_for (to k) (at k))

  unfoldable pub breaks_right : ℕ → Bool
  breaks_right i =
      let at = monitor.breaks (state_of i) in
      let to = numbered.breaks i in
      each_used (λ k. let here = at k in let there = to k in all_below (λ p. beq (there p) (here p)) kinds)

  unfoldable pub comes_right : ℕ → Bool
  comes_right k =
      let here = monitor.ahead k in
      let there = numbered.ahead k in
      all_below (λ p. ltb (here p) kinds && eqb (there p) (here p)) kinds

  unfoldable pub starts_right : Bool
  starts_right =
      stands_for numbered.start monitor.start
      && (ltb monitor.nothing kinds && (eqb numbered.nothing monitor.nothing && each_used comes_right))

  module _ (equal : (x y : S) → same x y ≡ true → x ≡ y) (begun : starts_right ≡ true) (led : each leads_right (below count) ≡ true)
      (broken : each breaks_right (below count) ≡ true) (label_is : (t k : ℕ) → numbered.label t k ≡ monitor.label t k)
      (status_by : (t : ℕ) → numbered.status t ≡ monitor.status t) (category : ℕ → ℕ)
      (known : (c : ℕ) → IsCharacter c → (category c < categories) × (lives (category c) ≡ true)) where
    IsNumberOf : ℕ → S → Type 0
    IsNumberOf i state = (i < count) × (state_of i ≡ state)

    number_is : (i : ℕ) (state : S) → stands_for i state ≡ true → IsNumberOf i state
    unfolding stands_for IsNumberOf
    number_is i state is =
        let tested = and_parts (ltb i count) (same (state_of i) state) is in
        (ltb-true i count tested.0, equal (state_of i) state tested.1)

    begun_parts : IsNumberOf numbered.start monitor.start × (monitor.nothing < kinds) × (numbered.nothing ≡ monitor.nothing)
        × (each_used comes_right ≡ true)
    unfolding starts_right
    begun_parts =
        let first = and_parts (stands_for numbered.start monitor.start)
        (ltb monitor.nothing kinds && (eqb numbered.nothing monitor.nothing && each_used comes_right)) begun in
        let second = and_parts (ltb monitor.nothing kinds) (eqb numbered.nothing monitor.nothing && each_used comes_right) first.1 in
        let third = and_parts (eqb numbered.nothing monitor.nothing) (each_used comes_right) second.1 in (
          number_is numbered.start monitor.start first.0,
          ltb-true monitor.nothing kinds second.0,
          eqb-true numbered.nothing monitor.nothing third.0,
          third.1,
        )

    leads : (i k : ℕ) → i < count → k < categories → lives k ≡ true → IsNumberOf (numbered.next i k) (monitor.next (state_of i) k)
    unfolding leads_right
    leads i k within few alive =
        number_is (numbered.next i k) (monitor.next (state_of i) k)
        (each_used-at (λ j. stands_for (numbered.next i j) (monitor.next (state_of i) j)) (each-below leads_right count i led within) k few alive)

    breaks_is : (i k p : ℕ) → i < count → k < categories → lives k ≡ true → p < kinds →
        numbered.breaks i k p ≡ monitor.breaks (state_of i) k p
    unfolding breaks_right
    breaks_is i k p within few alive kind =
        let right : ℕ → ℕ → Bool = λ j q. beq (numbered.breaks i j q) (monitor.breaks (state_of i) j q) in
        same_from_beq (numbered.breaks i k p) (monitor.breaks (state_of i) k p)
        (all_below-at (right k) kinds p
        (each_used-at (λ j. all_below (right j) kinds) (each-below breaks_right count i broken within) k few alive) kind)

    comes : (k p : ℕ) → k < categories → lives k ≡ true → p < kinds → (monitor.ahead k p < kinds) × (numbered.ahead k p ≡ monitor.ahead k p)
    unfolding comes_right
    comes k p few alive kind =
        let right : ℕ → Bool = λ q. ltb (monitor.ahead k q) kinds && eqb (numbered.ahead k q) (monitor.ahead k q) in
        let tested = and_parts (ltb (monitor.ahead k p) kinds) (eqb (numbered.ahead k p) (monitor.ahead k p))
        (all_below-at right kinds p (each_used-at comes_right begun_parts.3 k few alive) kind) in
        (ltb-true (monitor.ahead k p) kinds tested.0, eqb-true (numbered.ahead k p) (monitor.ahead k p) tested.1)

    seen_is : (before : List ℕ) → IsText before → IsNumberOf (seen numbered category before) (seen monitor category before)
    unfolding IsNumberOf
    seen_is [] are = begun_parts.0
    seen_is (c ∷ before) are =
        let i : ℕ = seen numbered category before in
        let k : ℕ = category c in
        let of = known c are.0 in
        let is = seen_is before are.1 in
        let then = leads i k is.0 of.0 of.1 in
        (then.0, then.1 ∙ ap (λ s. monitor.next s k) is.1)

    coming_is : (behind : List ℕ) → IsText behind →
        (coming monitor category behind < kinds) × (coming numbered category behind ≡ coming monitor category behind)
    coming_is [] are = (begun_parts.1, begun_parts.2)
    coming_is (c ∷ behind) are =
        let of = known c are.0 in
        let is = coming_is behind are.1 in
        let then = comes (category c) (coming monitor category behind) of.0 of.1 is.0 in
        (then.0, ap (λ p. numbered.ahead (category c) p) is.1 ∙ then.1)

    labelled_is : (segment : List ℕ) → labelled numbered category segment ≡ labelled monitor category segment
    labelled_is [] = refl
    labelled_is (c ∷ segment) =
        ap (λ t. numbered.label t (category c)) (labelled_is segment) ∙ label_is (labelled monitor category segment) (category c)

    pub numbered_tells : (rule : Rule) (status : List ℕ → ℕ) → Tells monitor category rule status → Tells numbered category rule status
    unfolding IsNumberOf
    numbered_tells rule status tells =
        record {
          ends = tells.ends;
          inside = λ before c behind before_are is behind_are.
              let i : ℕ = seen numbered category before in
              let at = seen_is before before_are in
              let to = coming_is behind behind_are in
              tells.inside before c behind before_are is behind_are
              ∙ ap (λ s. monitor.breaks s (category c) (coming monitor category behind)) (sym at.1)
              ∙ sym (breaks_is i (category c) (coming monitor category behind) at.0 (known c is).0 (known c is).1 to.0)
              ∙ ap (λ p. numbered.breaks i (category c) p) (sym to.1);
          status_is = λ segment are.
              tells.status_is segment are ∙ sym (status_by (labelled monitor category segment)) ∙ ap numbered.status (sym (labelled_is segment));
        }

-- `unfolding numberings` lets `refl` compute the tests
unfoldable pub numberings : Unit {0}
unfolding below state_after aheads_by by_number state_of each_used stands_for leads_right breaks_right comes_right starts_right
numberings = tt
