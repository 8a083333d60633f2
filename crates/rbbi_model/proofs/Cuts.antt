-- In a valid table a search that completes a look-ahead rule has a place for its cut.
use Rattle.std.proofs.Common.{◌≡◌, ℕ, zero, suc, ◌+◌, ◌-◌, ◌^◌, ◌<◌, Bool, true, ◌&&◌, not, eqb, ltb, List, [], ◌∷◌, Option, Some, None, length, take, drop}
use Rattle.std.proofs.Common.{map, sym, refl, ap, ◌∙◌, subst, ⊎_elim, arith}
use Rattle.std.specs.Prelude.{slice_range, IsSome, IsTrue, unwrap_or, bit_and}
use Rattle.std.specs.List.{AllByRecursion}
use Rattle.std.proofs.lemmas.Bool.{cond_both, cases_eq, and_from, and_parts, lt-ltb, ltb-true, leb-true, false≢true}
use Rattle.std.proofs.lemmas.List.{length-map, length-take, take-take, take-map}
use Rattle.std.specs.Int.Bits.{and_zero_l}
use Rattle.rbbi_model.specs.Places.{greatest_below, has_bit}
use Rattle.rbbi_model.specs.Tables.{Table, accept_of, fronts_of, row_along, category_of, completes}
use Rattle.rbbi_model.specs.ValidTables.{IsValidTable}
use Rattle.rbbi_model.specs.Searches.{row_at, search_end, cut_place}
use Rattle.rbbi_model.proofs.Categories.{category_within}
use Rattle.rbbi_model.proofs.Found.{greatest_lies}

-- there is a greatest place, where there is one
pub greatest_is : (test : ℕ → Bool) (high q : ℕ) → q < high → test q ≡ true → IsSome (greatest_below test high)
greatest_is test zero q short holds = absurd (omega (arith, short))
greatest_is test (suc high) q short holds =
    cond_both (test high) (Some high) (greatest_below test high) (λ o. IsSome o)
    (λ _. refl)
    (λ fails.
    ⊎_elim
    (λ same. absurd (false≢true (sym fails ∙ subst (λ p. test p ≡ true) same holds)))
    (λ other. greatest_is test high q (omega arith) holds)
    (cases_eq q high))

-- 0 has no bit
pub no_bit : (n k : ℕ) → n ≡ 0 → has_bit n k ≡ true → ⊥
no_bit n k none is = false≢true (sym (ap (λ m. not (eqb m 0)) (ap (λ m. bit_and m (2 ^ k)) none ∙ and_zero_l (2 ^ k))) ∙ is)

way_of : (categories : ℕ) (word : List ℕ) (of : ℕ → ℕ) → ((c : ℕ) → of c < categories) → AllByRecursion (λ category. category < categories) (map of word)
way_of categories [] of within = tt
way_of categories (c ∷ word) of within = (within c, way_of categories word of within)

some_is : (place : Option ℕ) → IsSome place → (q : ℕ) × (place ≡ Some q)
some_is None is = absurd (false≢true is)
some_is (Some q) is = (q, refl)

module _ (table : Table) (valid : IsValidTable table) (x : List ℕ) (s : ℕ) (short : s < length x) where
  -- a front ends at an earlier place of the search
  front_place : (z : ℕ) → IsTrue (completes table (row_at table x s z)) →
      (q : ℕ) × (s < q) × (q < z) × IsTrue (has_bit (fronts_of table (row_at table x s q)) (accept_of table (row_at table x s z) - 2))
  front_place z is =
      let w : List ℕ = slice_range x s z in
      let of : ℕ → ℕ = category_of table.ranges in
      let k : ℕ = accept_of table (row_at table x s z) - 2 in
      let much = leb-true 2 (accept_of table (row_at table x s z)) is in
      let fronted = valid.fronts (map of w) k (way_of table.categories w of (λ c. category_within table.categories table.ranges c valid.ranges))
      (omega arith) in
      let earlier : ℕ = fronted.0 in
      let long : length (map of w) ≡ length w = length-map w of in
      let within : earlier < z - s = omega (arith, fronted.1, long, length-take (z - s) (drop s x)) in
      let same : take earlier (map of w) ≡ map of (slice_range x s (s + earlier)) =
      take-map of earlier w ∙ ap (λ l. map of l) (take-take earlier (z - s) (drop s x) (omega arith) ∙
      ap (λ n. take n (drop s x)) (let e : earlier ≡ s + earlier - s = omega arith in e)) in
      let bit = subst (λ l. IsTrue (has_bit (fronts_of table (row_along table 1 l)) k)) same fronted.2 in
      ⊎_elim
      (λ none. absurd (no_bit (fronts_of table 1) k valid.rows.start.1 (subst
      (λ n. IsTrue (has_bit (fronts_of table (row_along table 1 (take n (map of w)))) k)) none fronted.2)))
      (λ some. (s + earlier, omega arith, omega arith, bit))
      (cases_eq earlier 0)

  pub cut_is : IsTrue (completes table (row_at table x s (search_end table x s))) →
      (s < cut_place table x s (search_end table x s) (accept_of table (row_at table x s (search_end table x s)) - 2))
      × (cut_place table x s (search_end table x s) (accept_of table (row_at table x s (search_end table x s)) - 2) < search_end table x s)
      × IsTrue (has_bit (fronts_of table (row_at table x s (cut_place table x s (search_end table x s)
      (accept_of table (row_at table x s (search_end table x s)) - 2)))) (accept_of table (row_at table x s (search_end table x s)) - 2))
  cut_is is =
      let z : ℕ = search_end table x s in
      let k : ℕ = accept_of table (row_at table x s z) - 2 in
      let test : ℕ → Bool = λ q. ltb s q && has_bit (fronts_of table (row_at table x s q)) k in
      let front = front_place z is in
      let there = some_is (greatest_below test z) (greatest_is test z front.0 front.2
      (and_from (ltb s front.0) (has_bit (fronts_of table (row_at table x s front.0)) k) (lt-ltb s front.0 front.1) front.3)) in
      let lies = greatest_lies test z there.0 there.1 in
      let both = and_parts (ltb s there.0) (has_bit (fronts_of table (row_at table x s there.0)) k) lies.1 in
      let is_cut : there.0 ≡ cut_place table x s z k = sym (ap (λ o. unwrap_or o (s + 1)) there.1) in
      subst (λ q. (s < q) × (q < z) × IsTrue (has_bit (fronts_of table (row_at table x s q)) k)) is_cut (ltb-true s there.0 both.0, lies.0, both.1)
