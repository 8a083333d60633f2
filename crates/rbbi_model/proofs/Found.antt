-- Where a search ends, what it finds, and how far it looks.
use Rattle.std.proofs.Common.{◌≡◌, ℕ, zero, suc, ◌+◌, ◌-◌, ◌<◌, ◌≤◌, Bool, true, ◌&&◌, ltb, eqb, List, Option, Some, None, length, sym, refl, ap, ◌∙◌, subst}
use Rattle.std.proofs.Common.{⊎_elim, arith}
use Rattle.std.specs.Prelude.{unwrap_or}
use Rattle.std.proofs.lemmas.Bool.{cases_Bool, cond-true, cond-false, cond_both, and_parts, ltb-true}
use Rattle.rbbi_model.specs.Places.{least_from, greatest_below, has_bit}
use Rattle.rbbi_model.specs.Tables.{Table, accept_of, fronts_of, list_of, completes, stops}
use Rattle.rbbi_model.specs.Searches.{row_at, search_end, look_end, cut_place, longest_place, found_longest, found}

pub least_lies : (test : ℕ → Bool) (low count : ℕ) → (low ≤ least_from test low count) × (least_from test low count ≤ low + count)
least_lies test low zero = (omega arith, omega arith)
least_lies test low (suc count) =
    cond_both (test low) low (least_from test (low + 1) count) (λ z. (low ≤ z) × (z ≤ low + suc count))
    (λ _. (omega arith, omega arith))
    (λ _. let further = least_lies test (low + 1) count in (omega (arith, further.0), omega (arith, further.1)))

pub some_same : (m n : ℕ) → Some m ≡ Some n → m ≡ n
some_same m n is = ap (λ o. unwrap_or o 0) is

pub none_some : (n : ℕ) → None ≡ Some n → ⊥
none_some n is = grind arith

pub greatest_lies : (test : ℕ → Bool) (high q : ℕ) → greatest_below test high ≡ Some q → (q < high) × (test q ≡ true)
greatest_lies test zero q is = absurd (none_some q is)
greatest_lies test (suc high) q is =
    ⊎_elim
    (λ holds.
    let same : high ≡ q = some_same high q (sym (cond-true (test high) (Some high) (greatest_below test high) holds) ∙ is) in
    (omega arith, subst (λ p. test p ≡ true) same holds))
    (λ fails.
    let lower = greatest_lies test high q (sym (cond-false (test high) (Some high) (greatest_below test high) fails) ∙ is) in
    (omega (arith, lower.0), lower.1))
    (cases_Bool (test high))

-- past s, and not past n
Between : ℕ → ℕ → ℕ → Type 0
Between s n q = (s < q) × (q ≤ n)

or_next : (s n : ℕ) (place : Option ℕ) → s < n → ((q : ℕ) → place ≡ Some q → Between s n q) → Between s n (unwrap_or place (s + 1))
unfolding Between
or_next s n None short lies = (omega arith, omega arith)
or_next s n (Some q) short lies = lies q refl

module _ (table : Table) (x : List ℕ) (s : ℕ) (short : s < length x) where
  pub end_lies : (s < search_end table x s) × (search_end table x s ≤ length x)
  end_lies =
      let lies = least_lies (λ z. stops table (row_at table x s z)) (s + 1) (length x - (s + 1)) in
      (omega (arith, lies.0), omega (arith, lies.1))

  pub look_lies : (s < look_end table x s) × (look_end table x s ≤ length x + 1)
  look_lies =
      cond_both (stops table (row_at table x s (search_end table x s))) (search_end table x s) (length x + 1) (λ z. (s < z) × (z ≤ length x + 1))
      (λ _. (omega (arith, end_lies.0), omega (arith, end_lies.1)))
      (λ _. (omega arith, omega arith))

  cut_lies : (k : ℕ) → Between s (length x) (cut_place table x s (search_end table x s) k)
  unfolding Between
  cut_lies k =
      let test : ℕ → Bool = λ q. ltb s q && has_bit (fronts_of table (row_at table x s q)) k in
      or_next s (length x) (greatest_below test (search_end table x s)) short
      (λ q is.
      let lies = greatest_lies test (search_end table x s) q is in
      let past = ltb-true s q (and_parts (ltb s q) (has_bit (fronts_of table (row_at table x s q)) k) lies.1).0 in
      (past, omega (arith, lies.0, end_lies.1)))

  longest_lies : (place : Option ℕ) → ((q : ℕ) → place ≡ Some q → Between s (length x) q) → Between s (length x) (found_longest table x s place).at
  unfolding Between
  longest_lies None lies = (omega arith, omega arith)
  longest_lies (Some q) lies = lies q refl

  longest_place_lies : (q : ℕ) → longest_place table x s (search_end table x s) ≡ Some q → Between s (length x) q
  unfolding Between
  longest_place_lies q is =
      let lies = greatest_lies (λ p. ltb s p && eqb (accept_of table (row_at table x s p)) 1) (search_end table x s + 1) q is in
      let past = ltb-true s q (and_parts (ltb s q) (eqb (accept_of table (row_at table x s q)) 1) lies.1).0 in
      (past, omega (arith, lies.0, end_lies.1))

  found_between : Between s (length x) (found table x s).at
  found_between =
      let z : ℕ = search_end table x s in
      let last : ℕ = row_at table x s z in
      cond_both (completes table last) (record { at = cut_place table x s z (accept_of table last - 2); list = list_of table last })
      (found_longest table x s (longest_place table x s z)) (λ f. Between s (length x) f.at)
      (λ _. cut_lies (accept_of table last - 2))
      (λ _. longest_lies (longest_place table x s z) longest_place_lies)

  pub found_lies : (s < (found table x s).at) × ((found table x s).at ≤ length x)
  unfolding Between
  found_lies = found_between
