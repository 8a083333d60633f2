-- What the least and the greatest place say of the others, and where a search is after row 0.
use Rattle.std.proofs.Common.{Option, ◌≡◌, ℕ, zero, suc, ◌+◌, ◌-◌, ◌<◌, ◌≤◌, ◌⊎◌, Bool, true, false, List, [], ◌∷◌, ◌++◌, Some, None, take, drop, map, sym}
use Rattle.std.proofs.Common.{refl, ap, ◌∙◌, inl, inr, ⊎_elim, arith}
use Rattle.std.specs.Prelude.{slice_range, unwrap_or}
use Rattle.std.proofs.lemmas.Bool.{cases_Bool, cases_eq, cond-true, cond-false, false≢true}
use Rattle.std.proofs.lemmas.List.{map-append, take-append-drop, take-take}
use Rattle.rbbi_model.specs.Places.{least_from, greatest_below}
use Rattle.rbbi_model.specs.Tables.{Table, category_of, step, row_along}
use Rattle.rbbi_model.specs.ValidTables.{IsValidTable}
use Rattle.rbbi_model.specs.Searches.{row_at}
use Rattle.rbbi_model.proofs.Found.{none_some}
use Rattle.rbbi_model.proofs.Categories.{category_within}

-- the test fails at each place before the least, and holds there, or there is none
pub least_is : (test : ℕ → Bool) (low count : ℕ) → ((q : ℕ) → low ≤ q → q < least_from test low count → test q ≡ false) ×
    ((test (least_from test low count) ≡ true) ⊎ (least_from test low count ≡ low + count))
least_is test low zero = (λ q from to. absurd (omega (arith, from, to)), inr (omega arith))
least_is test low (suc count) =
    ⊎_elim
    (λ holds.
    let is : least_from test low (suc count) ≡ low = cond-true (test low) low (least_from test (low + 1) count) holds in
    (λ q from to. absurd (omega (arith, from, to, is)), inl (ap test is ∙ holds)))
    (λ fails.
    let is : least_from test low (suc count) ≡ least_from test (low + 1) count = cond-false (test low) low (least_from test (low + 1) count) fails in
    let rest = least_is test (low + 1) count in (
      λ q from to. ⊎_elim (λ first. ap test first ∙ fails) (λ other. rest.0 q (omega arith) (omega (arith, to, is))) (cases_eq q low),
      ⊎_elim (λ holds. inl (ap test is ∙ holds)) (λ all. inr (omega (arith, is, all))) rest.1,
    ))
    (cases_Bool (test low))

-- where there is none, the test fails at each place
pub none_passes : (test : ℕ → Bool) (high q : ℕ) → greatest_below test high ≡ None → q < high → test q ≡ true → ⊥
none_passes test zero q none short holds = omega (arith, short)
none_passes test (suc high) q none short holds =
    ⊎_elim
    (λ top. none_some high (sym none ∙ cond-true (test high) (Some high) (greatest_below test high) top))
    (λ fails.
    ⊎_elim
    (λ same. false≢true (sym fails ∙ ap test (sym same) ∙ holds))
    (λ other. none_passes test high q (sym (cond-false (test high) (Some high) (greatest_below test high) fails) ∙ none) (omega arith) holds)
    (cases_eq q high))
    (cases_Bool (test high))

-- each place at which the test holds is at most the greatest
pub greatest_is_most : (test : ℕ → Bool) (high top q : ℕ) → greatest_below test high ≡ Some top → q < high → test q ≡ true → q ≤ top
greatest_is_most test zero top q is short holds = absurd (omega (arith, short))
greatest_is_most test (suc high) top q is short holds =
    ⊎_elim
    (λ first.
    let same : high ≡ top = ap (λ o. unwrap_or o 0) (sym (cond-true (test high) (Some high) (greatest_below test high) first) ∙ is) in
    omega arith)
    (λ fails.
    ⊎_elim
    (λ same. absurd (false≢true (sym fails ∙ ap test (sym same) ∙ holds)))
    (λ other. greatest_is_most test high top q (sym (cond-false (test high) (Some high) (greatest_below test high) fails) ∙ is) (omega arith) holds)
    (cases_eq q high))
    (cases_Bool (test high))

-- what passes is at most the greatest that does
pub at_most : (test : ℕ → Bool) (high p otherwise : ℕ) (place : Option ℕ) → greatest_below test high ≡ place → p < high → test p ≡ true →
    p ≤ unwrap_or place otherwise
at_most test high p otherwise None is less holds = absurd (none_passes test high p is less holds)
at_most test high p otherwise (Some top) is less holds = greatest_is_most test high top p is less holds

pub row_along_append : (table : Table) (row : ℕ) (these those : List ℕ) →
    row_along table row (these ++ those) ≡ row_along table (row_along table row these) those
row_along_append table row [] those = refl
row_along_append table row (k ∷ these) those = row_along_append table (step table row k) these those

module _ (table : Table) (valid : IsValidTable table) where
  -- nothing leads out of row 0
  stuck : (w : List ℕ) → row_along table 0 (map (category_of table.ranges) w) ≡ 0
  stuck [] = refl
  stuck (c ∷ w) =
      ap (λ row. row_along table row (map (category_of table.ranges) w)) (valid.rows.stop_leads (category_of table.ranges c)
      (category_within table.categories table.ranges c valid.ranges)) ∙ stuck w

  -- a search that was in row 0 stays there
  pub stays_stopped : (x : List ℕ) (s z q : ℕ) → z ≤ q → row_at table x s z ≡ 0 → row_at table x s q ≡ 0
  stays_stopped x s z q order stopped =
      let of : ℕ → ℕ = category_of table.ranges in
      let w : List ℕ = slice_range x s q in
      let front : take (z - s) w ≡ slice_range x s z = take-take (z - s) (q - s) (drop s x) (omega arith) in
      let split : map of w ≡ map of (take (z - s) w) ++ map of (drop (z - s) w) = ap (λ l. map of l) (sym (take-append-drop (z - s) w)) ∙
      map-append of (take (z - s) w) (drop (z - s) w) in
      ap (λ l. row_along table 1 l) split
      ∙ row_along_append table 1 (map of (take (z - s) w)) (map of (drop (z - s) w))
      ∙ ap (λ row. row_along table row (map of (drop (z - s) w))) (ap (λ l. row_along table 1 (map of l)) front ∙ stopped)
      ∙ stuck (drop (z - s) w)
