-- What a search finds in a valid table, by cases; and how its rows go on by one character.
use Rattle.std.proofs.Common.{◌≡◌, ℕ, ◌+◌, ◌-◌, ◌<◌, ◌≤◌, ◌⊎◌, Bool, true, false, ◌&&◌, ltb, eqb, List, [], ◌∷◌, ◌++◌, Option, Some, None, length, take, drop}
use Rattle.std.proofs.Common.{map, get_or, sym, refl, ap, ◌∙◌, subst, inl, inr, ⊎_elim, arith}
use Rattle.std.specs.Prelude.{slice_range, IsTrue}
use Rattle.std.proofs.lemmas.Bool.{cases_Bool, cond-true, cond-false, and_parts, and_from, ltb-true, lt-ltb, eqb-true, eq-eqb, leb-true, or_cases, or_parts}
use Rattle.std.proofs.lemmas.Bool.{leb-false, eqb-false}
use Rattle.std.proofs.lemmas.List.{map-append, take_more, length-drop, get_or-drop}
use Rattle.rbbi_model.specs.Places.{has_bit, greatest_below}
use Rattle.rbbi_model.specs.Tables.{Table, accept_of, fronts_of, list_of, category_of, step, row_along, completes, stops}
use Rattle.rbbi_model.specs.SafePairs.{IsOpen}
use Rattle.rbbi_model.specs.ValidTables.{IsValidTable}
use Rattle.rbbi_model.specs.Searches.{Found, row_at, search_end, cut_place, longest_place, found_longest, found}
use Rattle.rbbi_model.specs.Runs.{category_at}
use Rattle.rbbi_model.proofs.Categories.{category_within}
use Rattle.rbbi_model.proofs.Found.{end_lies, greatest_lies}
use Rattle.rbbi_model.proofs.SearchFacts.{at_most, none_passes, greatest_is_most, row_along_append}
use Rattle.rbbi_model.proofs.Cuts.{cut_is}

-- the cut of a look-ahead rule that is completed at the end of the search
pub record FoundCut (table : Table) (x : List ℕ) (s : ℕ) (f : Found) : Type 0 where
  pub completed : completes table (row_at table x s (search_end table x s)) ≡ true
  pub past : s < f.at
  pub before : f.at < search_end table x s
  pub bit : IsTrue (has_bit (fronts_of table (row_at table x s f.at)) (accept_of table (row_at table x s (search_end table x s)) - 2))
  pub most : (q : ℕ) → s < q → q < search_end table x s → IsTrue (has_bit (fronts_of table (row_at table x s q))
      (accept_of table (row_at table x s (search_end table x s)) - 2)) → q ≤ f.at
  pub list : f.list ≡ list_of table (row_at table x s (search_end table x s))

-- the longest match
pub record FoundLongest (table : Table) (x : List ℕ) (s : ℕ) (f : Found) : Type 0 where
  pub uncompleted : completes table (row_at table x s (search_end table x s)) ≡ false
  pub past : s < f.at
  pub up_to : f.at ≤ search_end table x s
  pub one : accept_of table (row_at table x s f.at) ≡ 1
  pub most : (q : ℕ) → s < q → q ≤ search_end table x s → accept_of table (row_at table x s q) ≡ 1 → q ≤ f.at
  pub list : f.list ≡ list_of table (row_at table x s f.at)

-- one character
pub record FoundSingle (table : Table) (x : List ℕ) (s : ℕ) (f : Found) : Type 0 where
  pub uncompleted : completes table (row_at table x s (search_end table x s)) ≡ false
  pub at : f.at ≡ s + 1
  pub none : (q : ℕ) → s < q → q ≤ search_end table x s → accept_of table (row_at table x s q) ≡ 1 → ⊥

pub FoundAs : Table → List ℕ → ℕ → Found → Type 0
FoundAs table x s f = FoundCut table x s f ⊎ (FoundLongest table x s f ⊎ FoundSingle table x s f)

module _ (table : Table) (valid : IsValidTable table) (x : List ℕ) (s : ℕ) (short : s < length x) where
  found_longest_is : completes table (row_at table x s (search_end table x s)) ≡ false → (place : Option ℕ) →
      longest_place table x s (search_end table x s) ≡ place → FoundAs table x s (found_longest table x s place)
  unfolding FoundAs
  found_longest_is isnt None is =
      let test : ℕ → Bool = λ q. ltb s q && eqb (accept_of table (row_at table x s q)) 1 in
      inr (inr (record {
        uncompleted = isnt;
        at = refl;
        none = λ q past up_to one. none_passes test (search_end table x s + 1) q is (omega arith)
            (and_from (ltb s q) (eqb (accept_of table (row_at table x s q)) 1) (lt-ltb s q past) (eq-eqb (accept_of table (row_at table x s q)) 1 one));
      }))
  found_longest_is isnt (Some top) is =
      let test : ℕ → Bool = λ q. ltb s q && eqb (accept_of table (row_at table x s q)) 1 in
      let lies = greatest_lies test (search_end table x s + 1) top is in
      let parts = and_parts (ltb s top) (eqb (accept_of table (row_at table x s top)) 1) lies.1 in
      inr (inl (record {
        uncompleted = isnt;
        past = ltb-true s top parts.0;
        up_to = omega (arith, lies.0);
        one = eqb-true (accept_of table (row_at table x s top)) 1 parts.1;
        most = λ q past up_to one. greatest_is_most test (search_end table x s + 1) top q is (omega arith)
            (and_from (ltb s q) (eqb (accept_of table (row_at table x s q)) 1) (lt-ltb s q past) (eq-eqb (accept_of table (row_at table x s q)) 1 one));
        list = refl;
      }))

  found_cut_is : completes table (row_at table x s (search_end table x s)) ≡ true →
      FoundCut table x s (record {
        at = cut_place table x s (search_end table x s) (accept_of table (row_at table x s (search_end table x s)) - 2);
        list =
            list_of table (row_at table x s (search_end table x s));
      })
  found_cut_is is =
      let z : ℕ = search_end table x s in
      let k : ℕ = accept_of table (row_at table x s z) - 2 in
      let cut = cut_is table valid x s short is in
      let test : ℕ → Bool = λ q. ltb s q && has_bit (fronts_of table (row_at table x s q)) k in
      record {
        completed = is;
        past = cut.0;
        before = cut.1;
        bit = cut.2;
        most = λ q past before bit. at_most test z q (s + 1) (greatest_below test z) refl before
            (and_from (ltb s q) (has_bit (fronts_of table (row_at table x s q)) k) (lt-ltb s q past) bit);
        list = refl;
      }

  pub found_is : FoundAs table x s (found table x s)
  unfolding FoundAs
  found_is =
      let z : ℕ = search_end table x s in
      let last : ℕ = row_at table x s z in
      let cut : Found = record { at = cut_place table x s z (accept_of table last - 2); list = list_of table last } in
      let longest : Found = found_longest table x s (longest_place table x s z) in
      ⊎_elim
      (λ is. subst (λ f. FoundAs table x s f) (sym (cond-true (completes table last) cut longest is)) (inl (found_cut_is is)))
      (λ isnt. subst (λ f. FoundAs table x s f) (sym (cond-false (completes table last) cut longest isnt))
      (found_longest_is isnt (longest_place table x s z) refl))
      (cases_Bool (completes table last))

  pub found_cases : {P : Type 0} → (FoundCut table x s (found table x s) → P) → (FoundLongest table x s (found table x s) → P) →
      (FoundSingle table x s (found table x s) → P) → P
  unfolding FoundAs
  found_cases cut longest single = ⊎_elim cut (⊎_elim longest single) found_is

  -- what is found isn't past the end of the search
  pub found_up_to : (found table x s).at ≤ search_end table x s
  found_up_to = found_cases (λ cut. omega (arith, cut.before)) (λ longest. longest.up_to) (λ single. omega (arith, single.at, (end_lies table x s short).0))

-- the rows of a search go on by one character
pub row_goes_on : (table : Table) (x : List ℕ) (s q : ℕ) → s ≤ q → q < length x →
    row_at table x s (q + 1) ≡ step table (row_at table x s q) (category_at table x q)
row_goes_on table x s q order within =
    let of : ℕ → ℕ = category_of table.ranges in
    let i : ℕ = q - s in
    let inside : i < length (drop s x) = omega (arith, length-drop s x) in
    let character : get_or (drop s x) i 0 ≡ get_or x q 0 = get_or-drop s x i 0 ∙ ap (λ n. get_or x n 0) (let e : s + i ≡ q = omega arith in e) in
    let longer : slice_range x s (q + 1) ≡ slice_range x s q ++ get_or x q 0 ∷ [] =
    ap (λ n. take n (drop s x)) (let e : q + 1 - s ≡ i + 1 = omega arith in e) ∙ take_more (drop s x) i 0 inside ∙
    ap (λ c. take i (drop s x) ++ c ∷ []) character in
    ap (λ w. row_along table 1 (map of w)) longer
    ∙ ap (λ l. row_along table 1 l) (map-append of (slice_range x s q) (get_or x q 0 ∷ []))
    ∙ row_along_append table 1 (map of (slice_range x s q)) (of (get_or x q 0) ∷ [])

-- every row of a search is one of the table's
module _ (table : Table) (valid : IsValidTable table) where
  along_within : (row : ℕ) (w : List ℕ) → row < length table.rows → row_along table row (map (category_of table.ranges) w) < length table.rows
  along_within row [] within = within
  along_within row (c ∷ w) within =
      along_within (step table row (category_of table.ranges c)) w ((valid.rows.each row within).next (category_of table.ranges c)
      (category_within table.categories table.ranges c valid.ranges))

  pub row_within : (x : List ℕ) (s q : ℕ) → row_at table x s q < length table.rows
  row_within x s q = along_within 1 (slice_range x s q) (omega (arith, valid.rows.some))

  -- a row at which the search stops leads to row 0
  pub stopped_leads : (row category : ℕ) → row < length table.rows → category < table.categories → stops table row ≡ true → step table row category ≡ 0
  stopped_leads row category within of stopped =
      ⊎_elim
      (λ none. ap (λ r. step table r category) (eqb-true row 0 none) ∙ valid.rows.stop_leads category of)
      (λ completed. ((valid.rows.each row within).completed (leb-true 2 (accept_of table row) completed)).1 category of)
      (or_cases (eqb row 0) (completes table row) stopped)

  -- a row at which it doesn't is open
  pub going_is_open : (row : ℕ) → stops table row ≡ false → IsOpen table row
  going_is_open row going =
      let parts = or_parts (eqb row 0) (completes table row) going in
      (eqb-false row 0 parts.0, leb-false 2 (accept_of table row) parts.1)
