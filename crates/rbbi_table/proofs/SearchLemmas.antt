-- One search, character by character.
use Rattle.std.proofs.Common.{◌≡◌, ◌≢◌, ℕ, suc, zero, ◌+◌, ◌-◌, ◌*◌, ◌/◌, ◌%◌, ◌<◌, ◌≤◌, ◌⊎◌, Bool, true, false, ◌&&◌, cond, ltb, eqb, List, Option, Some, None}
use Rattle.std.proofs.Common.{length, take, drop, map, get_or, sym, refl, ap, ◌∙◌, inl, inr, ⊎_elim, arith}
use Rattle.std.specs.Prelude.{unwrap_or, IsSome}
use Rattle.std.proofs.lemmas.Bool.{cases_Bool, cases_lt, cases_eq, cond-true, cond-false, and_from, lt-ltb, ltb-true, false≢true}
use Rattle.rbbi_model.specs.Places.{greatest_below, has_bit}
use Rattle.rbbi_model.specs.Tables.{Table, accept_of, fronts_of, list_of, category_of, row_along, completes, stops}
use Rattle.rbbi_model.specs.ValidTables.{IsValidTable}
use Rattle.rbbi_model.specs.Searches.{Found, row_at, search_end, look_end, cut_place, longest_place, found_longest, found}
use Rattle.rbbi_model.proofs.Found.{least_lies, some_same, none_some}
use Rattle.rbbi_model.proofs.SearchFacts.{least_is}
use Rattle.rbbi_model.proofs.Cuts.{greatest_is, cut_is}
use Rattle.rbbi_table.specs.Kept.{stride}
use Rattle.rbbi_table.specs.inner.Searching.{ends_at}

and_false : (a b : Bool) → b ≡ false → (a && b) ≡ false
and_false true b is = is
and_false false b is = refl

not_less : (m n : ℕ) → n ≤ m → ltb m n ≡ false
not_less m n most = ⊎_elim (λ is. absurd (omega (arith, most, ltb-true m n is))) (λ isnt. isnt) (cases_Bool (ltb m n))

is_some_one : (place : Option ℕ) → IsSome place → (q : ℕ) × (place ≡ Some q)
is_some_one None is = absurd (false≢true is)
is_some_one (Some q) is = (q, refl)

-- the front of the look-ahead rule ends at the place
abbrev pub front_at : Table → List ℕ → ℕ → ℕ → ℕ → Bool
front_at table x s k q = ltb s q && has_bit (fronts_of table (row_at table x s q)) k

-- where the test holds at some place up to another, the last of them is this one
abbrev pub IsLast : (ℕ → Bool) → ℕ → ℕ → Type 0
IsLast test at place = (q : ℕ) → greatest_below test (suc at) ≡ Some q → place ≡ q

-- the last place at which a rule ended, and where its row begins; or the start, and 0
abbrev pub IsEnd : Table → List ℕ → ℕ → ℕ → ℕ → ℕ → Type 0
IsEnd table x s at end end_row =
    ((end ≡ s) × (end_row ≡ 0) × (greatest_below (ends_at table x s) (suc at) ≡ None))
    ⊎ ((s < end) × (end_row ≡ row_at table x s end * stride table) × (greatest_below (ends_at table x s) (suc at) ≡ Some end))

-- what is known of a search that has read up to a place and didn't stop
pub record IsSearch (table : Table) (x : List ℕ) (s at row end end_row : ℕ) (places : List ℕ) : Type 0 where
  pub from : s ≤ at
  pub to : at ≤ length x
  pub row_is : row ≡ row_at table x s at * stride table
  pub going : (z : ℕ) → s < z → z ≤ at → stops table (row_at table x s z) ≡ false
  pub ended : IsEnd table x s at end end_row
  pub fronts : (k : ℕ) → k < table.slashes → IsLast (front_at table x s k) at (get_or places k 0)

-- the last place goes on by one
pub last_on : (test : ℕ → Bool) (at place place' : ℕ) → IsLast test at place → ((test (suc at) ≡ true) × (place' ≡ suc at)) ⊎
    ((test (suc at) ≡ false) × (place' ≡ place)) → IsLast test (suc at) place'
last_on test at place place' last cases q is =
    ⊎_elim
    (λ yes. yes.1 ∙ some_same (suc at) q (sym (cond-true (test (suc at)) (Some (suc at)) (greatest_below test (suc at)) yes.0) ∙ is))
    (λ no. no.1 ∙ last q (sym (cond-false (test (suc at)) (Some (suc at)) (greatest_below test (suc at)) no.0) ∙ is))
    cases

-- each front that ends at the row has the next place noted
abbrev pub Noted : Table → ℕ → ℕ → List ℕ → List ℕ → Type 0
Noted table row at places places' = (k : ℕ) → k < table.slashes → get_or places' k 0 ≡ cond (has_bit (fronts_of table row) k) (suc at) (get_or places k 0)

module _ (table : Table) (x : List ℕ) (s : ℕ) where
  -- some rule ends at the next place
  pub ended_here : (at end end_row : ℕ) → s ≤ at → eqb (accept_of table (row_at table x s (suc at))) 1 ≡ true → end ≡ suc at →
      end_row ≡ row_at table x s (suc at) * stride table → IsEnd table x s (suc at) end end_row
  ended_here at end end_row from is end_is row_is =
      let holds : ends_at table x s (suc at) ≡ true = and_from (ltb s (suc at)) (eqb (accept_of table (row_at table x s (suc at))) 1)
      (lt-ltb s (suc at) (omega arith)) is in
      inr (
        omega (arith, end_is),
        row_is ∙ ap (λ q. row_at table x s q * stride table) (sym end_is),
        cond-true (ends_at table x s (suc at)) (Some (suc at)) (greatest_below (ends_at table x s) (suc at)) holds ∙ ap (λ (q : ℕ). Some q) (sym end_is),
      )

  -- none does
  pub ended_before : (at end end_row : ℕ) → eqb (accept_of table (row_at table x s (suc at))) 1 ≡ false → IsEnd table x s at end end_row →
      IsEnd table x s (suc at) end end_row
  ended_before at end end_row isnt ended =
      let fails : ends_at table x s (suc at) ≡ false = and_false (ltb s (suc at)) (eqb (accept_of table (row_at table x s (suc at))) 1) isnt in
      let rest : Option ℕ = greatest_below (ends_at table x s) (suc at) in
      let same : greatest_below (ends_at table x s) (suc (suc at)) ≡ rest = cond-false (ends_at table x s (suc at)) (Some (suc at)) rest fails in
      ⊎_elim (λ none. inl (none.0, none.1, same ∙ none.2)) (λ some. inr (some.0, some.1, same ∙ some.2)) ended

  -- a step on to a row at which the search doesn't stop
  pub search_on : (at row row' end end' end_row end_row' : ℕ) (places places' : List ℕ) → IsSearch table x s at row end end_row places → at < length x →
      row' ≡ row_at table x s (suc at) * stride table → stops table (row_at table x s (suc at)) ≡ false → IsEnd table x s (suc at) end' end_row' →
      Noted table (row_at table x s (suc at)) at places places' → IsSearch table x s (suc at) row' end' end_row' places'
  search_on at row row' end end' end_row end_row' places places' searched short row_is going ended noted = record {
    from = omega (arith, searched.from);
    to = omega arith;
    row_is = row_is;
    going = λ z past up_to.
        ⊎_elim
        (λ same. ap (λ q. stops table (row_at table x s q)) same ∙ going)
        (λ other. searched.going z past (omega arith))
        (cases_eq z (suc at));
    ended = ended;
    fronts = λ k low.
        let bit : Bool = has_bit (fronts_of table (row_at table x s (suc at))) k in
        last_on (front_at table x s k) at (get_or places k 0) (get_or places' k 0) (searched.fronts k low)
        (⊎_elim
        (λ is. inl (
          and_from (ltb s (suc at)) bit (lt-ltb s (suc at) (omega (arith, searched.from))) is,
          noted k low ∙ cond-true bit (suc at) (get_or places k 0) is,
        ))
        (λ isnt. inr (and_false (ltb s (suc at)) bit isnt, noted k low ∙ cond-false bit (suc at) (get_or places k 0) isnt))
        (cases_Bool bit));
  }

  -- a search ends at the first place at which it stops
  pub stops_first : (at row end end_row : ℕ) (places : List ℕ) → IsSearch table x s at row end end_row places → at < length x →
      stops table (row_at table x s (suc at)) ≡ true → search_end table x s ≡ suc at
  stops_first at row end end_row places searched short stopped =
      let test : ℕ → Bool = λ z. stops table (row_at table x s z) in
      let least : ℕ = search_end table x s in
      let facts = least_is test (s + 1) (length x - (s + 1)) in
      let lies = least_lies test (s + 1) (length x - (s + 1)) in
      ⊎_elim
      (λ less.
      ⊎_elim
      (λ holds. absurd (false≢true (sym (searched.going least (omega (arith, lies.0)) (omega arith)) ∙ holds)))
      (λ all. absurd (omega (arith, all, less, short, searched.from)))
      facts.1)
      (λ most.
      ⊎_elim
      (λ same. same)
      (λ other. absurd (false≢true (sym (facts.0 (suc at) (omega (arith, searched.from)) (omega arith)) ∙ stopped)))
      (cases_eq least (suc at)))
      (cases_lt least (suc at))

  -- or at the text's end
  pub stops_last : (at row end end_row : ℕ) (places : List ℕ) → IsSearch table x s at row end end_row places → s < length x → at ≡ length x →
      search_end table x s ≡ at
  stops_last at row end end_row places searched short whole =
      let test : ℕ → Bool = λ z. stops table (row_at table x s z) in
      let least : ℕ = search_end table x s in
      let facts = least_is test (s + 1) (length x - (s + 1)) in
      let lies = least_lies test (s + 1) (length x - (s + 1)) in
      ⊎_elim
      (λ holds. absurd (false≢true (sym (searched.going least (omega (arith, lies.0)) (omega (arith, lies.1))) ∙ holds)))
      (λ all. omega (arith, all))
      facts.1

  -- where no look-ahead rule is completed at the end
  pub finds_longest : (z end end_row : ℕ) → search_end table x s ≡ z → completes table (row_at table x s z) ≡ false → IsEnd table x s z end end_row →
      ((found table x s).at ≡ cond (ltb s end) end (s + 1)) × ((found table x s).list ≡ cond (ltb s end) (list_of table (row_at table x s end)) 0)
  finds_longest z end end_row is isnt ended =
      let last : ℕ = row_at table x s (search_end table x s) in
      let cut : Found = record { at = cut_place table x s (search_end table x s) (accept_of table last - 2); list = list_of table last } in
      let test : ℕ → Bool = ends_at table x s in
      let place : Option ℕ = longest_place table x s (search_end table x s) in
      let whole : found table x s ≡ found_longest table x s place =
      cond-false (completes table last) cut (found_longest table x s place) (ap (λ q. completes table (row_at table x s q)) is ∙ isnt) in
      let up_to : place ≡ greatest_below test (suc z) = ap (λ q. greatest_below test q) (let e : search_end table x s + 1 ≡ suc z = omega arith in e) in
      ⊎_elim
      (λ none.
      let same : found table x s ≡ found_longest table x s None = whole ∙ ap (λ o. found_longest table x s o) (up_to ∙ none.2) in
      let not_past : ltb s end ≡ false = not_less s end (omega (arith, none.0)) in (
        ap (λ (f : Found). f.at) same ∙ sym (cond-false (ltb s end) end (s + 1) not_past),
        ap (λ (f : Found). f.list) same ∙
            sym (cond-false (ltb s end) (list_of table (row_at table x s end)) 0 not_past),
      ))
      (λ some.
      let same : found table x s ≡ found_longest table x s (Some end) = whole ∙ ap (λ o. found_longest table x s o) (up_to ∙ some.2) in
      let past : ltb s end ≡ true = lt-ltb s end some.0 in (
        ap (λ (f : Found). f.at) same ∙ sym (cond-true (ltb s end) end (s + 1) past),
        ap (λ (f : Found). f.list) same ∙
            sym (cond-true (ltb s end) (list_of table (row_at table x s end)) 0 past),
      ))
      ended

  -- where one is
  pub finds_cut : IsValidTable table → s < length x → (at row end end_row : ℕ) (places : List ℕ) → IsSearch table x s at row end end_row places →
      at < length x →
      completes table (row_at table x s (suc at)) ≡ true → search_end table x s ≡ suc at → accept_of table (row_at table x s (suc at)) - 2 < table.slashes →
      ((found table x s).at ≡ get_or places (accept_of table (row_at table x s (suc at)) - 2) 0) ×
      ((found table x s).list ≡ list_of table (row_at table x s (suc at)))
  finds_cut valid short at row end end_row places searched inside completed is low =
      let last : ℕ = row_at table x s (search_end table x s) in
      let k : ℕ = accept_of table last - 2 in
      let own : ℕ = accept_of table (row_at table x s (suc at)) - 2 in
      let same : k ≡ own = ap (λ q. accept_of table (row_at table x s q) - 2) is in
      let cut : Found = record { at = cut_place table x s (search_end table x s) k; list = list_of table last } in
      let holds : completes table last ≡ true = ap (λ q. completes table (row_at table x s q)) is ∙ completed in
      let whole : found table x s ≡ cut = cond-true (completes table last) cut
      (found_longest table x s (longest_place table x s (search_end table x s))) holds in
      let lies = cut_is table valid x s short holds in
      let place : ℕ = cut_place table x s (search_end table x s) k in
      let test : ℕ → Bool = front_at table x s k in
      let passes : test place ≡ true = and_from (ltb s place) (has_bit (fronts_of table (row_at table x s place)) k) (lt-ltb s place lies.0) lies.2 in
      let some = is_some_one (greatest_below test (search_end table x s)) (greatest_is test (search_end table x s) place lies.1 passes) in
      let top : place ≡ some.0 = ap (λ o. unwrap_or o (s + 1)) some.1 in
      let at_own : greatest_below (front_at table x s own) (suc at) ≡ Some some.0 =
      ap (λ n. greatest_below (front_at table x s n) (suc at)) (sym same) ∙ ap (λ q. greatest_below test q) (sym is) ∙ some.1 in (
        ap (λ (f : Found). f.at) whole ∙ top ∙ sym (searched.fronts own low some.0 at_own),
        ap (λ (f : Found). f.list) whole ∙
            ap (λ q. list_of table (row_at table x s q)) is,
      )

  pub looks_to_stop : (z : ℕ) → search_end table x s ≡ z → stops table (row_at table x s z) ≡ true → look_end table x s ≡ z
  looks_to_stop z is stopped =
      cond-true (stops table (row_at table x s (search_end table x s))) (search_end table x s) (length x + 1)
      (ap (λ q. stops table (row_at table x s q)) is ∙ stopped) ∙ is

  pub looks_past : (z : ℕ) → search_end table x s ≡ z → stops table (row_at table x s z) ≡ false → look_end table x s ≡ length x + 1
  looks_past z is going =
      cond-false (stops table (row_at table x s (search_end table x s))) (search_end table x s) (length x + 1)
      (ap (λ q. stops table (row_at table x s q)) is ∙ going)

-- what the number of a move says
pub record IsDecoded (cell place : ℕ) (ends plain stop : Bool) : Type 0 where
  pub place_is : cell / 8 ≡ place
  pub ends_is : cell % 2 ≡ cond ends 1 0
  pub fronts_is : cell / 2 % 2 ≡ cond plain 0 1
  pub stop_is : cell / 4 % 2 ≡ cond stop 1 0

pub decoded : (cell place : ℕ) (ends plain stop : Bool) → cell ≡ place * 8 + (cond ends 1 0 + cond plain 0 2 + cond stop 4 0) → IsDecoded cell place ends plain
    stop
decoded cell place ends plain stop is = record { place_is = grind arith; ends_is = grind arith; fronts_is = grind arith; stop_is = grind arith }

-- a number that is 1 or 0 by a test
pub one_means : (b : Bool) (n : ℕ) → n ≡ cond b 1 0 → n ≡ 1 → b ≡ true
one_means true n is one = refl
one_means false n is one = absurd (omega (arith, is, one))

pub not_one_means : (b : Bool) (n : ℕ) → n ≡ cond b 1 0 → n ≢ 1 → b ≡ false
not_one_means true n is other = absurd (other is)
not_one_means false n is other = refl

pub one_means_not : (b : Bool) (n : ℕ) → n ≡ cond b 0 1 → n ≢ 1 → b ≡ true
one_means_not true n is other = refl
one_means_not false n is other = absurd (other is)

none_before : (test : ℕ → Bool) (n : ℕ) → ((q : ℕ) → q < n → test q ≡ false) → greatest_below test n ≡ None
none_before test zero fails = refl
none_before test (suc n) fails = cond-false (test n) (Some n) (greatest_below test n) (fails n (omega arith)) ∙
    none_before test n (λ q short. fails q (omega arith))

none_up_to : (s : ℕ) (test : ℕ → Bool) → greatest_below (λ q. ltb s q && test q) (suc s) ≡ None
none_up_to s test = none_before (λ q. ltb s q && test q) (suc s) (λ q short. ap (λ b. b && test q) (not_less s q (omega arith)))

-- a search begins in row 1
pub search_start : (table : Table) (x : List ℕ) (s row : ℕ) (places : List ℕ) → s < length x → row ≡ table.categories + 3 → IsSearch table x s s row s 0 places
search_start table x s row places short is =
    let one : row_at table x s s ≡ 1 = ap (λ n. row_along table 1 (map (category_of table.ranges) (take n (drop s x))))
    (let e : s - s ≡ 0 = omega arith in e) in
    record {
      from = omega arith;
      to = omega arith;
      row_is = is ∙ (let e : table.categories + 3 ≡ 1 * stride table = omega arith in e) ∙ ap (λ r. r * stride table) (sym one);
      going = λ z past up_to. absurd (omega arith);
      ended = inl (refl, refl, none_up_to s (λ q. eqb (accept_of table (row_at table x s q)) 1));
      fronts = λ k low q is_some. absurd (none_some q (sym (none_up_to s (λ p. has_bit (fronts_of table (row_at table x s p)) k)) ∙ is_some));
    }
