-- In a window that ends with a line, after which no search reads on, a search finds what it finds in the text.
use Rattle.std.proofs.Common.{◌≡◌, ℕ, zero, suc, ◌+◌, ◌-◌, ◌<◌, ◌≤◌, ◌⊎◌, Bool, true, false, cond, ◌&&◌, ltb, eqb, List, [], ◌∷◌, ◌++◌, Option, Some, None}
use Rattle.std.proofs.Common.{length, take, drop, get_or, sym, refl, ap, ◌∙◌, subst, inl, inr, ⊎_elim, arith, length-append}
use Rattle.std.proofs.lemmas.Bool.{cases_Bool, cases_lt, cond-true, cond-false, false≢true, lt-ltb, ltb-true, or_parts}
use Rattle.std.specs.Prelude.{map, nat_le}
use Rattle.std.proofs.lemmas.List.{map-append}
use Rattle.rbbi_model.specs.Places.{greatest_below}
use Rattle.rbbi_model.specs.Tables.{Table, accept_of, list_of, category_of, step, row_after, completes, stops}
use Rattle.rbbi_model.specs.ValidTables.{IsValidTable, LeadsToZero}
use Rattle.rbbi_model.specs.Searches.{Found, row_at, search_end, look_end, cut_place, longest_place, found_longest, found}
use Rattle.rbbi_model.specs.ReadAlike.{FindsAlike}
use Rattle.rbbi_model.specs.Runs.{category_at}
use Rattle.rbbi_model.proofs.Categories.{category_within}
use Rattle.rbbi_model.proofs.Found.{end_lies}
use Rattle.rbbi_model.proofs.FoundCases.{row_goes_on, row_within}
use Rattle.rbbi_model.proofs.SearchFacts.{least_is}
use Rattle.rbbi_model.proofs.SearchesAlike.{finds_alike, least_unique, greatest_moved, AreMoved, Neither, Both, TestsAgree}
use Rattle.rbbi_filter.specs.Pairs.{turn}
use Rattle.rbbi_filter.specs.declared.filter.Filter.{Filter}
use Rattle.rbbi_filter.specs.declared.filter.Filter.TheVariants.{Suppressing, Turning}
use Rattle.rbbi_segment.specs.Closed.{Closes, EndLines, IsLine}
use Rattle.rbbi_segment.specs.Filters.{searched}
use Rattle.rbbi_segment.specs.Windows.{IsWindow}
use Rattle.rbbi_segment.proofs.InWindows.{length_is, slice_is, reads_alike}

-- the text ends with a character after which no search reads on
abbrev pub IsClosed : Table → List ℕ → Type 0
IsClosed table x = (front : List ℕ) × (c : ℕ) × (x ≡ front ++ c ∷ []) × Closes table c

-- so the searched window does
pub searched_closed : (f : Option Filter) (table : Table) (w : List ℕ) → EndLines f table → IsLine w → IsClosed table (searched f w)
searched_closed None table w ends line = (line.0, 10, line.1, ends)
searched_closed (Some (Suppressing list)) table w ends line = absurd ends
searched_closed (Some (Turning pairs)) table w ends line =
    (map (turn pairs) line.0, turn pairs 10, ap (map (turn pairs)) line.1 ∙ map-append (turn pairs) line.0 (10 ∷ []), ends)

not_past : (s q : ℕ) → q ≤ s → ltb s q ≡ false
not_past s q low = ⊎_elim (λ holds. absurd (omega (arith, ltb-true s q holds))) (λ fails. fails) (cases_Bool (ltb s q))

last_of : (front : List ℕ) (c : ℕ) → get_or (front ++ c ∷ []) (length front) 0 ≡ c
last_of [] c = refl
last_of (b ∷ front) c = last_of front c

module _ (table : Table) (valid : IsValidTable table) (base : ℕ) (w rest x : List ℕ) (is : IsWindow base w rest x) (s : ℕ) (inside : s < length w)
    (closed : IsClosed table w) (more : rest ≡ [] → ⊥) (goes : stops table (row_at table w s (search_end table w s)) ≡ false) where
  abbrev t : ℕ
  t = base + s

  abbrev m : ℕ
  m = length w - s

  all_read : search_end table w s ≡ length w
  all_read =
      let lies = end_lies table w s inside in
      ⊎_elim
      (λ holds. absurd (false≢true (sym goes ∙ holds)))
      (λ all. omega (arith, all, lies.0, lies.1))
      (least_is (λ q. stops table (row_at table w s q)) (s + 1) (length w - (s + 1))).1

  same_row : (k : ℕ) → k ≤ m → row_at table w s (s + k) ≡ row_at table x t (t + k)
  same_row k short =
      let there : base + (s + k) ≡ t + k = omega arith in
      ap (row_after table) (slice_is base w rest x is s (s + k) (omega arith) (omega arith)) ∙ ap (λ n. row_at table x t n) there

  -- the row at the window's end leads to row 0 only
  ends_dead : LeadsToZero table (row_at table w s (length w))
  ends_dead =
      let c : ℕ = closed.1 in
      let n : ℕ = length closed.0 in
      let size : length w ≡ n + 1 = omega (arith, ap length closed.2, length-append closed.0 (c ∷ [])) in
      let last : category_at table w n ≡ category_of table.ranges c =
      ap (λ l. category_of table.ranges (get_or l n 0)) closed.2 ∙ ap (category_of table.ranges) (last_of closed.0 c) in
      let row : row_at table w s (length w) ≡ step table (row_at table w s n) (category_of table.ranges c) =
      ap (row_at table w s) size ∙ row_goes_on table w s n (omega arith) (omega arith) ∙ ap (step table (row_at table w s n)) last in
      subst (LeadsToZero table) (sym row) (closed.3 (row_at table w s n) (row_within table valid w s n))

  whole : s + m ≡ length w
  whole = omega arith

  -- in the text the search is in row 0 after one character more
  next_row : row_at table x t (t + m + 1) ≡ 0
  next_row =
      let longer : t + m < length x = some rest more (omega (arith, length_is base w rest x is)) in
      row_goes_on table x t (t + m) (omega arith) longer
      ∙ ap (λ row. step table row (category_at table x (t + m))) (sym (same_row m (omega arith)) ∙ ap (row_at table w s) whole)
      ∙ ends_dead (category_at table x (t + m)) (category_within table.categories table.ranges (get_or x (t + m) 0) valid.ranges)
    where
      some : (rest : List ℕ) → (rest ≡ [] → ⊥) → length x ≡ base + length w + length rest → t + m < length x
      some [] not_none size = absurd (not_none refl)
      some (d ∷ later) not_none size = omega arith

  moved_end : search_end table x t ≡ t + m + 1
  moved_end =
      let firsts = (least_is (λ q. stops table (row_at table w s q)) (s + 1) (length w - (s + 1))).0 in
      let size = length_is base w rest x is in
      least_unique (λ q. stops table (row_at table x t q)) (t + 1) (length x - (t + 1)) (t + m + 1) (omega arith) (room rest more size)
      (λ q low high.
      let k : ℕ = q - t in
      let there : t + (q - t) ≡ q = omega arith in
      ap (λ p. stops table (row_at table x t p)) (sym there)
      ∙ ap (stops table) (sym (same_row (q - t) (omega arith)))
      ∙ going (s + (q - t)) (omega arith) (omega arith))
      (inl (ap (stops table) next_row))
    where
      going : (q : ℕ) → s + 1 ≤ q → q ≤ length w → stops table (row_at table w s q) ≡ false
      going q low high =
          let firsts = (least_is (λ p. stops table (row_at table w s p)) (s + 1) (length w - (s + 1))).0 in
          ⊎_elim
          (λ (less : q < length w). firsts q low (omega (arith, all_read)))
          (λ (last : length w ≤ q).
          let e : q ≡ search_end table w s = omega (arith, all_read) in
          ap (λ p. stops table (row_at table w s p)) e ∙ goes)
          (cases_lt q (length w))

      room : (rest : List ℕ) → (rest ≡ [] → ⊥) → length x ≡ base + length w + length rest → t + m + 1 ≤ t + 1 + (length x - (t + 1))
      room [] not_none size = absurd (not_none refl)
      room (d ∷ later) not_none size = omega arith

  abbrev ends_here : ℕ → Bool
  ends_here q = ltb s q && eqb (accept_of table (row_at table w s q)) 1

  abbrev ends_there : ℕ → Bool
  ends_there q = ltb t q && eqb (accept_of table (row_at table x t q)) 1

  agree : TestsAgree ends_here ends_there s t m
  agree = record {
    low = λ q low. ap (λ v. v && eqb (accept_of table (row_at table w s q)) 1) (not_past s q low);
    low' = λ q low. ap (λ v. v && eqb (accept_of table (row_at table x t q)) 1) (not_past t q low);
    same = λ k some short.
        ap (λ b. b && eqb (accept_of table (row_at table w s (s + k))) 1) (lt-ltb s (s + k) (omega arith) ∙ sym (lt-ltb t (t + k) (omega arith)))
        ∙ ap (λ row. ltb t (t + k) && eqb (accept_of table row) 1) (same_row k short);
  }

  -- no rule ends in row 0
  none_ends : ends_there (t + m + 1) ≡ false
  none_ends =
      ap (λ row. ltb t (t + m + 1) && eqb (accept_of table row) 1) next_row
      ∙ ap (λ n. ltb t (t + m + 1) && eqb n 1) valid.rows.stop.0
      ∙ and_false (ltb t (t + m + 1))
    where
      and_false : (b : Bool) → b && false ≡ false
      and_false true = refl
      and_false false = refl

  moved : AreMoved s t m (longest_place table w s (search_end table w s)) (longest_place table x t (search_end table x t))
  moved =
      let here : s + suc m ≡ search_end table w s + 1 = omega (arith, all_read) in
      let there : longest_place table x t (search_end table x t) ≡ greatest_below ends_there (t + suc m) =
      ap (λ z. greatest_below ends_there (z + 1)) moved_end
      ∙ ap (greatest_below ends_there) (let e : t + m + 1 + 1 ≡ suc (t + m + 1) = omega arith in e)
      ∙ cond-false (ends_there (t + m + 1)) (Some (t + m + 1)) (greatest_below ends_there (t + m + 1)) none_ends
      ∙ ap (greatest_below ends_there) (let e : t + m + 1 ≡ t + suc m = omega arith in e) in
      subst (λ o. AreMoved s t m (longest_place table w s (search_end table w s)) o) (sym there)
      (subst (λ n. AreMoved s t m (greatest_below ends_here n) (greatest_below ends_there (t + suc m))) here
      (greatest_moved ends_here ends_there s t m (suc m) agree (omega arith)))

  alike_at : (a b : Option ℕ) → AreMoved s t m a b
      → ((found_longest table x t b).at + s ≡ (found_longest table w s a).at + t) × ((found_longest table x t b).list ≡ (found_longest table w s a).list)
  alike_at _ _ Neither = (omega arith, refl)
  alike_at _ _ (Both k short) = (omega arith, ap (list_of table) (sym (same_row k short)))

  -- where neither search completes a look-ahead rule, both find a longest match
  none_completed : (y : List ℕ) (p : ℕ) → completes table (row_at table y p (search_end table y p)) ≡ false
      → found table y p ≡ found_longest table y p (longest_place table y p (search_end table y p))
  none_completed y p fails =
      let z : ℕ = search_end table y p in
      let last : ℕ = row_at table y p z in
      cond-false (completes table last) (record { at = cut_place table y p z (accept_of table last - 2); list = list_of table last })
      (found_longest table y p (longest_place table y p z)) fails

  pub closed_alike : FindsAlike table w x s t
  closed_alike =
      let parts = or_parts (eqb (row_at table w s (search_end table w s)) 0) (completes table (row_at table w s (search_end table w s))) goes in
      let row : row_at table x t (search_end table x t) ≡ 0 = ap (row_at table x t) moved_end ∙ next_row in
      let here = none_completed w s parts.1 in
      let there = none_completed x t (ap (completes table) row ∙ ap (λ n. nat_le 2 n) valid.rows.stop.0) in
      let both = alike_at (longest_place table w s (search_end table w s)) (longest_place table x t (search_end table x t)) moved in
      let look : look_end table w s ≡ length w + 1 =
      cond-false (stops table (row_at table w s (search_end table w s))) (search_end table w s) (length w + 1) goes in
      let look' : look_end table x t ≡ search_end table x t =
      cond-true (stops table (row_at table x t (search_end table x t))) (search_end table x t) (length x + 1) (ap (stops table) row) in
      record {
        at = ap (λ f. f.at + s) there ∙ both.0 ∙ ap (λ f. f.at + t) (sym here);
        list = ap (λ f. f.list) there ∙ both.1 ∙ ap (λ f. f.list) (sym here);
        look = omega (arith, look, look', moved_end);
      }

-- whatever follows the window
pub line_alike : (table : Table) → IsValidTable table → (base : ℕ) (w rest x : List ℕ) → IsWindow base w rest x → (s : ℕ) → s < length w
    → IsClosed table w → FindsAlike table w x s (base + s)
line_alike table valid base w [] x is s inside closed =
    finds_alike table w x s (base + s) (reads_alike base w [] x is table s inside (inr refl))
line_alike table valid base w (d ∷ later) x is s inside closed =
    let z : ℕ = search_end table w s in
    ⊎_elim
    (λ holds.
    let look : look_end table w s ≡ z = cond-true (stops table (row_at table w s z)) z (length w + 1) holds in
    finds_alike table w x s (base + s) (reads_alike base w (d ∷ later) x is table s inside (inl (omega (arith, look, (end_lies table w s inside).1)))))
    (λ goes. closed_alike table valid base w (d ∷ later) x is s inside closed (λ none. absurd (grind arith)) goes)
    (cases_Bool (stops table (row_at table w s z)))
