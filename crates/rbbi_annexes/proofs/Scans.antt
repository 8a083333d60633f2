-- A search in a table, as one pass over the characters after its start.
use Rattle.std.proofs.Common.{◌≡◌, ℕ, zero, suc, ◌+◌, ◌-◌, ◌<◌, ◌≤◌, Bool, true, false, cond, ◌&&◌, leb, ltb, eqb, List, [], ◌∷◌, Option, Some, None}
use Rattle.std.proofs.Common.{length, drop, take, get_or, map, sym, refl, ap, ap₂, ◌∙◌, ⊎_elim, arith, add-one, le_refl}
use Rattle.std.specs.Prelude.{unwrap_or}
use Rattle.std.proofs.lemmas.Bool.{cases_Bool, cond-true, cond-false, and_left, lt-ltb, le-ltb, eq-eqb, eqb-true, or_left, or_right, or_from, or_parts}
use Rattle.std.proofs.lemmas.List.{drop_more, length-drop}
use Rattle.rbbi_model.specs.Places.{least_from, greatest_below, has_bit}
use Rattle.rbbi_model.specs.Boundaries.{Boundary}
use Rattle.rbbi_model.specs.Tables.{Table, accept_of, fronts_of, list_of, statuses_of, category_of, step, row_along, completes, stops}
use Rattle.rbbi_model.specs.Searches.{Found, row_at, longest_place, found_longest, cut_place, next_boundary}
use Rattle.rbbi_model.proofs.FoundCases.{row_goes_on}

-- the boundary where a search ends at the place q with this row
abbrev pub ending : Table → ℕ → ℕ → Boundary
ending table row q = record { at = q; statuses = statuses_of table (list_of table row) }

-- that if a rule ends at the row, or else the last one before
abbrev pub ended : Table → ℕ → Boundary → ℕ → Boundary
ended table row last q = cond (eqb (accept_of table row) 1) (ending table row q) last

-- the last place at which the front of each look-ahead rule ends, once the search has reached q at the row
abbrev pub fronted : Table → ℕ → (ℕ → ℕ) → ℕ → ℕ → ℕ
fronted table row cuts q k = cond (has_bit (fronts_of table row) k) q (cuts k)

-- the boundary where a look-ahead rule is completed at the row
abbrev pub cut : Table → ℕ → (ℕ → ℕ) → Boundary
cut table row cuts = record { at = cuts (accept_of table row - 2); statuses = statuses_of table (list_of table row) }

-- The boundary that a search finds: the cut of a look-ahead rule if one is completed, or else the last place at which a rule ends. The
-- search reached q at the row, `last` was the last such boundary before, `cuts` has the last place of each front before, and these
-- characters stand after q.
abbrev pub scan : Table → ℕ → Boundary → (ℕ → ℕ) → ℕ → List ℕ → Boundary
scan table row last cuts q [] = ended table row last q
scan table row last cuts q (c ∷ behind) =
    cond (eqb (step table row (category_of table.ranges c)) 0) (ended table row last q)
    (cond (completes table (step table row (category_of table.ranges c)))
    (cut table (step table row (category_of table.ranges c)) (fronted table row cuts q))
    (scan table (step table row (category_of table.ranges c)) (ended table row last q) (fronted table row cuts q) (q + 1) behind))

-- the boundary that a search finds
abbrev pub boundary_of : Table → Found → Boundary
boundary_of table found = record { at = found.at; statuses = statuses_of table found.list }

-- the boundary after one character, where no rule ends
abbrev pub single : Table → ℕ → Boundary
single table s = boundary_of table (record { at = s + 1; list = 0 })

least_here : (test : ℕ → Bool) (low count : ℕ) → test low ≡ true → least_from test low count ≡ low
least_here test low zero holds = refl
least_here test low (suc count) holds = cond-true (test low) low (least_from test (low + 1) count) holds

none_below : (test : ℕ → Bool) (high : ℕ) → ((q : ℕ) → q < high → test q ≡ false) → greatest_below test high ≡ None
none_below test zero fails = refl
none_below test (suc high) fails =
    cond-false (test high) (Some high) (greatest_below test high) (fails high (omega arith))
    ∙ none_below test high (λ q below. fails q (omega arith))

module _ (table : Table) (dead : accept_of table 0 ≡ 0) (x : List ℕ) (s : ℕ) where
  row : ℕ → ℕ
  row q = row_at table x s q

  stop : ℕ → Bool
  stop q = stops table (row_at table x s q)

  test : ℕ → Bool
  test q = ltb s q && eqb (accept_of table (row_at table x s q)) 1

  front : ℕ → ℕ → Bool
  front k q = ltb s q && has_bit (fronts_of table (row_at table x s q)) k

  -- the boundary by the longest match, if there is one
  longest : Option ℕ → Boundary
  longest place = boundary_of table (found_longest table x s place)

  -- the last place below q at which the front of each look-ahead rule ends
  cuts : ℕ → ℕ → ℕ
  cuts q k = unwrap_or (greatest_below (front k) q) (s + 1)

  -- what a search finds that ends at z by the completion of a look-ahead rule
  abbrev cut_found : ℕ → Found
  cut_found z = record { at = cut_place table x s z (accept_of table (row_at table x s z) - 2); list = list_of table (row_at table x s z) }

  -- the boundary of a search that ends at z
  at_end : ℕ → Boundary
  at_end z = boundary_of table (cond (completes table (row_at table x s z)) (cut_found z) (found_longest table x s (longest_place table x s z)))

  longest_cond : (b : Bool) (q : ℕ) (place : Option ℕ) → longest (cond b (Some q) place) ≡ cond b (ending table (row q) q) (longest place)
  unfolding longest row
  longest_cond true q place = refl
  longest_cond false q place = refl

  top : (q : ℕ) → s < q → longest (greatest_below test (q + 1)) ≡ ended table (row q) (longest (greatest_below test q)) q
  unfolding row test
  top q past =
      ap (λ n. longest (greatest_below test n)) (add-one q)
      ∙ ap (λ b. longest (cond (b && eqb (accept_of table (row_at table x s q)) 1) (Some q) (greatest_below test q))) (lt-ltb s q past)
      ∙ longest_cond (eqb (accept_of table (row_at table x s q)) 1) q (greatest_below test q)

  cuts_cond : (b : Bool) (q : ℕ) (place : Option ℕ) → unwrap_or (cond b (Some q) place) (s + 1) ≡ cond b q (unwrap_or place (s + 1))
  cuts_cond true q place = refl
  cuts_cond false q place = refl

  cuts_at : (q k : ℕ) → s < q → cuts (q + 1) k ≡ fronted table (row q) (cuts q) q k
  unfolding row front cuts
  cuts_at q k past =
      ap (λ n. unwrap_or (greatest_below (front k) n) (s + 1)) (add-one q)
      ∙ ap (λ b. unwrap_or (cond (b && has_bit (fronts_of table (row_at table x s q)) k) (Some q) (greatest_below (front k) q)) (s + 1)) (lt-ltb s q past)
      ∙ cuts_cond (has_bit (fronts_of table (row_at table x s q)) k) q (greatest_below (front k) q)

  cuts_top : (q : ℕ) → s < q → cuts (q + 1) ≡ fronted table (row q) (cuts q) q
  cuts_top q past = λ i k. cuts_at q k past i

  at_end_plain : (z : ℕ) → s < z → completes table (row z) ≡ false → at_end z ≡ ended table (row z) (longest (greatest_below test z)) z
  unfolding row test longest at_end
  at_end_plain z past plain =
      ap (boundary_of table) (cond-false (completes table (row_at table x s z)) (cut_found z) (found_longest table x s (longest_place table x s z)) plain)
      ∙ top z past

  at_end_cut : (z : ℕ) → completes table (row z) ≡ true → at_end z ≡ cut table (row z) (cuts z)
  unfolding row front cuts at_end
  at_end_cut z completed =
      ap (boundary_of table) (cond-true (completes table (row_at table x s z)) (cut_found z) (found_longest table x s (longest_place table x s z)) completed)

  stops_at : (q : ℕ) → row q ≡ 0 → stop q ≡ true
  unfolding row stop
  stops_at q is = or_left (eqb (row_at table x s q) 0) (completes table (row_at table x s q)) (eq-eqb (row_at table x s q) 0 is)

  completed_at : (q : ℕ) → completes table (row q) ≡ true → stop q ≡ true
  unfolding row stop
  completed_at q is = or_right (eqb (row_at table x s q) 0) (completes table (row_at table x s q)) is

  goes_on : (q : ℕ) → eqb (row q) 0 ≡ false → completes table (row q) ≡ false → stop q ≡ false
  unfolding row stop
  goes_on q isnt plain = or_from (eqb (row_at table x s q) 0) (completes table (row_at table x s q)) isnt plain

  plain_at : (q : ℕ) → stop q ≡ false → completes table (row q) ≡ false
  unfolding row stop
  plain_at q going = (or_parts (eqb (row_at table x s q) 0) (completes table (row_at table x s q)) going).1

  goes_to : (q c : ℕ) (behind : List ℕ) → s ≤ q → q < length x → drop q x ≡ c ∷ behind → row (q + 1) ≡ step table (row q) (category_of table.ranges c)
  unfolding row
  goes_to q c behind order short rest =
      row_goes_on table x s q order short
      ∙ ap (λ d. step table (row_at table x s q) (category_of table.ranges d)) (ap (λ l. get_or l 0 0) (sym (drop_more x q 0 short) ∙ rest))

  scan_is : (behind : List ℕ) (q : ℕ) → s < q → q + length behind ≡ length x → drop q x ≡ behind → stop q ≡ false →
      scan table (row q) (longest (greatest_below test q)) (cuts q) q behind ≡ at_end (least_from stop q (length behind))
  scan_is [] q past long rest going = sym (at_end_plain q past (plain_at q going))
  scan_is (c ∷ behind) q past long rest going =
      let next : ℕ = step table (row q) (category_of table.ranges c) in
      let last : Boundary = longest (greatest_below test q) in
      let latest : Boundary = ended table (row q) last q in
      let now : ℕ → ℕ = fronted table (row q) (cuts q) q in
      let further : Boundary = scan table next latest now (q + 1) behind in
      let short : q < length x = omega (arith, long) in
      let seam : get_or x q 0 ∷ drop (q + 1) x ≡ c ∷ behind = sym (drop_more x q 0 short) ∙ rest in
      let goes : row (q + 1) ≡ next = goes_to q c behind (omega arith) short rest in
      let on : least_from stop q (length (c ∷ behind)) ≡ least_from stop (q + 1) (length behind) =
      cond-false (stop q) q (least_from stop (q + 1) (length behind)) going in
      let here = λ (stopped : stop (q + 1) ≡ true). ap at_end (sym (least_here stop (q + 1) (length behind) stopped) ∙ sym on) in
      ⊎_elim
      (λ dies.
      let zero_row : row (q + 1) ≡ 0 = goes ∙ eqb-true next 0 dies in
      cond-true (eqb next 0) latest (cond (completes table next) (cut table next now) further) dies
      ∙ sym (top q past)
      ∙ sym (ap (λ r. ended table r (longest (greatest_below test (q + 1))) (q + 1)) zero_row
      ∙ ap (λ a. cond (eqb a 1) (ending table 0 (q + 1)) (longest (greatest_below test (q + 1)))) dead)
      ∙ sym (at_end_plain (q + 1) (omega arith) (ap (completes table) zero_row ∙ ap (leb 2) dead))
      ∙ here (stops_at (q + 1) zero_row))
      (λ lives.
      cond-false (eqb next 0) latest (cond (completes table next) (cut table next now) further) lives
      ∙ ⊎_elim
      (λ completed.
      let at : completes table (row (q + 1)) ≡ true = ap (completes table) goes ∙ completed in
      cond-true (completes table next) (cut table next now) further completed
      ∙ ap₂ (cut table) (sym goes) (sym (cuts_top q past))
      ∙ sym (at_end_cut (q + 1) at)
      ∙ here (completed_at (q + 1) at))
      (λ plain.
      cond-false (completes table next) (cut table next now) further plain
      ∙ (λ i. scan table (sym goes i) (sym (top q past) i) (sym (cuts_top q past) i) (q + 1) behind)
      ∙ scan_is behind (q + 1) (omega arith) (omega (arith, long)) (ap (λ l. drop 1 l) seam)
      (goes_on (q + 1) (ap (λ r. eqb r 0) goes ∙ lives) (ap (completes table) goes ∙ plain))
      ∙ ap at_end (sym on))
      (cases_Bool (completes table next)))
      (cases_Bool (eqb next 0))

  -- the next boundary is where the pass ends that begins after one character
  pub next_is : (c : ℕ) (behind : List ℕ) → drop s x ≡ c ∷ behind → s < length x → eqb (step table 1 (category_of table.ranges c)) 0 ≡ false →
      completes table (step table 1 (category_of table.ranges c)) ≡ false →
      next_boundary table x s ≡ scan table (step table 1 (category_of table.ranges c)) (single table s) (λ k. s + 1) (s + 1) behind
  unfolding row stop test front longest cuts at_end
  next_is c behind rest short lives plain =
      let of : ℕ → ℕ = category_of table.ranges in
      let begins : row_at table x s s ≡ 1 =
      ap (λ n. row_along table 1 (map of (take n (drop s x)))) (let e : s - s ≡ 0 = omega arith in e) in
      let goes : row (s + 1) ≡ step table 1 (of c) = goes_to s c behind (le_refl s) short rest ∙ ap (λ r. step table r (of c)) begins in
      let seam : get_or x s 0 ∷ drop (s + 1) x ≡ c ∷ behind = sym (drop_more x s 0 short) ∙ rest in
      let long : length x - (s + 1) ≡ length behind = omega (arith, length-drop s x, ap length rest) in
      let none : greatest_below test (s + 1) ≡ None = none_below test (s + 1)
      (λ q below. and_left (ltb s q) (eqb (accept_of table (row_at table x s q)) 1) (le-ltb s q (omega arith))) in
      let no_cuts = λ (k : ℕ). none_below (front k) (s + 1)
      (λ q below. and_left (ltb s q) (has_bit (fronts_of table (row_at table x s q)) k) (le-ltb s q (omega arith))) in
      ap (λ n. at_end (least_from stop (s + 1) n)) long
      ∙ sym (scan_is behind (s + 1) (omega arith) (omega (arith, long, short)) (ap (λ l. drop 1 l) seam)
      (goes_on (s + 1) (ap (λ r. eqb r 0) goes ∙ lives) (ap (completes table) goes ∙ plain)))
      ∙ (λ i. scan table (goes i) (longest (none i)) (λ k. unwrap_or (no_cuts k i) (s + 1)) (s + 1) behind)
