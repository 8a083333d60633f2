-- What listing all boundaries through a filter costs.
use Rattle.std.proofs.Common.{◌≡◌, ℕ, zero, suc, ◌+◌, ◌*◌, ◌-◌, ◌<◌, ◌≤◌, Bool, cond, ltb, eqb, List, [], ◌∷◌, ◌++◌, Some, length, sym, refl, ap, ◌∙◌, subst}
use Rattle.std.proofs.Common.{⊎_elim, inl, inr, append_assoc, arith}
use Rattle.std.specs.Prelude.{sum_by, filter}
use Rattle.std.proofs.lemmas.Bool.{cases_Bool, cond-true, cond-false, lt-ltb, le-ltb, ne_eqb, not_from_false, not_from_true, not-true}
use Rattle.std.proofs.lemmas.List.Sums.{sum_by-append}
use Rattle.rbbi_model.specs.Lists.{IsRising}
use Rattle.rbbi_model.specs.Boundaries.{Boundary, start}
use Rattle.rbbi_model.specs.Cover.{places, end_of, IsPlaceOf}
use Rattle.rbbi_model.specs.Tables.{Table}
use Rattle.rbbi_model.specs.Searches.{next_boundary, follow_by, table_boundaries}
use Rattle.rbbi_model.specs.Answers.{Next, IsBoundary, Breaks, first_after}
use Rattle.rbbi_model.specs.Costs.{forward_cost, listing_cost}
use Rattle.rbbi_model.proofs.Covering.{table_covers}
use Rattle.rbbi_session.proofs.Rises.{from_is_after, from_a_place, rises_after, rising_right}
use Rattle.rbbi_session.proofs.Stepping.{first_is_next}
use Rattle.rbbi_session.specs.Walks.{ListsArePaid}
use Rattle.rbbi_session.proofs.Answering.{none_behind, place_within}
use Rattle.rbbi_filter.specs.Abbreviations.{window_size, is_suppressed, kept}
use Rattle.rbbi_filter.specs.declared.pair.Pair.{Pair}
use Rattle.rbbi_filter.specs.Pairs.{turned}
use Rattle.rbbi_filter.specs.declared.filter.Filter.{Filter}
use Rattle.rbbi_filter.specs.declared.filter.Filter.TheVariants.{Suppressing, Turning}
use Rattle.rbbi_filter.specs.Filters.{boundaries_through}
use Rattle.rbbi_filter.specs.FilterCosts.{forward_kept_cost, last_through, question_through}
use Rattle.rbbi_filter.specs.FilterSessions.{filter_view}
use Rattle.rbbi_filter.proofs.Sifting.{sift, sift_takes, sift_drops, sift_was}
use Rattle.rbbi_filter.proofs.Covering.{passes, length-searched, through_covers}
use Rattle.rbbi_filter.proofs.Passing.{suppressed_within, stops_cost, goes_cost}

end_here : (front : List Boundary) (b : Boundary) → end_of (front ++ b ∷ []) ≡ b.at
end_here [] b = refl
end_here (c ∷ []) b = refl
end_here (c ∷ d ∷ front) b = end_here (d ∷ front) b

-- a sum over those that pass a test, with nothing for the others
sum_of_those : (test : Boundary → Bool) (f : Boundary → ℕ) (bs : List Boundary) → sum_by (λ b. cond (test b) (f b) 0) bs ≡ sum_by f (filter test bs)
sum_of_those test f [] = refl
sum_of_those test f (b ∷ bs) =
    let later = sum_of_those test f bs in
    let g : Boundary → ℕ = λ c. cond (test c) (f c) 0 in
    let parts = sum_by-append g (b ∷ []) bs in
    let one : sum_by (λ (c : Boundary). cond (test c) (f c) 0) (b ∷ []) ≡ cond (test b) (f b) 0 = omega arith in
    ⊎_elim
    (λ holds.
    let more = sum_by-append f (b ∷ []) (filter test bs) in
    let it : sum_by f (b ∷ []) ≡ f b = omega arith in
    let all = ap (sum_by f) (cond-true (test b) (b ∷ filter test bs) (filter test bs) holds) in
    omega (arith, parts, one, later, more, it, all, cond-true (test b) (f b) 0 holds))
    (λ fails.
    let all = ap (sum_by f) (cond-false (test b) (b ∷ filter test bs) (filter test bs) fails) in
    omega (arith, parts, one, later, all, cond-false (test b) (f b) 0 fails))
    (cases_Bool (test b))

module _ (table : Table) (list : List (List ℕ)) (x : List ℕ) where
  -- what going on from a place costs
  abbrev next_cost : ℕ → ℕ
  next_cost place = question_through (Suppressing list) table x place Next

  next_within : (p : ℕ) → p < length x → next_cost p ≡ forward_kept_cost table list x p
  next_within p short = cond-true (ltb p (length x)) (forward_kept_cost table list x p) 0 (lt-ltb p (length x) short)

  listing_more : (b : Boundary) (rest : List Boundary) → b.at < length x → listing_cost table x (b ∷ rest) ≡ forward_cost table x b.at + listing_cost
      table x rest
  listing_more b rest short =
      let f : Boundary → ℕ = λ c. forward_cost table x c.at in
      let those : List Boundary = filter (λ c. ltb c.at (length x)) rest in
      let parts = sum_by-append f (b ∷ []) those in
      let one : sum_by (λ (c : Boundary). forward_cost table x c.at) (b ∷ []) ≡ forward_cost table x b.at = omega arith in
      ap (sum_by f) (cond-true (ltb b.at (length x)) (b ∷ those) those (lt-ltb b.at (length x) short)) ∙ omega (arith, parts, one)

  -- Going on from a boundary and from those behind it that are kept costs as much as going on from each of them all, and the characters
  -- before each of those behind it.
  pays_from : (front : List Boundary) (b : Boundary) (rest : List Boundary) → table_boundaries table x ≡ front ++ b ∷ rest →
      sum_by (λ c. next_cost c.at) (sift (passes list x) rest) + next_cost b.at ≡ listing_cost table x (b ∷ rest) + window_size * length rest
  pays_from front b [] whole =
      let end : b.at ≡ length x = sym (end_here front b) ∙ ap end_of (sym whole) ∙ (table_covers table x).reach in
      let nothing = cond-false (ltb b.at (length x)) (forward_kept_cost table list x b.at) 0 (le-ltb b.at (length x) (omega (arith, end))) in
      let none = ap (sum_by (λ (c : Boundary). forward_cost table x c.at))
      (cond-false (ltb b.at (length x)) (b ∷ []) [] (le-ltb b.at (length x) (omega (arith, end)))) in
      omega (arith, nothing, none)
  pays_from front b (c ∷ rest) whole =
      let n : ℕ = length x in
      let rising : IsRising (places (front ++ b ∷ c ∷ rest)) = subst (λ bs. IsRising (places bs)) whole (table_covers table x).rise in
      let later = pays_from (front ++ b ∷ []) c rest (whole ∙ sym (append_assoc front (b ∷ []) (c ∷ rest))) in
      let less = (rises_after b (c ∷ rest) (rising_right front (b ∷ c ∷ rest) rising)).0 in
      let far : c.at ≤ length x = place_within (table_boundaries table x) c.at n (none_behind n (table_boundaries table x) (table_covers table x))
      (subst (λ bs. IsPlaceOf bs c.at) (sym whole) (stands front b c rest)) in
      let short : b.at < length x = omega (arith, less, far) in
      let next : first_after (table_boundaries table x) b.at ≡ Some c.at = ap (λ bs. first_after bs b.at) whole ∙ first_is_next front b (c ∷ rest) rising in
      let more = listing_more b (c ∷ rest) short in
      let here = next_within b.at short in
      ⊎_elim
      (λ hides.
      let dropped = ap (sum_by (λ (d : Boundary). next_cost d.at)) (sift_drops (passes list x) c rest (not_from_true (is_suppressed list x c.at) hides)) in
      let cost = goes_cost table list x b.at c.at next hides in
      let there = next_within c.at (suppressed_within table list x c.at hides).1 in
      omega (arith, later, more, here, dropped, cost, there))
      (λ tells.
      let taken = ap (sum_by (λ (d : Boundary). next_cost d.at)) (sift_takes (passes list x) c rest (not_from_false (is_suppressed list x c.at) tells)) in
      let parts = sum_by-append (λ (d : Boundary). next_cost d.at) (c ∷ []) (sift (passes list x) rest) in
      let one : sum_by (λ (d : Boundary). next_cost d.at) (c ∷ []) ≡ next_cost c.at = omega arith in
      let cost = stops_cost table list x b.at c.at next tells in
      omega (arith, later, more, here, taken, parts, one, cost))
      (cases_Bool (is_suppressed list x c.at))
    where
      stands : (front : List Boundary) (b c : Boundary) (rest : List Boundary) → IsPlaceOf (front ++ b ∷ c ∷ rest) c.at
      stands [] b c rest = inr (inl refl)
      stands (d ∷ front) b c rest = inr (stands front b c rest)

  -- whether the cursor's place is a boundary
  pays_back : (cursor : ℕ) → IsPlaceOf (kept list x (table_boundaries table x)) cursor →
      question_through (Suppressing list) table x cursor (IsBoundary cursor) ≤ cond (eqb cursor 0) 0 (forward_cost table x (cursor - 1)) + window_size
  pays_back zero here = omega arith
  pays_back (suc p) here =
      let was = sift_was (passes list x) (table_boundaries table x) (suc p) here in
      let bs : List Boundary = table_boundaries table x in
      let one : suc p - 1 ≡ p = omega arith in
      let far : suc p ≤ length x = place_within bs (suc p) (length x) (none_behind (length x) bs (table_covers table x)) was.1 in
      let next : first_after (table_boundaries table x) p ≡ Some (suc p) =
      ap (first_after bs) (sym one) ∙ sym (from_is_after bs (suc p) (omega arith)) ∙ from_a_place bs (suc p) (table_covers table x).rise was.1 in
      let cost = stops_cost table list x p (suc p) next (not-true (is_suppressed list x (suc p)) was.0) in
      let asked = cond-true (ltb p (length x)) (forward_kept_cost table list x p) (last_through (Suppressing list) table x)
      (lt-ltb p (length x) (omega (arith, far))) in
      let there = cond-false (eqb (suc p) 0) 0 (forward_cost table x (suc p - 1)) (ne_eqb (suc p) 0 (λ same. omega (arith, same))) in
      omega (arith, cost, asked, there, ap (forward_cost table x) one)

  pays_kept : (cursor : ℕ) → IsPlaceOf (kept list x (table_boundaries table x)) cursor →
      sum_by (λ b. next_cost b.at) (kept list x (table_boundaries table x)) + question_through (Suppressing list) table x cursor (IsBoundary cursor)
      ≤ question_through (Suppressing list) table x cursor Breaks
  pays_kept cursor here =
      let rest : List Boundary = follow_by (next_boundary table x) (length x) (length x) start in
      let taken = ap (sum_by (λ (d : Boundary). next_cost d.at)) (sift_takes (passes list x) start rest refl) in
      let parts = sum_by-append (λ (d : Boundary). next_cost d.at) (start ∷ []) (sift (passes list x) rest) in
      let one : sum_by (λ (d : Boundary). next_cost d.at) (start ∷ []) ≡ next_cost 0 = omega arith in
      let all = pays_from [] start rest refl in
      let back = pays_back cursor here in
      omega (arith, taken, parts, one, all, back)

module _ (table : Table) (pairs : List Pair) (x : List ℕ) where
  pays_all : sum_by (λ b. question_through (Turning pairs) table x b.at Next) (table_boundaries table (turned pairs x))
      ≡ listing_cost table (turned pairs x) (table_boundaries table (turned pairs x))
  pays_all =
      let y : List ℕ = turned pairs x in
      ap (λ n. sum_by (λ (b : Boundary). cond (ltb b.at n) (forward_cost table y b.at) 0) (table_boundaries table y))
      (sym (length-searched (Turning pairs) x))
      ∙ sum_of_those (λ b. ltb b.at (length y)) (λ b. forward_cost table y b.at) (table_boundaries table y)

  asks_back : (cursor : ℕ) → cursor ≤ length x →
      question_through (Turning pairs) table x cursor (IsBoundary cursor) ≤ cond (eqb cursor 0) 0 (forward_cost table (turned pairs x) (cursor - 1))
  asks_back zero within = omega arith
  asks_back (suc p) within =
      let y : List ℕ = turned pairs x in
      let one : suc p - 1 ≡ p = omega arith in
      let asked = cond-true (ltb p (length x)) (forward_cost table y p) (last_through (Turning pairs) table x) (lt-ltb p (length x) (omega (arith, within))) in
      let there = cond-false (eqb (suc p) 0) 0 (forward_cost table y (suc p - 1)) (ne_eqb (suc p) 0 (λ same. omega (arith, same))) in
      omega (arith, asked, there, ap (forward_cost table y) one)

-- going on from each boundary that is reported, and asking for the cursor's, costs no more than asking for all boundaries
pays : (filter : Filter) (table : Table) (x : List ℕ) (cursor : ℕ) → cursor ≤ length x → IsPlaceOf (boundaries_through filter table x) cursor →
    sum_by (λ b. question_through filter table x b.at Next) (boundaries_through filter table x) + question_through filter table x cursor (IsBoundary cursor)
    ≤ question_through filter table x cursor Breaks
pays (Suppressing list) table x cursor within here = pays_kept table list x cursor here
pays (Turning pairs) table x cursor within here = omega (arith, pays_all table pairs x, asks_back table pairs x cursor within)

-- as a session is to promise it
pub lists_are_paid : ListsArePaid filter_view
lists_are_paid setting state cursor here =
    let within : state.cursor ≤ length state.text = place_within (boundaries_through setting.filter setting.table state.text) state.cursor (length state.text)
    (none_behind (length state.text) (boundaries_through setting.filter setting.table state.text) (through_covers setting.filter setting.table state.text))
    here in
    pays setting.filter setting.table state.text state.cursor within here
