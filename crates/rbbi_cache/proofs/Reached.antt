-- The members found by fresh searches from an anchor, as far as they have come.
use Rattle.std.proofs.Common.{◌≡◌, ℕ, zero, suc, ◌+◌, ◌<◌, ◌≤◌, max, Bool, true, false, ltb, leb, List, [], ◌∷◌, ◌++◌, length, map, filter, sym, refl, ap}
use Rattle.std.proofs.Common.{◌∙◌, subst, append_assoc, arith}
use Rattle.std.specs.List.{AllByRecursion}
use Rattle.std.proofs.lemmas.Bool.{cond-true, cond-false, lt-ltb, le-ltb, lt-leb, le-leb}
use Rattle.std.proofs.lemmas.List.{map-append, append-nil}
use Rattle.std.proofs.lemmas.List.Elements.{filter-append}
use Rattle.std.specs.Prelude.{sum_by}
use Rattle.rbbi_model.proofs.Rising.{rising_tail}
use Rattle.rbbi_cache.specs.inner.Scans.{Reached}
use Rattle.rbbi_cache.proofs.Lists.{filter_all, filter_none, largest_join}
use Rattle.rbbi_model.specs.Lists.{IsRising}
use Rattle.rbbi_model.specs.Places.{largest}
use Rattle.rbbi_model.specs.Boundaries.{Boundary}
use Rattle.rbbi_model.specs.Cover.{places}
use Rattle.rbbi_model.specs.Tables.{Table}
use Rattle.rbbi_model.specs.Searches.{look_end, next_boundary, follow_by, fresh}
use Rattle.rbbi_model.specs.Runs.{farthest_look}
use Rattle.rbbi_model.specs.Costs.{characters_read, searches_cost}
use Rattle.rbbi_model.proofs.Found.{found_lies}
use Rattle.rbbi_model.proofs.Covering.{follow_rise}
use Rattle.rbbi_model.proofs.Lists.{all_through}

-- the first member
abbrev pub first_member : ℕ → Boundary
first_member p = record { at = p; statuses = 0 ∷ [] }

pub reached_start : (table : Table) (x : List ℕ) (p : ℕ) → Reached table x p [] (first_member p)
reached_start table x p = record { most = length x; whole = refl; enough = omega arith }

reached_step_from : (table : Table) (x : List ℕ) (p : ℕ) (done : List Boundary) (here : Boundary) (most : ℕ) →
    fresh table x p ≡ done ++ here ∷ follow_by (next_boundary table x) (length x) most here → length x ≤ here.at + most →
    here.at < length x → Reached table x p (done ++ here ∷ []) (next_boundary table x here.at)
reached_step_from table x p done here zero whole enough short = absurd (omega arith)
reached_step_from table x p done here (suc most) whole enough short =
    let next : Boundary = next_boundary table x here.at in
    record {
      most = most;
      whole =
          whole
          ∙ ap (λ bs. done ++ here ∷ bs) (cond-true (ltb here.at (length x)) (next ∷ follow_by (next_boundary table x) (length x) most next) []
          (lt-ltb here.at (length x) short))
          ∙ sym (append_assoc done (here ∷ []) (next ∷ follow_by (next_boundary table x) (length x) most next));
      enough = omega (arith, (found_lies table x here.at short).0);
    }

-- one search further
pub reached_step : (table : Table) (x : List ℕ) (p : ℕ) (done : List Boundary) (here : Boundary) → Reached table x p done here → here.at < length x →
    Reached table x p (done ++ here ∷ []) (next_boundary table x here.at)
reached_step table x p done here reached short = reached_step_from table x p done here reached.most reached.whole reached.enough short

pub none_follows : (next : ℕ → Boundary) (n most : ℕ) (here : Boundary) → n ≤ here.at → follow_by next n most here ≡ []
none_follows next n zero here end = refl
none_follows next n (suc most) here end = cond-false (ltb here.at n) (next here.at ∷ follow_by next n most (next here.at)) [] (le-ltb here.at n end)

max_zero : (a b : ℕ) → max a (max b 0) ≡ max a b
max_zero a b = omega arith

-- what stands before a member lies before it, and what stands after it lies after it
pub rises_before : (done : List Boundary) (here : Boundary) (rest : List Boundary) → IsRising (places (done ++ here ∷ rest)) →
    AllByRecursion (λ b. b.at < here.at) done
rises_before [] here rest rising = tt
rises_before (b ∷ []) here rest rising = (rising.0, tt)
rises_before (b ∷ c ∷ done) here rest rising =
    let further = rises_before (c ∷ done) here rest rising.1 in (omega (arith, rising.0, further.0), further)

pub rises_after : (b : Boundary) (rest : List Boundary) → IsRising (places (b ∷ rest)) → AllByRecursion (λ c. b.at < c.at) rest
rises_after b [] rising = tt
rises_after b (c ∷ rest) rising =
    (rising.0, all_through (λ d. c.at < d.at) (λ d. b.at < d.at) (λ d less. omega (arith, less, rising.0)) rest (rises_after c rest rising.1))

pub rising_right : (done rest : List Boundary) → IsRising (places (done ++ rest)) → IsRising (places rest)
rising_right [] rest rising = rising
rising_right (b ∷ done) rest rising = rising_right done rest (rising_tail b.at (places (done ++ rest)) rising)

module _ (table : Table) (x : List ℕ) (p : ℕ) (done : List Boundary) (here : Boundary) (reached : Reached table x p done here) where
  fresh_rises : IsRising (places (fresh table x p))
  fresh_rises = follow_rise (next_boundary table x) (length x) (λ s short. found_lies table x s short) (length x) (first_member p)

  rises : IsRising (places (done ++ here ∷ follow_by (next_boundary table x) (length x) reached.most here))
  rises = subst (λ bs. IsRising (places bs)) reached.whole fresh_rises

  pub done_before : AllByRecursion (λ b. b.at < here.at) done
  done_before = rises_before done here (follow_by (next_boundary table x) (length x) reached.most here) rises

  pub rest_after : AllByRecursion (λ b. here.at < b.at) (follow_by (next_boundary table x) (length x) reached.most here)
  rest_after = rises_after here (follow_by (next_boundary table x) (length x) reached.most here)
      (rising_right done (here ∷ follow_by (next_boundary table x) (length x) reached.most here) rises)

  -- a filter that keeps what lies before a place past what is done, and not past here, keeps what is done
  keeps_done : (test : Boundary → Bool) → AllByRecursion (λ b. test b ≡ true) done → test here ≡ false → ((b : Boundary) → here.at < b.at → test b ≡ false) →
      filter test (fresh table x p) ≡ done
  keeps_done test each here_fails after_fails =
      let rest : List Boundary = follow_by (next_boundary table x) (length x) reached.most here in
      ap (filter test) reached.whole
      ∙ filter-append test done (here ∷ rest)
      ∙ ap (λ bs. bs ++ filter test (here ∷ rest)) (filter_all test done each)
      ∙ ap (λ bs. done ++ bs) (filter_none test (here ∷ rest) (here_fails, all_through (λ b. here.at < b.at) (λ b. test b ≡ false) after_fails rest rest_after))
      ∙ append-nil done

  -- what is done is what lies before
  pub done_is : filter (λ b. ltb b.at here.at) (fresh table x p) ≡ done
  done_is =
      keeps_done (λ b. ltb b.at here.at)
      (all_through (λ b. b.at < here.at) (λ b. ltb b.at here.at ≡ true) (λ b less. lt-ltb b.at here.at less) done done_before)
      (le-ltb here.at here.at (omega arith))
      (λ b later. le-ltb b.at here.at (omega arith))

  -- the searches up to here are those from what is done
  pub farthest_is : farthest_look table x p here.at ≡ largest (map (λ b. look_end table x b.at) done)
  farthest_is = ap (λ bs. largest (map (λ b. look_end table x b.at) bs)) done_is

  -- what the searches from what is done read, where the next is past i
  pub cost_is : (i : ℕ) → AllByRecursion (λ b. b.at ≤ i) done → i < here.at → searches_cost table x p i ≡ sum_by (λ b. characters_read table x b.at) done
  cost_is i each past =
      ap (sum_by (λ b. characters_read table x b.at))
      (keeps_done (λ b. leb b.at i)
      (all_through (λ b. b.at ≤ i) (λ b. leb b.at i ≡ true) (λ b less. le-leb b.at i less) done each)
      (lt-leb here.at i past)
      (λ b later. lt-leb b.at i (omega arith)))

-- the searches up to the next member are one more
pub farthest_step : (table : Table) (x : List ℕ) (p : ℕ) (done : List Boundary) (here : Boundary) → Reached table x p done here → here.at < length x →
    farthest_look table x p (next_boundary table x here.at).at ≡ max (farthest_look table x p here.at) (look_end table x here.at)
farthest_step table x p done here reached short =
    let look : Boundary → ℕ = λ b. look_end table x b.at in
    farthest_is table x p (done ++ here ∷ []) (next_boundary table x here.at) (reached_step table x p done here reached short)
    ∙ ap largest (map-append look done (here ∷ []))
    ∙ largest_join (map look done) (look here ∷ [])
    ∙ ap (λ n. max n (max (look here) 0)) (sym (farthest_is table x p done here reached))
    ∙ max_zero (farthest_look table x p here.at) (look here)

-- at the anchor nothing was looked at yet
pub farthest_start : (table : Table) (x : List ℕ) (p : ℕ) → farthest_look table x p p ≡ 0
farthest_start table x p = farthest_is table x p [] (first_member p) (reached_start table x p)
