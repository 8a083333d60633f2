-- What searches read from boundary to boundary, and what going on from each of them costs.
use Rattle.std.proofs.Common.{◌≡◌, ℕ, zero, suc, ◌+◌, ◌-◌, ◌*◌, ◌<◌, ◌≤◌, min, cond, ltb, leb, List, [], ◌∷◌, ◌++◌, Option, Some, None, length, refl}
use Rattle.std.proofs.Common.{sym, ap, ◌∙◌}
use Rattle.std.proofs.Common.{subst, inl, inr, ⊎_elim, append_assoc, length-append, arith, ◌↔◌}
use Rattle.std.proofs.Math.Nat.{mul-add}
use Rattle.std.specs.Prelude.{IsTrue, sum_by, filter, unwrap_or}
use Rattle.std.proofs.lemmas.Bool.{cases_Bool, cond-true, cond-false, false≢true, lt-ltb, le-leb}
use Rattle.std.proofs.lemmas.List.Sums.{sum_by-cons}
use Rattle.rbbi_model.specs.Lists.{Member}
use Rattle.rbbi_model.specs.Places.{greatest_below}
use Rattle.rbbi_model.specs.Boundaries.{Boundary, start}
use Rattle.rbbi_model.specs.Cover.{places, IsPlaceOf}
use Rattle.rbbi_model.specs.Tables.{Table}
use Rattle.rbbi_model.specs.Answers.{Next}
use Rattle.rbbi_model.specs.ValidTables.{IsValidTable}
use Rattle.rbbi_model.specs.Searches.{look_end, fresh, next_boundary, table_boundaries}
use Rattle.rbbi_model.specs.Runs.{IsAnchor, is_anchor, low, from_place}
use Rattle.rbbi_model.specs.Costs.{characters_read, searches_cost, forward_cost, question_cost, breaks_cost}
use Rattle.rbbi_model.proofs.Found.{greatest_lies}
use Rattle.rbbi_text.specs.Steps.{RisesUpTo}
use Rattle.rbbi_model.specs.Costs.{listing_cost}
use Rattle.rbbi_model.proofs.ListingCosts.{listing_parts, listing_one}
use Rattle.rbbi_tool.proofs.Listing.{following, by_place, follows}

-- the laws of anchors
abbrev pub AnchorsAreStored : Type 0
AnchorsAreStored = (table : Table) → IsValidTable table → (x : List ℕ) (p : ℕ) → IsTrue (is_anchor table x p) ↔ IsAnchor table x p

abbrev pub AnchorsLead : Type 0
AnchorsLead = (table : Table) → IsValidTable table → (x : List ℕ) (p : ℕ) → IsAnchor table x p →
    (places (from_place (p + 1) (fresh table x p)) ≡ places (from_place (p + 1) (table_boundaries table x)))
    × (from_place (low p) (fresh table x p) ≡ from_place (low p) (table_boundaries table x))

-- a boundary is among those from a place that isn't past it
placed_from : (least i : ℕ) (bs : List Boundary) → least ≤ i → IsPlaceOf bs i → IsPlaceOf (from_place least bs) i
placed_from least i [] low here = here
placed_from least i (b ∷ bs) low here =
    let rest : List Boundary = from_place least bs in
    ⊎_elim
    (λ taken.
    subst (λ l. IsPlaceOf l i) (sym (cond-true (leb least b.at) (b ∷ rest) rest taken))
    (let is : IsPlaceOf (b ∷ rest) i = ⊎_elim (λ same. inl same) (λ later. inr (placed_from least i bs low later)) here in is))
    (λ left.
    subst (λ l. IsPlaceOf l i) (sym (cond-false (leb least b.at) (b ∷ rest) rest left))
    (⊎_elim (λ same. absurd (false≢true (sym left ∙ le-leb least b.at (omega (arith, low, same))))) (λ later. placed_from least i bs low later) here))
    (cases_Bool (leb least b.at))

placed_back : (least i : ℕ) (bs : List Boundary) → IsPlaceOf (from_place least bs) i → IsPlaceOf bs i
placed_back least i [] here = here
placed_back least i (b ∷ bs) here =
    let rest : List Boundary = from_place least bs in
    ⊎_elim
    (λ taken.
    let is : IsPlaceOf (b ∷ rest) i = subst (λ l. IsPlaceOf l i) (cond-true (leb least b.at) (b ∷ rest) rest taken) here in
    ⊎_elim (λ same. inl same) (λ later. inr (placed_back least i bs later)) is)
    (λ left. inr (placed_back least i bs (subst (λ l. IsPlaceOf l i) (cond-false (leb least b.at) (b ∷ rest) rest left) here)))
    (cases_Bool (leb least b.at))

placed_here : (done : List Boundary) (b : Boundary) (rest : List Boundary) → IsPlaceOf (done ++ b ∷ rest) b.at
placed_here [] b rest = inl refl
placed_here (c ∷ done) b rest = inr (placed_here done b rest)

module _ (table : Table) (x : List ℕ) where
  -- the search from one of the places is among those that are counted up to it
  member_cost : (i : ℕ) (bs : List Boundary) → IsPlaceOf bs i →
      characters_read table x i ≤ sum_by (λ (m : Boundary). characters_read table x m.at) (filter (λ (m : Boundary). leb m.at i) bs)
  member_cost i [] here = absurd here
  member_cost i (b ∷ bs) here =
      let rest : List Boundary = filter (λ (m : Boundary). leb m.at i) bs in
      ⊎_elim
      (λ taken.
      let is : sum_by (λ (m : Boundary). characters_read table x m.at) (cond (leb b.at i) (b ∷ rest) rest) ≡ characters_read table x b.at
      + sum_by (λ (m : Boundary). characters_read table x m.at) rest =
      ap (sum_by (λ (m : Boundary). characters_read table x m.at)) (cond-true (leb b.at i) (b ∷ rest) rest taken)
      ∙ sum_by-cons (λ (m : Boundary). characters_read table x m.at) b rest in
      ⊎_elim
      (λ same. let equal : characters_read table x b.at ≡ characters_read table x i = ap (characters_read table x) same in omega (arith, is, equal))
      (λ later. omega (arith, is, member_cost i bs later)) here)
      (λ left.
      let is : sum_by (λ (m : Boundary). characters_read table x m.at) (cond (leb b.at i) (b ∷ rest) rest)
      ≡ sum_by (λ (m : Boundary). characters_read table x m.at) rest =
      ap (sum_by (λ (m : Boundary). characters_read table x m.at)) (cond-false (leb b.at i) (b ∷ rest) rest left) in
      ⊎_elim
      (λ same. absurd (false≢true (sym left ∙ le-leb b.at i (omega (arith, same)))))
      (λ later. omega (arith, is, member_cost i bs later)) here)
      (cases_Bool (leb b.at i))

  module _ (valid : IsValidTable table) (stored : AnchorsAreStored) (lead : AnchorsLead) where
    -- a boundary past an anchor is found from there
    found_from : (p i : ℕ) → IsTrue (is_anchor table x p) → p < i → IsPlaceOf (table_boundaries table x) i → IsPlaceOf (fresh table x p) i
    found_from p i anchor past here =
        placed_back (p + 1) i (fresh table x p)
        (subst (λ ps. Member ps i) (sym (lead table valid x p ((stored table valid x p).0 anchor)).0)
        (placed_from (p + 1) i (table_boundaries table x) (omega arith) here))

    -- the search from a boundary reads no more than going on from it costs
    search_within : (i : ℕ) → IsPlaceOf (table_boundaries table x) i → characters_read table x i ≤ forward_cost table x i
    search_within i here = by_anchor (greatest_below (is_anchor table x) i) refl
      where
        by_anchor : (o : Option ℕ) → greatest_below (is_anchor table x) i ≡ o →
            characters_read table x i ≤ i - unwrap_or (greatest_below (is_anchor table x) i) 0 + 1
            + searches_cost table x (unwrap_or (greatest_below (is_anchor table x) i) 0) i
        by_anchor None is =
            subst (λ o. characters_read table x i ≤ i - unwrap_or o 0 + 1 + searches_cost table x (unwrap_or o 0) i) (sym is)
            (let first = member_cost i (fresh table x 0) here in omega (arith, first))
        by_anchor (Some p) is =
            subst (λ o. characters_read table x i ≤ i - unwrap_or o 0 + 1 + searches_cost table x (unwrap_or o 0) i) (sym is)
            (let lies = greatest_lies (is_anchor table x) i p is in
            let first = member_cost i (fresh table x p) (found_from p i lies.1 lies.0 here) in omega (arith, first))

-- The boundaries before this place were gone through. Reading them cost so much, with so much more at most for each search.
pub record AreSearchedTo (table : Table) (x : List ℕ) (extra at begun steps : ℕ) : Type 0 where
  pub most : ℕ
  pub enough : length x ≤ at + most
  pub front : List Boundary
  pub here : Boundary
  pub here_at : here.at ≡ at
  pub whole : table_boundaries table x ≡ front ++ here ∷ following table x most at
  pub paid : RisesUpTo (listing_cost table x front + extra * length front) begun steps

pub searched_none : (table : Table) (x : List ℕ) (extra begun : ℕ) → AreSearchedTo table x extra 0 begun begun
searched_none table x extra begun = record {
  most = length x;
  enough = omega arith;
  front = [];
  here = start;
  here_at = refl;
  whole = ap (λ bs. start ∷ bs) (by_place table x (length x) start);
  paid = record { more = omega arith; cost = omega arith };
}

-- one search more
pub searched_more : (table : Table) (x : List ℕ) (extra at next begun steps steps' : ℕ) → IsValidTable table → AnchorsAreStored → AnchorsLead →
    AreSearchedTo table x extra at begun steps → at < length x → at < (next_boundary table x at).at → next ≡ (next_boundary table x at).at →
    RisesUpTo (min (look_end table x at) (length x) - at + extra) steps steps' → AreSearchedTo table x extra next begun steps'
searched_more table x extra at next begun steps steps' valid stored lead so_far inside past is read = by_most so_far.most so_far.enough so_far.whole
  where
    by_most : (most : ℕ) → length x ≤ at + most → table_boundaries table x ≡ so_far.front ++ so_far.here ∷ following table x most at →
        AreSearchedTo table x extra next begun steps'
    by_most zero enough whole = absurd (omega arith)
    by_most (suc most) enough whole =
        let place : IsPlaceOf (table_boundaries table x) at =
        subst (λ i. IsPlaceOf (table_boundaries table x) i) so_far.here_at
        (subst (λ bs. IsPlaceOf bs so_far.here.at) (sym whole) (placed_here so_far.front so_far.here (following table x (suc most) at))) in
        let within : characters_read table x at ≤ forward_cost table x at = search_within table x valid stored lead at place in
        let reads : characters_read table x at ≡ min (look_end table x at) (length x) - at =
        cond-true (ltb at (length x)) (min (look_end table x at) (length x) - at) 0 (lt-ltb at (length x) inside) in
        let cost : listing_cost table x (so_far.front ++ so_far.here ∷ []) ≡ listing_cost table x so_far.front + forward_cost table x at =
        listing_parts table x so_far.front (so_far.here ∷ [])
        ∙ ap (λ n. listing_cost table x so_far.front + n)
        (listing_one table x so_far.here ∙ ap (λ n. question_cost table x n Next) so_far.here_at
        ∙ cond-true (ltb at (length x)) (forward_cost table x at) 0 (lt-ltb at (length x) inside)) in
        let mores : extra * length (so_far.front ++ so_far.here ∷ []) ≡ extra * length so_far.front + extra =
        ap (λ n. extra * n) (length-append so_far.front (so_far.here ∷ [])) ∙ mul-add extra (length so_far.front) 1
        ∙ ap (λ n. extra * length so_far.front + n) (omega arith) in
        record {
          most = most;
          enough = omega (arith, past, is, enough);
          front = so_far.front ++ so_far.here ∷ [];
          here = next_boundary table x at;
          here_at = sym is;
          whole =
              whole
              ∙ ap (λ bs. so_far.front ++ so_far.here ∷ bs) (follows table x most at inside)
              ∙ sym (append_assoc so_far.front (so_far.here ∷ []) (next_boundary table x at ∷ following table x most (next_boundary table x at).at))
              ∙ ap (λ n. (so_far.front ++ so_far.here ∷ []) ++ next_boundary table x at ∷ following table x most n) (sym is);
          paid = record {
            more = omega (arith, so_far.paid.more, read.more);
            cost = omega (arith, so_far.paid.cost, read.cost, within, reads, cost, mores);
          };
        }

-- what was read up to a place is at most what listing all boundaries costs
pub all_searched : (table : Table) (x : List ℕ) (extra at begun steps : ℕ) → AreSearchedTo table x extra at begun steps →
    RisesUpTo (breaks_cost table x 0 + extra * length (table_boundaries table x)) begun steps
all_searched table x extra at begun steps are =
    let rest : List Boundary = are.here ∷ following table x are.most at in
    let parts : listing_cost table x (table_boundaries table x) ≡ listing_cost table x are.front + listing_cost table x rest =
    ap (listing_cost table x) are.whole ∙ listing_parts table x are.front rest in
    let mores : extra * length (table_boundaries table x) ≡ extra * length are.front + extra * length rest =
    ap (λ n. extra * n) (ap length are.whole ∙ length-append are.front rest) ∙ mul-add extra (length are.front) (length rest) in
    record { more = are.paid.more; cost = omega (arith, are.paid.cost, parts, mores) }

-- a search alone, with nothing more
pub one_search : (n steps steps' : ℕ) → steps' ≡ steps + n → RisesUpTo (n + 0) steps steps'
one_search n steps steps' is = record { more = omega (arith, is); cost = omega (arith, is) }

pub searched_alone : (table : Table) (x : List ℕ) (at begun steps : ℕ) → AreSearchedTo table x 0 at begun steps → RisesUpTo (breaks_cost table x 0) begun steps
searched_alone table x at begun steps are =
    let paid = all_searched table x 0 at begun steps are in
    let none : 0 * length (table_boundaries table x) ≡ 0 = omega arith in
    record { more = paid.more; cost = omega (arith, paid.cost, none) }
