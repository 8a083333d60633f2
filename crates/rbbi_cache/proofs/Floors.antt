-- From which anchor on nothing is found before a place.
use Rattle.std.proofs.Common.{◌≡◌, ℕ, ◌+◌, ◌<◌, ◌≤◌, false, eqb, leb, List, [], ◌∷◌, Some, None, sym, subst, ⊎_elim, arith}
use Rattle.std.specs.List.{AllByRecursion, slice_get}
use Rattle.std.proofs.lemmas.Bool.{cond-false, ne_eqb, leb-false}
use Rattle.rbbi_model.specs.Boundaries.{Boundary}
use Rattle.rbbi_model.specs.Tables.{Table}
use Rattle.rbbi_model.specs.ValidTables.{IsValidTable}
use Rattle.rbbi_model.specs.Searches.{fresh}
use Rattle.rbbi_model.specs.Runs.{Run, low, IsAnchor, LeadsTruly, IsTrueRun}
use Rattle.rbbi_model.proofs.Lists.{all_through}
use Rattle.rbbi_cache.specs.inner.Ready.{HasNoneBefore, IsFloor, IsFloorFor, LeadsTo, IsFloorOf}
use Rattle.rbbi_cache.proofs.Lists.{everywhere, all_filter, all_by_test}
use Rattle.rbbi_cache.proofs.Reanchor.{low_is, same_beyond}

module _ (table : Table) (valid : IsValidTable table) (x : List ℕ) (i : ℕ) where
  low_of : (q : ℕ) → 0 < q → low q ≡ q + 2
  low_of q some = cond-false (eqb q 0) 1 (q + 2) (ne_eqb q 0 (λ zero. omega (arith, some)))

  -- no anchor from the place on finds anything before it
  pub place_is_floor : IsFloor table x i i
  place_is_floor q anchor past some =
      everywhere (λ b. low q ≤ b.at → i ≤ b.at) (λ b from. omega (arith, low_of q some)) (fresh table x q)

  -- nor does any from an anchor on that finds nothing
  pub none_from : (p : ℕ) → IsAnchor table x p → HasNoneBefore table x p i → IsFloor table x p i
  none_from p first none q anchor past some =
      let low_there = low_is p in
      let there : AllByRecursion (λ (b : Boundary). q + 2 ≤ b.at → i ≤ b.at) (fresh table x p) =
      all_through (λ b. low p ≤ b.at → i ≤ b.at) (λ b. q + 2 ≤ b.at → i ≤ b.at) (λ b from far. from (omega arith)) (fresh table x p) none in
      let here : AllByRecursion (λ (b : Boundary). q + 2 ≤ b.at → i ≤ b.at) (fresh table x q) =
      all_by_test (λ b. q + 2 ≤ b.at → i ≤ b.at) (λ b. leb (q + 2) b.at) (fresh table x q)
      (subst (AllByRecursion (λ b. q + 2 ≤ b.at → i ≤ b.at)) (sym (same_beyond table valid x p first q anchor (omega arith)))
      (all_filter (λ b. q + 2 ≤ b.at → i ≤ b.at) (λ b. leb (q + 2) b.at) (fresh table x p) there))
      (everywhere (λ b. leb (q + 2) b.at ≡ false → q + 2 ≤ b.at → i ≤ b.at)
      (λ b fails far. let less = leb-false (q + 2) b.at fails in absurd (omega arith)) (fresh table x q)) in
      all_through (λ b. q + 2 ≤ b.at → i ≤ b.at) (λ b. low q ≤ b.at → i ≤ b.at)
      (λ b far from. far (omega (arith, low_of q some))) (fresh table x q) here

  -- a run that leads to the place finds nothing before it
  leads_past : (run : Run) → IsTrueRun table x run → LeadsTo run i → HasNoneBefore table x run.anchor i
  leads_past run is_true to =
      all_through (λ b. low run.anchor ≤ b.at → to.first.at ≤ b.at) (λ b. low run.anchor ≤ b.at → i ≤ b.at)
      (λ b from far. let near = from far in omega (arith, to.at)) (fresh table x run.anchor)
      (subst (LeadsTruly table x run.anchor) to.whole (is_true.leads to.leads))

  pub floor_of_is : (run : Run) → IsTrueRun table x run → (floor : ℕ) → IsFloorOf run i floor → IsFloor table x floor i
  floor_of_is run is_true floor is =
      ⊎_elim
      (λ place. subst (λ n. IsFloor table x n i) (sym place) place_is_floor)
      (λ leads. subst (λ n. IsFloor table x n i) (sym leads.0) (none_from run.anchor is_true.anchor (leads_past run is_true leads.1)))
      is

pub floor_of_none : (runs : List Run) (i : ℕ) → IsFloorFor runs i i
floor_of_none runs i table valid x are_true = place_is_floor table valid x i

-- what the first run tells
pub floor_of_first : (runs : List Run) (run : Run) → Some run ≡ slice_get runs 0 → (i floor : ℕ) → IsFloorOf run i floor → IsFloorFor runs i floor
floor_of_first [] run first i floor is table valid x are_true = absurd (no_first first)
  where
    no_first : Some run ≡ None → ⊥
    no_first same = cc
floor_of_first (other ∷ runs) run first i floor is table valid x are_true =
    floor_of_is table valid x i run (subst (IsTrueRun table x) (sym (same first)) are_true.0) floor is
  where
    same : Some run ≡ Some other → run ≡ other
    same is = cc
