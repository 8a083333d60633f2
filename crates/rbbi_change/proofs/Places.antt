-- The boundaries of a text at places, by the searches that lead to them.
use Rattle.std.proofs.Common.{◌≡◌, ℕ, ◌<◌, ◌≤◌, eqb, List, [], ◌∷◌, ◌++◌, Some, None, length, sym, refl, ap, ◌∙◌, ⊎_elim, arith}
use Rattle.std.specs.List.{AllByRecursion}
use Rattle.std.proofs.lemmas.Bool.{cases_eq, cond-true, cond-false, ne_eqb, eq-eqb}
use Rattle.std.proofs.lemmas.List.{map-append}
use Rattle.rbbi_model.specs.Boundaries.{Boundary, start}
use Rattle.rbbi_model.specs.Tables.{Table, statuses_of}
use Rattle.rbbi_model.specs.Searches.{found, next_boundary, table_boundaries}
use Rattle.rbbi_model.proofs.Found.{found_lies}
use Rattle.rbbi_change.specs.Changes.{boundary_at}
use Rattle.rbbi_change.specs.inner.Reaching.{Lead, IsBoundary}
use Rattle.rbbi_change.proofs.Leads.{leads_joined, lead_on, lead_lies, lead_to_end, ends, boundaries_are}

pub not_here : (b : Boundary) (bs : List Boundary) (p : ℕ) → (b.at ≡ p → ⊥) → boundary_at (b ∷ bs) p ≡ boundary_at bs p
not_here b bs p other = cond-false (eqb b.at p) (Some b.statuses) (boundary_at bs p) (ne_eqb b.at p other)

pub is_here : (b : Boundary) (bs : List Boundary) (p : ℕ) → b.at ≡ p → boundary_at (b ∷ bs) p ≡ Some b.statuses
is_here b bs p is = cond-true (eqb b.at p) (Some b.statuses) (boundary_at bs p) (eq-eqb b.at p is)

-- a place that is none of the first boundaries
at_behind : (these those : List Boundary) (p : ℕ) → AllByRecursion (λ b. b.at ≡ p → ⊥) these → boundary_at (these ++ those) p ≡ boundary_at those p
at_behind [] those p none = refl
at_behind (b ∷ these) those p none = not_here b (these ++ those) p none.0 ∙ at_behind these those p none.1

-- a place that is none at all
at_none : (these : List Boundary) (p : ℕ) → AllByRecursion (λ b. b.at ≡ p → ⊥) these → boundary_at these p ≡ None
at_none [] p none = refl
at_none (b ∷ these) p none = not_here b these p none.0 ∙ at_none these p none.1

-- a place that is none of the last ones
at_front : (these those : List Boundary) (p : ℕ) → AllByRecursion (λ b. b.at ≡ p → ⊥) those → boundary_at (these ++ those) p ≡ boundary_at these p
at_front [] those p none = at_none those p none
at_front (b ∷ these) those p none =
    ⊎_elim
    (λ is. is_here b (these ++ those) p is ∙ sym (is_here b these p is))
    (λ other. not_here b (these ++ those) p other ∙ at_front these those p none ∙ sym (not_here b these p other))
    (cases_eq b.at p)

module _ (table : Table) (x : List ℕ) where
  -- what searches find lies past the place from which they lead
  ends_past : (from to p : ℕ) (places : List ℕ) → Lead table x from to places → p ≤ from → AllByRecursion (λ b. b.at ≡ p → ⊥) (ends table x places)
  ends_past from to p [] lead low = tt
  ends_past from to p (q ∷ places) lead low =
      let past = (found_lies table x from lead.1).0 in
      let here : (found table x q).at ≡ (found table x from).at = ap (λ r. (found table x r).at) lead.0 in
      (λ is. omega (arith, here, past, is), ends_past (found table x from).at to p places lead.2 (omega (arith, past)))

  -- and not past the one to which they lead
  ends_up_to : (from to p : ℕ) (places : List ℕ) → Lead table x from to places → to < p → AllByRecursion (λ b. b.at ≡ p → ⊥) (ends table x places)
  ends_up_to from to p [] lead high = tt
  ends_up_to from to p (q ∷ places) lead high =
      let on = lead_lies table x (found table x from).at to places lead.2 in
      let here : (found table x q).at ≡ (found table x from).at = ap (λ r. (found table x r).at) lead.0 in
      (λ is. omega (arith, here, on, is), ends_up_to (found table x from).at to p places lead.2 high)

  module _ (q : ℕ) (here : IsBoundary table x q) where
    whole : (rest : List ℕ) → Lead table x q (length x) rest → table_boundaries table x ≡ (start ∷ ends table x here.before) ++ ends table x rest
    whole rest lead =
        boundaries_are table x (here.before ++ rest) (leads_joined table x 0 q (length x) here.before rest here.lead lead)
        ∙ ap (λ l. start ∷ l) (map-append (next_boundary table x) here.before rest)

    -- what lies past a boundary
    pub past_here : (rest : List ℕ) → Lead table x q (length x) rest → (p : ℕ) → q < p →
        boundary_at (table_boundaries table x) p ≡ boundary_at (ends table x rest) p
    past_here rest lead p past =
        ap (λ l. boundary_at l p) (whole rest lead)
        ∙ at_behind (start ∷ ends table x here.before) (ends table x rest) p (λ is. omega arith, ends_up_to 0 q p here.before here.lead past)

    -- what lies up to one
    pub up_to_here : (p : ℕ) → p ≤ q → boundary_at (table_boundaries table x) p ≡ boundary_at (start ∷ ends table x here.before) p
    up_to_here p up_to =
        let rest = lead_to_end table x q here.within in
        ap (λ l. boundary_at l p) (whole rest.0 rest.1)
        ∙ at_front (start ∷ ends table x here.before) (ends table x rest.0) p (ends_past q (length x) p rest.0 rest.1 up_to)

    module _ (short : q < length x) where
      pub next_is : IsBoundary table x (found table x q).at
      next_is = record { before = here.before ++ q ∷ []; lead = lead_on table x 0 q here.before here.lead short; within = (found_lies table x q short).1 }

      next_rest : (places : List ℕ) × Lead table x (found table x q).at (length x) places
      next_rest = lead_to_end table x (found table x q).at (found_lies table x q short).1

      pub at_next : boundary_at (table_boundaries table x) (found table x q).at ≡ Some (statuses_of table (found table x q).list)
      at_next =
          past_here (q ∷ next_rest.0) (refl, short, next_rest.1) (found table x q).at (found_lies table x q short).0
          ∙ is_here (next_boundary table x q) (ends table x next_rest.0) (found table x q).at refl

      pub none_between : (p : ℕ) → q < p → p < (found table x q).at → boundary_at (table_boundaries table x) p ≡ None
      none_between p past before =
          past_here (q ∷ next_rest.0) (refl, short, next_rest.1) p past
          ∙ not_here (next_boundary table x q) (ends table x next_rest.0) p (λ is. omega (arith, is))
          ∙ at_none (ends table x next_rest.0) p (ends_past (found table x q).at (length x) p next_rest.0 next_rest.1 (omega arith))
