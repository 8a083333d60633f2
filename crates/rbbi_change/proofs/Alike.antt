-- What an edit leaves of the boundaries: those found by searches that don't look past it, and those that follow a boundary after it.
use Rattle.std.proofs.Common.{◌≡◌, ℕ, ◌+◌, ◌-◌, ◌<◌, ◌≤◌, List, [], ◌∷◌, Some, length, map, sym, refl, ap, ◌∙◌, subst, ⊎_elim, arith}
use Rattle.std.specs.List.{AllByRecursion}
use Rattle.std.proofs.lemmas.Bool.{cases_eq}
use Rattle.rbbi_model.specs.Boundaries.{Boundary, start}
use Rattle.rbbi_model.specs.Tables.{Table, statuses_of}
use Rattle.rbbi_model.specs.Searches.{look_end, found, next_boundary, table_boundaries}
use Rattle.rbbi_model.proofs.Found.{found_lies}
use Rattle.rbbi_model.proofs.SearchesAlike.{finds_alike}
use Rattle.rbbi_cache.specs.Edits.{IsSpliced}
use Rattle.rbbi_cache.proofs.Texts.{length_is, alike_before, room_before, alike_behind, room_behind}
use Rattle.rbbi_change.specs.Changes.{boundary_at}
use Rattle.rbbi_change.specs.inner.Reaching.{Lead, IsBoundary, IsQuiet}
use Rattle.rbbi_change.proofs.Leads.{ends, lead_to_end}
use Rattle.rbbi_change.proofs.Places.{past_here, up_to_here, is_here, not_here}

module _ (table : Table) (x y : List ℕ) (at removed inserted : ℕ) (edited : IsSpliced x y at removed inserted) where
  pub lengths : length y + removed ≡ length x + inserted
  lengths = length_is x y at removed inserted edited

  same_place : (from : ℕ) → from < length x → look_end table x from ≤ at → (found table x from).at ≡ (found table y from).at
  same_place from short near = omega (arith, (finds_alike table x y from from (alike_before x y at removed inserted edited table from short near)).at)

  same_boundary : (from : ℕ) → from < length x → look_end table x from ≤ at → next_boundary table x from ≡ next_boundary table y from
  same_boundary from short near =
      let alike = finds_alike table x y from from (alike_before x y at removed inserted edited table from short near) in
      let place = same_place from short near in
      let list : (found table x from).list ≡ (found table y from).list = sym alike.list in
      λ i. record { at = place i; statuses = statuses_of table (list i) }

  lead_kept : (from to : ℕ) (these : List ℕ) → Lead table x from to these → AllByRecursion (λ p. look_end table x p ≤ at) these →
      Lead table y from to these
  lead_kept from to [] lead short = lead
  lead_kept from to (p ∷ these) lead short =
      let near : look_end table x from ≤ at = subst (λ q. look_end table x q ≤ at) lead.0 short.0 in (
        lead.0,
        room_before x y at removed inserted edited table from lead.1 near,
        subst (λ q. Lead table y q to these) (same_place from lead.1 near) (lead_kept (found table x from).at to these lead.2 short.1),
      )

  same_ends : (from to : ℕ) (these : List ℕ) → Lead table x from to these → AllByRecursion (λ p. look_end table x p ≤ at) these →
      ends table x these ≡ ends table y these
  same_ends from to [] lead short = refl
  same_ends from to (p ∷ these) lead short =
      let inside : p < length x = omega (arith, lead.0, lead.1) in
      ap (λ b. b ∷ ends table x these) (same_boundary p inside short.0)
      ∙ ap (λ l. next_boundary table y p ∷ l) (same_ends (found table x from).at to these lead.2 short.1)

  module _ (place : ℕ) (quiet : IsQuiet table x at place) where
    pub quiet_new : IsBoundary table y place
    quiet_new =
        let within = quiet.is.within in
        let inside = edited.within in
        record {
          before = quiet.is.before;
          lead = lead_kept 0 place quiet.is.before quiet.is.lead quiet.short;
          within = ⊎_elim (λ zero. omega arith) (λ early. omega (arith, lengths)) quiet.early;
        }

    -- up to a quiet place the boundaries are the same
    pub quiet_same : (p : ℕ) → p ≤ place → boundary_at (table_boundaries table y) p ≡ boundary_at (table_boundaries table x) p
    unfolding quiet_new
    quiet_same p up_to =
        up_to_here table y place quiet_new p up_to
        ∙ ap (λ l. boundary_at (start ∷ l) p) (sym (same_ends 0 place quiet.is.before quiet.is.lead quiet.short))
        ∙ sym (up_to_here table x place quiet.is p up_to)

  -- where a place after the edit lies in the new text
  abbrev there : ℕ → ℕ
  there p = p + inserted - removed

  moved_place : (from : ℕ) → at + removed ≤ from → from < length x → (found table y (there from)).at ≡ there (found table x from).at
  moved_place from behind short =
      let alike = finds_alike table x y from (there from) (alike_behind x y at removed inserted edited table from behind short) in
      omega (arith, alike.at, (found_lies table x from short).0)

  moved_list : (from : ℕ) → at + removed ≤ from → from < length x → (found table y (there from)).list ≡ (found table x from).list
  moved_list from behind short = (finds_alike table x y from (there from) (alike_behind x y at removed inserted edited table from behind short)).list

  lead_moved : (from to : ℕ) (these : List ℕ) → at + removed ≤ from → Lead table x from to these →
      Lead table y (there from) (there to) (map there these)
  lead_moved from to [] behind lead = ap there lead
  lead_moved from to (p ∷ these) behind lead =
      let further = (found_lies table x from lead.1).0 in (
        ap there lead.0,
        room_behind x y at removed inserted edited from behind lead.1,
        subst (λ q. Lead table y q (there to) (map there these)) (sym (moved_place from behind lead.1))
            (lead_moved (found table x from).at to these (omega (arith, further)) lead.2),
      )

  moved_ends : (from to : ℕ) (these : List ℕ) → at + removed ≤ from → Lead table x from to these → (p : ℕ) → at + removed ≤ p →
      boundary_at (ends table y (map there these)) (there p) ≡ boundary_at (ends table x these) p
  moved_ends from to [] behind lead p past = refl
  moved_ends from to (q ∷ these) behind lead p past =
      let low : at + removed ≤ q = omega (arith, lead.0) in
      let inside : q < length x = omega (arith, lead.0, lead.1) in
      let further = (found_lies table x from lead.1).0 in
      let further' = (found_lies table x q inside).0 in
      let place = moved_place q low inside in
      let old : Boundary = next_boundary table x q in
      let new : Boundary = next_boundary table y (there q) in
      let rest : List Boundary = ends table x these in
      let others : List Boundary = ends table y (map there these) in
      ⊎_elim
      (λ is.
      is_here new others (there p) (omega (arith, place, is))
      ∙ ap (λ l. Some (statuses_of table l)) (moved_list q low inside)
      ∙ sym (is_here old rest p is))
      (λ other.
      not_here new others (there p) (λ is. other (omega (arith, place, is, further')))
      ∙ moved_ends (found table x from).at to these (omega (arith, further)) lead.2 p past
      ∙ sym (not_here old rest p other))
      (cases_eq old.at p)

  -- past a boundary after the edit that is an old one, the boundaries are the old ones
  pub behind_same : (u v : ℕ) → at + removed ≤ u → v + removed ≡ u + inserted → IsBoundary table x u → IsBoundary table y v → (p : ℕ) → u < p →
      boundary_at (table_boundaries table y) (p + inserted - removed) ≡ boundary_at (table_boundaries table x) p
  behind_same u v behind meets here new p past =
      let rest = lead_to_end table x u here.within in
      let to_place : there u ≡ v = omega arith in
      let to_end : there (length x) ≡ length y = omega (arith, lengths) in
      let moves : Lead table y v (length y) (map there rest.0) =
      subst (λ q. Lead table y q (length y) (map there rest.0)) to_place
      (subst (λ q. Lead table y (there u) q (map there rest.0)) to_end (lead_moved u (length x) rest.0 behind rest.1)) in
      past_here table y v new (map there rest.0) moves (there p) (omega arith)
      ∙ moved_ends u (length x) rest.0 behind rest.1 p (omega arith)
      ∙ sym (past_here table x u here rest.0 rest.1 p past)
