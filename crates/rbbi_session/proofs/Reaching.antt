-- Boundaries of a text with their status lists: each has one, and its statuses are those of the list.
use Rattle.std.proofs.Common.{◌≡◌, ℕ, zero, suc, ◌-◌, ◌<◌, ◌≤◌, ltb, List, [], ◌∷◌, ◌++◌, Option, Some, None, length, get_or, sym, refl, ap, ◌∙◌, subst}
use Rattle.std.proofs.Common.{inl, inr, ⊎_elim, lit≤, arith}
use Rattle.std.specs.List.{AllByRecursion}
use Rattle.std.proofs.lemmas.Bool.{cond_both, cases_lt}
use Rattle.std.proofs.lemmas.List.{get_or_past}
use Rattle.rbbi_model.specs.Lists.{IsRising}
use Rattle.rbbi_model.specs.Boundaries.{Boundary, start}
use Rattle.rbbi_model.specs.Cover.{places, IsPlaceOf}
use Rattle.rbbi_model.specs.Tables.{Table, accept_of, empty_head, list_of, completes, statuses_of}
use Rattle.rbbi_model.specs.ValidTables.{IsValidTable, IsValidList, BeginsWithZeroAlone}
use Rattle.rbbi_model.specs.Searches.{row_at, search_end, cut_place, longest_place, found_longest, found, next_boundary, follow_by, table_boundaries}
use Rattle.rbbi_model.specs.Answers.{statuses_at}
use Rattle.rbbi_model.specs.Runs.{Entry, boundary_of}
use Rattle.rbbi_model.proofs.Covering.{table_covers}
use Rattle.rbbi_cache.specs.Kept.{IsBoundaryOf}
use Rattle.rbbi_session.specs.Scans.{boundary_at, IsBoundaryWith}
use Rattle.rbbi_session.proofs.Places.{statuses_here}
use Rattle.rbbi_session.proofs.Rises.{rises_before}

first_list : (lists : List (List ℕ)) → BeginsWithZeroAlone lists → get_or lists 0 [] ≡ 0 ∷ []
first_list [] begins = absurd begins
first_list (statuses ∷ lists) begins = begins

-- the text's start
pub reached_start : (table : Table) → IsValidTable table → (x : List ℕ) → IsBoundaryWith table x 0 0
reached_start table valid x =
    let is : boundary_at table 0 0 ≡ start = ap (λ statuses. record { at = 0; statuses = statuses }) (first_list table.lists valid.lists.first) in
    record {
      before = [];
      after = follow_by (next_boundary table x) (length x) (length x) start;
      whole = ap (λ b. b ∷ follow_by (next_boundary table x) (length x) (length x) start) (sym is);
      within = omega (arith, valid.lists.some);
    }

module _ (table : Table) (valid : IsValidTable table) where
  list_within : (row : ℕ) → list_of table row < length table.lists
  list_within row =
      ⊎_elim
      (λ is. (valid.rows.each row is).list)
      (λ past. omega (arith, valid.lists.some, ap (λ head. head.list) (get_or_past table.rows row empty_head past)))
      (cases_lt row (length table.rows))

  longest_within : (x : List ℕ) (s : ℕ) (place : Option ℕ) → (found_longest table x s place).list < length table.lists
  longest_within x s None = omega (arith, valid.lists.some)
  longest_within x s (Some q) = list_within (row_at table x s q)

  -- what a search finds has one of the status lists
  pub found_within : (x : List ℕ) (s : ℕ) → (found table x s).list < length table.lists
  found_within x s =
      let z : ℕ = search_end table x s in
      let last : ℕ = row_at table x s z in
      cond_both (completes table last) (record { at = cut_place table x s z (accept_of table last - 2); list = list_of table last })
      (found_longest table x s (longest_place table x s z)) (λ f. f.list < length table.lists)
      (λ _. list_within last)
      (λ _. longest_within x s (longest_place table x s z))

  some_statuses : (lists : List (List ℕ)) (list : ℕ) → AllByRecursion IsValidList lists → list < length lists → 1 ≤ length (get_or lists list [])
  some_statuses [] list each within = absurd (omega (arith, within))
  some_statuses (statuses ∷ lists) zero each within = each.0.some
  some_statuses (statuses ∷ lists) (suc list) each within = some_statuses lists list each.1 (omega (arith, within))

  -- what searches find has a status
  found_some : (x : List ℕ) (most : ℕ) (here : Boundary) → AllByRecursion (λ b. 1 ≤ length b.statuses) (follow_by (next_boundary table x) (length x) most here)
  found_some x zero here = tt
  found_some x (suc most) here =
      let next : Boundary = next_boundary table x here.at in
      cond_both (ltb here.at (length x)) (next ∷ follow_by (next_boundary table x) (length x) most next) []
      (λ bs. AllByRecursion (λ b. 1 ≤ length b.statuses) bs)
      (λ _. (some_statuses table.lists (found table x here.at).list valid.lists.each (found_within x here.at), found_some x most next))
      (λ _. tt)

  -- each boundary of a text has a status
  all_some : (x : List ℕ) → AllByRecursion (λ b. 1 ≤ length b.statuses) (table_boundaries table x)
  all_some x = (lit≤ tt, found_some x (length x) start)

some_of : (before : List Boundary) (b : Boundary) (after : List Boundary) → AllByRecursion (λ c. 1 ≤ length c.statuses) (before ++ b ∷ after) →
    1 ≤ length b.statuses
some_of [] b after each = each.0
some_of (c ∷ before) b after each = some_of before b after each.1

-- an entry that is a boundary has one of the status lists
reached_entry : (table : Table) → IsValidTable table → (x : List ℕ) (entry : Entry) → IsBoundaryOf table x entry → IsBoundaryWith table x entry.at entry.status
reached_entry table valid x entry is =
    let some : 1 ≤ length (statuses_of table entry.status) =
    some_of is.before (boundary_of table entry) is.after (subst (λ bs. AllByRecursion (λ b. 1 ≤ length b.statuses) bs) is.whole (all_some table valid x)) in
    record {
      before = is.before;
      after = is.after;
      whole = is.whole;
      within =
          ⊎_elim (λ within. within) (λ past. absurd (omega (arith, some, ap length (get_or_past table.lists entry.status [] past))))
          (cases_lt entry.status (length table.lists));
    }

pub reached_inside : (table : Table) → IsValidTable table → (x : List ℕ) {inside entry : Entry} → inside ≡ entry → IsBoundaryOf table x entry →
    IsBoundaryWith table x inside.at inside.status
reached_inside table valid x {entry = entry} same is = subst (λ e. IsBoundaryWith table x e.at e.status) (sym same) (reached_entry table valid x entry is)

place_behind : (done : List Boundary) (here : Boundary) (rest : List Boundary) → IsPlaceOf (done ++ here ∷ rest) here.at
place_behind [] here rest = inl refl
place_behind (b ∷ done) here rest = inr (place_behind done here rest)

module _ (table : Table) (x : List ℕ) (at list : ℕ) (reached : IsBoundaryWith table x at list) where
  before_it : AllByRecursion (λ b. b.at < at) reached.before
  before_it =
      rises_before reached.before (boundary_at table at list) reached.after (subst (λ bs. IsRising (places bs)) reached.whole (table_covers table x).rise)

  -- its statuses are those of its list
  pub statuses_are : statuses_at (table_boundaries table x) at ≡ statuses_of table list
  statuses_are = ap (λ bs. statuses_at bs at) reached.whole ∙ statuses_here reached.before (boundary_at table at list) reached.after before_it

  pub is_a_place : IsPlaceOf (table_boundaries table x) at
  is_a_place = subst (λ bs. IsPlaceOf bs at) (sym reached.whole) (place_behind reached.before (boundary_at table at list) reached.after)
