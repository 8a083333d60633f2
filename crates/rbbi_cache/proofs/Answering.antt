-- What a true run shows is the answer, statuses and all.
use Rattle.std.proofs.Common.{◌≡◌, ℕ, ◌+◌, ◌≤◌, Option, List, [], ◌∷◌, ◌++◌, length, eqb, map, sym, refl, ap, ◌∙◌, subst, ⊎_elim, arith}
use Rattle.std.specs.Prelude.{unwrap_or}
use Rattle.std.specs.List.{AllByRecursion}
use Rattle.std.proofs.lemmas.Bool.{cases_eq, cond-false, ne_eqb}
use Rattle.rbbi_model.specs.Boundaries.{Boundary}
use Rattle.rbbi_model.specs.Tables.{Table}
use Rattle.rbbi_model.specs.ValidTables.{IsValidTable}
use Rattle.rbbi_model.specs.Searches.{fresh, table_boundaries}
use Rattle.rbbi_model.specs.Runs.{Entry, Run, low, boundary_of, IsTrueRun, ShowsAfter, ShowsBefore}
use Rattle.rbbi_model.proofs.FreshTrue.{fresh_true}
use Rattle.rbbi_model.proofs.Shown.{shown_after, shown_before}
use Rattle.rbbi_cache.specs.Kept.{AreTrueRuns, IsBoundaryOf, IsFirstAfter, IsLastBefore, SomeRun}
use Rattle.rbbi_cache.specs.Shown.{IsShownAfter, IsShownBefore}
use Rattle.rbbi_cache.specs.inner.Ready.{KeepsTrue}
use Rattle.rbbi_cache.proofs.RunFacts as facts
use Rattle.rbbi_cache.proofs.Keeping.{entry_within}
use Rattle.rbbi_cache.proofs.Members.{SomeMember, member_stands, standing, member_kept, member_of_kept}

module _ (table : Table) (valid : IsValidTable table) (x : List ℕ) where
  -- an entry of a true run is one of the boundaries
  entry_boundary : (run : Run) (is_true : IsTrueRun table x run) (front : List Entry) (e : Entry) (rest : List Entry) → run.entries ≡ front ++ e ∷ rest →
      IsBoundaryOf table x e
  entry_boundary run is_true front e rest whole =
      let is = facts.fresh_is table valid x run is_true front e rest whole in
      let place = facts.place table valid x run is_true front e rest whole in
      let done : List Boundary = is_true.consecutive.before ++ map (boundary_of table) front in
      let behind : List Boundary = map (boundary_of table) rest ++ is_true.consecutive.after in
      ⊎_elim
      (λ zero. record { before = done; after = behind; whole = ap (fresh table x) (sym zero) ∙ is })
      (λ other.
      let far : low run.anchor ≤ e.at = ⊎_elim (λ zero. absurd (other zero)) (λ past. omega (
        arith,
        cond-false (eqb run.anchor 0) 1 (run.anchor + 2) (ne_eqb
            run.anchor 0 other),
      )) place in
      let here : SomeMember (λ b. b ≡ boundary_of table e) (fresh table x run.anchor) =
      subst (SomeMember (λ b. b ≡ boundary_of table e)) (sym is) (standing (λ b. b ≡ boundary_of table e) done (boundary_of table e) behind refl) in
      let kept = member_kept (λ b. b ≡ boundary_of table e) (low run.anchor) (λ b same. omega (arith, ap (λ (m : Boundary). m.at) same)) (fresh table x
      run.anchor) here in
      let there =
      member_stands (λ b. b ≡ boundary_of table e) (table_boundaries table x)
      (member_of_kept (λ b. b ≡ boundary_of table e) (low run.anchor) (table_boundaries table x)
      (subst (SomeMember (λ b. b ≡ boundary_of table e)) (fresh_true table valid x run.anchor is_true.anchor).1 kept)) in
      record { before = there.before; after = there.after; whole = there.whole ∙ ap (λ b. there.before ++ b ∷ there.after) there.such })
      (cases_eq run.anchor 0)

  pub is_first_after : (run : Run) → IsTrueRun table x run → (i : ℕ) (entry : Entry) → IsShownAfter run i entry → IsFirstAfter table x i entry
  is_first_after run is_true i entry shown =
      let shows = shown.0 in
      let whole = shows.whole ∙ ap (λ e. shows.before ++ e ∷ shows.after) shown.1 in
      record { first = shown_after table valid x run is_true i entry.at shows; boundary = entry_boundary run is_true shows.before entry shows.after whole }

  pub is_last_before : (run : Run) → IsTrueRun table x run → (i : ℕ) (entry : Entry) → IsShownBefore x run i entry → IsLastBefore table x i entry
  is_last_before run is_true i entry shown =
      let shows = shown.0 in
      let whole = shows.whole ∙ ap (λ e. shows.before ++ e ∷ shows.after) shown.1 in
      record { last = shown_before table valid x run is_true i entry.at shows; boundary = entry_boundary run is_true shows.before entry shows.after whole }

  first_true : (Shows : Run → Type 0) (former now : List Run) (keeps : KeepsTrue table x Shows former now) → IsTrueRun table x (keeps.0).first
  first_true Shows former now keeps = (subst (AllByRecursion (IsTrueRun table x)) (keeps.0).are keeps.1).0

  -- what is kept shows the answer
  pub answer_after : (i : ℕ) (entry : Entry) (former now : List Run) → KeepsTrue table x (λ r. IsShownAfter r i entry) former now → IsFirstAfter table x i entry
  answer_after i entry former now keeps = is_first_after (keeps.0).first (first_true (λ r. IsShownAfter r i entry) former now keeps) i entry (keeps.0).shows

  pub answer_before : (i : ℕ) (entry : Entry) (former now : List Run) → KeepsTrue table x (λ r. IsShownBefore x r i entry) former now → IsLastBefore table x i
      entry
  answer_before i entry former now keeps = is_last_before (keeps.0).first (first_true (λ r. IsShownBefore x r i entry) former now keeps) i entry (keeps.0).shows

  -- what some true run shows is the answer
  pub same_after : (i a : ℕ) (entry : Entry) (runs : List Run) → AreTrueRuns table x runs → SomeRun (λ r. ShowsAfter r i a) runs → IsFirstAfter table x i
      entry → entry.at ≡ a
  same_after i a entry [] are_true some first = absurd some
  same_after i a entry (run ∷ runs) are_true some first =
      ⊎_elim
      (λ here. ap (λ (o : Option ℕ). unwrap_or o 0) (sym first.first ∙ shown_after table valid x run are_true.0 i a here))
      (λ later. same_after i a entry runs are_true.1 later first)
      some

  pub same_before : (i a : ℕ) (entry : Entry) (runs : List Run) → AreTrueRuns table x runs → SomeRun (λ r. ShowsBefore x r i a) runs → IsLastBefore table x i
      entry → entry.at ≡ a
  same_before i a entry [] are_true some last = absurd some
  same_before i a entry (run ∷ runs) are_true some last =
      ⊎_elim
      (λ here. ap (λ (o : Option ℕ). unwrap_or o 0) (sym last.last ∙ shown_before table valid x run are_true.0 i a here))
      (λ later. same_before i a entry runs are_true.1 later last)
      some

  -- and it lies within the text
  pub none_past_end : (i a : ℕ) (runs : List Run) → AreTrueRuns table x runs → length x ≤ i → SomeRun (λ r. ShowsAfter r i a) runs → ⊥
  none_past_end i a [] are_true far some = some
  none_past_end i a (run ∷ runs) are_true far some =
      ⊎_elim
      (λ here.
      let within : here.entry.at ≤ length x = entry_within table valid x run are_true.0 here.before here.entry here.after here.whole in
      omega (arith, within, here.at, here.past))
      (λ later. none_past_end i a runs are_true.1 far later)
      some

-- no boundary lies before 0
pub none_before_start : (x : List ℕ) (i a : ℕ) (runs : List Run) → i ≡ 0 → SomeRun (λ r. ShowsBefore x r i a) runs → ⊥
none_before_start x i a [] start some = some
none_before_start x i a (run ∷ runs) start some =
    ⊎_elim (λ here. omega (arith, here.short_of)) (λ later. none_before_start x i a runs start later) some

-- where no run is such a one, none is
pub no_run : (Such : ℕ → Run → Type 0) (runs : List Run) → AllByRecursion (λ run. (a : ℕ) → Such a run → ⊥) runs → (a : ℕ) → SomeRun (Such a) runs → ⊥
no_run Such [] none a some = some
no_run Such (run ∷ runs) none a some = ⊎_elim (λ here. none.0 a here) (λ later. no_run Such runs none.1 a later) some
