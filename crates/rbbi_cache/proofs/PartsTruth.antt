-- The parts by the first safe pair are those that an edit leaves, and they are true of the new text.
use Rattle.std.proofs.Common.{◌≡◌, ℕ, ◌+◌, ◌-◌, ◌≤◌, true, false, not, ◌&&◌, ◌||◌, eqb, leb, List, [], ◌∷◌, length}
use Rattle.std.proofs.Common.{filter, take, sym, refl, ap, ◌∙◌, subst, inl, inr, ⊎_elim, arith}
use Rattle.std.specs.Prelude.{Option, Some, None, MatchOption}
use Rattle.std.specs.List.{AllByRecursion}
use Rattle.std.proofs.lemmas.Bool.{cases_Bool, cases_eq, cond-true, cond-false, leb-true, eq-eqb, ne_eqb}
use Rattle.std.proofs.lemmas.Bool.{false≢true}
use Rattle.rbbi_model.specs.Words.{most_characters}
use Rattle.rbbi_model.specs.Tables.{Table}
use Rattle.rbbi_model.specs.SafePairs.{is_safe}
use Rattle.rbbi_model.specs.ValidTables.{IsValidTable}
use Rattle.rbbi_model.specs.Runs.{Run, category_at, IsTrueRun}
use Rattle.rbbi_model.proofs.Lists.{all_take}
use Rattle.rbbi_cache.specs.Kept.{AreTrueRuns, most_runs}
use Rattle.rbbi_cache.specs.Edits.{IsSpliced, begins_pair, IsFirstPair, HasNoPair, left_part, moved_run, goes_whole, IsRightPart, Whole, Behind}
use Rattle.rbbi_cache.specs.Edits.{Nothing, has_entries, AreParts, AreKeptAfter}
use Rattle.rbbi_cache.specs.inner.Parts.{IsPlaced, IsMovable, is_found_at, moves_whole, part_behind, right_part, all_parts}
use Rattle.rbbi_cache.proofs.RunFacts.{all_by_splits}
use Rattle.rbbi_cache.proofs.RunFacts as facts
use Rattle.rbbi_cache.proofs.Keeping.{ordered}
use Rattle.rbbi_cache.proofs.Texts.{length_is}
use Rattle.rbbi_cache.proofs.Moving.{same_category}
use Rattle.rbbi_cache.proofs.LeftPart.{left_true}
use Rattle.rbbi_cache.proofs.RightPart.{same_leb, pair_begins, right_true}

-- a true run without its text
pub movable : (table : Table) → IsValidTable table → (x : List ℕ) (run : Run) → IsTrueRun table x run → length x ≤ most_characters → IsMovable run
movable table valid x run is_true small =
    record {
      ordered = ordered table valid x most_characters small run is_true;
      reaches_rise = is_true.reaches_rise;
      few = is_true.few;
      lie = all_by_splits (IsPlaced run.anchor) run.entries
          (λ front e rest whole. (
            ⊎_elim (λ zero. inl zero) (λ past. inr (omega (arith, past))) (facts.place table valid x run is_true front e rest whole),
            facts.at_by_reach table valid x run is_true front e rest whole,
            omega (arith, facts.within table valid x run is_true front e rest whole, small),
          ));
    }

module _ (table : Table) (valid : IsValidTable table) (x y : List ℕ) (at removed inserted : ℕ) (edited : IsSpliced x y at removed inserted) where
  -- a pair after the edit begins in both texts
  begins_same : (p q : ℕ) → at + removed ≤ p → p + inserted - removed ≡ q → begins_pair table x p ≡ begins_pair table y q
  begins_same p q behind is =
      let size = length_is x y at removed inserted edited in
      let room : leb (p + 2) (length x) ≡ leb (q + 2) (length y) =
      same_leb (p + 2) (length x) (q + 2) (length y) (λ there. omega (arith, size)) (λ here. omega (arith, size)) in
      let one : category_at table x p ≡ category_at table y q =
      sym (same_category table valid x y at removed inserted edited p behind) ∙ ap (category_at table y) is in
      let two : category_at table x (p + 1) ≡ category_at table y (q + 1) =
      sym (same_category table valid x y at removed inserted edited (p + 1) (omega arith))
      ∙ ap (category_at table y) (let e : p + 1 + inserted - removed ≡ q + 1 = omega arith in e) in
      ap (λ b. b && is_safe table (category_at table x p) (category_at table x (p + 1))) room
      ∙ ap (λ c. leb (q + 2) (length y) && is_safe table c (category_at table x (p + 1))) one
      ∙ ap (λ c. leb (q + 2) (length y) && is_safe table (category_at table y q) c) two

  -- whether a pair begins where the first one may begin
  found_first : (pair : Option ℕ) → MatchOption pair (HasNoPair table y (at + inserted)) (IsFirstPair table y (at + inserted)) →
      is_found_at pair (at + inserted) ≡ begins_pair table y (at + inserted)
  found_first None none = sym (none (at + inserted) (omega arith) (omega arith))
  found_first (Some q) first =
      ⊎_elim
      (λ is. eq-eqb q (at + inserted) is ∙ sym (ap (begins_pair table y) (sym is) ∙ first.begins))
      (λ later. ne_eqb q (at + inserted) later ∙ sym (first.none_before (at + inserted) (omega arith) (omega (arith, first.from, later))))
      (cases_eq q (at + inserted))

  module _ (pair : Option ℕ) (found : MatchOption pair (HasNoPair table y (at + inserted)) (IsFirstPair table y (at + inserted))) where
    same_whole : (run : Run) → IsTrueRun table x run → goes_whole table x at removed run ≡ moves_whole at removed inserted pair run
    same_whole run is_true =
        ⊎_elim
        (λ behind.
        let up_to : at + removed ≤ run.anchor = leb-true (at + removed) run.anchor behind in
        ap (λ b. leb (at + removed) run.anchor && b)
        (⊎_elim
        (λ zero.
        begins_same run.anchor (at + inserted) up_to (omega arith)
        ∙ sym (found_first pair found)
        ∙ sym (ap (λ b. not b || is_found_at pair (at + inserted)) (eq-eqb run.anchor 0 zero)))
        (λ some.
        ⊎_elim (λ zero. absurd (some zero)) (λ safe. pair_begins table valid x run.anchor safe.0 safe.1) is_true.anchor
        ∙ sym (ap (λ b. not b || is_found_at pair (at + inserted)) (ne_eqb run.anchor 0 some)))
        (cases_eq run.anchor 0)))
        (λ before.
        ap (λ b. b && begins_pair table x run.anchor) before
        ∙ sym (ap (λ b. b && (not (eqb run.anchor 0) || is_found_at pair (at + inserted))) before))
        (cases_Bool (leb (at + removed) run.anchor))

    right_behind : (pair : Option ℕ) → MatchOption pair (HasNoPair table y (at + inserted)) (IsFirstPair table y (at + inserted)) →
        (run : Run) → goes_whole table x at removed run ≡ false → IsRightPart table x y at removed inserted run (part_behind at removed inserted pair run)
    right_behind None none run fails = Nothing fails none
    right_behind (Some q) first run fails = Behind q fails first

    right_is : (run : Run) → IsTrueRun table x run → IsRightPart table x y at removed inserted run (right_part at removed inserted pair run)
    right_is run is_true =
        let same = same_whole run is_true in
        let whole : Run = moved_run at removed inserted run in
        let behind : Run = part_behind at removed inserted pair run in
        let Is : Run → Type 0 = IsRightPart table x y at removed inserted run in
        ⊎_elim
        (λ goes. subst Is (sym (cond-true (moves_whole at removed inserted pair run) whole behind (sym same ∙ goes))) (Whole goes))
        (λ fails. subst Is (sym (cond-false (moves_whole at removed inserted pair run) whole behind (sym same ∙ fails))) (right_behind pair found run fails))
        (cases_Bool (goes_whole table x at removed run))

    pub are_parts : (runs : List Run) → AreTrueRuns table x runs → AreParts table x y at removed inserted runs (all_parts at removed inserted pair runs)
    are_parts [] are_true = refl
    are_parts (run ∷ runs) are_true =
        (right_part at removed inserted pair run, all_parts at removed inserted pair runs, right_is run are_true.0, are_parts runs are_true.1, refl)

    pub are_kept : (runs now : List Run) → AreTrueRuns table x runs → now ≡ take most_runs (filter has_entries (all_parts at removed inserted pair runs)) →
        AreKeptAfter table x y at removed inserted runs now
    are_kept runs now are_true now_are = record { parts = all_parts at removed inserted pair runs; are_parts = are_parts runs are_true; now_are = now_are }

    some_entry : (run : Run) → has_entries run ≡ true → 1 ≤ length run.entries
    some_entry run has =
        ⊎_elim
        (λ none. absurd (false≢true (sym (ap not (eq-eqb (length run.entries) 0 none)) ∙ has)))
        (λ some. omega arith)
        (cases_eq (length run.entries) 0)

    parts_true : (runs : List Run) → AreTrueRuns table x runs → AllByRecursion (λ part. has_entries part ≡ true → IsTrueRun table y part)
        (all_parts at removed inserted pair runs)
    parts_true [] are_true = tt
    parts_true (run ∷ runs) are_true = (
      λ has. left_true table valid x y at removed inserted edited run are_true.0 (some_entry (left_part at run) has),
      (
        λ has. right_true table valid x y at removed inserted edited run are_true.0 (right_part at removed inserted pair run) (right_is run are_true.0)
            (some_entry (right_part at removed inserted pair run) has),
        parts_true runs are_true.1,
      ),
    )

    pub kept_true : (runs now : List Run) → AreTrueRuns table x runs → now ≡ take most_runs (filter has_entries (all_parts at removed inserted pair runs)) →
        AreTrueRuns table y now
    kept_true runs now are_true now_are =
        subst (AreTrueRuns table y) (sym now_are) (all_take (IsTrueRun table y) most_runs (filter has_entries (all_parts at removed inserted pair runs))
        (held (all_parts at removed inserted pair runs) (parts_true runs are_true)))
      where
        held : (runs : List Run) → AllByRecursion (λ part. has_entries part ≡ true → IsTrueRun table y part) runs →
            AllByRecursion (IsTrueRun table y) (filter has_entries runs)
        held [] each = tt
        held (run ∷ runs) each =
            ⊎_elim
            (λ has. subst (AllByRecursion (IsTrueRun table y))
            (sym (cond-true (has_entries run) (run ∷ filter has_entries runs) (filter has_entries runs) has)) (each.0 has, held runs each.1))
            (λ none. subst (AllByRecursion (IsTrueRun table y))
            (sym (cond-false (has_entries run) (run ∷ filter has_entries runs) (filter has_entries runs) none)) (held runs each.1))
            (cases_Bool (has_entries run))
