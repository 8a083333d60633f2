-- Runs that an edit leaves as they are, and runs that have no left part.
use Rattle.std.proofs.Common.{◌≡◌, ℕ, ◌+◌, ◌-◌, ◌<◌, ◌≤◌, ◌||◌, ◌&&◌, true, false, not, cond, ltb, leb, eqb, List, [], ◌∷◌, ◌++◌, length}
use Rattle.std.proofs.Common.{length-append, length-take, map, filter, take, drop, get_or, sym, refl, ap, ◌∙◌, arith}
use Rattle.std.specs.Prelude.{Option, Some, None}
use Rattle.std.specs.List.{AllByRecursion}
use Rattle.std.proofs.lemmas.Bool.{cond-true, cond-false, le-leb, lt-leb, le-ltb, ne_eqb}
use Rattle.std.proofs.Math.Bool.{and-true}
use Rattle.std.proofs.lemmas.List.{take_all, append-nil, get_or-drop}
use Rattle.rbbi_model.specs.Runs.{Entry, Run}
use Rattle.rbbi_cache.specs.Kept.{most_runs}
use Rattle.rbbi_cache.specs.Edits.{left_part, moved_entry, moved_run, has_entries}
use Rattle.rbbi_cache.specs.inner.Parts.{IsPlaced, IsMovable, moves_whole, is_found_at, part_behind, right_part, Stays, StaysBehind}
use Rattle.rbbi_cache.proofs.Lists.{filter_none}
use Rattle.rbbi_cache.proofs.Copied.{run_of, moved_other}
use Rattle.rbbi_cache.proofs.AddedParts.{none_added}

-- entries that reach no farther than a place lie no farther
none_behind : (anchor at removed : ℕ) (entries : List Entry) → AllByRecursion (IsPlaced anchor) entries → AllByRecursion (λ e. e.reach ≤ at) entries →
    AllByRecursion (λ e. ltb (at + removed) e.at ≡ false) entries
none_behind anchor at removed [] lie up = tt
none_behind anchor at removed (e ∷ entries) lie up =
    (le-ltb (at + removed) e.at (let low = lie.0.1 in omega (arith, up.0)), none_behind anchor at removed entries lie.1 up.1)

module _ (at removed : ℕ) (run : Run) (movable : IsMovable run) (some : 0 < length run.entries) (before : run.anchor < at)
    (all : AllByRecursion (λ e. e.reach ≤ at) run.entries) (whole : run.entries ≡ filter (λ e. leb e.reach at) run.entries) where
  no_right : (inserted : ℕ) (pair : Option ℕ) → has_entries (part_behind at removed inserted pair run) ≡ false
  no_right inserted None = refl
  no_right inserted (Some q) =
      ap (λ l. not (eqb (length (filter (λ (e : Entry). leb (q + 2) e.at) (map (moved_entry removed inserted) l))) 0))
      (filter_none (λ e. ltb (at + removed) e.at) run.entries (none_behind run.anchor at removed run.entries movable.lie all))

  pub stays_so : Stays at removed run
  stays_so = record {
    some = ap not (ne_eqb (length run.entries) 0 (λ none. omega arith));
    left = let of : List Entry → Run = λ l. record { anchor = run.anchor; entries = l; leads = run.leads } in sym (ap of whole);
    right = λ inserted pair.
        let whole_no : moves_whole at removed inserted pair run ≡ false =
        ap (λ b. b && (not (eqb run.anchor 0) || is_found_at pair (at + inserted))) (lt-leb (at + removed) run.anchor (omega arith)) in
        ap has_entries (cond-false (moves_whole at removed inserted pair run) (moved_run at removed inserted run) (part_behind at removed inserted pair run)
        whole_no) ∙ no_right inserted pair;
  }

-- entries that lie past an anchor other than 0 reach past each place up to it
past_anchor : (anchor at : ℕ) (entries : List Entry) → at ≤ anchor → 0 < anchor → AllByRecursion (IsPlaced anchor) entries →
    AllByRecursion (λ e. leb e.reach at ≡ false) entries
past_anchor anchor at [] up some lie = tt
past_anchor anchor at (e ∷ entries) up some lie =
    (lt-leb e.reach at (let low = lie.0.0 in let far = lie.0.1 in omega arith), past_anchor anchor at entries up some lie.1)

pub no_left : (at : ℕ) (run : Run) → IsMovable run → at ≤ run.anchor → 0 < run.anchor → has_entries (left_part at run) ≡ false
no_left at run movable up some =
    ap (λ (l : List Entry). not (eqb (length l) 0))
    (filter_none (λ e. leb e.reach at) run.entries (past_anchor run.anchor at run.entries up some movable.lie))

-- entries that move by nothing
unmoved_entry : (removed inserted : ℕ) (e : Entry) → removed ≡ inserted → moved_entry removed inserted e ≡ e
unmoved_entry removed inserted e same =
    let of : ℕ → ℕ → Entry = λ a r. record { at = a; status = e.status; reach = r } in
    let place : e.at + inserted - removed ≡ e.at = omega arith in
    let far : e.reach + inserted - removed ≡ e.reach = omega arith in
    ap (λ a. of a (e.reach + inserted - removed)) place ∙ ap (of e.at) far

unmoved : (removed inserted : ℕ) (entries : List Entry) → removed ≡ inserted → map (moved_entry removed inserted) entries ≡ entries
unmoved removed inserted [] same = refl
unmoved removed inserted (e ∷ entries) same =
    ap (λ x. x ∷ map (moved_entry removed inserted) entries) (unmoved_entry removed inserted e same)
    ∙ ap (λ l. e ∷ l) (unmoved removed inserted entries same)

module _ (at removed inserted : ℕ) (run : Run) (past : 0 < run.anchor) (behind : at + removed ≤ run.anchor) (same : removed ≡ inserted) where
  is_whole : (pair : Option ℕ) → moves_whole at removed inserted pair run ≡ true
  is_whole pair =
      ap (λ b. b && (not (eqb run.anchor 0) || is_found_at pair (at + inserted))) (le-leb (at + removed) run.anchor behind)
      ∙ ap (λ b. not b || is_found_at pair (at + inserted)) (ne_eqb run.anchor 0 (λ none. omega arith))

  unmoved_run : moved_run at removed inserted run ≡ run
  unmoved_run =
      let moved : List Entry = map (moved_entry removed inserted) run.entries in
      let anchor : run.anchor + inserted - removed ≡ run.anchor = omega arith in
      moved_other at removed inserted run past
      ∙ ap (λ n. run_of n (run.leads && not (eqb n 0)) moved) anchor
      ∙ ap (λ b. run_of run.anchor (run.leads && not b) moved) (ne_eqb run.anchor 0 (λ none. omega arith))
      ∙ ap (λ b. run_of run.anchor b moved) (and-true run.leads)
      ∙ ap (run_of run.anchor run.leads) (unmoved removed inserted run.entries same)

  pub stays_behind_so : IsMovable run → 0 < length run.entries → StaysBehind at removed inserted run
  stays_behind_so movable some = record {
    some = ap not (ne_eqb (length run.entries) 0 (λ none. omega arith));
    left = no_left at run movable (omega arith) past;
    right = λ pair.
        cond-true (moves_whole at removed inserted pair run) (moved_run at removed inserted run) (part_behind at removed inserted pair run) (is_whole pair)
        ∙ unmoved_run;
  }

-- A run that is added whole is what its parts add: it is one of them, and the other has no entry.
module _ (next added : List Run) (count at removed inserted : ℕ) (pair : Option ℕ) (run : Run) (few : count < 16)
    (added_is : added ≡ take count next ++ run ∷ []) where
  abbrev left_list : List Run
  left_list = cond (has_entries (left_part at run)) (left_part at run ∷ []) []

  abbrev right_list : List Run
  right_list = cond (has_entries (right_part at removed inserted pair run)) (right_part at removed inserted pair run ∷ []) []

  all_fit : added ≡ take most_runs (take count next ++ run ∷ [])
  all_fit =
      added_is ∙ sym (take_all most_runs (take count next ++ run ∷ []) (omega (arith, length-append (take count next) (run ∷ []), length-take count next)))

  pub whole_left : Stays at removed run → added ≡ take most_runs (take most_runs (take count next ++ left_list) ++ right_list)
  whole_left stays =
      let all : List Run = take count next ++ run ∷ [] in
      let short : length (take most_runs (take count next ++ run ∷ [])) ≤ 16 = omega (arith, length-take most_runs (take count next ++ run ∷ [])) in
      all_fit
      ∙ sym (take_all most_runs (take most_runs all) short)
      ∙ ap (take most_runs) (sym (append-nil (take most_runs all)))
      ∙ sym (ap (λ l. take most_runs (take most_runs (take count next ++ l) ++ right_list))
      (ap (λ r. cond (has_entries r) (r ∷ []) []) stays.left ∙ cond-true (has_entries run) (run ∷ []) [] stays.some)
      ∙ ap (λ l. take most_runs (take most_runs all ++ l))
      (cond-false (has_entries (right_part at removed inserted pair run)) (right_part at removed inserted pair run ∷ []) [] (stays.right inserted pair)))

  pub whole_right : StaysBehind at removed inserted run → added ≡ take most_runs (take most_runs (take count next ++ left_list) ++ right_list)
  whole_right stays =
      all_fit
      ∙ ap (λ l. take most_runs (l ++ run ∷ [])) (none_added next count (left_part at run) (omega arith) stays.left)
      ∙ ap (λ l. take most_runs (take most_runs (take count next ++ left_list) ++ l))
      (sym (ap (λ r. cond (has_entries r) (r ∷ []) []) (stays.right pair) ∙ cond-true (has_entries run) (run ∷ []) [] stays.some))

-- lists that are the same from a number on have the same there
pub same_after : (xs ys : List Run) (k : ℕ) (d : Run) → drop k xs ≡ drop k ys → get_or xs k d ≡ get_or ys k d
same_after xs ys k d same =
    ap (λ n. get_or xs n d) (let s : k ≡ k + 0 = omega arith in s) ∙ sym (get_or-drop k xs 0 d) ∙ ap (λ l. get_or l 0 d) same ∙ get_or-drop k ys 0 d
    ∙ ap (λ n. get_or ys n d) (let s : k + 0 ≡ k = omega arith in s)
