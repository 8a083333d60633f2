-- A true run that lies after an edit is true of the new text when it is moved.
use Rattle.std.proofs.Common.{◌≡◌, ℕ, ◌+◌, ◌-◌, ◌<◌, ◌≤◌, ◌⊎◌, Bool, List, [], ◌∷◌, ◌++◌, length, map, get_or, sym, refl, ap, ◌∙◌, subst, inl, inr, ⊎_elim}
use Rattle.std.proofs.Common.{append_assoc, arith}
use Rattle.std.specs.Prelude.{IsTrue}
use Rattle.std.specs.List.{AllByRecursion}
use Rattle.std.proofs.lemmas.List.{map-append, get_or-drop, length-map}
use Rattle.rbbi_model.specs.Places.{largest}
use Rattle.rbbi_model.specs.Boundaries.{Boundary}
use Rattle.rbbi_model.specs.Tables.{Table, category_of}
use Rattle.rbbi_model.specs.SafePairs.{IsSafePair}
use Rattle.rbbi_model.specs.ValidTables.{IsValidTable}
use Rattle.rbbi_model.specs.Searches.{look_end, next_boundary, follow_by, fresh}
use Rattle.rbbi_model.specs.Runs.{Entry, Run, category_at, low, boundary_of, farthest_look, ReachesRise, LeadsTruly, IsTrueRun}
use Rattle.rbbi_model.proofs.Found.{found_lies}
use Rattle.rbbi_model.proofs.SearchesAlike.{finds_alike}
use Rattle.rbbi_model.proofs.Lists.{all_append, all_left, all_through}
use Rattle.rbbi_cache.specs.Edits.{IsSpliced, moved_entry}
use Rattle.rbbi_cache.proofs.Lists.{all_map, everywhere}
use Rattle.rbbi_cache.specs.inner.Scans.{Reached}
use Rattle.rbbi_cache.proofs.Reached.{first_member, farthest_is, rest_after, reached_start}
use Rattle.rbbi_cache.proofs.Paths.{Path, Here, Then, IsCarried, carried, moved, path_moved, path_reaches}
use Rattle.rbbi_cache.proofs.RunFacts.{all_by_splits, path_short}
use Rattle.rbbi_cache.proofs.RunFacts as facts
use Rattle.rbbi_cache.proofs.LeftPart.{has_last}
use Rattle.rbbi_cache.proofs.Texts.{length_is, same_behind, alike_behind, room_behind}

pub largest_least : (k : ℕ) (ns : List ℕ) → AllByRecursion (λ n. n ≤ k) ns → largest ns ≤ k
largest_least k [] each = omega arith
largest_least k (n ∷ ns) each = omega (arith, each.0, largest_least k ns each.1)

-- each member lies at the start of the path or after it
pub path_from : (table : Table) (x : List ℕ) (b : Boundary) (done : List Boundary) (c : Boundary) → Path table x b done c →
    AllByRecursion (λ m. b.at ≤ m.at) done × (b.at ≤ c.at)
path_from table x _ _ _ (Here b) = (tt, omega arith)
path_from table x _ _ _ (Then b done c short path) =
    let next : Boundary = next_boundary table x b.at in
    let lies = found_lies table x b.at short in
    let later = path_from table x next done c path in
    ((omega arith, all_through (λ m. next.at ≤ m.at) (λ m. b.at ≤ m.at) (λ m from. omega (arith, from, lies.0)) done later.0), omega (arith, later.1, lies.0))

rises_moved : (removed inserted : ℕ) (entries : List Entry) → ReachesRise entries → ReachesRise (map (moved_entry removed inserted) entries)
rises_moved removed inserted [] rise = tt
rises_moved removed inserted (e ∷ []) rise = tt
rises_moved removed inserted (e ∷ f ∷ entries) rise = (omega (arith, rise.0), rises_moved removed inserted (f ∷ entries) rise.1)

module _ (table : Table) (valid : IsValidTable table) (x y : List ℕ) (at removed inserted : ℕ) (edited : IsSpliced x y at removed inserted) where
  -- the categories after the edit are the same
  pub same_category : (p : ℕ) → at + removed ≤ p → category_at table y (p + inserted - removed) ≡ category_at table x p
  same_category p from =
      ap (category_of table.ranges)
      (ap (λ n. get_or y n 0) (let e : p + inserted - removed ≡ p + inserted - removed + 0 = omega arith in e)
      ∙ sym (get_or-drop (p + inserted - removed) y 0 0)
      ∙ ap (λ z. get_or z 0 0) (same_behind x y at removed inserted edited p from)
      ∙ get_or-drop p x 0 0
      ∙ ap (λ n. get_or x n 0) (let e : p + 0 ≡ p = omega arith in e))

  pub pair_moves : (p : ℕ) → at + removed ≤ p → p + 2 ≤ length x → IsSafePair table (category_at table x p) (category_at table x (p + 1)) →
      (p + inserted - removed + 2 ≤ length y) × IsSafePair table (category_at table y (p + inserted - removed))
      (category_at table y (p + inserted - removed + 1))
  pair_moves p from room safe =
      let next : p + 1 + inserted - removed ≡ p + inserted - removed + 1 = omega arith in (
        omega (arith, length_is x y at removed inserted edited),
        subst (λ c. IsSafePair table c (category_at table y (p + inserted - removed + 1))) (sym (same_category p from))
            (subst (λ c. IsSafePair table (category_at table x p) c) (sym (ap (category_at table y) (sym next) ∙ same_category (p + 1) (omega arith))) safe),
      )

  carries : (b : Boundary) → at + removed ≤ b.at → b.at < length x → IsCarried table x y (λ q. q + inserted - removed) b
  carries b from short =
      carried table x y (λ q. q + inserted - removed) b (alike_behind x y at removed inserted edited table b.at from short)
      (room_behind x y at removed inserted edited b.at from short) (λ q later. omega arith)

  moved_boundaries : (entries : List Entry) → map (moved table x y (λ q. q + inserted - removed)) (map (boundary_of table) entries) ≡ map (boundary_of table)
      (map (moved_entry removed inserted) entries)
  moved_boundaries [] = refl
  moved_boundaries (e ∷ entries) = ap (λ l. boundary_of table (moved_entry removed inserted e) ∷ l) (moved_boundaries entries)

  module _ (run : Run) (is_true : IsTrueRun table x run) (behind : at + removed ≤ run.anchor) (room : run.anchor + 2 ≤ length x)
      (safe : IsSafePair table (category_at table x run.anchor) (category_at table x (run.anchor + 1))) where
    module _ (front : List Entry) (entry : Entry) (rest : List Entry) (whole : run.entries ≡ front ++ entry ∷ rest) where
      path : Path table x (first_member run.anchor) (is_true.consecutive.before ++ map (boundary_of table) front) (boundary_of table entry)
      path = facts.path_is table valid x run is_true front entry rest whole

      all_behind : AllByRecursion (λ m. (at + removed ≤ m.at) × (m.at < length x)) (is_true.consecutive.before ++ map (boundary_of table) front)
      all_behind =
          both (is_true.consecutive.before ++ map (boundary_of table) front)
          (path_from table x (first_member run.anchor) (is_true.consecutive.before ++ map (boundary_of table) front) (boundary_of table entry) path).0
          (path_short table x (first_member run.anchor) (is_true.consecutive.before ++ map (boundary_of table) front) (boundary_of table entry) path)
        where
          both : (bs : List Boundary) → AllByRecursion (λ m. run.anchor ≤ m.at) bs → AllByRecursion (λ m. m.at < length x) bs →
              AllByRecursion (λ m. (at + removed ≤ m.at) × (m.at < length x)) bs
          both [] from short = tt
          both (b ∷ bs) from short = ((omega (arith, from.0), short.0), both bs from.1 short.1)

      pub reached_moves : Reached table y (run.anchor + inserted - removed)
          (map (moved table x y (λ q. q + inserted - removed)) (is_true.consecutive.before ++ map (boundary_of table) front))
          (boundary_of table (moved_entry removed inserted entry))
      reached_moves =
          let done : List Boundary = is_true.consecutive.before ++ map (boundary_of table) front in
          let move : Boundary → Boundary = moved table x y (λ q. q + inserted - removed) in
          path_reaches table y (run.anchor + inserted - removed) [] (first_member (run.anchor + inserted - removed)) (map move done)
          (boundary_of table (moved_entry removed inserted entry))
          (reached_start table y (run.anchor + inserted - removed))
          (path_moved table x y (λ q. q + inserted - removed) (first_member run.anchor) done (boundary_of table entry) path
          (all_through (λ m. (at + removed ≤ m.at) × (m.at < length x)) (IsCarried table x y (λ q. q + inserted - removed))
          (λ m facts. carries m facts.0 facts.1) done all_behind))

      looks_move : (bs : List Boundary) → AllByRecursion (λ m. (at + removed ≤ m.at) × (m.at < length x)) bs →
          AllByRecursion (λ m. look_end table x m.at ≤ entry.reach) bs →
          AllByRecursion (λ n. n ≤ entry.reach + inserted - removed) (map (λ m. look_end table y m.at) (map (moved table x y (λ q. q + inserted - removed)) bs))
      looks_move [] each looks = tt
      looks_move (b ∷ bs) each looks =
          let finds = finds_alike table x y b.at (b.at + inserted - removed) (alike_behind x y at removed inserted edited table b.at each.0.0 each.0.1) in
          (omega (arith, finds.look, looks.0, each.0.0), looks_move bs each.1 looks.1)

      pub farthest_moves : farthest_look table y (run.anchor + inserted - removed) (entry.at + inserted - removed) ≤ entry.reach + inserted - removed
      farthest_moves =
          let done : List Boundary = is_true.consecutive.before ++ map (boundary_of table) front in
          let move : Boundary → Boundary = moved table x y (λ q. q + inserted - removed) in
          omega (
            arith,
            farthest_is table y (run.anchor + inserted - removed) (map move done) (boundary_of table (moved_entry removed inserted entry)) reached_moves,
            largest_least (entry.reach + inserted - removed) (map (λ m. look_end table y m.at) (map move done))
                (looks_move done all_behind (facts.looks table valid x run is_true front entry rest whole)),
          )

    -- the moved run, with a mark of its own whether it leads
    module _ (leads : Bool) (first : Entry) (more : List Entry) (whole : run.entries ≡ first ∷ more)
        (far : (run.anchor + inserted - removed ≡ 0) ⊎ AllByRecursion (λ e. run.anchor + inserted - removed + 2 ≤ e.at + inserted - removed) run.entries)
        (leading : IsTrue leads → AllByRecursion (λ m. low (run.anchor + inserted - removed) ≤ m.at + inserted - removed → first.at ≤ m.at)
        (fresh table x run.anchor)) where
      consecutive : (before : List Boundary) × (after : List Boundary) ×
          (fresh table y (run.anchor + inserted - removed) ≡ (before ++ map (boundary_of table) (map (moved_entry removed inserted) (first ∷ more))) ++ after)
      consecutive =
          let last = has_last first more in
          let b : Entry → Boundary = boundary_of table in
          let m : Entry → Entry = moved_entry removed inserted in
          let mv : Boundary → Boundary = moved table x y (λ q. q + inserted - removed) in
          let before : List Boundary = is_true.consecutive.before in
          let reached = reached_moves last.front last.last [] (whole ∙ last.whole) in
          let rest : List Boundary = follow_by (next_boundary table y) (length y) reached.most (b (m last.last)) in (
            map mv before,
            rest,
            reached.whole
                ∙ ap (λ bs. bs ++ b (m last.last) ∷ rest) (map-append mv before (map b last.front)
                ∙ ap (λ bs. map mv before ++ bs) (moved_boundaries last.front))
                ∙ sym (append_assoc (map mv before ++ map b (map m last.front)) (b (m last.last) ∷ []) rest)
                ∙ ap (λ bs. bs ++ rest)
                (append_assoc (map mv before) (map b (map m last.front)) (b (m last.last) ∷ [])
                ∙ ap (λ bs. map mv before ++ bs) (sym (map-append b (map m last.front) (m last.last ∷ []))
                ∙ ap (map b) (sym (map-append m last.front (last.last ∷ [])) ∙ ap (map m) (sym last.whole)))),
          )

      leads_moves : IsTrue leads → LeadsTruly table y (run.anchor + inserted - removed) (map (moved_entry removed inserted) (first ∷ more))
      leads_moves is =
          let b : Entry → Boundary = boundary_of table in
          let before : List Boundary = is_true.consecutive.before in
          let mv : Boundary → Boundary = moved table x y (λ q. q + inserted - removed) in
          let first' : Entry = moved_entry removed inserted first in
          let P : Boundary → Type 0 = λ m. low (run.anchor + inserted - removed) ≤ m.at → first'.at ≤ m.at in
          let Q : Boundary → Type 0 = λ m. low (run.anchor + inserted - removed) ≤ m.at + inserted - removed → first.at ≤ m.at in
          let reached = reached_moves [] first more whole in
          let old : AllByRecursion Q before =
          all_left Q before (map b run.entries ++ is_true.consecutive.after)
          (subst (λ bs. AllByRecursion Q bs) (is_true.consecutive.whole ∙ append_assoc before (map b run.entries) is_true.consecutive.after)
          (leading is)) in
          subst (λ bs. AllByRecursion P bs) (sym reached.whole)
          (all_append P (map mv (before ++ [])) (b first' ∷ follow_by (next_boundary table y) (length y) reached.most (b first'))
          (all_map mv P (before ++ [])
          (all_append (λ m. P (mv m)) before [] (all_through Q (λ m. P (mv m)) (λ m holds from. omega (arith, holds from)) before old) tt)) (
            λ _. omega arith,
            all_through (λ m. first'.at < m.at) P (λ m later _. omega (arith, later)) (follow_by (next_boundary table y) (length y) reached.most (b first'))
                (rest_after table y (run.anchor + inserted - removed) (map mv (before ++ [])) (b first') reached),
          ))

      pub true_moves : IsTrueRun table y (record {
        anchor = run.anchor + inserted - removed;
        entries =
            map (moved_entry removed inserted) run.entries;
        leads = leads;
      })
      true_moves =
          let pair = pair_moves run.anchor behind room safe in
          let few = is_true.few in
          let some = is_true.some in
          let of : List Entry → Run =
          λ entries. record { anchor = run.anchor + inserted - removed; entries = map (moved_entry removed inserted) entries; leads = leads } in
          subst (λ entries. IsTrueRun table y (of entries)) (sym whole)
          (record {
            anchor = inr pair;
            some = omega (arith, length-map (first ∷ more) (moved_entry removed inserted));
            few = omega (arith, length-map (first ∷ more) (moved_entry removed inserted), ap length whole);
            consecutive = record { before = consecutive.0; after = consecutive.1; whole = consecutive.2 };
            places = all_map (moved_entry removed inserted) (λ e. (run.anchor + inserted - removed ≡ 0) ⊎ (run.anchor + inserted - removed + 2 ≤ e.at))
                (first ∷ more)
                (subst (λ l. AllByRecursion (λ e. (run.anchor + inserted - removed ≡ 0) ⊎ (run.anchor + inserted - removed + 2 ≤ e.at + inserted - removed))
                l) whole
                (⊎_elim
                (λ zero. everywhere (λ e. (run.anchor + inserted - removed ≡ 0) ⊎ (run.anchor + inserted - removed + 2 ≤ e.at + inserted - removed))
                (λ e. inl zero) run.entries)
                (λ each. all_through (λ e. run.anchor + inserted - removed + 2 ≤ e.at + inserted - removed)
                (λ e. (run.anchor + inserted - removed ≡ 0) ⊎ (run.anchor + inserted - removed + 2 ≤ e.at + inserted - removed)) (λ e past. inr past)
                run.entries each)
                far));
            reach_enough = all_map (moved_entry removed inserted) (λ e. farthest_look table y (run.anchor + inserted - removed) e.at ≤ e.reach) (first ∷ more)
                (all_by_splits (λ e. farthest_look table y (run.anchor + inserted - removed) (e.at + inserted - removed) ≤ e.reach + inserted - removed)
                (first ∷ more)
                (λ front e after is. farthest_moves front e after (whole ∙ is)));
            reach_within = all_map (moved_entry removed inserted) (λ e. e.reach ≤ length y + 1) (first ∷ more)
                (all_through (λ e. e.reach ≤ length x + 1) (λ e. e.reach + inserted - removed ≤ length y + 1)
                (λ e within. omega (arith, length_is x y at removed inserted edited)) (first ∷ more)
                (subst (λ l. AllByRecursion (λ e. e.reach ≤ length x + 1) l) whole is_true.reach_within));
            reaches_rise = rises_moved removed inserted (first ∷ more) (subst ReachesRise whole is_true.reaches_rise);
            leads = leads_moves;
          })
