-- The left part of a true run is true of the edited text.
use Rattle.std.proofs.Common.{◌≡◌, ℕ, ◌+◌, ◌<◌, ◌≤◌, ◌⊎◌, false, leb, List, [], ◌∷◌, ◌++◌, length, map, filter, sym, refl, ap, ◌∙◌, subst, inl, inr, ⊎_elim}
use Rattle.std.proofs.Common.{append_assoc, arith}
use Rattle.std.specs.List.{AllByRecursion}
use Rattle.std.proofs.lemmas.Bool.{cond-true, cases_lt, le-leb, lt-leb}
use Rattle.std.proofs.lemmas.List.{map-append, append-nil, get_or-take}
use Rattle.std.proofs.Common.{get_or, length-append}
use Rattle.std.specs.Prelude.{IsTrue}
use Rattle.rbbi_model.specs.Places.{largest}
use Rattle.rbbi_model.specs.Boundaries.{Boundary}
use Rattle.rbbi_model.specs.Tables.{Table, category_of}
use Rattle.rbbi_model.specs.SafePairs.{IsSafePair}
use Rattle.rbbi_model.specs.ValidTables.{IsValidTable}
use Rattle.rbbi_model.specs.Searches.{look_end, next_boundary, follow_by, fresh}
use Rattle.rbbi_model.specs.Runs.{Entry, Run, category_at, IsAnchor, low, boundary_of, farthest_look, ReachesRise, LeadsTruly, IsTrueRun}
use Rattle.rbbi_model.proofs.SearchesAlike.{finds_alike}
use Rattle.rbbi_model.proofs.Lists.{all_append, all_left, all_right, all_through}
use Rattle.rbbi_cache.specs.Edits.{IsSpliced, left_part}
use Rattle.rbbi_cache.proofs.Lists.{filter_none}
use Rattle.rbbi_cache.specs.inner.Scans.{Reached}
use Rattle.rbbi_cache.proofs.Reached.{first_member, farthest_is, rest_after}
use Rattle.rbbi_cache.proofs.Paths.{Path, IsCarried, carried, path_moved, path_reaches}
use Rattle.rbbi_cache.proofs.Reached.{reached_start}
use Rattle.rbbi_cache.proofs.RunFacts.{all_by_splits, path_short}
use Rattle.rbbi_cache.proofs.RunFacts as facts
use Rattle.rbbi_cache.proofs.Texts.{length_is, left_stays, alike_before, room_before}

-- where reaches rise, those up to a place are the first ones
pub record AreFirst (at : ℕ) (entries : List Entry) : Type 0 where
  pub left : List Entry
  pub rest : List Entry
  pub whole : entries ≡ left ++ rest
  pub kept : filter (λ e. leb e.reach at) entries ≡ left
  pub each : AllByRecursion (λ e. e.reach ≤ at) left
  pub later : AllByRecursion (λ e. at < e.reach) rest

pub reaches_after : (entry : Entry) (entries : List Entry) → ReachesRise (entry ∷ entries) → AllByRecursion (λ e. entry.reach ≤ e.reach) entries
reaches_after entry [] rise = tt
reaches_after entry (next ∷ entries) rise = (
  rise.0,
  all_through (λ e. next.reach ≤ e.reach) (λ e. entry.reach ≤ e.reach) (λ e less. omega (arith, less, rise.0)) entries
      (reaches_after next entries rise.1),
)

pub reaches_tail : (entry : Entry) (entries : List Entry) → ReachesRise (entry ∷ entries) → ReachesRise entries
reaches_tail entry [] rise = tt
reaches_tail entry (next ∷ entries) rise = rise.1

pub are_first : (at : ℕ) (entries : List Entry) → ReachesRise entries → AreFirst at entries
are_first at [] rise = record { left = []; rest = []; whole = refl; kept = refl; each = tt; later = tt }
are_first at (entry ∷ entries) rise =
    ⊎_elim
    (λ beyond.
    let all : AllByRecursion (λ e. at < e.reach) (entry ∷ entries) =
    (beyond, all_through (λ e. entry.reach ≤ e.reach) (λ e. at < e.reach) (λ e less. omega arith) entries (reaches_after entry entries rise)) in
    record {
      left = [];
      rest = entry ∷ entries;
      whole = refl;
      kept = filter_none (λ e. leb e.reach at) (entry ∷ entries)
          (all_through (λ e. at < e.reach) (λ e. leb e.reach at ≡ false) (λ e more. lt-leb e.reach at more) (entry ∷ entries) all);
      each = tt;
      later = all;
    })
    (λ up_to.
    let first = are_first at entries (reaches_tail entry entries rise) in
    record {
      left = entry ∷ first.left;
      rest = first.rest;
      whole = ap (λ l. entry ∷ l) first.whole;
      kept = cond-true (leb entry.reach at) (entry ∷ filter (λ e. leb e.reach at) entries) (filter (λ e. leb e.reach at) entries)
          (le-leb entry.reach at up_to) ∙ ap (λ l. entry ∷ l) first.kept;
      each = (up_to, first.each);
      later = first.later;
    })
    (cases_lt at entry.reach)

rise_left : (left rest : List Entry) → ReachesRise (left ++ rest) → ReachesRise left
rise_left [] rest rise = tt
rise_left (e ∷ []) rest rise = tt
rise_left (e ∷ f ∷ left) rest rise = (rise.0, rise_left (f ∷ left) rest rise.1)

-- the last of some entries
pub record HasLast (entries : List Entry) : Type 0 where
  pub front : List Entry
  pub last : Entry
  pub whole : entries ≡ front ++ last ∷ []

pub has_last : (entry : Entry) (entries : List Entry) → HasLast (entry ∷ entries)
has_last entry [] = record { front = []; last = entry; whole = refl }
has_last entry (next ∷ entries) = let later = has_last next entries in record {
  front = entry ∷ later.front;
  last = later.last;
  whole =
      ap (λ l. entry ∷ l) later.whole;
}

stay : (bs : List Boundary) → map (λ (b : Boundary). let c : Boundary = record { at = b.at; statuses = b.statuses } in c) bs ≡ bs
stay [] = refl
stay (b ∷ bs) = ap (λ l. b ∷ l) (stay bs)

module _ (table : Table) (valid : IsValidTable table) (x y : List ℕ) (at removed inserted : ℕ) (edited : IsSpliced x y at removed inserted) (run : Run)
    (is_true : IsTrueRun table x run) where
  here : (b : Boundary) → b.at < length x → look_end table x b.at ≤ at → IsCarried table x y (λ q. q) b
  here b short look =
      carried table x y (λ q. q) b (alike_before x y at removed inserted edited table b.at short look)
      (room_before x y at removed inserted edited table b.at short look) (λ q from. refl)

  module _ (front : List Entry) (entry : Entry) (rest : List Entry) (whole : run.entries ≡ front ++ entry ∷ rest) (up_to : entry.reach ≤ at) where
    done : List Boundary
    done = is_true.consecutive.before ++ map (boundary_of table) front

    each_short : AllByRecursion (λ m. (m.at < length x) × (look_end table x m.at ≤ at)) (is_true.consecutive.before ++ map (boundary_of table) front)
    each_short =
        both (is_true.consecutive.before ++ map (boundary_of table) front)
        (path_short table x (first_member run.anchor) (is_true.consecutive.before ++ map (boundary_of table) front) (boundary_of table entry)
        (facts.path_is table valid x run is_true front entry rest whole))
        (facts.looks table valid x run is_true front entry rest whole)
      where
        both : (bs : List Boundary) → AllByRecursion (λ m. m.at < length x) bs → AllByRecursion (λ m. look_end table x m.at ≤ entry.reach) bs →
            AllByRecursion (λ m. (m.at < length x) × (look_end table x m.at ≤ at)) bs
        both [] short looks = tt
        both (b ∷ bs) short looks = ((short.0, omega (arith, looks.0)), both bs short.1 looks.1)

    path_stays : Path table y (first_member run.anchor) (is_true.consecutive.before ++ map (boundary_of table) front) (boundary_of table entry)
    path_stays =
        let done : List Boundary = is_true.consecutive.before ++ map (boundary_of table) front in
        subst (λ bs. Path table y (first_member run.anchor) bs (boundary_of table entry)) (stay done)
        (path_moved table x y (λ q. q) (first_member run.anchor) done (boundary_of table entry)
        (facts.path_is table valid x run is_true front entry rest whole)
        (all_through (λ m. (m.at < length x) × (look_end table x m.at ≤ at)) (IsCarried table x y (λ q. q)) (λ m facts. here m facts.0 facts.1) done
        each_short))

    pub reached_stays : Reached table y run.anchor (is_true.consecutive.before ++ map (boundary_of table) front) (boundary_of table entry)
    reached_stays = path_reaches table y run.anchor [] (first_member run.anchor) (is_true.consecutive.before ++ map (boundary_of table) front)
        (boundary_of table entry) (reached_start table y run.anchor) path_stays

    same_look : (bs : List Boundary) → AllByRecursion (λ m. (m.at < length x) × (look_end table x m.at ≤ at)) bs → map (λ m. look_end table y m.at) bs ≡ map
        (λ m. look_end table x m.at) bs
    same_look [] each = refl
    same_look (b ∷ bs) each =
        let finds = finds_alike table x y b.at b.at (alike_before x y at removed inserted edited table b.at each.0.0 each.0.1) in
        let look : look_end table y b.at ≡ look_end table x b.at = omega (arith, finds.look) in
        ap (λ n. n ∷ map (λ m. look_end table y m.at) bs) look ∙ ap (λ l. look_end table x b.at ∷ l) (same_look bs each.1)

    pub farthest_stays : farthest_look table y run.anchor entry.at ≤ entry.reach
    farthest_stays =
        let done : List Boundary = is_true.consecutive.before ++ map (boundary_of table) front in
        omega (
          arith,
          facts.enough table valid x run is_true front entry rest whole,
          farthest_is table y run.anchor done (boundary_of table entry) reached_stays,
          farthest_is table x run.anchor done (boundary_of table entry) (facts.reached_is table valid x run is_true front entry rest whole),
          ap largest (same_look done each_short),
        )

  -- the run's anchor is one of the new text, where an entry after it is found without looking at the edit
  anchor_stays : (front : List Entry) (entry : Entry) (rest : List Entry) → run.entries ≡ front ++ entry ∷ rest → entry.reach ≤ at → IsAnchor table y run.anchor
  anchor_stays front entry rest whole up_to =
      ⊎_elim
      inl
      (λ pair. ⊎_elim
      inl
      (λ past.
      let near : run.anchor + 2 ≤ at = omega (arith, facts.at_by_reach table valid x run is_true front entry rest whole) in
      let within = edited.within in
      let same : (q : ℕ) → q < at → category_at table y q ≡ category_at table x q =
      λ q before. ap (category_of table.ranges) (sym (get_or-take at y q 0 before) ∙ ap (λ z. get_or z q 0) (left_stays x y at removed inserted edited)
      ∙ get_or-take at x q 0 before) in
      inr (
        omega (arith, length_is x y at removed inserted edited),
        subst (λ c. IsSafePair table c (category_at table y (run.anchor + 1))) (sym (same run.anchor (omega arith)))
            (subst (λ c. IsSafePair table (category_at table x run.anchor) c) (sym (same (run.anchor + 1) (omega arith))) pair.1),
      ))
      (facts.place table valid x run is_true front entry rest whole))
      is_true.anchor

  module _ (first : Entry) (more : List Entry) (rest : List Entry) (whole : run.entries ≡ (first ∷ more) ++ rest)
      (each : AllByRecursion (λ e. e.reach ≤ at) (first ∷ more)) where
    -- the entries and what follows them in the new text
    consecutive : (after : List Boundary) × (fresh table y run.anchor ≡ (is_true.consecutive.before ++ map (boundary_of table) (first ∷ more)) ++ after)
    consecutive =
        let last = has_last first more in
        let b : Entry → Boundary = boundary_of table in
        let split : run.entries ≡ last.front ++ last.last ∷ rest = whole ∙ ap (λ l. l ++ rest) last.whole ∙ append_assoc last.front (last.last ∷ []) rest in
        let up_to : last.last.reach ≤ at =
        (all_right (λ e. e.reach ≤ at) last.front (last.last ∷ []) (subst (λ l. AllByRecursion (λ e. e.reach ≤ at) l) last.whole each)).0 in
        let reached = reached_stays last.front last.last rest split up_to in (
          follow_by (next_boundary table y) (length y) reached.most (b last.last),
          reached.whole
              ∙ sym (append_assoc (is_true.consecutive.before ++ map b last.front) (b last.last ∷ [])
              (follow_by (next_boundary table y) (length y) reached.most (b last.last)))
              ∙ ap (λ bs. bs ++ follow_by (next_boundary table y) (length y) reached.most (b last.last))
              (append_assoc is_true.consecutive.before (map b last.front) (b last.last ∷ [])
              ∙ ap (λ bs. is_true.consecutive.before ++ bs) (sym (map-append b last.front (last.last ∷ [])) ∙ ap (map b) (sym last.whole))),
        )

    leads_stay : IsTrue run.leads → LeadsTruly table y run.anchor (first ∷ more)
    leads_stay leads =
        let before : List Boundary = is_true.consecutive.before in
        let b : Entry → Boundary = boundary_of table in
        let P : Boundary → Type 0 = λ m. low run.anchor ≤ m.at → first.at ≤ m.at in
        let old : AllByRecursion P (fresh table x run.anchor) = leads_of run.entries whole (is_true.leads leads) in
        let reached = reached_stays [] first (more ++ rest) whole each.0 in
        subst (λ bs. AllByRecursion P bs)
        (sym (reached.whole ∙ ap (λ bs. bs ++ b first ∷ follow_by (next_boundary table y) (length y) reached.most (b first)) (append-nil before)))
        (all_append P before (b first ∷ follow_by (next_boundary table y) (length y) reached.most (b first))
        (all_left P before (map b run.entries ++ is_true.consecutive.after)
        (subst (λ bs. AllByRecursion P bs) (is_true.consecutive.whole ∙ append_assoc before (map b run.entries) is_true.consecutive.after) old)) (
          λ _. omega arith,
          all_through (λ m. first.at < m.at) P (λ m later _. omega (arith, later)) (follow_by (next_boundary table y) (length y) reached.most (b first))
              (rest_after table y run.anchor (before ++ []) (b first) reached),
        ))
      where
        leads_of : (entries : List Entry) → entries ≡ (first ∷ more) ++ rest → LeadsTruly table x run.anchor entries →
            AllByRecursion (λ m. low run.anchor ≤ m.at → first.at ≤ m.at) (fresh table x run.anchor)
        leads_of entries is leads = subst (λ l. LeadsTruly table x run.anchor l) is leads

    true_stays : IsTrueRun table y (record { anchor = run.anchor; entries = first ∷ more; leads = run.leads })
    true_stays =
        let own : (P : Entry → Type 0) → AllByRecursion P run.entries → AllByRecursion P (first ∷ more) =
        λ P all. all_left P (first ∷ more) rest (subst (λ l. AllByRecursion P l) whole all) in
        let few = is_true.few in
        let within = edited.within in
        record {
          anchor = anchor_stays [] first (more ++ rest) whole each.0;
          some = omega arith;
          few = omega (arith, ap length whole, length-append (first ∷ more) rest);
          consecutive = record { before = is_true.consecutive.before; after = consecutive.0; whole = consecutive.1 };
          places = own (λ e. (run.anchor ≡ 0) ⊎ (run.anchor + 2 ≤ e.at)) is_true.places;
          reach_enough = all_by_splits (λ e. farthest_look table y run.anchor e.at ≤ e.reach) (first ∷ more)
              (λ front e after is.
              farthest_stays front e (after ++ rest) (whole ∙ ap (λ l. l ++ rest) is ∙ append_assoc front (e ∷ after) rest)
              (all_right (λ f. f.reach ≤ at) front (e ∷ after) (subst (λ l. AllByRecursion (λ f. f.reach ≤ at) l) is each)).0);
          reach_within = all_through (λ e. e.reach ≤ at) (λ e. e.reach ≤ length y + 1) (λ e up_to. omega (arith, length_is x y at removed inserted edited))
              (first ∷ more) each;
          reaches_rise = rise_left (first ∷ more) rest (subst ReachesRise whole is_true.reaches_rise);
          leads = leads_stay;
        }

  left_of : (left : List Entry) (rest : List Entry) → run.entries ≡ left ++ rest → AllByRecursion (λ e. e.reach ≤ at) left → 1 ≤ length left →
      IsTrueRun table y (record { anchor = run.anchor; entries = left; leads = run.leads })
  left_of [] rest whole each some = absurd (omega arith)
  left_of (first ∷ more) rest whole each some = true_stays first more rest whole each

  -- the left part is true of the new text, where it has an entry
  pub left_true : 1 ≤ length (left_part at run).entries → IsTrueRun table y (left_part at run)
  left_true some =
      let first = are_first at run.entries is_true.reaches_rise in
      let run_of : List Entry → Run = λ entries. record { anchor = run.anchor; entries = entries; leads = run.leads } in
      subst (λ entries. IsTrueRun table y (run_of entries)) (sym first.kept)
      (left_of first.left first.rest first.whole first.each (omega (arith, ap length first.kept)))
