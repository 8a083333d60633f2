-- The right part of a true run is true of the edited text.
use Rattle.std.proofs.Common.{◌≡◌, ℕ, ◌+◌, ◌-◌, ◌<◌, ◌≤◌, ◌⊎◌, Bool, true, false, not, ◌&&◌, ◌||◌, eqb, leb, ltb, List, [], ◌∷◌, ◌++◌}
use Rattle.std.proofs.Common.{length, length-append, map, filter, sym, refl, ap, ◌∙◌, subst, inl, inr, ⊎_elim, append_assoc, arith}
use Rattle.std.specs.Prelude.{IsTrue}
use Rattle.std.specs.List.{AllByRecursion}
use Rattle.std.proofs.lemmas.Bool.{cases_Bool, cases_lt, cases_eq, cond-true, cond-false, le-leb, lt-leb, leb-true, lt-ltb, le-ltb, eq-eqb, ne_eqb, and_parts}
use Rattle.std.proofs.lemmas.Bool.{and_from, and_cases, false≢true, leb-false, or_left}
use Rattle.std.proofs.lemmas.List.{map-append, length-map}
use Rattle.std.proofs.lemmas.List.Elements.{filter-append}
use Rattle.rbbi_model.specs.Lists.{IsRising}
use Rattle.rbbi_model.specs.Boundaries.{Boundary}
use Rattle.rbbi_model.specs.Cover.{places}
use Rattle.rbbi_model.specs.Tables.{Table}
use Rattle.rbbi_model.specs.SafePairs.{IsSafePair, is_safe}
use Rattle.rbbi_model.specs.ValidTables.{IsValidTable}
use Rattle.rbbi_model.specs.Searches.{fresh}
use Rattle.rbbi_model.specs.Runs.{Entry, Run, category_at, low, boundary_of, farthest_look, ReachesRise, LeadsTruly, IsTrueRun}
use Rattle.rbbi_model.proofs.Rising.{rising_tail}
use Rattle.rbbi_model.proofs.Anchors.{safe_here}
use Rattle.rbbi_model.proofs.Shown.{rising_left, places_of_entries}
use Rattle.rbbi_model.proofs.Lists.{all_append, all_left, all_right, all_through}
use Rattle.rbbi_cache.specs.Edits.{IsSpliced, begins_pair, moved_entry, moved_run, run_behind, goes_whole, IsRightPart, Whole, Behind, Nothing}
use Rattle.rbbi_cache.proofs.Lists.{filter_all, filter_none, filter_same, everywhere}
use Rattle.rbbi_cache.proofs.Reached.{done_before, rises_after, rising_right}
use Rattle.rbbi_cache.proofs.RunFacts.{rises_past, reaches_right}
use Rattle.rbbi_cache.proofs.RunFacts as facts
use Rattle.rbbi_cache.proofs.LeftPart.{are_first}
use Rattle.rbbi_cache.proofs.Texts.{length_is}
use Rattle.rbbi_cache.proofs.Moving.{same_category, true_moves}
use Rattle.rbbi_cache.proofs.Reanchor.{fresh_rises, true_behind}

-- where places rise, those from one on are the last ones
pub record AreLater (k : ℕ) (entries : List Entry) : Type 0 where
  pub front : List Entry
  pub later : List Entry
  pub whole : entries ≡ front ++ later
  pub kept : filter (λ e. leb k e.at) entries ≡ later
  pub earlier : AllByRecursion (λ e. e.at < k) front
  pub each : AllByRecursion (λ e. k ≤ e.at) later

pub same_leb : (a b c d : ℕ) → (a ≤ b → c ≤ d) → (c ≤ d → a ≤ b) → leb a b ≡ leb c d
same_leb a b c d there back =
    ⊎_elim
    (λ over. lt-leb a b over ∙ sym (⊎_elim (λ past. lt-leb c d past) (λ up. absurd (omega (arith, back up, over))) (cases_lt d c)))
    (λ up. le-leb a b up ∙ sym (le-leb c d (there up)))
    (cases_lt b a)

pub are_later : (k : ℕ) (entries : List Entry) → IsRising (map (λ e. e.at) entries) → AreLater k entries
are_later k [] rising = record { front = []; later = []; whole = refl; kept = refl; earlier = tt; each = tt }
are_later k (e ∷ entries) rising =
    ⊎_elim
    (λ before.
    let rest = are_later k entries (rising_tail e.at (map (λ f. f.at) entries) rising) in
    record {
      front = e ∷ rest.front;
      later = rest.later;
      whole = ap (λ l. e ∷ l) rest.whole;
      kept = cond-false (leb k e.at) (e ∷ filter (λ f. leb k f.at) entries) (filter (λ f. leb k f.at) entries) (lt-leb k e.at before) ∙ rest.kept;
      earlier = (before, rest.earlier);
      each = rest.each;
    })
    (λ from.
    let each : AllByRecursion (λ f. k ≤ f.at) (e ∷ entries) =
    (from, all_through (λ f. e.at < f.at) (λ f. k ≤ f.at) (λ f less. omega arith) entries (rises_past e entries rising)) in
    record {
      front = [];
      later = e ∷ entries;
      whole = refl;
      kept = filter_all (λ f. leb k f.at) (e ∷ entries) (all_through (λ f. k ≤ f.at) (λ f. leb k f.at ≡ true) (λ f past. le-leb k f.at past)
          (e ∷ entries) each);
      earlier = tt;
      each = each;
    })
    (cases_lt e.at k)

-- a test after a change of each element
filter_map : {X Y : Type 0} (f : X → Y) (test : Y → Bool) (xs : List X) → filter test (map f xs) ≡ map f (filter (λ x. test (f x)) xs)
filter_map f test [] = refl
filter_map f test (x ∷ xs) =
    ⊎_elim
    (λ holds. cond-true (test (f x)) (f x ∷ filter test (map f xs)) (filter test (map f xs)) holds ∙ ap (λ l. f x ∷ l) (filter_map f test xs)
    ∙ ap (map f) (sym (cond-true (test (f x)) (x ∷ filter (λ z. test (f z)) xs) (filter (λ z. test (f z)) xs) holds)))
    (λ fails. cond-false (test (f x)) (f x ∷ filter test (map f xs)) (filter test (map f xs)) fails ∙ filter_map f test xs
    ∙ ap (map f) (sym (cond-false (test (f x)) (x ∷ filter (λ z. test (f z)) xs) (filter (λ z. test (f z)) xs) fails)))
    (cases_Bool (test (f x)))

module _ (table : Table) (valid : IsValidTable table) (x : List ℕ) (run : Run) (is_true : IsTrueRun table x run) where
  pub entries_rise : IsRising (map (λ e. e.at) run.entries)
  entries_rise =
      let before : List Boundary = is_true.consecutive.before in
      let entries : List Boundary = map (boundary_of table) run.entries in
      let after : List Boundary = is_true.consecutive.after in
      let whole : fresh table x run.anchor ≡ before ++ (entries ++ after) = is_true.consecutive.whole ∙ append_assoc before entries after in
      let rises : IsRising (places (entries ++ after)) =
      rising_right before (entries ++ after) (subst (λ bs. IsRising (places bs)) whole (fresh_rises table x run.anchor)) in
      subst IsRising (places_of_entries table run.entries)
      (rising_left (places entries) (places after) (subst IsRising (map-append (λ (b : Boundary). b.at) entries after) rises))

  -- the last entries are a true run too
  pub true_suffix : (front : List Entry) (first : Entry) (more : List Entry) → run.entries ≡ front ++ first ∷ more →
      IsTrueRun table x (record { anchor = run.anchor; entries = first ∷ more; leads = false })
  true_suffix front first more whole =
      let b : Entry → Boundary = boundary_of table in
      let own : (P : Entry → Type 0) → AllByRecursion P run.entries → AllByRecursion P (first ∷ more) =
      λ P all. all_right P front (first ∷ more) (subst (λ l. AllByRecursion P l) whole all) in
      let few = is_true.few in
      record {
        anchor = is_true.anchor;
        some = omega arith;
        few = omega (arith, ap length whole, length-append front (first ∷ more));
        consecutive = record {
          before = is_true.consecutive.before ++ map b front;
          after = is_true.consecutive.after;
          whole = facts.fresh_is table valid x run is_true front first more whole
              ∙ sym (append_assoc (is_true.consecutive.before ++ map b front) (map b (first ∷ more)) is_true.consecutive.after);
        };
        places = own (λ e. (run.anchor ≡ 0) ⊎ (run.anchor + 2 ≤ e.at)) is_true.places;
        reach_enough = own (λ e. farthest_look table x run.anchor e.at ≤ e.reach) is_true.reach_enough;
        reach_within = own (λ e. e.reach ≤ length x + 1) is_true.reach_within;
        reaches_rise = reaches_right front (first ∷ more) (subst ReachesRise whole is_true.reaches_rise);
        leads = λ is. absurd (false_leads is);
      }
    where
      false_leads : IsTrue false → ⊥
      false_leads is = cc

  -- Where the run leads and what is left out lies before a place, no member from that place on lies before the entries that are left.
  pub leads_on : (k : ℕ) (front : List Entry) (first : Entry) (more : List Entry) → run.entries ≡ front ++ first ∷ more → low run.anchor ≤ k →
      AllByRecursion (λ e. e.at < k) front → IsTrue run.leads →
      AllByRecursion (λ m. k ≤ m.at → first.at ≤ m.at) (fresh table x run.anchor)
  leads_on k front first more whole high earlier leads =
      let b : Entry → Boundary = boundary_of table in
      let before : List Boundary = is_true.consecutive.before in
      let P : Boundary → Type 0 = λ m. k ≤ m.at → first.at ≤ m.at in
      let fresh_is = facts.fresh_is table valid x run is_true front first more whole in
      let tail : List Boundary = map b more ++ is_true.consecutive.after in
      let rises : IsRising (places (b first ∷ tail)) =
      rising_right (before ++ map b front) (b first ∷ tail) (subst (λ bs. IsRising (places bs)) fresh_is (fresh_rises table x run.anchor)) in
      subst (λ bs. AllByRecursion P bs) (sym fresh_is)
      (all_append P (before ++ map b front) (b first ∷ tail)
      (all_append P before (map b front)
      (skipped front whole)
      (entries_before front earlier))
      (λ _. omega arith, all_through (λ m. first.at < m.at) P (λ m less _. omega (arith, less)) tail (rises_after (b first) tail rises)))
    where
      entries_before : (es : List Entry) → AllByRecursion (λ e. e.at < k) es → AllByRecursion (λ m. k ≤ m.at → first.at ≤ m.at) (map (boundary_of table) es)
      entries_before [] each = tt
      entries_before (e ∷ es) each = (λ from. absurd (omega (arith, each.0)), entries_before es each.1)

      skip : (e : Entry) (es : List Entry) → run.entries ≡ e ∷ es → AllByRecursion (λ m. k ≤ m.at → first.at ≤ m.at) is_true.consecutive.before
      skip e es is =
          let before : List Boundary = is_true.consecutive.before in
          let led : AllByRecursion (λ m. low run.anchor ≤ m.at → e.at ≤ m.at) before =
          all_left (λ m. low run.anchor ≤ m.at → e.at ≤ m.at) before (map (boundary_of table) run.entries ++ is_true.consecutive.after)
          (subst (λ bs. AllByRecursion (λ m. low run.anchor ≤ m.at → e.at ≤ m.at) bs) (is_true.consecutive.whole
          ∙ append_assoc before (map (boundary_of table) run.entries) is_true.consecutive.after)
          (leads_by run.entries is (is_true.leads leads))) in
          let reached = facts.reached_is table valid x run is_true [] e es is in
          let less : AllByRecursion (λ m. m.at < e.at) before =
          all_left (λ m. m.at < e.at) before [] (done_before table x run.anchor (before ++ []) (boundary_of table e) reached) in
          none before led less
        where
          leads_by : (entries : List Entry) → entries ≡ e ∷ es → LeadsTruly table x run.anchor entries →
              AllByRecursion (λ m. low run.anchor ≤ m.at → e.at ≤ m.at) (fresh table x run.anchor)
          leads_by entries is leads = subst (λ l. LeadsTruly table x run.anchor l) is leads

          none : (bs : List Boundary) → AllByRecursion (λ m. low run.anchor ≤ m.at → e.at ≤ m.at) bs → AllByRecursion (λ m. m.at < e.at) bs →
              AllByRecursion (λ m. k ≤ m.at → first.at ≤ m.at) bs
          none [] led less = tt
          none (m ∷ bs) led less = (λ from. absurd (let past : e.at ≤ m.at = led.0 (omega arith) in omega (arith, less.0)), none bs led.1 less.1)

      -- of what stands before the entries nothing lies from the low place on
      skipped : (front' : List Entry) → run.entries ≡ front' ++ first ∷ more → AllByRecursion (λ m. k ≤ m.at → first.at ≤ m.at) is_true.consecutive.before
      skipped [] is = skip first more is
      skipped (e ∷ front') is = skip e (front' ++ first ∷ more) is

module _ (table : Table) (valid : IsValidTable table) (x : List ℕ) (p : ℕ) where
  -- the test for a pair tells whether there is one
  pub pair_there : begins_pair table x p ≡ true → (p + 2 ≤ length x) × IsSafePair table (category_at table x p) (category_at table x (p + 1))
  pair_there is =
      let parts = and_parts (leb (p + 2) (length x)) (is_safe table (category_at table x p) (category_at table x (p + 1))) is in
      (leb-true (p + 2) (length x) parts.0, (safe_here table valid x p).0 parts.1)

  pub pair_begins : p + 2 ≤ length x → IsSafePair table (category_at table x p) (category_at table x (p + 1)) → begins_pair table x p ≡ true
  pair_begins room safe = and_from (leb (p + 2) (length x)) (is_safe table (category_at table x p) (category_at table x (p + 1)))
      (le-leb (p + 2) (length x) room) ((safe_here table valid x p).1 safe)

module _ (table : Table) (valid : IsValidTable table) (x y : List ℕ) (at removed inserted : ℕ) (edited : IsSpliced x y at removed inserted) (run : Run)
    (is_true : IsTrueRun table x run) where
  -- what is kept after a pair is the last entries, moved
  kept_behind : (q q' : ℕ) → at + removed ≤ q' → q' + inserted - removed ≡ q → removed ≤ q' → (entries : List Entry) →
      filter (λ e. leb (q + 2) e.at) (map (moved_entry removed inserted) (filter (λ e. ltb (at + removed) e.at) entries)) ≡ map
      (moved_entry removed inserted) (filter (λ e. leb (q' + 2) e.at) entries)
  kept_behind q q' behind is room [] = refl
  kept_behind q q' behind is room (e ∷ entries) =
      let m : Entry → Entry = moved_entry removed inserted in
      let inner : List Entry → List Entry = filter (λ f. ltb (at + removed) f.at) in
      let outer : List Entry → List Entry = filter (λ f. leb (q + 2) f.at) in
      let kept : List Entry → List Entry = filter (λ f. leb (q' + 2) f.at) in
      let more = kept_behind q q' behind is room entries in
      ⊎_elim
      (λ before.
      let skip : kept (e ∷ entries) ≡ kept entries = cond-false (leb (q' + 2) e.at) (e ∷ kept entries) (kept entries) (lt-leb (q' + 2) e.at before) in
      ⊎_elim
      (λ past.
      ap (λ l. outer (map m l)) (cond-true (ltb (at + removed) e.at) (e ∷ inner entries) (inner entries) (lt-ltb (at + removed) e.at past))
      ∙ cond-false (leb (q + 2) (m e).at) (m e ∷ outer (map m (inner entries))) (outer (map m (inner entries))) (lt-leb (q + 2) (m e).at (omega arith))
      ∙ more ∙ ap (map m) (sym skip))
      (λ not_past.
      ap (λ l. outer (map m l)) (cond-false (ltb (at + removed) e.at) (e ∷ inner entries) (inner entries) (le-ltb (at + removed) e.at not_past))
      ∙ more ∙ ap (map m) (sym skip))
      (cases_lt (at + removed) e.at))
      (λ from.
      ap (λ l. outer (map m l)) (cond-true (ltb (at + removed) e.at) (e ∷ inner entries) (inner entries) (lt-ltb (at + removed) e.at (omega arith)))
      ∙ cond-true (leb (q + 2) (m e).at) (m e ∷ outer (map m (inner entries))) (outer (map m (inner entries))) (le-leb (q + 2) (m e).at (omega arith))
      ∙ ap (λ l. m e ∷ l) more
      ∙ ap (map m) (sym (cond-true (leb (q' + 2) e.at) (e ∷ kept entries) (kept entries) (le-leb (q' + 2) e.at from))))
      (cases_lt e.at (q' + 2))

  -- the run's anchor isn't after the pair
  anchor_before : (q' : ℕ) → at + removed ≤ q' → goes_whole table x at removed run ≡ false → run.anchor ≤ q'
  anchor_before q' behind fails =
      ⊎_elim
      (λ near. let before = leb-false (at + removed) run.anchor near in omega arith)
      (λ no_pair. ⊎_elim (λ zero. omega arith) (λ pair. absurd (false≢true (sym no_pair ∙ pair_begins table valid x run.anchor pair.0 pair.1))) is_true.anchor)
      (and_cases (leb (at + removed) run.anchor) (begins_pair table x run.anchor) fails)

  behind_true : (q : ℕ) → goes_whole table x at removed run ≡ false → begins_pair table y q ≡ true → at + inserted ≤ q →
      1 ≤ length (run_behind at removed inserted q run).entries → IsTrueRun table y (run_behind at removed inserted q run)
  behind_true q fails begins from some =
      let m : Entry → Entry = moved_entry removed inserted in
      let there = pair_there table valid y q begins in
      let size = length_is x y at removed inserted edited in
      let within = edited.within in
      let q' : ℕ = q + removed - inserted in
      let back : q + removed - inserted + inserted - removed ≡ q = omega arith in
      let behind : at + removed ≤ q + removed - inserted = omega arith in
      let room : q + removed - inserted + 2 ≤ length x = omega (arith, there.0) in
      let next : q + removed - inserted + 1 + inserted - removed ≡ q + 1 = omega arith in
      let here : category_at table x (q + removed - inserted) ≡ category_at table y q =
      sym (same_category table valid x y at removed inserted edited (q + removed - inserted) behind) ∙ ap (category_at table y) back in
      let here' : category_at table x (q + removed - inserted + 1) ≡ category_at table y (q + 1) =
      sym (same_category table valid x y at removed inserted edited (q + removed - inserted + 1) (omega arith)) ∙ ap (category_at table y) next in
      let safe : IsSafePair table (category_at table x (q + removed - inserted)) (category_at table x (q + removed - inserted + 1)) =
      subst (λ c. IsSafePair table c (category_at table x (q + removed - inserted + 1))) (sym here)
      (subst (λ c. IsSafePair table (category_at table y q) c) (sym here') there.1) in
      let later = are_later (q + removed - inserted + 2) run.entries (entries_rise table valid x run is_true) in
      let kept : (run_behind at removed inserted q run).entries ≡ map m later.later =
      kept_behind q (q + removed - inserted) behind back (omega arith) run.entries ∙ ap (map m) later.kept in
      let of : List Entry → Run = λ entries. record { anchor = q; entries = entries; leads = false } in
      subst (λ entries. IsTrueRun table y (of entries)) (sym kept)
      (subst (λ a. IsTrueRun table y (record { anchor = a; entries = map m later.later; leads = false })) back
      (moved_later (q + removed - inserted) behind room safe (anchor_before (q + removed - inserted) behind fails) later.front later.later later.whole
      later.each (omega (arith, ap length kept, length-map later.later m))))
    where
      moved_later : (q' : ℕ) → at + removed ≤ q' → q' + 2 ≤ length x → IsSafePair table (category_at table x q') (category_at table x (q' + 1)) →
          run.anchor ≤ q' →
          (front later : List Entry) → run.entries ≡ front ++ later → AllByRecursion (λ e. q' + 2 ≤ e.at) later → 1 ≤ length later →
          IsTrueRun table y (record { anchor = q' + inserted - removed; entries = map (moved_entry removed inserted) later; leads = false })
      moved_later q' behind room safe order front [] whole each some = absurd (omega arith)
      moved_later q' behind room safe order front (first ∷ more) whole each some =
          true_moves table valid x y at removed inserted edited (record { anchor = q'; entries = first ∷ more; leads = false })
          (true_behind table valid x run is_true q' room safe order front first more whole each) behind room safe false first more refl
          (inr (all_through (λ e. q' + 2 ≤ e.at) (λ e. q' + inserted - removed + 2 ≤ e.at + inserted - removed) (λ e past. omega arith) (first ∷ more) each))
          (λ is. absurd (never is))
        where
          never : IsTrue false → ⊥
          never is = cc

  low_other : (a : ℕ) → (a ≡ 0 → ⊥) → low a ≡ a + 2
  low_other a other = cond-false (eqb a 0) 1 (a + 2) (ne_eqb a 0 other)

  low_zero : (a : ℕ) → a ≡ 0 → low a ≡ 1
  low_zero a zero = cond-true (eqb a 0) 1 (a + 2) (eq-eqb a 0 zero)

  module _ (behind : at + removed ≤ run.anchor) (room : run.anchor + 2 ≤ length x)
      (safe : IsSafePair table (category_at table x run.anchor) (category_at table x (run.anchor + 1))) where
    -- a run of another anchor than 0
    other_true : (run.anchor ≡ 0 → ⊥) → (entries : List Entry) → run.entries ≡ entries → 1 ≤ length entries →
        IsTrueRun table y (record {
          anchor = run.anchor + inserted - removed;
          entries = map (moved_entry removed inserted) run.entries;
          leads =
              run.leads && not (eqb (run.anchor + inserted - removed) 0);
        })
    other_true other [] whole some = absurd (omega arith)
    other_true other (first ∷ more) whole some =
        let a : ℕ = run.anchor + inserted - removed in
        true_moves table valid x y at removed inserted edited run is_true behind room safe (run.leads && not (eqb (run.anchor + inserted - removed) 0)) first
        more whole
        (inr (all_through (λ e. (run.anchor ≡ 0) ⊎ (run.anchor + 2 ≤ e.at)) (λ e. run.anchor + inserted - removed + 2 ≤ e.at + inserted - removed)
        (λ e place. ⊎_elim (λ zero. absurd (other zero)) (λ past. omega arith) place) run.entries is_true.places))
        (λ leads.
        let parts = and_parts run.leads (not (eqb (run.anchor + inserted - removed) 0)) leads in
        let low_here : low (run.anchor + inserted - removed) ≡ run.anchor + inserted - removed + 2 =
        low_other (run.anchor + inserted - removed) (λ zero. absurd (false≢true (sym (ap not (eq-eqb (run.anchor + inserted - removed) 0 zero)) ∙ parts.1))) in
        let low_there = low_other run.anchor other in
        all_through (λ m. run.anchor + 2 ≤ m.at → first.at ≤ m.at) (λ m. low (run.anchor + inserted - removed) ≤ m.at + inserted - removed → first.at ≤ m.at)
        (λ m holds from. holds (omega arith)) (fresh table x run.anchor)
        (leads_on table valid x run is_true (run.anchor + 2) [] first more whole (omega arith) tt parts.0))

    -- the last entries of a run of anchor 0
    zero_true : run.anchor ≡ 0 → (k : ℕ) → 1 ≤ k → ((m : ℕ) → low (run.anchor + inserted - removed) ≤ m + inserted - removed → k ≤ m) →
        (front later : List Entry) → run.entries ≡ front ++ later → AllByRecursion (λ e. e.at < k) front →
        ((run.anchor + inserted - removed ≡ 0) ⊎ AllByRecursion (λ e. run.anchor + inserted - removed + 2 ≤ e.at + inserted - removed) later) →
        1 ≤ length later →
        IsTrueRun table y (record { anchor = run.anchor + inserted - removed; entries = map (moved_entry removed inserted) later; leads = run.leads })
    zero_true zero k some_k high front [] whole earlier far some = absurd (omega arith)
    zero_true zero k some_k high front (first ∷ more) whole earlier far some =
        true_moves table valid x y at removed inserted edited (record { anchor = run.anchor; entries = first ∷ more; leads = false })
        (true_suffix table valid x run is_true front first more whole) behind room safe run.leads first more refl far
        (λ leads.
        all_through (λ m. k ≤ m.at → first.at ≤ m.at) (λ m. low (run.anchor + inserted - removed) ≤ m.at + inserted - removed → first.at ≤ m.at)
        (λ m holds from. holds (high m.at from)) (fresh table x run.anchor)
        (leads_on table valid x run is_true k front first more whole (omega (arith, low_zero run.anchor zero)) earlier leads))

    whole_true : 1 ≤ length (moved_run at removed inserted run).entries → IsTrueRun table y (moved_run at removed inserted run)
    whole_true some =
        let a : ℕ = run.anchor + inserted - removed in
        let m : Entry → Entry = moved_entry removed inserted in
        let keep : Entry → Bool = λ e. eqb (run.anchor + inserted - removed) 0 || leb (run.anchor + inserted - removed + 2) e.at in
        let held : List Entry = filter keep (map m (filter (λ e. ltb at e.reach) run.entries)) in
        let of_zero : Run = record { anchor = run.anchor + inserted - removed; entries = held; leads = run.leads } in
        let of_other : Run = record {
          anchor = run.anchor + inserted - removed;
          entries = map m run.entries;
          leads =
              run.leads && not (eqb (run.anchor + inserted - removed) 0);
        } in
        ⊎_elim
        (λ zero.
        let is : moved_run at removed inserted run ≡ of_zero = cond-true (eqb run.anchor 0) of_zero of_other (eq-eqb run.anchor 0 zero) in
        let first = are_first at run.entries is_true.reaches_rise in
        let dropped : filter (λ e. ltb at e.reach) run.entries ≡ first.rest =
        ap (filter (λ e. ltb at e.reach)) first.whole
        ∙ filter-append (λ e. ltb at e.reach) first.left first.rest
        ∙ ap (λ l. l ++ filter (λ e. ltb at e.reach) first.rest)
        (filter_none (λ e. ltb at e.reach) first.left
        (all_through (λ e. e.reach ≤ at) (λ e. ltb at e.reach ≡ false) (λ e less. le-ltb at e.reach less) first.left first.each))
        ∙ filter_all (λ e. ltb at e.reach) first.rest
        (all_through (λ e. at < e.reach) (λ e. ltb at e.reach ≡ true) (λ e more. lt-ltb at e.reach more) first.rest first.later) in
        let held_is : held ≡ map m (filter (λ e. keep (m e)) first.rest) = ap (λ l. filter keep (map m l)) dropped ∙ filter_map m keep first.rest in
        let left_low : AllByRecursion (λ e. e.at < 1) first.left = left_at zero first.left first.rest first.whole first.each in
        subst (IsTrueRun table y) (sym is)
        (⊎_elim
        (λ stays.
        let all : filter (λ e. keep (m e)) first.rest ≡ first.rest =
        filter_all (λ e. keep (m e)) first.rest
        (everywhere (λ e. keep (m e) ≡ true) (λ e. or_left (eqb (run.anchor + inserted - removed) 0) (leb (run.anchor + inserted - removed + 2) (m e).at)
        (eq-eqb (run.anchor + inserted - removed) 0 stays)) first.rest) in
        let kept : held ≡ map m first.rest = held_is ∙ ap (map m) all in
        subst (λ l. IsTrueRun table y (record { anchor = run.anchor + inserted - removed; entries = l; leads = run.leads })) (sym kept)
        (zero_true zero 1 (omega arith) (λ n from. omega (arith, low_zero (run.anchor + inserted - removed) stays)) first.left first.rest first.whole
        left_low (inl stays)
        (omega (arith, ap (λ r. length r.entries) is, ap length kept, length-map first.rest m))))
        (λ moves.
        let rises : IsRising (map (λ e. e.at) first.rest) =
        rising_rest first.left first.rest (subst (λ l. IsRising (map (λ e. e.at) l)) first.whole (entries_rise table valid x run is_true)) in
        let later = are_later 2 first.rest rises in
        let same : filter (λ e. keep (m e)) first.rest ≡ filter (λ e. leb 2 e.at) first.rest =
        filter_same (λ e. keep (m e)) (λ e. leb 2 e.at) first.rest
        (λ e. ap (λ b. b || leb (run.anchor + inserted - removed + 2) (m e).at) (ne_eqb (run.anchor + inserted - removed) 0 moves)
        ∙ same_leb (run.anchor + inserted - removed + 2) (m e).at 2 e.at (λ there. omega arith) (λ here. omega arith)) in
        let kept : held ≡ map m later.later = held_is ∙ ap (map m) (same ∙ later.kept) in
        subst (λ l. IsTrueRun table y (record { anchor = run.anchor + inserted - removed; entries = l; leads = run.leads })) (sym kept)
        (zero_true zero 2 (omega arith) (λ n from. omega (arith, low_other (run.anchor + inserted - removed) moves)) (first.left ++ later.front) later.later
        (first.whole ∙ ap (λ l. first.left ++ l) later.whole ∙ sym (append_assoc first.left later.front later.later))
        (all_append (λ e. e.at < 2) first.left later.front (all_through (λ e. e.at < 1) (λ e. e.at < 2) (λ e less. omega arith) first.left left_low)
        later.earlier)
        (inr (all_through (λ e. 2 ≤ e.at) (λ e. run.anchor + inserted - removed + 2 ≤ e.at + inserted - removed) (λ e past. omega arith) later.later
        later.each))
        (omega (arith, ap (λ r. length r.entries) is, ap length kept, length-map later.later m))))
        (cases_eq (run.anchor + inserted - removed) 0)))
        (λ other.
        let is : moved_run at removed inserted run ≡ of_other = cond-false (eqb run.anchor 0) of_zero of_other (ne_eqb run.anchor 0 other) in
        subst (IsTrueRun table y) (sym is) (other_true other run.entries refl is_true.some))
        (cases_eq run.anchor 0)
      where
        rising_rest : (left rest : List Entry) → IsRising (map (λ e. e.at) (left ++ rest)) → IsRising (map (λ e. e.at) rest)
        rising_rest [] rest rising = rising
        rising_rest (e ∷ left) rest rising = rising_rest left rest (rising_tail e.at (map (λ f. f.at) (left ++ rest)) rising)

        left_at : run.anchor ≡ 0 → (left rest : List Entry) → run.entries ≡ left ++ rest → AllByRecursion (λ e. e.reach ≤ at) left →
            AllByRecursion (λ e. e.at < 1) left
        left_at zero left rest whole each = facts.all_by_splits (λ e. e.at < 1) left
            (λ front e after is.
            let reach : e.reach ≤ at = (all_right (λ f. f.reach ≤ at) front (e ∷ after) (subst (λ l. AllByRecursion (λ f. f.reach ≤ at) l) is each)).0 in
            omega (
              arith,
              facts.at_by_reach table valid x run is_true front e (after ++ rest) (whole ∙ ap (λ l. l ++ rest) is
                  ∙ append_assoc front (e ∷ after) rest),
            ))

  -- the right part is true of the new text, where it has an entry
  pub right_true : (right : Run) → IsRightPart table x y at removed inserted run right → 1 ≤ length right.entries → IsTrueRun table y right
  right_true _ (Whole goes) some =
      let parts = and_parts (leb (at + removed) run.anchor) (begins_pair table x run.anchor) goes in
      let pair = pair_there table valid x run.anchor parts.1 in
      whole_true (leb-true (at + removed) run.anchor parts.0) pair.0 pair.1 some
  right_true _ (Behind q fails first) some = behind_true q fails first.begins first.from some
  right_true _ (Nothing fails none) some = absurd (omega arith)
