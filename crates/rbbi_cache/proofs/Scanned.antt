-- How a scan begins, and what the run that it leaves is.
use Rattle.std.proofs.Common.{◌≡◌, ◌≢◌, ℕ, ◌+◌, ◌<◌, ◌≤◌, ◌⊎◌, Bool, true, eqb, List, [], ◌∷◌, ◌++◌, length, length-append, length-drop, take, drop, map, sym}
use Rattle.std.proofs.Common.{refl, ap, ◌∙◌, subst, inl, inr, ⊎_elim, append_assoc, arith}
use Rattle.std.specs.Prelude.{IsTrue, slice_index_or}
use Rattle.std.specs.List.{AllByRecursion}
use Rattle.std.proofs.lemmas.Bool.{cond-true, cond-false, cases_eq, eq-eqb, ne_eqb}
use Rattle.std.proofs.lemmas.List.{map-append, drop-append-le, append_cancel_right, take-append-drop}
use Rattle.rbbi_model.specs.Boundaries.{Boundary}
use Rattle.rbbi_model.specs.Tables.{Table}
use Rattle.rbbi_model.specs.ValidTables.{IsValidTable, BeginsWithZeroAlone}
use Rattle.rbbi_model.specs.Searches.{next_boundary, follow_by, fresh}
use Rattle.rbbi_model.specs.Runs.{Entry, Run, IsAnchor, low, boundary_of, farthest_look, ReachesRise, LeadsTruly, IsTrueRun}
use Rattle.rbbi_cache.specs.Kept.{HasLeastReaches, EndFormerRun}
use Rattle.rbbi_cache.specs.Shown.{IsShownAfter}
use Rattle.rbbi_cache.specs.inner.Scans.{Reached, Scan, IsScan}
use Rattle.rbbi_cache.proofs.Lists.{all_unmap}
use Rattle.rbbi_cache.proofs.Reached.{first_member, reached_start, farthest_start, done_before, rises_after, rising_right}
use Rattle.rbbi_cache.proofs.RunFacts.{reaches_right, ends_up_to}
use Rattle.rbbi_cache.proofs.RunFacts as facts
use Rattle.rbbi_model.specs.Lists.{IsRising}
use Rattle.rbbi_model.specs.Cover.{places}
use Rattle.rbbi_model.proofs.Lists.{all_append, all_right, all_drop, all_through}
use Rattle.rbbi_cache.proofs.Reanchor.{fresh_rises}
use Rattle.rbbi_cache.proofs.Scanning.{nonempty}

pub zero_alone : (lists : List (List ℕ)) → BeginsWithZeroAlone lists → slice_index_or lists 0 [] ≡ 0 ∷ []
zero_alone [] begins = absurd begins
zero_alone (statuses ∷ lists) begins = begins

module _ (table : Table) (valid : IsValidTable table) (x : List ℕ) (p i : ℕ) where
  pub first_is : boundary_of table (record { at = p; status = 0; reach = 0 }) ≡ first_member p
  first_is = λ j. record { at = p; statuses = zero_alone table.lists valid.lists.first j }

  low_past : p < low p
  low_past = ⊎_elim (λ zero. omega (arith, cond-true (eqb p 0) 1 (p + 2) (eq-eqb p 0 zero)))
      (λ other. omega (arith, cond-false (eqb p 0) 1 (p + 2) (ne_eqb p 0 other))) (cases_eq p 0)

  -- a scan from an anchor
  pub scan_from_anchor : (run : Run) → run ≡ record { anchor = p; entries = []; leads = true } → p ≤ length x →
      IsScan table x p i (record {
        done = [];
        skipped = boundary_of table (record { at = p; status = 0; reach = 0 }) ∷ [];
        known = [];
        found = [];
        here =
            record { at = p; status = 0; reach = 0 };
      }) run
  scan_from_anchor run is within =
      let here : Entry = record { at = p; status = 0; reach = 0 } in
      let farthest : farthest_look table x p p ≡ 0 = farthest_start table x p in
      record {
        reached = subst (λ b. Reached table x p [] b) (sym first_is) (reached_start table x p);
        up_to = tt;
        within = within;
        whole = refl;
        last = inl refl;
        places = tt;
        none = λ _. (low_past, sym farthest);
        skipped_low = λ _. (low_past, tt);
        enough = tt;
        here_enough = omega arith;
        reach_within = omega arith;
        reaches_within = tt;
        rise = tt;
        least = tt;
        anchor = ap (λ r. r.anchor) is;
        cut = 0;
        cut_within = omega arith;
        entries = ap (λ r. r.entries) is;
        enough_left = inl refl;
        few = omega (arith, ap (λ r. length r.entries) is);
        leads = (λ _. refl, λ _. leads_so is);
      }
    where
      leads_so : run ≡ record { anchor = p; entries = []; leads = true } → IsTrue run.leads
      leads_so is = ap (λ r. r.leads) is

  -- a scan from the last entry of a true run
  pub scan_from_entry : (former : Run) (is_true : IsTrueRun table x former) → former.anchor ≡ p → (front : List Entry) (from : Entry) →
      former.entries ≡ front ++ from ∷ [] → from.at ≤ i →
      (run : Run) → run ≡ record { anchor = p; entries = from ∷ []; leads = true } →
      IsScan table x p i (record {
        done = is_true.consecutive.before ++ map (boundary_of table) front;
        skipped =
            is_true.consecutive.before ++ map (boundary_of table) front;
        known = from ∷ [];
        found = [];
        here = from;
      }) run
  scan_from_entry former is_true same front from whole up_to run is =
      let done : List Boundary = is_true.consecutive.before ++ map (boundary_of table) front in
      let reached = subst (λ a. Reached table x a (is_true.consecutive.before ++ map (boundary_of table) front) (boundary_of table from)) same
      (facts.reached_is table valid x former is_true front from [] whole) in
      let enough = subst (λ a. farthest_look table x a from.at ≤ from.reach) same (facts.enough table valid x former is_true front from [] whole) in
      let place = subst (λ a. (a ≡ 0) ⊎ (a + 2 ≤ from.at)) same (facts.place table valid x former is_true front from [] whole) in
      let within = facts.within table valid x former is_true front from [] whole in
      record {
        reached = reached;
        up_to = all_through (λ b. b.at < from.at) (λ b. b.at ≤ i) (λ b less. omega arith) done (done_before table x p done (boundary_of table from) reached);
        within = facts.path_within table x (first_member former.anchor) done (boundary_of table from)
            (facts.path_is table valid x former is_true front from [] whole) (anchor_within is_true.anchor);
        whole = refl;
        last = inr ([], refl);
        places = (place, tt);
        none = λ nothing. absurd (nonempty [] from [] nothing);
        skipped_low = λ unknown. absurd (nonempty [] from [] unknown);
        enough = (enough, tt);
        here_enough = enough;
        reach_within = within;
        reaches_within = (within, tt);
        rise = tt;
        least = tt;
        anchor = ap (λ r. r.anchor) is;
        cut = 0;
        cut_within = omega arith;
        entries = ap (λ r. r.entries) is;
        enough_left = inl refl;
        few = omega (arith, ap (λ r. length r.entries) is);
        leads = (λ _. refl, λ _. ap (λ r. r.leads) is);
      }
    where
      anchor_within : IsAnchor table x former.anchor → former.anchor ≤ length x
      anchor_within anchor = ⊎_elim (λ zero. omega arith) (λ pair. omega (arith, pair.0)) anchor

rises_drop : (n : ℕ) (entries : List Entry) → ReachesRise entries → ReachesRise (drop n entries)
rises_drop n entries rise = reaches_right (take n entries) (drop n entries) (subst ReachesRise (sym (take-append-drop n entries)) rise)

module _ (table : Table) (valid : IsValidTable table) (x : List ℕ) (p i : ℕ) (scan : Scan) (run : Run) (is : IsScan table x p i scan run) where
  -- the fresh searches, with all entries that the scan had
  pub fresh_is : fresh table x p ≡ (scan.skipped ++ map (boundary_of table) (scan.known ++ scan.found)) ++ follow_by (next_boundary table x)
      (length x) is.reached.most (boundary_of table scan.here)
  fresh_is =
      let rest : List Boundary = follow_by (next_boundary table x) (length x) is.reached.most (boundary_of table scan.here) in
      is.reached.whole
      ∙ sym (append_assoc scan.done (boundary_of table scan.here ∷ []) rest)
      ∙ ap (λ bs. bs ++ rest) is.whole

  -- The run is true, where it has an entry, and leads where nothing that was found is left out.
  pub scan_true : (leads : Bool) → IsAnchor table x p → 1 ≤ length run.entries → (IsTrue leads → (scan.known ≡ []) × (is.cut ≡ 0)) →
      IsTrueRun table x (record { anchor = p; entries = run.entries; leads = leads })
  scan_true leads anchor some leading =
      let b : Entry → Boundary = boundary_of table in
      let rest : List Boundary = follow_by (next_boundary table x) (length x) is.reached.most (b scan.here) in
      let split : scan.known ++ scan.found ≡ take is.cut (scan.known ++ scan.found) ++ run.entries =
      sym (take-append-drop is.cut (scan.known ++ scan.found)) ∙ ap (λ l. take is.cut (scan.known ++ scan.found) ++ l) (sym is.entries) in
      let own : (P : Entry → Type 0) → AllByRecursion P (scan.known ++ scan.found) → AllByRecursion P run.entries =
      λ P each. subst (λ l. AllByRecursion P l) (sym is.entries) (all_drop P is.cut (scan.known ++ scan.found) each) in
      record {
        anchor = anchor;
        some = some;
        few = is.few;
        consecutive = record {
          before = scan.skipped ++ map b (take is.cut (scan.known ++ scan.found));
          after = rest;
          whole =
              fresh_is
              ∙ ap (λ bs. (scan.skipped ++ bs) ++ rest) (ap (map b) split ∙ map-append b (take is.cut (scan.known ++ scan.found)) run.entries)
              ∙ ap (λ bs. bs ++ rest) (sym (append_assoc scan.skipped (map b (take is.cut (scan.known ++ scan.found))) (map b run.entries)));
        };
        places = own (λ e. (p ≡ 0) ⊎ (p + 2 ≤ e.at)) is.places;
        reach_enough = own (λ e. farthest_look table x p e.at ≤ e.reach) is.enough;
        reach_within = own (λ e. e.reach ≤ length x + 1) is.reaches_within;
        reaches_rise = subst ReachesRise (sym is.entries) (rises_drop is.cut (scan.known ++ scan.found) is.rise);
        leads = λ so. leads_truly run.entries (is.entries ∙ ap (λ n. drop n (scan.known ++ scan.found)) (leading so).1) (is.skipped_low (leading so).0);
      }
    where
      leads_truly : (entries : List Entry) → entries ≡ drop 0 (scan.known ++ scan.found) → AllByRecursion (λ (b : Boundary). b.at < low p) scan.skipped →
          LeadsTruly table x p entries
      leads_truly [] are low_skipped = tt
      leads_truly (first ∷ more) are low_skipped =
          let b : Entry → Boundary = boundary_of table in
          let rest : List Boundary = follow_by (next_boundary table x) (length x) is.reached.most (b scan.here) in
          let P : Boundary → Type 0 = λ m. low p ≤ m.at → first.at ≤ m.at in
          let whole : fresh table x p ≡ scan.skipped ++ (b first ∷ (map b more ++ rest)) =
          fresh_is ∙ ap (λ l. (scan.skipped ++ map b l) ++ rest) (sym are) ∙ append_assoc scan.skipped (map b (first ∷ more)) rest in
          subst (λ bs. AllByRecursion P bs) (sym whole)
          (all_append P scan.skipped (b first ∷ (map b more ++ rest))
          (all_through (λ m. m.at < low p) P (λ m less from. absurd (omega arith)) scan.skipped low_skipped) (
            λ _. omega arith,
            all_through (λ m. first.at < m.at) P (λ m less _. omega (arith, less)) (map b more ++ rest)
                (rises_after (b first) (map b more ++ rest)
                (rising_right scan.skipped (b first ∷ (map b more ++ rest)) (subst (λ bs. IsRising (places bs)) whole (fresh_rises table x p)))),
          ))

  -- the entries before the last aren't past i
  pub front_up_to : (front : List Entry) → scan.known ++ scan.found ≡ front ++ scan.here ∷ [] → AllByRecursion (λ e. e.at ≤ i) front
  front_up_to front whole =
      let b : Entry → Boundary = boundary_of table in
      let done : scan.done ≡ scan.skipped ++ map b front =
      append_cancel_right scan.done (scan.skipped ++ map b front) (b scan.here ∷ [])
      (is.whole ∙ ap (λ l. scan.skipped ++ map b l) whole ∙ ap (λ bs. scan.skipped ++ bs) (map-append b front (scan.here ∷ []))
      ∙ sym (append_assoc scan.skipped (map b front) (b scan.here ∷ []))) in
      all_unmap b (λ c. c.at ≤ i) front (all_right (λ c. c.at ≤ i) scan.skipped (map b front) (subst (λ bs. AllByRecursion (λ c. c.at ≤ i) bs) done is.up_to))

  -- A run that ends with the scan's last entry shows it, where another entry stands before it, or it leads and the scan went far enough.
  pub scan_shows : (run' : Run) (front : List Entry) → run'.entries ≡ front ++ scan.here ∷ [] → AllByRecursion (λ e. e.at ≤ i) front → i < scan.here.at →
      ((front ≢ []) ⊎ (IsTrue run'.leads × (low run'.anchor ≤ i + 1))) → IsShownAfter run' i scan.here
  scan_shows run' [] whole each past nearest = (
    record {
      before = [];
      entry = scan.here;
      after = [];
      whole = whole;
      at = refl;
      past = past;
      nearest = ⊎_elim (λ some. absurd (some refl)) (λ leads. inr (refl, leads.0, leads.1)) nearest;
    },
    refl,
  )
  scan_shows run' (e ∷ front) whole each past nearest = (
    record {
      before = e ∷ front;
      entry = scan.here;
      after = [];
      whole = whole;
      at = refl;
      past = past;
      nearest = inl (ends_up_to e front i each);
    },
    refl,
  )

  -- the entries of the run end with the last
  pub run_ends : 1 ≤ length run.entries → (front : List Entry) × (run.entries ≡ front ++ scan.here ∷ []) × AllByRecursion (λ e. e.at ≤ i) front
  run_ends some =
      ⊎_elim
      (λ nothing. absurd (omega (arith, ap length is.entries, length-drop is.cut (scan.known ++ scan.found), ap length nothing)))
      (λ last.
      let short : is.cut ≤ length last.0 =
      omega (arith, ap length is.entries, length-drop is.cut (scan.known ++ scan.found), ap length last.1, length-append last.0 (scan.here ∷ [])) in (
        drop is.cut last.0,
        is.entries ∙ ap (drop is.cut) last.1 ∙ drop-append-le is.cut last.0 (scan.here ∷ []) short,
        all_drop (λ e. e.at ≤ i) is.cut last.0 (front_up_to last.0 last.1),
      ))
      is.last

  -- the new entries have the least reaches
  pub scan_least : (former : List Run) (leads : Bool) → ((scan.known ≡ []) ⊎ EndFormerRun former p scan.known) →
      HasLeastReaches table x former (record { anchor = p; entries = run.entries; leads = leads })
  scan_least former leads known =
      let rest : List Boundary = follow_by (next_boundary table x) (length x) is.reached.most (boundary_of table scan.here) in
      record {
        known = scan.known;
        found = scan.found;
        are_known = known;
        consecutive = record { before = scan.skipped; after = rest; whole = fresh_is };
        least = is.least;
        cut = is.cut;
        are_last = is.entries;
      }
