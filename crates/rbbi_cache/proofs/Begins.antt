-- How the searches past a place begin, and what they leave.
use Rattle.std.proofs.Common.{◌≡◌, ◌≢◌, ℕ, ◌+◌, ◌<◌, ◌≤◌, List, [], ◌∷◌, ◌++◌, length, length-append, drop, map, true, false, sym, refl, ap, ◌∙◌, subst, ⊎_elim}
use Rattle.std.proofs.Common.{arith, max, min, eqb, ◌-◌}
use Rattle.std.specs.Prelude.{IsTrue}
use Rattle.std.proofs.lemmas.Bool.{cond-false, ne_eqb}
use Rattle.std.proofs.lemmas.List.{append-nil}
use Rattle.rbbi_model.specs.Tables.{Table}
use Rattle.rbbi_model.specs.ValidTables.{IsValidTable}
use Rattle.rbbi_model.specs.Runs.{Entry, Run, boundary_of, IsTrueRun}
use Rattle.rbbi_model.specs.Costs.{anchor_below, searches_cost}
use Rattle.rbbi_model.specs.Searches.{found, look_end}
use Rattle.rbbi_model.proofs.Found.{found_lies}
use Rattle.rbbi_model.proofs.Lists.{all_right}
use Rattle.rbbi_cache.specs.inner.Pushed.{pushed}
use Rattle.rbbi_cache.specs.inner.Lists.{GoesOnFrom}
use Rattle.rbbi_cache.specs.inner.Scans.{Reached, Scan, IsScan, HasBegun, HasGoneOn, ContinuesScan}
use Rattle.rbbi_cache.specs.Kept.{IsExtendedBy}
use Rattle.rbbi_cache.specs.inner.Ready.{IsReadyAfter, GoesOnAs}
use Rattle.rbbi_cache.proofs.Scanned.{scan_from_anchor, scan_from_entry}
use Rattle.std.specs.List.{AllByRecursion}
use Rattle.rbbi_cache.proofs.Goes.{goes_found}
use Rattle.rbbi_cache.proofs.Nearer.{searched_path, nearer_cost}
use Rattle.rbbi_cache.proofs.Ready.{IsAnchorBelow, anchor_is, anchored_below, ready_from_anchor, scan_cost, some_entry, is_extended, ready_extended}
use Rattle.rbbi_cache.proofs.Ready.{ready_beside}

module _ (table : Table) (valid : IsValidTable table) (x : List ℕ) (i : ℕ) where
  pub anchor_low : anchor_below table x i ≤ i
  anchor_low = ⊎_elim (λ zero. omega arith) (λ less. omega arith) (anchor_is table valid x i).below

  module _ (p : ℕ) (run : Run) (begun : run ≡ record { anchor = p; entries = []; leads = true }) (up_to : p ≤ i) (within : i < length x) where
    -- the scan at its anchor
    abbrev pub at_anchor : Scan
    at_anchor = record {
      done = [];
      skipped = boundary_of table (record { at = p; status = 0; reach = 0 }) ∷ [];
      known = [];
      found = [];
      here = record { at = p; status = 0; reach = 0 };
    }

    pub starts : IsScan table x p i at_anchor run
    starts = scan_from_anchor table valid x p i run begun (omega arith)

    pub begins_at_anchor : HasBegun table x run.anchor i (record { at = p; status = 0; reach = 0 }) run
    begins_at_anchor = record { scan = at_anchor; is = subst (λ a. IsScan table x a i at_anchor run) (sym (ap (λ r. r.anchor) begun)) starts; here_is = refl }

    module _ (here : Entry) (after : Run) (before now : ℕ)
        (gone : ContinuesScan table x run.anchor i (record { at = p; status = 0; reach = 0 }) run here after before
        now) (past : i < here.at) where
      pub gone_from_anchor : HasGoneOn table x p i at_anchor here after before now
      gone_from_anchor =
          subst (λ a. HasGoneOn table x a i at_anchor here after before now) (ap (λ r. r.anchor) begun)
          (gone at_anchor (subst (λ a. IsScan table x a i at_anchor run) (sym (ap (λ r. r.anchor) begun)) starts) refl)

      pub anchor_ready : IsAnchorBelow table x i p → (kept : List Run) → IsReadyAfter table x i kept here after
      anchor_ready anchor kept = ready_from_anchor table valid x i p anchor at_anchor refl here after before now gone_from_anchor past kept

      pub anchor_cost : now ≤ before + searches_cost table x p i
      anchor_cost = scan_cost table valid x i p at_anchor here after before now gone_from_anchor past

      pub anchor_more : before ≤ now
      anchor_more = omega (arith, gone_from_anchor.read)

module _ (table : Table) (valid : IsValidTable table) (x : List ℕ) (i : ℕ) (former : Run) (is_true : IsTrueRun table x former) (from : Entry)
    (goes : GoesOnFrom i from former) (anchor : ℕ) (cleared run : Run) (anchor_same : anchor ≡ former.anchor)
    (cleared_is : cleared ≡ record { anchor = anchor; entries = []; leads = true }) (run_is : run ≡ pushed cleared from) where
  -- a run that begins at the anchor and takes the entry from which it goes on
  begun : run ≡ record { anchor = former.anchor; entries = from ∷ []; leads = true }
  begun =
      let of : ℕ → Run = λ a. record { anchor = a; entries = from ∷ []; leads = true } in
      run_is ∙ ap (λ r. pushed r from) cleared_is ∙ ap of anchor_same

  abbrev from_entry : Scan
  from_entry = record {
    done = is_true.consecutive.before ++ map (boundary_of table) goes.front;
    skipped = is_true.consecutive.before ++ map (boundary_of table) goes.front;
    known = from ∷ [];
    found = [];
    here = from;
  }

  starts_there : IsScan table x former.anchor i from_entry run
  starts_there = scan_from_entry table valid x former.anchor i former is_true refl goes.front from goes.whole goes.up_to run begun

  pub begins_there : HasBegun table x run.anchor i from run
  begins_there = record { scan = from_entry; is = subst (λ a. IsScan table x a i from_entry run) (sym (ap (λ r. r.anchor) begun)) starts_there; here_is = refl }

  pub anchor_there : run.anchor ≤ i
  anchor_there = omega (
    arith,
    ap (λ r. r.anchor) begun,
    ⊎_elim {C = former.anchor ≤ i} (λ zero. omega arith) (λ less. omega arith) (anchored_below table valid
        x i former is_true from goes).below,
  )

  module _ (here : Entry) (after : Run) (before now : ℕ) (gone : ContinuesScan table x run.anchor i from run here after before now) (past : i < here.at) where
    gone_there : HasGoneOn table x former.anchor i from_entry here after before now
    gone_there =
        subst (λ a. HasGoneOn table x a i from_entry here after before now) (ap (λ r. r.anchor) begun)
        (gone from_entry (subst (λ a. IsScan table x a i from_entry run) (sym (ap (λ r. r.anchor) begun)) starts_there) refl)

    pub there_cost : anchor_below table x i ≤ from.at → now ≤ before + searches_cost table x (anchor_below table x i) i
    there_cost near =
        let is = gone_there.is in
        let here_at : i < gone_there.scan.here.at = omega (arith, ap (λ e. e.at) gone_there.here_is) in
        let read =
        nearer_cost table valid x (anchor_below table x i) (anchor_is table valid x i).anchor i former is_true goes.front from goes.whole near goes.up_to
        gone_there.searched (boundary_of table gone_there.scan.here)
        (searched_path table x former.anchor (is_true.consecutive.before ++ map (boundary_of table) goes.front) (boundary_of table from) gone_there.searched
        (boundary_of table gone_there.scan.here)
        starts_there.reached (subst (λ bs. Reached table x former.anchor bs (boundary_of table gone_there.scan.here)) gone_there.done is.reached))
        (all_right (λ m. m.at ≤ i) (is_true.consecutive.before ++ map (boundary_of table) goes.front) gone_there.searched (subst (λ bs. AllByRecursion (λ m.
        m.at ≤ i) bs) gone_there.done is.up_to))
        here_at in
        omega (arith, read, gone_there.read)

    pub there_more : before ≤ now
    there_more = omega (arith, gone_there.read)

    -- the scan's run has entries, and where it leads they are the one known and those found
    pub there_some : 1 ≤ length after.entries
    there_some = some_entry table valid x i former.anchor gone_there.scan after gone_there.is (omega (arith, ap (λ e. e.at) gone_there.here_is))
        (anchored_below table valid x i former is_true from goes).low_is

    found_is : IsTrue after.leads → after.entries ≡ from ∷ gone_there.scan.found
    found_is leads =
        gone_there.is.entries
        ∙ ap (λ n. drop n (gone_there.scan.known ++ gone_there.scan.found)) (gone_there.is.leads.0 leads)
        ∙ ap (λ l. l ++ gone_there.scan.found) gone_there.known

    -- the kept run takes what was found
    pub extended_as : IsTrue after.leads → length former.entries + length after.entries ≤ 257 → (run' : Run) → run' ≡ record {
      anchor = former.anchor;
      entries
          = former.entries ++ drop 1 after.entries;
      leads = former.leads;
    } → GoesOnAs table x i former here true run' after
    extended_as leads room run' is =
        let found : drop 1 after.entries ≡ gone_there.scan.found = ap (drop 1) (found_is leads) in
        let of : List Entry → Run = λ l. record { anchor = former.anchor; entries = former.entries ++ l; leads = former.leads } in
        let same : run' ≡ record { anchor = former.anchor; entries = former.entries ++ gone_there.scan.found; leads = former.leads } = is ∙ ap of found in
        let few : length (former.entries ++ gone_there.scan.found) ≤ 256 = omega (
          arith,
          length-append former.entries gone_there.scan.found,
          ap length
              (found_is leads),
        ) in (
          subst (IsExtendedBy former) (sym same) (is_extended table valid x i former is_true from goes from_entry refl here after before now gone_there past),
          λ kept among. subst (IsReadyAfter table x i kept here) (sym same) (ready_extended table valid x i former is_true from goes from_entry refl here after
              before now gone_there past few kept among),
        )

    -- another run is made
    pub beside_as : (run' spare : Run) → run' ≡ former → spare ≡ record after { leads = false } → GoesOnAs table x i former here false run' spare
    beside_as run' spare same is = (
      same,
      λ kept among. subst (IsReadyAfter table x i kept here) (sym is) (ready_beside table valid x i former is_true from goes from_entry refl here after
          before now gone_there past kept among),
    )

-- One search was made from a run's last entry, which lies at i, and the run has room for what it found.
module _ (table : Table) (valid : IsValidTable table) (x : List ℕ) (i : ℕ) (former : Run) (is_true : IsTrueRun table x former) (room : length former.entries ≢
    256) (from : Entry) (goes : GoesOnFrom i from former) (at_is : i ≡ from.at) (reach : ℕ) (reach_is : reach ≡ from.reach) (short : i < length x)
    (next : Entry) (look : ℕ) (next_at : next.at ≡ (found table x i).at) (next_status : next.status ≡ (found table x i).list)
    (look_is : look ≡ look_end table x i) (next_reach : next.reach ≡ max reach look)
    (before now : ℕ) (read : now ≡ before + (min (look_end table x i) (length x) - i)) where
  abbrev one : Run
  one = record { anchor = former.anchor; entries = from ∷ []; leads = true }

  past : i < next.at
  past = omega (arith, next_at, (found_lies table x i short).0)

  one_searched : ContinuesScan table x former.anchor i from one next (pushed one next) before now
  one_searched = goes_found table x former.anchor i from one from one before before
      (λ start is here. record { scan = start; is = is; here_is = here; known = refl; searched = []; done = sym (append-nil start.done); read = omega arith })
      short i reach at_is reach_is (omega arith) next look next_at next_status look_is next_reach now read
      (omega (arith, past, (anchored_below table valid x i former is_true from goes).low_is))

  pub one_added : GoesOnAs table x i former next true (pushed former next) (pushed former next)
  one_added =
      extended_as table valid x i former is_true from goes former.anchor (record { anchor = former.anchor; entries = []; leads = true }) one refl refl refl next
      (pushed one next) before now one_searched past refl (omega (arith, is_true.few, room)) (pushed former next)
      (cond-false {A = Run} (eqb (length former.entries) 256) (record { anchor = former.anchor; entries = drop 128 former.entries ++ next ∷ []; leads = false })
      (record { anchor = former.anchor; entries = former.entries ++ next ∷ []; leads = former.leads }) (ne_eqb (length former.entries) 256 room))

  pub one_cost : now ≤ before + searches_cost table x (anchor_below table x i) i
  one_cost =
      there_cost table valid x i former is_true from goes former.anchor (record { anchor = former.anchor; entries = []; leads = true }) one refl refl refl next
      (pushed one next) before now one_searched past (omega (arith, anchor_low table valid x i, at_is))
