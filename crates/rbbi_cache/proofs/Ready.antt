-- What a scan leaves is ready to be kept.
use Rattle.std.proofs.Common.{◌≡◌, ◌≢◌, ℕ, ◌+◌, ◌<◌, ◌≤◌, ◌⊎◌, false, eqb, Option, Some, None, List, [], ◌∷◌, ◌++◌, length, length-append, length-drop, map}
use Rattle.std.proofs.Common.{sym, refl, ap, ◌∙◌, subst, inl, inr, ⊎_elim, append_assoc, arith}
use Rattle.std.specs.Prelude.{IsTrue, unwrap_or, sum_by}
use Rattle.std.specs.List.{AllByRecursion}
use Rattle.std.proofs.lemmas.Bool.{cond-true, cond-false, cases_eq, eq-eqb, ne_eqb}
use Rattle.std.proofs.lemmas.List.Sums.{sum_by-append}
use Rattle.rbbi_model.specs.Places.{greatest_below}
use Rattle.rbbi_model.specs.Boundaries.{Boundary}
use Rattle.rbbi_model.specs.Lists.{IsRising}
use Rattle.rbbi_model.specs.Tables.{Table}
use Rattle.rbbi_model.specs.ValidTables.{IsValidTable}
use Rattle.rbbi_model.specs.Runs.{Entry, Run, IsAnchor, is_anchor, low, boundary_of, IsTrueRun}
use Rattle.rbbi_model.specs.Costs.{anchor_below, characters_read, searches_cost}
use Rattle.rbbi_model.proofs.Found.{greatest_lies}
use Rattle.rbbi_model.proofs.Anchors.{anchors_stored}
use Rattle.rbbi_model.proofs.Lists.{all_append}
use Rattle.rbbi_cache.specs.Kept.{HasLeastReaches, EndFormerRun, IsExtendedBy}
use Rattle.rbbi_cache.specs.inner.Lists.{GoesOnFrom}
use Rattle.rbbi_cache.specs.Shown.{IsShownAfter}
use Rattle.rbbi_cache.specs.inner.Scans.{Scan, IsScan, HasGoneOn}
use Rattle.rbbi_cache.specs.inner.Ready.{IsReadyAfter, IsAmong}
use Rattle.rbbi_cache.proofs.Reached.{cost_is}
use Rattle.rbbi_cache.proofs.RightPart.{entries_rise}
use Rattle.rbbi_cache.proofs.RunFacts as facts
use Rattle.rbbi_cache.proofs.Scanning.{nonempty}
use Rattle.rbbi_cache.proofs.Scanned.{scan_true, scan_shows, scan_least, run_ends, front_up_to}
use Rattle.rbbi_cache.proofs.Extending.{extended_true, extended_least, extends}

-- what lies below a place and is an anchor
pub record IsAnchorBelow (table : Table) (x : List ℕ) (i p : ℕ) : Type 0 where
  pub anchor : IsAnchor table x p
  pub below : (p ≡ 0) ⊎ (p < i)
  pub low_is : low p ≤ i + 1

low_below : (i p : ℕ) → ((p ≡ 0) ⊎ (p < i)) → low p ≤ i + 1
low_below i p below =
    ⊎_elim
    (λ zero. omega (arith, cond-true (eqb p 0) 1 (p + 2) (eq-eqb p 0 zero)))
    (λ other. ⊎_elim (λ zero. absurd (other zero)) (λ less. omega (arith, cond-false (eqb p 0) 1 (p + 2) (ne_eqb p 0 other))) below)
    (cases_eq p 0)

pub anchor_is : (table : Table) → IsValidTable table → (x : List ℕ) (i : ℕ) → IsAnchorBelow table x i (anchor_below table x i)
anchor_is table valid x i = of (greatest_below (is_anchor table x) i) refl
  where
    of : (place : Option ℕ) → greatest_below (is_anchor table x) i ≡ place → IsAnchorBelow table x i (unwrap_or place 0)
    of None is = record { anchor = inl refl; below = inl refl; low_is = low_below i 0 (inl refl) }
    of (Some q) is =
        let lies = greatest_lies (is_anchor table x) i q is in
        record { anchor = (anchors_stored table valid x q).0 lies.1; below = inr lies.0; low_is = low_below i q (inr lies.0) }

-- the anchor of a true run from whose last entry it goes on
pub anchored_below : (table : Table) → IsValidTable table → (x : List ℕ) (i : ℕ) (former : Run) → IsTrueRun table x former →
    (from : Entry) → GoesOnFrom i from former → IsAnchorBelow table x i former.anchor
anchored_below table valid x i former is_true from goes =
    let up_to = goes.up_to in
    let below : (former.anchor ≡ 0) ⊎ (former.anchor < i) =
    ⊎_elim (λ zero. inl zero) (λ past. inr (omega arith)) (facts.place table valid x former is_true goes.front from [] goes.whole) in
    record { anchor = is_true.anchor; below = below; low_is = low_below i former.anchor below }

module _ (table : Table) (valid : IsValidTable table) (x : List ℕ) (i : ℕ) where
  -- what a scan read is a part of the cost of all searches up to i
  pub scan_cost : (p : ℕ) (start : Scan) (here : Entry) (run : Run) (before now : ℕ) → HasGoneOn table x p i start here run before now → i < here.at →
      now ≤ before + searches_cost table x p i
  scan_cost p start here run before now gone past =
      let of : Boundary → ℕ = λ b. characters_read table x b.at in
      omega (
        arith,
        gone.read,
        cost_is table x p gone.scan.done (boundary_of table gone.scan.here) gone.is.reached i gone.is.up_to (omega (arith, ap (λ e. e.at) gone.here_is)),
        ap (sum_by (λ (b : Boundary). characters_read table x b.at)) gone.done,
        sum_by-append (λ (b : Boundary). characters_read table x b.at) start.done gone.searched,
      )

  -- a scan that came past i has an entry
  pub some_entry : (p : ℕ) (scan : Scan) (run : Run) → IsScan table x p i scan run → i < scan.here.at → low p ≤ i + 1 → 1 ≤ length run.entries
  some_entry p scan run is past high =
      ⊎_elim
      (λ whole. ⊎_elim
      (λ nothing. let none = is.none nothing in absurd (omega (arith, none.0)))
      (λ last. omega (
        arith,
        ap length is.entries,
        length-drop is.cut (scan.known ++ scan.found),
        whole,
        ap length last.1,
        length-append last.0
            (scan.here ∷ []),
      ))
      is.last)
      (λ two. omega arith)
      is.enough_left

  -- A run made from an anchor.
  pub ready_from_anchor : (p : ℕ) → IsAnchorBelow table x i p → (start : Scan) → start.known ≡ [] → (here : Entry) (run : Run) (before now : ℕ) →
      HasGoneOn table x p i start here run before now → i < here.at →
      (kept : List Run) → IsReadyAfter table x i kept here run
  ready_from_anchor p anchor start unknown here run before now gone past kept =
      let is = gone.is in
      let past' : i < gone.scan.here.at = omega (arith, ap (λ e. e.at) gone.here_is) in
      let known : gone.scan.known ≡ [] = gone.known ∙ unknown in
      let some = some_entry p gone.scan run is past' anchor.low_is in
      let of : ℕ → Run = λ a. record { anchor = a; entries = run.entries; leads = run.leads } in
      let ends = run_ends table valid x p i gone.scan run is some in
      record {
        is_true = subst (λ a. IsTrueRun table x (record { anchor = a; entries = run.entries; leads = run.leads })) (sym is.anchor)
            (scan_true table valid x p i gone.scan run is run.leads anchor.anchor some (λ leads. (known, is.leads.0 leads)));
        shows = subst (IsShownAfter run i) gone.here_is
            (scan_shows table valid x p i gone.scan run is run ends.0 ends.1 ends.2 past' (nearest ends.0 ends.1 is.enough_left));
        reaches = subst (λ a. HasLeastReaches table x kept (record { anchor = a; entries = run.entries; leads = run.leads })) (sym is.anchor)
            (scan_least table valid x p i gone.scan run is kept run.leads (inl known));
      }
    where
      nearest : (front : List Entry) → run.entries ≡ front ++ gone.scan.here ∷ [] → ((gone.is.cut ≡ 0) ⊎ (2 ≤ length run.entries)) →
          (front ≢ []) ⊎ (IsTrue run.leads × (low run.anchor ≤ i + 1))
      nearest front whole (inl all) = inr (gone.is.leads.1 all, omega (arith, ap low gone.is.anchor, anchor.low_is))
      nearest front whole (inr two) = inl (λ none. omega (arith, ap length whole, length-append front (gone.scan.here ∷ []), ap length none))

  -- A run that goes on from the last entry of a kept one.
  module _ (former : Run) (is_true : IsTrueRun table x former) (from : Entry) (goes : GoesOnFrom i from former)
      (start : Scan) (known_start : start.known ≡ from ∷ []) (here : Entry) (run : Run) (before now : ℕ)
      (gone : HasGoneOn table x former.anchor i start here run before now) (past : i < here.at) where
    known : gone.scan.known ≡ from ∷ []
    known = gone.known ∙ known_start

    past_here : i < gone.scan.here.at
    past_here = omega (arith, ap (λ e. e.at) gone.here_is)

    anchored : IsAnchorBelow table x i former.anchor
    anchored = anchored_below table valid x i former is_true from goes

    -- the scan found an entry past the one from which it went on
    found_ends : (front : List Entry) × (gone.scan.found ≡ front ++ gone.scan.here ∷ [])
    found_ends =
        ⊎_elim
        (λ nothing. absurd (nonempty [] from gone.scan.found (ap (λ l. l ++ gone.scan.found) (sym known) ∙ nothing)))
        (λ last. of last.0 (ap (λ l. l ++ gone.scan.found) (sym known) ∙ last.1))
        gone.is.last
      where
        of : (front : List Entry) → from ∷ gone.scan.found ≡ front ++ gone.scan.here ∷ [] → (front' : List Entry) ×
            (gone.scan.found ≡ front' ++ gone.scan.here ∷ [])
        of [] whole = absurd (let same : from ≡ gone.scan.here = cc in let low_from = goes.up_to in omega (arith, ap (λ e. e.at) same, past_here))
        of (e ∷ front) whole = (front, cc)

    -- the run's own entries aren't past i
    old_up_to : AllByRecursion (λ e. e.at ≤ i) former.entries
    old_up_to =
        subst (λ l. AllByRecursion (λ e. e.at ≤ i) l) (sym goes.whole)
        (rising_up_to goes.front (subst (λ l. IsRising (map (λ e. e.at) l)) goes.whole (entries_rise table valid x former is_true)))
      where
        rising_up_to : (front : List Entry) → IsRising (map (λ e. e.at) (front ++ from ∷ [])) → AllByRecursion (λ e. e.at ≤ i) (front ++ from ∷ [])
        rising_up_to [] rising = (goes.up_to, tt)
        rising_up_to (e ∷ []) rising = let low_from = goes.up_to in (omega (arith, rising.0), (goes.up_to, tt))
        rising_up_to (e ∷ f ∷ front) rising = let more = rising_up_to (f ∷ front) rising.1 in (omega (arith, rising.0, more.0), more)

    -- the kept run, extended
    pub ready_extended : length (former.entries ++ gone.scan.found) ≤ 256 → (kept : List Run) → IsAmong kept former →
        IsReadyAfter table x i kept here (record { anchor = former.anchor; entries = former.entries ++ gone.scan.found; leads = former.leads })
    ready_extended few kept among =
        let ends = found_ends in
        let new_up_to : AllByRecursion (λ e. e.at ≤ i) (from ∷ ends.0) =
        front_up_to table valid x former.anchor i gone.scan run gone.is (from ∷ ends.0) (ap (λ l. l ++ gone.scan.found) known ∙ ap (λ l. from ∷ l) ends.1) in
        record {
          is_true = extended_true table valid x i former is_true goes.front from goes.whole gone.scan run gone.is known few;
          shows = subst (IsShownAfter (record { anchor = former.anchor; entries = former.entries ++ gone.scan.found; leads = former.leads }) i) gone.here_is
              (scan_shows table valid x former.anchor i gone.scan run gone.is
              (record { anchor = former.anchor; entries = former.entries ++ gone.scan.found; leads = former.leads }) (former.entries ++ ends.0)
              (ap (λ l. former.entries ++ l) ends.1 ∙ sym (append_assoc former.entries ends.0 (gone.scan.here ∷ [])))
              (all_append (λ e. e.at ≤ i) former.entries ends.0 old_up_to new_up_to.1) past_here (inl (some_before ends.0)));
          reaches = extended_least table valid x i former is_true goes.front from goes.whole gone.scan run gone.is known among.before among.after kept
              among.whole;
        }
      where
        some_before : (front : List Entry) → former.entries ++ front ≢ []
        some_before front none = let some = is_true.some in omega (arith, ap length none, length-append former.entries front)

    pub is_extended : IsExtendedBy former (record { anchor = former.anchor; entries = former.entries ++ gone.scan.found; leads = former.leads })
    is_extended = extends table valid x i former is_true goes.front from goes.whole gone.scan run gone.is known

    -- another run
    pub ready_beside : (kept : List Run) → IsAmong kept former →
        IsReadyAfter table x i kept here (record { anchor = run.anchor; entries = run.entries; leads = false })
    ready_beside kept among =
        let is = gone.is in
        let some = some_entry former.anchor gone.scan run is past_here anchored.low_is in
        let ends = run_ends table valid x former.anchor i gone.scan run is some in
        let two : 2 ≤ length run.entries = two_entries is.enough_left in
        record {
          is_true = subst (λ a. IsTrueRun table x (record { anchor = a; entries = run.entries; leads = false })) (sym is.anchor)
              (scan_true table valid x former.anchor i gone.scan run is false anchored.anchor some (λ leads. absurd (never leads)));
          shows = subst (IsShownAfter (record { anchor = run.anchor; entries = run.entries; leads = false }) i) gone.here_is
              (scan_shows table valid x former.anchor i gone.scan run is (record { anchor = run.anchor; entries = run.entries; leads = false }) ends.0 ends.1
              ends.2 past_here
              (inl (λ none. omega (arith, two, ap length ends.1, length-append ends.0 (gone.scan.here ∷ []), ap length none))));
          reaches = subst (λ a. HasLeastReaches table x kept (record { anchor = a; entries = run.entries; leads = false })) (sym is.anchor)
              (scan_least table valid x former.anchor i gone.scan run is kept false
              (inr (subst (EndFormerRun kept former.anchor) (sym known) (record {
                earlier = among.before;
                run = former;
                later = among.after;
                kept =
                    among.whole;
                same = refl;
                before = goes.front;
                whole = goes.whole;
              }))));
        }
      where
        never : IsTrue false → ⊥
        never so = cc

        two_entries : ((gone.is.cut ≡ 0) ⊎ (2 ≤ length run.entries)) → 2 ≤ length run.entries
        two_entries (inr two) = two
        two_entries (inl all) =
            omega (
              arith,
              ap length gone.is.entries,
              length-drop gone.is.cut (gone.scan.known ++ gone.scan.found),
              all,
              length-append gone.scan.known
                  gone.scan.found,
              ap length known,
              ap length found_ends.1,
              length-append found_ends.0 (gone.scan.here ∷ []),
            )
