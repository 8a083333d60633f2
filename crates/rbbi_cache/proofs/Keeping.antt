-- What is kept after an answer.
use Rattle.std.proofs.Common.{◌≡◌, ℕ, ◌+◌, ◌⊎◌, ◌-◌, ◌<◌, ◌≤◌, Bool, true, false, List, [], ◌∷◌, ◌++◌, length, map, sym, refl, ap, ◌∙◌, subst, inr, ⊎_elim, arith}
use Rattle.std.specs.Prelude.{Option, Some, None, MatchOption}
use Rattle.std.specs.List.{AllByRecursion}
use Rattle.std.proofs.lemmas.List.{append-nil}
use Rattle.rbbi_model.specs.Tables.{Table}
use Rattle.rbbi_model.specs.ValidTables.{IsValidTable}
use Rattle.rbbi_model.specs.Lists.{IsRising}
use Rattle.rbbi_model.specs.Searches.{fresh}
use Rattle.rbbi_model.specs.Runs.{Entry, Run, IsAnchor, boundary_of, AreConsecutive, IsTrueRun}
use Rattle.rbbi_model.proofs.Lists.{all_append, all_left, all_right, all_through}
use Rattle.rbbi_cache.specs.Kept.{AreTrueRuns, IsExtendedBy, AreLeft, Extended, HasLeastReaches}
use Rattle.rbbi_cache.specs.inner.Kept.{IsPutFirst}
use Rattle.rbbi_cache.specs.Shown.{IsShownAfter, IsShownBefore}
use Rattle.rbbi_cache.specs.inner.Lists.{IsOrdered, HasAt}
use Rattle.rbbi_cache.specs.inner.Ready.{GoesOnAs, GoesOnAt, KeepsTrue}
use Rattle.rbbi_cache.proofs.Reached.{first_member}
use Rattle.rbbi_cache.proofs.RunFacts as facts
use Rattle.rbbi_cache.proofs.RightPart.{entries_rise}
use Rattle.rbbi_cache.proofs.Among.{among_itself}
use Rattle.rbbi_cache.proofs.PutFirst.{all_of_left}

-- the first run stands first as it is
pub first_stays : (runs : List Run) (k : ℕ) → k ≡ 0 → (before after : List Run) (run : Run) → runs ≡ before ++ run ∷ after → length before ≡ k →
    runs ≡ run ∷ (before ++ after)
first_stays runs k first [] after run whole number = whole
first_stays runs k first (other ∷ before) after run whole number = absurd (omega arith)

module _ (table : Table) (valid : IsValidTable table) (x : List ℕ) where
  anchor_within : (p : ℕ) → IsAnchor table x p → p ≤ length x
  anchor_within p anchor = ⊎_elim (λ zero. omega arith) (λ pair. omega (arith, pair.0)) anchor

  pub entry_within : (run : Run) (is_true : IsTrueRun table x run) (front : List Entry) (e : Entry) (rest : List Entry) → run.entries ≡ front ++ e ∷ rest →
      e.at ≤ length x
  entry_within run is_true front e rest whole =
      facts.path_within table x (first_member run.anchor) (is_true.consecutive.before ++ map (boundary_of table) front) (boundary_of table e) (facts.path_is
      table valid x run is_true front e rest whole) (anchor_within run.anchor is_true.anchor)

  -- a true run lies within the text, and its entries rise
  pub ordered : (most : ℕ) → length x ≤ most → (run : Run) → IsTrueRun table x run → IsOrdered most run
  ordered most short run is_true = record {
    anchor = let within = anchor_within run.anchor is_true.anchor in omega arith;
    rising = entries_rise table valid x run is_true;
    within = facts.all_by_splits (λ e. e.at ≤ most) run.entries (λ front e rest whole. let within = entry_within run is_true front e rest whole in omega arith);
    behind = all_through (λ e. (run.anchor ≡ 0) ⊎ (run.anchor + 2 ≤ e.at)) (λ e. run.anchor ≤ e.at)
        (λ e place. ⊎_elim (λ zero. omega arith) (λ far. omega arith) place) run.entries is_true.places;
  }

  pub all_ordered : (most : ℕ) → length x ≤ most → (runs : List Run) → AreTrueRuns table x runs → AllByRecursion (IsOrdered most) runs
  all_ordered most short runs are_true = all_through (IsTrueRun table x) (IsOrdered most) (ordered most short) runs are_true

  -- the entries of a kept run have the reaches that they had
  least_used : (former before : List Run) (run : Run) (after : List Run) → former ≡ before ++ run ∷ after → IsTrueRun table x run → HasLeastReaches table x
      former run
  least_used former before run after whole is_true = record {
    known = run.entries;
    found = [];
    are_known = inr (record { earlier = before; run = run; later = after; kept = whole; same = refl; before = []; whole = refl });
    consecutive = subst (AreConsecutive table (fresh table x run.anchor)) (sym (append-nil run.entries)) is_true.consecutive;
    least = tt;
    cut = 0;
    are_last = sym (append-nil run.entries);
  }

  module _ (Shows : Run → Type 0) (former : List Run) (are_true : AreTrueRuns table x former) where
    -- A kept run was extended, and moved to the front.
    pub keeps_extended : (before : List Run) (run : Run) (after : List Run) → former ≡ before ++ run ∷ after → (run' : Run) → IsExtendedBy run run' → IsTrueRun
        table x run' → Shows run' → HasLeastReaches table x former run' →
        (now : List Run) → now ≡ run' ∷ (before ++ after) → KeepsTrue table x Shows former now
    keeps_extended before run after whole run' extended is_true shows least now is =
        let each = subst (AllByRecursion (IsTrueRun table x)) whole are_true in (
          record {
            first = run';
            rest = before ++ after;
            are = is;
            shows = shows;
            reaches = least;
            left = subst (λ l. AreLeft run' l (before ++ after)) (sym
                whole) (Extended before after run extended);
          },
          subst (AllByRecursion (IsTrueRun table x)) (sym is) (
            is_true,
            all_append (IsTrueRun table x) before after (all_left (IsTrueRun table x) before (run ∷ after) each) (all_right (IsTrueRun table x)
                before (run ∷ after) each).1,
          ),
        )

    -- A kept run was used, and moved to the front.
    pub keeps_used : (before : List Run) (run : Run) (after : List Run) → former ≡ before ++ run ∷ after → Shows run → (now : List Run) → now ≡ run ∷ (before
        ++ after) → KeepsTrue table x Shows former now
    keeps_used before run after whole shows now is =
        let is_true = (all_right (IsTrueRun table x) before (run ∷ after) (subst (AllByRecursion (IsTrueRun table x)) whole are_true)).0 in
        keeps_extended before run after whole run (record { anchor = refl; entries = among_itself run.entries; leads = λ so. so }) is_true shows
        (least_used former before run after whole is_true) now is

    -- The run with this number was used, and moved to the front.
    pub keeps_shown : (slice inside : List Run) → slice ≡ inside → inside ≡ former → (k : ℕ) → HasAt slice k Shows →
        (now : List Run) → ((before after : List Run) (run : Run) → inside ≡ before ++ run ∷ after → length before ≡ k → now ≡ run ∷ (before ++ after)) →
        KeepsTrue table x Shows former now
    keeps_shown slice inside same view k at now moved =
        keeps_used at.before at.run at.after (sym view ∙ sym same ∙ at.whole) at.such now (moved at.before at.after at.run (sym same ∙ at.whole) at.number)

    -- The first run was used.
    pub keeps_first : (now : List Run) → now ≡ former → HasAt former 0 Shows → KeepsTrue table x Shows former now
    keeps_first now same at = keeps_shown former now (sym same) same 0 at now (first_stays now 0 refl)

    -- A new run was put before the others.
    pub keeps_added : (run : Run) → IsTrueRun table x run → Shows run → HasLeastReaches table x former run → (now : List Run) → IsPutFirst run former now →
        KeepsTrue table x Shows former now
    keeps_added run is_true shows least now put = (
      record { first = run; rest = put.rest; are = put.are; shows = shows; reaches = least; left = put.left },
      subst (AllByRecursion (IsTrueRun table x)) (sym put.are) (is_true, all_of_left (IsTrueRun table x) run former put.rest put.left are_true),
    )

  -- what the first run shows may be told in another way
  pub keeps_through : (Shows Shows' : Run → Type 0) → ((run : Run) → IsTrueRun table x run → Shows run → Shows' run) → (former now : List Run) → KeepsTrue
      table x Shows former now → KeepsTrue table x Shows' former now
  keeps_through Shows Shows' through former now keeps =
      let is = keeps.0 in (
        record {
          first = is.first;
          rest = is.rest;
          are = is.are;
          shows = through is.first (subst (AllByRecursion (IsTrueRun table x)) is.are keeps.1).0
              is.shows;
          reaches = is.reaches;
          left = is.left;
        },
        keeps.1,
      )

  -- the first boundary past the last character is the last before a place past the end
  pub shown_last : (n i : ℕ) → n ≡ length x → 0 < n → n < i → (entry : Entry) (run : Run) → IsTrueRun table x run → IsShownAfter run (n - 1) entry →
      IsShownBefore x run i entry
  shown_last n i is some far entry run is_true shown =
      let shows = shown.0 in
      let within = entry_within run is_true shows.before shows.entry shows.after shows.whole in
      let past = shows.past in
      let at = shows.at in (
        record {
          before = shows.before;
          entry = shows.entry;
          after = shows.after;
          whole = shows.whole;
          at = shows.at;
          short_of = omega arith;
          nearest = inr
              (omega arith);
        },
        shown.1,
      )

  -- What is kept after searches went on from a kept run.
  module _ (i : ℕ) (former : List Run) (are_true : AreTrueRuns table x former) (before : List Run) (run : Run) (after : List Run) (whole : former ≡ before ++
      run ∷ after) (entry : Entry) (is_kept : Bool) (gone : List Run) (spare : Run)
      (goes : GoesOnAt table x i before run after entry is_kept gone spare) where
    pub keeps_gone_on : is_kept ≡ true → (now : List Run) → now ≡ goes.run ∷ (before ++ after) → KeepsTrue table x (λ r. IsShownAfter r i entry) former now
    keeps_gone_on kept now is =
        let so = subst (λ b. GoesOnAs table x i run entry b goes.run spare) kept goes.gone_on in
        let ready = so.1 former (record { before = before; after = after; whole = whole }) in
        keeps_extended (λ r. IsShownAfter r i entry) former are_true before run after whole goes.run so.0 ready.is_true ready.shows ready.reaches now is

    pub keeps_beside : is_kept ≡ false → (now : List Run) → IsPutFirst spare gone now → KeepsTrue table x (λ r. IsShownAfter r i entry) former now
    keeps_beside other now put =
        let so = subst (λ b. GoesOnAs table x i run entry b goes.run spare) other goes.gone_on in
        let ready = so.1 former (record { before = before; after = after; whole = whole }) in
        let same : gone ≡ former = goes.whole ∙ ap (λ r. before ++ r ∷ after) so.0 ∙ sym whole in
        keeps_added (λ r. IsShownAfter r i entry) former are_true spare ready.is_true ready.shows ready.reaches now
        (subst (λ l. IsPutFirst spare l now) same put)

    -- the entries of the new run rise
    pub beside_rises : is_kept ≡ false → IsRising (map (λ e. e.at) spare.entries)
    beside_rises other =
        let so = subst (λ b. GoesOnAs table x i run entry b goes.run spare) other goes.gone_on in
        let ready = so.1 former (record { before = before; after = after; whole = whole }) in
        entries_rise table valid x spare ready.is_true

  -- What is kept after the first run was asked to take one boundary more.
  pub keeps_stepped : (i : ℕ) (former : List Run) (are_true : AreTrueRuns table x former) (run : Run) (rest : List Run) → former ≡ run ∷ rest → (run' : Run) (now : List Run) →
      now ≡ run' ∷ rest → (steps steps' : ℕ) (found : Option Entry) → MatchOption found ((run' ≡ run) × (steps' ≡ steps)) (λ e. GoesOnAs table x i run e true run' run') →
      MatchOption found ((now ≡ former) × (steps' ≡ steps)) (λ e. KeepsTrue table x (λ r. IsShownAfter r i e) former now)
  keeps_stepped i former are_true run rest whole run' now is steps steps' None same = (is ∙ ap (λ r. r ∷ rest) same.0 ∙ sym whole, same.1)
  keeps_stepped i former are_true run rest whole run' now is steps steps' (Some e) goes =
      keeps_gone_on i former are_true [] run rest whole e true now run' (record { run = run'; whole = is; gone_on = goes }) refl now is
