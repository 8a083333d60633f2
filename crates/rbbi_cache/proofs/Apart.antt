-- Runs that lie on one side of a place.
use Rattle.std.proofs.Common.{◌≡◌, ℕ, ◌<◌, ◌≤◌, ◌-◌, ◌⊎◌, List, [], ◌∷◌, length, take, drop, get_or, map, sym, subst, inl, inr, ⊎_elim, arith}
use Rattle.std.specs.Prelude.{Option, Some, None, MatchOption}
use Rattle.std.specs.List.{AllByRecursion}
use Rattle.std.proofs.lemmas.List.{take-append-drop, take_all}
use Rattle.std.proofs.lemmas.List.Elements.{All-from_recursion, All-contains}
use Rattle.rbbi_model.specs.Lists.{IsRising}
use Rattle.rbbi_model.specs.Runs.{Entry, Run, StartsFrom, ShowsBefore}
use Rattle.rbbi_model.proofs.Lists.{all_append, all_right, all_through}
use Rattle.rbbi_cache.specs.declared.runs.Shown.{Shown}
use Rattle.rbbi_cache.specs.Kept.{AreAmong, NoneIsExtended}
use Rattle.rbbi_cache.specs.Shown.{IsShownBefore}
use Rattle.rbbi_cache.specs.inner.Lists.{HasAt}
use Rattle.rbbi_cache.specs.inner.Kept.{IsPutFirst}
use Rattle.rbbi_cache.specs.inner.Quiet.{IsApart, AreApart, LiesBetween}
use Rattle.rbbi_cache.proofs.Lists.{everywhere}
use Rattle.rbbi_cache.proofs.PutFirst.{all_of_left}
use Rattle.rbbi_cache.proofs.Quieting.{has_of_all}
use Rattle.rbbi_cache.proofs.RunFacts.{rises_past}
use Rattle.rbbi_cache.proofs.Showing.{all_past, all_up_to}

-- all entries lie from 0 on
pub from_start : (from to : ℕ) (run : Run) → to ≡ 0 → IsApart from to run
from_start from to run start = inr (everywhere (λ e. to ≤ e.at) (λ e. omega arith) run.entries)

pub all_from_start : (from to : ℕ) (runs : List Run) → to ≡ 0 → AllByRecursion (IsApart from to) runs
all_from_start from to runs start = everywhere (IsApart from to) (λ run. from_start from to run start) runs

-- places that are nearer to each other
pub nearer_apart : (from to from' to' : ℕ) → from ≤ from' → to' ≤ to → (run : Run) → IsApart from to run → IsApart from' to' run
nearer_apart from to from' to' least most run apart =
    ⊎_elim
    (λ low. inl (all_through (λ e. e.at ≤ from) (λ e. e.at ≤ from') (λ e up. omega arith) run.entries low))
    (λ high. inr (all_through (λ e. to ≤ e.at) (λ e. to' ≤ e.at) (λ e up. omega arith) run.entries high))
    apart

pub all_nearer_apart : (from to from' to' : ℕ) → from ≤ from' → to' ≤ to → (runs : List Run) → AllByRecursion (IsApart from to) runs →
    AllByRecursion (IsApart from' to') runs
all_nearer_apart from to from' to' least most runs all =
    all_through (IsApart from to) (IsApart from' to') (nearer_apart from to from' to' least most) runs all

-- the first entry isn't before the second place
pub apart_past : (run : Run) (from to : ℕ) (d : Entry) → IsRising (map (λ e. e.at) run.entries) → to ≤ (get_or run.entries 0 d).at → IsApart from to run
apart_past run from to d rising high = inr (each run.entries rising high)
  where
    each : (entries : List Entry) → IsRising (map (λ e. e.at) entries) → to ≤ (get_or entries 0 d).at → AllByRecursion (λ e. to ≤ e.at) entries
    each [] rises past = tt
    each (e ∷ entries) rises past =
        (past, all_through (λ f. e.at < f.at) (λ f. to ≤ f.at) (λ f less. omega (arith, past)) entries (rises_past e entries rises))

-- the last entry isn't past the first place
pub apart_up_to : (run : Run) (from to : ℕ) (d : Entry) → IsRising (map (λ e. e.at) run.entries) →
    (get_or run.entries (length run.entries - 1) d).at ≤ from → IsApart from to run
apart_up_to run from to d rising low = inl (each run.entries rising low)
  where
    each : (entries : List Entry) → IsRising (map (λ e. e.at) entries) → (get_or entries (length entries - 1) d).at ≤ from →
        AllByRecursion (λ e. e.at ≤ from) entries
    each [] rises up = tt
    each (e ∷ entries) rises up =
        subst (AllByRecursion (λ f. f.at ≤ from)) (take_all (length (e ∷ entries)) (e ∷ entries) (omega arith))
        (all_up_to (e ∷ entries) from d rises (omega arith) up).up_to

-- what starts from a place has no entry before it, and some
starts_past : (entries : List Entry) (i from : ℕ) → StartsFrom entries i → from < i → AllByRecursion (λ e. e.at ≤ from) entries → ⊥
starts_past [] i from starts less each = starts
starts_past (e ∷ entries) i from starts less each = omega (arith, starts, each.0)

module _ (x : List ℕ) (from to i : ℕ) (low : from < i) (high : i ≤ to) (within : i ≤ length x) where
  -- no run that lies on one side shows a boundary before the place
  apart_shows_none : (run : Run) → IsApart from to run → (a : ℕ) → ShowsBefore x run i a → ⊥
  apart_shows_none run (inl before) a shows =
      let each = (all_right (λ e. e.at ≤ from) shows.before (shows.entry ∷ shows.after) (subst (AllByRecursion (λ e. e.at ≤ from)) shows.whole before)).1 in
      ⊎_elim
      (λ starts. starts_past shows.after i from starts low each)
      (λ end. omega (arith, end, shows.short_of))
      shows.nearest
  apart_shows_none run (inr past) a shows =
      let here = (all_right (λ e. to ≤ e.at) shows.before (shows.entry ∷ shows.after) (subst (AllByRecursion (λ e. to ≤ e.at)) shows.whole past)).0 in
      omega (arith, here, shows.at, shows.short_of)

  -- where the others lie so, what the first run tells is told of all
  pub first_tells_before : (runs : List Run) → AreApart from to runs → (found : Option Shown) →
      MatchOption found (AllByRecursion (λ run. (a : ℕ) → ShowsBefore x run i a → ⊥) (take 1 runs))
      (λ shown. HasAt (take 1 runs) shown.run (λ run. IsShownBefore x run i shown.entry)) →
      MatchOption found (AllByRecursion (λ run. (a : ℕ) → ShowsBefore x run i a → ⊥) runs)
      (λ shown. HasAt runs shown.run (λ run. IsShownBefore x run i shown.entry))
  first_tells_before runs apart None none =
      subst (AllByRecursion (λ run. (a : ℕ) → ShowsBefore x run i a → ⊥)) (take-append-drop 1 runs)
      (all_append (λ run. (a : ℕ) → ShowsBefore x run i a → ⊥) (take 1 runs) (drop 1 runs) none
      (all_through (IsApart from to) (λ run. (a : ℕ) → ShowsBefore x run i a → ⊥) apart_shows_none (drop 1 runs) apart))
  first_tells_before runs apart (Some shown) at =
      has_of_all (λ run. IsShownBefore x run i shown.entry) runs (take 1 runs) (drop 1 runs) shown.run (take-append-drop 1 runs) at

-- the others and the first
pub all_apart : (from to from' to' : ℕ) → from ≤ from' → to' ≤ to → (runs : List Run) (run : Run) → run ≡ get_or runs 0 run →
    AreApart from to runs → IsApart from' to' run → AllByRecursion (IsApart from' to') runs
all_apart from to from' to' least most [] run is apart first = tt
all_apart from to from' to' least most (other ∷ runs) run is apart first =
    (subst (IsApart from' to') is first, all_nearer_apart from to from' to' least most runs apart)

-- where all lay so, the others do after a new one was put first
pub added_apart : (from to : ℕ) (run : Run) (former now : List Run) → AllByRecursion (IsApart from to) former → IsPutFirst run former now →
    AreApart from to now
added_apart from to run former now all put =
    subst (AreApart from to) (sym put.are) (all_of_left (IsApart from to) run former put.rest put.left all)

-- entries that rise lie between the places where the first and the last of them do
pub all_between : (entries : List Entry) (from to : ℕ) (d d' : Entry) → IsRising (map (λ e. e.at) entries) → from < (get_or entries 0 d).at →
    (get_or entries (length entries - 1) d').at < to → AllByRecursion (λ e. from < e.at) entries × AllByRecursion (λ e. e.at < to) entries
all_between [] from to d d' rising low high = (tt, tt)
all_between (e ∷ entries) from to d d' rising low high =
    let up = all_up_to (e ∷ entries) (to - 1) d' rising (omega arith) (omega (arith, high)) in (
      (all_past (e ∷ entries) from d rising (omega arith) low).past,
      all_through (λ f. f.at ≤ to - 1) (λ f. f.at < to) (λ f less. omega (arith, less, high)) (e ∷ entries)
          (subst (AllByRecursion (λ f. f.at ≤ to - 1)) (take_all (length (e ∷ entries)) (e ∷ entries) (omega arith)) up.up_to),
    )

module _ (from to : ℕ) (run : Run) (between : LiesBetween from to run) where
  -- then none of the entries of a run that lies on one side is among them
  none_among : (entries : List Entry) → 0 < length entries → AllByRecursion (λ e. e.at ≤ from) entries ⊎ AllByRecursion (λ e. to ≤ e.at) entries →
      AreAmong entries run.entries → ⊥
  none_among [] some apart among = omega arith
  none_among (e ∷ entries) some apart among =
      let past : from < e.at = All-contains (λ f. from < f.at) run.entries e (All-from_recursion (λ f. from < f.at) run.entries between.0) among.0 in
      let short_of : e.at < to = All-contains (λ f. f.at < to) run.entries e (All-from_recursion (λ f. f.at < to) run.entries between.1) among.0 in
      ⊎_elim (λ low. omega (arith, low.0)) (λ high. omega (arith, high.0)) apart

  none_of_others : (runs : List Run) → AllByRecursion (λ r. 0 < length r.entries) runs → AllByRecursion (IsApart from to) runs → NoneIsExtended run runs
  none_of_others [] some apart = tt
  none_of_others (r ∷ runs) some apart = (λ is. none_among r.entries some.0 apart.0 is.entries, none_of_others runs some.1 apart.1)

  -- so the run extends no other than the first
  pub none_extended : (runs : List Run) → AllByRecursion (λ r. 0 < length r.entries) runs → AreApart from to runs → NoneIsExtended run (drop 1 runs)
  none_extended [] some apart = tt
  none_extended (first ∷ runs) some apart = none_of_others runs some.1 apart
