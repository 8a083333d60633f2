-- When a run shows an entry, and when none.
use Rattle.std.proofs.Common.{◌≡◌, ℕ, zero, suc, ◌+◌, ◌-◌, ◌<◌, ◌≤◌, ◌⊎◌, List, [], ◌∷◌, ◌++◌, length, length-take, length-drop, take, drop, map, get_or, sym}
use Rattle.std.proofs.Common.{refl, ap, ◌∙◌, subst, inl, inr, ⊎_elim, append_assoc, arith, add-one, eqb}
use Rattle.std.specs.Prelude.{IsTrue}
use Rattle.std.specs.List.{AllByRecursion}
use Rattle.std.proofs.lemmas.Bool.{cases_eq, cond-false, ne_eqb}
use Rattle.std.proofs.lemmas.List.{take-append-drop, take_more, take_all}
use Rattle.std.proofs.Math.Seq.{drop-cons, drop-length}
use Rattle.rbbi_model.specs.Lists.{IsRising}
use Rattle.rbbi_model.specs.Runs.{Entry, Run, low, EndsUpTo, StartsFrom, ShowsAfter, ShowsBefore}
use Rattle.rbbi_cache.specs.inner.Lists.{GoesOnFrom}
use Rattle.rbbi_cache.specs.inner.Shown.{AreUpTo}
use Rattle.rbbi_cache.specs.Shown.{IsShownAfter, IsShownBefore}
use Rattle.rbbi_model.proofs.Rising.{rising_tail}
use Rattle.rbbi_model.proofs.Lists.{all_left, all_right, all_through}
use Rattle.rbbi_cache.proofs.RunFacts.{rises_past, ends_up_to}

-- the list parted at an element
pub parted_at : (entries : List Entry) (k : ℕ) (d : Entry) → k < length entries → entries ≡ take k entries ++ get_or entries k d ∷ drop (k + 1) entries
parted_at entries k d short =
    sym (take-append-drop k entries)
    ∙ ap (λ l. take k entries ++ l) (drop-cons entries k d short ∙ ap (λ n. get_or entries k d ∷ drop n entries) (sym (add-one k)))

first_below : (e : Entry) (entries : List Entry) (k : ℕ) (d : Entry) → AllByRecursion (λ f. e.at < f.at) entries → k < length entries →
    e.at < (get_or entries k d).at
first_below e [] k d each short = absurd (omega arith)
first_below e (f ∷ entries) zero d each short = each.0
first_below e (f ∷ entries) (suc k) d each short = first_below e entries k d each.1 (omega arith)

-- where entries rise, those up to one that isn't past the place aren't either
pub up_to_one : (entries : List Entry) (i k : ℕ) (d : Entry) → IsRising (map (λ f. f.at) entries) → k < length entries → (get_or entries k d).at ≤ i →
    AllByRecursion (λ f. f.at ≤ i) (take (suc k) entries)
up_to_one [] i k d rising short less = absurd (omega arith)
up_to_one (e ∷ entries) i zero d rising short less = (less, tt)
up_to_one (e ∷ entries) i (suc k) d rising short less =
    let first : e.at < (get_or entries k d).at = first_below e entries k d (rises_past e entries rising) (omega arith) in
    (omega arith, up_to_one entries i k d (rising_tail e.at (map (λ f. f.at) entries) rising) (omega arith) less)

-- and those from one that is past it on are too
pub past_one : (entries : List Entry) (i k : ℕ) (d : Entry) → IsRising (map (λ f. f.at) entries) → k < length entries → i < (get_or entries k d).at →
    AllByRecursion (λ f. i < f.at) (drop k entries)
past_one [] i k d rising short high = absurd (omega arith)
past_one (e ∷ entries) i zero d rising short high =
    (high, all_through (λ f. e.at < f.at) (λ f. i < f.at) (λ f less. omega arith) entries (rises_past e entries rising))
past_one (e ∷ entries) i (suc k) d rising short high = past_one entries i k d (rising_tail e.at (map (λ f. f.at) entries) rising) (omega arith) high

-- where the last of them isn't past the place, none is
pub all_up_to : (entries : List Entry) (i : ℕ) (d : Entry) → IsRising (map (λ f. f.at) entries) → 0 < length entries →
    (get_or entries (length entries - 1) d).at ≤ i → AreUpTo entries i (length entries)
all_up_to entries i d rising some near = record {
  within = omega arith;
  up_to =
      let one : suc (length entries - 1) ≡ length entries = omega arith in
      subst (λ n. AllByRecursion (λ f. f.at ≤ i) (take n entries)) one (up_to_one entries i (length entries - 1) d rising (omega arith) near);
  past = subst (λ l. AllByRecursion (λ f. i < f.at) l) (sym (drop-length entries)) tt;
}

-- where the first of them is past it, or there is none, all are
pub all_past : (entries : List Entry) (i : ℕ) (d : Entry) → IsRising (map (λ f. f.at) entries) → 0 < length entries → i < (get_or entries 0 d).at →
    AreUpTo entries i 0
all_past entries i d rising some high = record { within = omega arith; up_to = tt; past = past_one entries i 0 d rising some high }

pub none_up_to : (entries : List Entry) (i : ℕ) → length entries ≡ 0 → AreUpTo entries i 0
none_up_to [] i none = record { within = omega arith; up_to = tt; past = tt }
none_up_to (e ∷ entries) i none = absurd (omega arith)

-- what ends up to a place has an entry that isn't past it
has_low : (entries : List Entry) (i : ℕ) → EndsUpTo entries i → AllByRecursion (λ f. i < f.at) entries → ⊥
has_low [] i ends each = ends
has_low (e ∷ []) i ends each = omega (arith, ends, each.0)
has_low (e ∷ f ∷ entries) i ends each = has_low (f ∷ entries) i ends each.1

module _ (run : Run) (i count : ℕ) (d : Entry) (are : AreUpTo run.entries i count) where
  -- none is past the place
  pub none_past : count ≡ length run.entries → (a : ℕ) → ShowsAfter run i a → ⊥
  none_past all a shows =
      let each : AllByRecursion (λ f. f.at ≤ i) run.entries =
      subst (λ l. AllByRecursion (λ f. f.at ≤ i) l) (take_all count run.entries (omega arith)) are.up_to in
      let here : shows.entry.at ≤ i =
      (all_right (λ f. f.at ≤ i) shows.before (shows.entry ∷ shows.after) (subst (λ l. AllByRecursion (λ f. f.at ≤ i) l) shows.whole each)).0 in
      omega (arith, here, shows.at, shows.past)

  -- all are, and the first doesn't follow what the run leads from
  pub none_shown : count ≡ 0 → (IsTrue run.leads → i + 1 < low run.anchor) → (a : ℕ) → ShowsAfter run i a → ⊥
  none_shown nothing follows a shows =
      let each : AllByRecursion (λ f. i < f.at) run.entries = subst (λ n. AllByRecursion (λ f. i < f.at) (drop n run.entries)) nothing are.past in
      let before : AllByRecursion (λ f. i < f.at) shows.before =
      all_left (λ f. i < f.at) shows.before (shows.entry ∷ shows.after) (subst (λ l. AllByRecursion (λ f. i < f.at) l) shows.whole each) in
      ⊎_elim
      (λ ends. has_low shows.before i ends before)
      (λ first. let far = follows first.1 in omega (arith, first.2))
      shows.nearest

  -- the one after them is shown
  pub shown_next : (short : count < length run.entries) → ((0 < count) ⊎ (IsTrue run.leads × (low run.anchor ≤ i + 1))) →
      IsShownAfter run i (get_or run.entries count d)
  shown_next short nearest =
      let entry : Entry = get_or run.entries count d in
      let past : i < (get_or run.entries count d).at = (subst (λ l. AllByRecursion (λ f. i < f.at) l) (drop-cons run.entries count d short) are.past).0 in (
        record {
          before = take count run.entries;
          entry = get_or run.entries count d;
          after = drop (count + 1) run.entries;
          whole = parted_at run.entries count d short;
          at = refl;
          past = past;
          nearest = ⊎_elim
              (λ some. inl (ends (take count run.entries) (omega (arith, length-take count run.entries)) are.up_to))
              (λ leads. ⊎_elim
              (λ zero. inr (ap (λ n. take n run.entries) zero, leads.0, leads.1))
              (λ other. inl (ends (take count run.entries) (omega (arith, length-take count run.entries)) are.up_to))
              (cases_eq count 0))
              nearest;
        },
        refl,
      )
    where
      ends : (entries : List Entry) → 0 < length entries → AllByRecursion (λ f. f.at ≤ i) entries → EndsUpTo entries i
      ends [] some each = absurd (omega arith)
      ends (e ∷ entries) some each = ends_up_to e entries i each

module _ (x : List ℕ) (run : Run) (i count : ℕ) (d : Entry) (some : 0 < i) (are : AreUpTo run.entries (i - 1) count) where
  -- none is before the place
  pub none_before : count ≡ 0 → (a : ℕ) → ShowsBefore x run i a → ⊥
  none_before nothing a shows =
      let each : AllByRecursion (λ f. i - 1 < f.at) run.entries = subst (λ n. AllByRecursion (λ f. i - 1 < f.at) (drop n run.entries)) nothing are.past in
      let here : i - 1 < shows.entry.at =
      (all_right (λ f. i - 1 < f.at) shows.before (shows.entry ∷ shows.after) (subst (λ l. AllByRecursion (λ f. i - 1 < f.at) l) shows.whole each)).0 in
      omega (arith, here, shows.at, shows.short_of)

  module _ (few : 0 < count) where
    entry : Entry
    entry = get_or run.entries (count - 1) d

    short : count - 1 < length run.entries
    short = let within = are.within in omega arith

    there : count - 1 + 1 ≡ count
    there = omega arith

    split : run.entries ≡ take (count - 1) run.entries ++ get_or run.entries (count - 1) d ∷ drop count run.entries
    split = parted_at run.entries (count - 1) d short ∙ ap (λ n. take (count - 1) run.entries ++ get_or run.entries (count - 1) d ∷ drop n run.entries) there

    pub before_it : (get_or run.entries (count - 1) d).at < i
    before_it =
        let whole : take count run.entries ≡ take (count - 1) run.entries ++ get_or run.entries (count - 1) d ∷ [] =
        ap (λ n. take n run.entries) (sym there) ∙ take_more run.entries (count - 1) d short in
        let each = (all_right (λ f. f.at ≤ i - 1) (take (count - 1) run.entries) (get_or run.entries (count - 1) d ∷ [])
        (subst (λ l. AllByRecursion (λ f. f.at ≤ i - 1) l) whole are.up_to)).0 in
        omega arith

    -- the last of those before it is shown, where another follows, or it lies at the text's end
    pub shown_last : ((count < length run.entries) ⊎ ((get_or run.entries (count - 1) d).at ≡ length x)) →
        IsShownBefore x run i (get_or run.entries (count - 1) d)
    shown_last nearest = (
      record {
        before = take (count - 1) run.entries;
        entry = get_or run.entries (count - 1) d;
        after = drop count run.entries;
        whole = split;
        at = refl;
        short_of = before_it;
        nearest = ⊎_elim
            (λ more. inl (starts (drop count run.entries) (omega (arith, length-drop count run.entries)) are.past))
            (λ end. inr end)
            nearest;
      },
      refl,
    )
      where
        starts : (entries : List Entry) → 0 < length entries → AllByRecursion (λ f. i - 1 < f.at) entries → StartsFrom entries i
        starts [] more each = absurd (omega arith)
        starts (e ∷ entries) more each = omega (arith, each.0)

    -- else none is
    pub none_last : length run.entries ≡ count → ((get_or run.entries (count - 1) d).at ≡ length x → ⊥) → IsRising (map (λ f. f.at) run.entries) →
        AllByRecursion (λ f. f.at ≤ length x) run.entries → (a : ℕ) → ShowsBefore x run i a → ⊥
    none_last all not_end rising within a shows =
        ⊎_elim
        (λ starts. no_start shows.after starts (all_right (λ f. f.at ≤ i - 1) (shows.before ++ shows.entry ∷ []) shows.after
        (subst (λ l. AllByRecursion (λ f. f.at ≤ i - 1) l) (shows.whole ∙ sym (append_assoc shows.before (shows.entry ∷ []) shows.after)) each)))
        (λ end. not_end (at_end end))
        shows.nearest
      where
        each : AllByRecursion (λ f. f.at ≤ i - 1) run.entries
        each = subst (λ l. AllByRecursion (λ f. f.at ≤ i - 1) l) (take_all count run.entries (omega arith)) are.up_to

        no_start : (entries : List Entry) → StartsFrom entries i → AllByRecursion (λ f. f.at ≤ i - 1) entries → ⊥
        no_start [] starts less = starts
        no_start (e ∷ entries) starts less = omega (arith, less.0, starts)

        last_bounds : (e : Entry) (entries : List Entry) → IsRising (map (λ f. f.at) (e ∷ entries)) →
            AllByRecursion (λ f. f.at ≤ (get_or (e ∷ entries) (length entries) d).at) (e ∷ entries)
        last_bounds e [] rising = (omega arith, tt)
        last_bounds e (f ∷ entries) rising =
            let more = last_bounds f entries rising.1 in
            (omega (arith, rising.0, more.0), more)

        bounds : (entries : List Entry) (n : ℕ) → length entries ≡ n → 0 < n → IsRising (map (λ f. f.at) entries) →
            AllByRecursion (λ f. f.at ≤ (get_or entries (n - 1) d).at) entries
        bounds [] n is some rising = tt
        bounds (e ∷ entries) n is some rising =
            let here : length entries ≡ n - 1 = omega arith in
            subst (λ k. AllByRecursion (λ f. f.at ≤ (get_or (e ∷ entries) k d).at) (e ∷ entries)) here (last_bounds e entries rising)

        -- an entry at the text's end is the last one
        at_end : a ≡ length x → (get_or run.entries (count - 1) d).at ≡ length x
        at_end end =
            let up : shows.entry.at ≤ (get_or run.entries (count - 1) d).at =
            (all_right (λ f. f.at ≤ (get_or run.entries (count - 1) d).at) shows.before (shows.entry ∷ shows.after)
            (subst (λ l. AllByRecursion (λ f. f.at ≤ (get_or run.entries (count - 1) d).at) l) shows.whole (bounds run.entries count all few rising))).0 in
            let down : (get_or run.entries (count - 1) d).at ≤ length x =
            (all_right (λ f. f.at ≤ length x) (take (count - 1) run.entries) (get_or run.entries (count - 1) d ∷ drop count run.entries)
            (subst (λ l. AllByRecursion (λ f. f.at ≤ length x) l) split within)).0 in
            omega (arith, up, down, shows.at)

next_rises : (entries : List Entry) (k : ℕ) (d e : Entry) → IsRising (map (λ f. f.at) entries) → suc k < length entries →
    (get_or entries k d).at < (get_or entries (suc k) e).at
next_rises [] k d e rising short = absurd (omega arith)
next_rises (f ∷ []) k d e rising short = absurd (omega arith)
next_rises (f ∷ g ∷ entries) zero d e rising short = rising.0
next_rises (f ∷ g ∷ entries) (suc k) d e rising short = next_rises (g ∷ entries) k d e rising.1 (omega arith)

-- the entry before the one at the place is shown
pub one_before : (x : List ℕ) (run : Run) (i n k : ℕ) (next entry : Entry) → IsRising (map (λ f. f.at) run.entries) → n ≡ suc k → n < length run.entries →
    (get_or run.entries n next).at ≡ i → IsShownBefore x run i (get_or run.entries k entry)
one_before x run i n k next entry rising follows short at =
    let some : suc k < length run.entries = omega arith in
    let there : (get_or run.entries (suc k) next).at ≡ i = subst (λ m. (get_or run.entries m next).at ≡ i) follows at in (
      record {
        before = take k run.entries;
        entry = get_or run.entries k entry;
        after = drop (k + 1) run.entries;
        whole = parted_at run.entries k entry (omega arith);
        at = refl;
        short_of = let less = next_rises run.entries k entry next rising some in omega (arith, less, there);
        nearest = inl (subst (λ l. StartsFrom l i) (sym (ap (λ m. drop m run.entries) (add-one k) ∙ drop-cons run.entries (suc k) next some)) (omega (
          arith,
          there,
        )));
      },
      refl,
    )

past_anchor : (p i : ℕ) → i < p → i + 1 < low p
past_anchor p i before = omega (arith, cond-false (eqb p 0) 1 (p + 2) (ne_eqb p 0 (λ (zero : p ≡ 0). omega arith)))

-- the run lies after the place
module _ (run : Run) (behind : AllByRecursion (λ f. run.anchor ≤ f.at) run.entries) (d : Entry) where
  after_all : (i : ℕ) → i < run.anchor → AreUpTo run.entries i 0
  after_all i before =
      record { within = omega arith; up_to = tt; past = all_through (λ f. run.anchor ≤ f.at) (λ f. i < f.at) (λ f near. omega arith) run.entries behind }

  pub none_before_anchor : (i : ℕ) → i < run.anchor → (a : ℕ) → ShowsAfter run i a → ⊥
  none_before_anchor i before = none_shown run i 0 d (after_all i before) refl (λ _. past_anchor run.anchor i before)

  pub none_up_to_anchor : (x : List ℕ) (i : ℕ) → 0 < i → i ≤ run.anchor → (a : ℕ) → ShowsBefore x run i a → ⊥
  none_up_to_anchor x i some before = none_before x run i 0 d some (after_all (i - 1) (omega arith)) refl

-- a run whose last entry isn't past the place
up_to_last : (front : List Entry) (last : Entry) (i : ℕ) → IsRising (map (λ f. f.at) (front ++ last ∷ [])) → last.at ≤ i →
    AllByRecursion (λ f. f.at ≤ i) (front ++ last ∷ [])
up_to_last [] last i rising less = (less, tt)
up_to_last (e ∷ front) last i rising less =
    let first : e.at < last.at = (all_right (λ f. e.at < f.at) front (last ∷ []) (rises_past e (front ++ last ∷ []) rising)).0 in
    (omega (arith, first, less), up_to_last front last i (rising_tail e.at (map (λ f. f.at) (front ++ last ∷ [])) rising) less)

pub none_past_last : (run : Run) (i : ℕ) (last : Entry) → IsRising (map (λ f. f.at) run.entries) → GoesOnFrom i last run → (a : ℕ) → ShowsAfter run i a → ⊥
none_past_last run i last rising goes a shows =
    let each = up_to_last goes.front last i (subst (λ l. IsRising (map (λ f. f.at) l)) goes.whole rising) goes.up_to in
    let here : shows.entry.at ≤ i =
    (all_right (λ f. f.at ≤ i) shows.before (shows.entry ∷ shows.after) (subst (AllByRecursion (λ f. f.at ≤ i)) (sym goes.whole ∙ shows.whole) each)).0 in
    omega (arith, here, shows.at, shows.past)
