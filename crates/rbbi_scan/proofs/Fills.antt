-- Boundaries of a window that are written one after the other.
use Rattle.std.proofs.Common.{◌≡◌, ℕ, cond, eqb, false, ◌+◌, ◌-◌, ◌<◌, ◌≤◌, ◌⊎◌, Bool, true, List, [], ◌∷◌, ◌++◌, length, get_or, set, refl, sym, ap, ◌∙◌, subst, inl, inr}
use Rattle.std.proofs.Common.{⊎_elim, arith}
use Rattle.std.specs.Prelude.{not, ◌||◌, map, slice_range}
use Rattle.rbbi_model.specs.declared.unit.Unit.{Unit as TextUnit}
use Rattle.rbbi_model.specs.Boundaries.{Boundary}
use Rattle.rbbi_model.specs.Places.{largest}
use Rattle.rbbi_model.specs.Tables.{Table, statuses_of}
use Rattle.rbbi_model.specs.Units.{offset_of}
use Rattle.rbbi_model.specs.Searches.{found, look_end, next_boundary}
use Rattle.rbbi_model.specs.ReadAlike.{FindsAlike}
use Rattle.rbbi_model.proofs.Found.{found_lies}
use Rattle.rbbi_scan.specs.Columns.{Columns, IsFilled}
use Rattle.rbbi_scan.specs.Filling.{FillsOn, StandsIn}
use Rattle.rbbi_scan.specs.Giving.{starts_of, ends_of, greatest_of, GivesOn}
use Rattle.rbbi_scan.specs.Leading.{Lead}
use Rattle.rbbi_scan.specs.Segments.{Segment, is_word, segments_of}
use Rattle.rbbi_scan.specs.declared.reached.Asked.{Asked}
use Rattle.rbbi_scan.proofs.Columns.{filled_none, filled_one}
use Rattle.rbbi_scan.proofs.Leading.{gives_none, gives_append}
use Rattle.rbbi_scan.proofs.Standing.{before_is}
use Rattle.rbbi_scan.proofs.Windows.{length_is, slice_is, alike, offset_in}

-- the segment is asked for, or it isn't
kept_is : (only_words : Bool) (x : List ℕ) (place : ℕ) (next : Boundary) → (not only_words || is_word (slice_range x place next.at)) ≡ true →
    segments_of only_words x place (next ∷ []) ≡ record { start = place; end = next.at; statuses = next.statuses } ∷ []
kept_is only_words x place next is =
    ap (λ t. cond t (record { start = place; end = next.at; statuses = next.statuses } ∷ []) [] ++ []) is

passed_is : (only_words : Bool) (x : List ℕ) (place : ℕ) (next : Boundary) → (not only_words || is_word (slice_range x place next.at)) ≡ false →
    segments_of only_words x place (next ∷ []) ≡ []
passed_is only_words x place next is =
    ap (λ t. cond t (record { start = place; end = next.at; statuses = next.statuses } ∷ []) [] ++ []) is

module _ (table : Table) (asked : Asked) (w ends : List ℕ) (base : ℕ) (is_final : Bool) (count : ℕ) (before : Columns) where
  -- at the window's start
  pub fills_start : FillsOn table asked w ends base is_final count before before (record { at = 0; count = count })
  fills_start unit is_whole begin place rest x stands =
      let here : place ≡ place + 0 = omega arith in (
        [],
        subst (λ n. GivesOn unit table asked.only_words is_whole (asked.origin + begin) x place n [] count count before before) here
            (gives_none unit table asked.only_words is_whole (asked.origin + begin) x place count before),
      )

  -- one boundary more
  module _ (middle after : Columns) (at to now then : ℕ)
      (so_far : FillsOn table asked w ends base is_final count before middle (record { at = at; count = now }))
      (inside : at < length w) (finds : to ≡ (found table w at).at) (reads : (is_final ≡ true) ⊎ (look_end table w at ≤ length w)) where
    module _ (unit : TextUnit) (is_whole : Bool) (begin place : ℕ) (rest x : List ℕ)
        (stands : StandsIn unit w ends base is_final is_whole begin place rest x) where
      abbrev next : Boundary
      next = next_boundary table x (place + at)

      how : (look_end table w at ≤ length w) ⊎ (rest ≡ [])
      how = ⊎_elim (λ final. inr (stands.final final).0) (λ ends. inl ends) reads

      same : FindsAlike table w x at (place + at)
      same = alike place w rest x stands.is_window table at inside how

      there : next.at ≡ place + to
      there = let it = same in omega (arith, it.at, finds)

      low : to ≤ length w
      low = omega (arith, finds, (found_lies table w at inside).1)

      lead : Lead is_whole table x (place + at) (next ∷ []) (place + to)
      lead = (
        omega (arith, inside, length_is place w rest x stands.is_window),
        ⊎_elim
            (λ final. inl (stands.final final).1)
            (λ ends. let it = same in inr (omega (arith, ends, it.look, length_is place w rest x stands.is_window)))
            reads,
        refl,
        there,
      )

      -- a place in the window lies so far on in the text
      offset_at : (i number : ℕ) → i ≤ length w → number ≡ asked.origin + base + cond (eqb i 0) 0 (get_or ends (i - 1) 0) →
          number ≡ asked.origin + begin + offset_of unit x (place + i)
      offset_at i number within is =
          omega (
            arith,
            is,
            before_is unit w ends i stands.ends_are within,
            stands.base_is,
            offset_in place w rest x stands.is_window unit i within,
          )

      characters : slice_range w at to ≡ slice_range x (place + at) next.at
      characters =
          slice_is place w rest x stands.is_window at to (omega (arith, finds, (found_lies table w at inside).0)) low
          ∙ ap (slice_range x (place + at)) (sym there)

      -- what was given, and what the boundary adds
      add : GivesOn unit table asked.only_words is_whole (asked.origin + begin) x (place + at) (place + to) (next ∷ []) now then middle after →
          (given : List Boundary)
          × GivesOn unit table asked.only_words is_whole (asked.origin + begin) x place (place + to) given count then before after
      add one =
          let given = so_far unit is_whole begin place rest x stands in (
            given.0 ++ next ∷ [],
            gives_append unit table asked.only_words is_whole (asked.origin + begin) x place (place + at) (place + to) given.0 (next ∷ []) count now then
                before middle after given.1 one,
          )

    pub fills_kept : (start number greatest : ℕ) → (not asked.only_words || is_word (slice_range w at to)) ≡ true
        → then ≡ now + 1
        → start ≡ asked.origin + base + cond (eqb at 0) 0 (get_or ends (at - 1) 0)
        → number ≡ asked.origin + base + cond (eqb to 0) 0 (get_or ends (to - 1) 0)
        → greatest ≡ largest (statuses_of table (found table w at).list)
        → after.starts ≡ set middle.starts now start → after.places ≡ set middle.places now number → after.statuses ≡ set middle.statuses now greatest
        → FillsOn table asked w ends base is_final count before after (record { at = to; count = then })
    fills_kept start number greatest is_kept then_is start_is number_is greatest_is starts_are places_are statuses_are unit is_whole begin place rest x stands =
        let b : Boundary = next_boundary table x (place + at) in
        let it = same unit is_whole begin place rest x stands in
        let kept = kept_is asked.only_words x (place + at) b
        (ap (λ l. not asked.only_words || is_word l) (sym (characters unit is_whole begin place rest x stands)) ∙ is_kept) in
        let first : start ≡ asked.origin + begin + offset_of unit x (place + at) =
        offset_at unit is_whole begin place rest x stands at start (omega (arith, inside)) start_is in
        let second : number ≡ asked.origin + begin + offset_of unit x b.at =
        offset_at unit is_whole begin place rest x stands to number (low unit is_whole begin place rest x stands) number_is
        ∙ ap (λ n. asked.origin + begin + offset_of unit x n) (sym (there unit is_whole begin place rest x stands)) in
        let status : greatest ≡ largest b.statuses = greatest_is ∙ ap (λ l. largest (statuses_of table l)) (sym it.list) in
        add unit is_whole begin place rest x stands (record {
          found = lead unit is_whole begin place rest x stands;
          counted = omega (arith, then_is, ap length kept);
          in_starts = subst (λ l. IsFilled middle.starts after.starts now (starts_of unit (asked.origin + begin) x l)) (sym kept)
              (filled_one middle.starts after.starts now (asked.origin + begin + offset_of unit x (place + at)) (starts_are ∙ ap (set middle.starts now) first));
          in_places = subst (λ l. IsFilled middle.places after.places now (ends_of unit (asked.origin + begin) x l)) (sym kept)
              (filled_one middle.places after.places now (asked.origin + begin + offset_of unit x b.at) (places_are ∙ ap (set middle.places now) second));
          in_statuses = subst (λ l. IsFilled middle.statuses after.statuses now (greatest_of l)) (sym kept)
              (filled_one middle.statuses after.statuses now (largest b.statuses) (statuses_are ∙ ap (set middle.statuses now) status));
        })

    pub fills_passed : (not asked.only_words || is_word (slice_range w at to)) ≡ false → then ≡ now → after ≡ middle
        → FillsOn table asked w ends base is_final count before after (record { at = to; count = then })
    fills_passed is_passed then_is after_is unit is_whole begin place rest x stands =
        let b : Boundary = next_boundary table x (place + at) in
        let passed = passed_is asked.only_words x (place + at) b
        (ap (λ l. not asked.only_words || is_word l) (sym (characters unit is_whole begin place rest x stands)) ∙ is_passed) in
        add unit is_whole begin place rest x stands (record {
          found = lead unit is_whole begin place rest x stands;
          counted = omega (arith, then_is, ap length passed);
          in_starts = none (λ s. asked.origin + begin + offset_of unit x s.start) middle.starts after.starts _ passed (ap (λ c. c.starts) after_is);
          in_places = none (λ s. asked.origin + begin + offset_of unit x s.end) middle.places after.places _ passed (ap (λ c. c.places) after_is);
          in_statuses = none (λ s. largest s.statuses) middle.statuses after.statuses _ passed (ap (λ c. c.statuses) after_is);
        })
      where
        none : (f : Segment → ℕ) (old new : List ℕ) (segments : List Segment) → segments ≡ [] → new ≡ old → IsFilled old new now (map f segments)
        none f old new segments empty same =
            subst (λ l. IsFilled old new now (map f l)) (sym empty) (subst (λ l. IsFilled old l now []) (sym same) (filled_none old now))
