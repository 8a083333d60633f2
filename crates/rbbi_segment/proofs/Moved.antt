-- The progress from a boundary to the next, in a window and in the text that it is a window of.
use Rattle.std.proofs.Common.{◌≡◌, ℕ, ◌+◌, ◌-◌, ◌<◌, ◌≤◌, ◌⊎◌, Bool, true, false, List, [], ◌++◌, length, Option, Some, None, refl, sym, ap, ◌∙◌, subst, inl}
use Rattle.std.proofs.Common.{inr, ⊎_elim, arith}
use Rattle.std.specs.Prelude.{slice_range}
use Rattle.rbbi_model.specs.declared.unit.Unit.{Unit as TextUnit}
use Rattle.rbbi_model.specs.Units.{offset_of}
use Rattle.rbbi_model.specs.Places.{largest}
use Rattle.rbbi_model.specs.Boundaries.{Boundary}
use Rattle.rbbi_model.specs.Tables.{Table, statuses_of}
use Rattle.rbbi_model.specs.Searches.{look_end, found, next_boundary}
use Rattle.rbbi_model.specs.ReadAlike.{FindsAlike}
use Rattle.rbbi_model.specs.ValidTables.{IsValidTable}
use Rattle.rbbi_model.proofs.SearchesAlike.{finds_alike}
use Rattle.rbbi_filter.specs.declared.filter.Filter.{Filter}
use Rattle.rbbi_segment.specs.Closed.{EndLines, IsLine}
use Rattle.rbbi_segment.specs.Filters.{searched, reports}
use Rattle.rbbi_segment.specs.Segments.{segment_to}
use Rattle.rbbi_segment.specs.Windows.{IsWindow, AreHandedTo, Stands, LiesIn, IsNextSegment}
use Rattle.rbbi_segment.specs.declared.segments.Progress.{Progress}
use Rattle.rbbi_segment.specs.declared.segments.Segment.{Segment}
use Rattle.rbbi_segment.proofs.InWindows.{length_is, slice_is, offset_in, reads_alike, reports_same, searched_window, searched_none}
use Rattle.rbbi_segment.proofs.Closed.{line_alike, searched_closed}
use Rattle.rbbi_segment.proofs.Handed.{searched_len, handed_passed, handed_more}

module _ {V : Type 0} (takes : V → Option (List ℕ) → List ℕ → Segment → V → Option (List ℕ) → Type 0)
    (pauses : V → Option (List ℕ) → V → Option (List ℕ) → Type 0) (unit : TextUnit) (f : Option Filter) (table : Table)
    (base : ℕ) (w rest x : List ℕ) (first : V) (before : Option (List ℕ)) (is : IsWindow base w rest x)
    (valid : IsValidTable table)
    (progress : Progress) (receiver : V) (now : Option (List ℕ)) (at : ℕ) (lies : LiesIn w progress)
    (inside : progress.at < length w) (past : progress.at < at) (high : at ≤ length w)
    (finds : at ≡ (found table (searched f w) progress.at).at)
    (how : ((look_end table (searched f w) progress.at ≤ length w) × (at < length w)) ⊎ ((rest ≡ []) ⊎ (EndLines f table × IsLine w)))
    (stands : Stands takes pauses unit f table x base first before progress receiver now) where
  abbrev w' : List ℕ
  w' = searched f w

  abbrev z : List ℕ
  z = searched f x

  here : IsWindow base w' (searched f rest) z
  here = searched_window f base w rest x is

  long : length w' ≡ length w
  long = searched_len f w

  alike : FindsAlike table w' z progress.at (base + progress.at)
  alike =
      let low : progress.at < length w' = omega (arith, inside, long) in
      let reads : (look_end table w' progress.at ≤ length w') ⊎ (searched f rest ≡ []) → FindsAlike table w' z progress.at (base + progress.at) =
      λ ends. finds_alike table w' z progress.at (base + progress.at) (reads_alike base w' (searched f rest) z here table progress.at low ends) in
      ⊎_elim
      (λ final. reads (inl (omega (arith, final.0, long))))
      (λ whole. ⊎_elim
      (λ none. reads (inr (searched_none f rest none)))
      (λ line. line_alike table valid base w' (searched f rest) z here progress.at low (searched_closed f table w line.0 line.1))
      whole)
      how

  next_at : base + at ≡ (next_boundary table z (base + progress.at)).at
  next_at = let same = alike.at in omega (arith, same, finds)

  short : base + progress.at < length z
  short = omega (arith, inside, length_is base w rest x is, searched_len f x)

  ahead : base + progress.at < (next_boundary table z (base + progress.at)).at
  ahead = omega (arith, past, next_at)

  far : (base ≡ 0) ⊎ (64 ≤ at)
  far = ⊎_elim (λ none. inl none) (λ enough. inr (omega (arith, enough, past))) stands.behind

  same_report : reports f w' at ≡ reports f z (base + at)
  same_report =
      reports_same base w' (searched f rest) z here f table at (omega (arith, past)) (omega (arith, high, long)) far
      (⊎_elim
      (λ final. inl (omega (arith, final.1, long)))
      (λ whole. inr (⊎_elim (λ none. inl (searched_none f rest none)) (λ line. inr line.0) whole))
      how)

  -- a boundary is passed that isn't reported
  pub stands_passed : reports f w' at ≡ false
      → Stands takes pauses unit f table x base first before
      (record { start = progress.start; at = at; place = progress.place; offset = progress.offset }) receiver now
  stands_passed hidden = record {
    place = stands.place;
    offset = stands.offset;
    behind = far;
    handed = handed_passed takes pauses unit f table x first before receiver now progress.place (base + progress.at) (base + at) stands.handed short
        ahead next_at (sym same_report ∙ hidden);
  }

  -- one segment more is taken
  pub stands_more : (next : V) (then : Option (List ℕ)) (segment : Segment) → reports f w' at ≡ true
      → IsNextSegment unit w progress at (statuses_of table (found table w' progress.at).list) segment
      → takes receiver now (slice_range w progress.start at) segment next then
      → Stands takes pauses unit f table x base first before (record { start = at; at = at; place = segment.end; offset = segment.end_offset }) next then
  stands_more next then segment shown one took =
      let order = lies.ordered in
      let place = stands.place in
      let there = one.end in
      let end_is : segment.end ≡ base + at = omega (arith, there, place, order, past) in
      let start_is : segment.start ≡ base + progress.start = one.start ∙ place in
      let low : progress.start ≤ length w = omega (arith, order, inside) in
      let count : offset_of unit x progress.place ≡ offset_of unit x base + offset_of unit w progress.start =
      ap (offset_of unit x) place ∙ offset_in base w rest x is unit progress.start low in
      let end_count : segment.end_offset ≡ offset_of unit x (base + at) =
      omega (arith, one.end_offset, stands.offset, count, offset_in base w rest x is unit at high) in
      let characters : slice_range w progress.start at ≡ slice_range x segment.start segment.end =
      slice_is base w rest x is progress.start at (omega (arith, order, past)) high
      ∙ ap (λ i. slice_range x i (base + at)) (sym start_is)
      ∙ ap (slice_range x segment.start) (sym end_is) in
      let statuses : segment.status ≡ largest (next_boundary table z (base + progress.at)).statuses =
      one.status ∙ ap (λ l. largest (statuses_of table l)) (sym alike.list) in
      let is_it : segment ≡ segment_to unit x progress.place (next_boundary table z (base + progress.at)) =
      λ i. record {
        start = one.start i;
        end = (end_is ∙ next_at) i;
        start_offset = (one.start_offset ∙ stands.offset) i;
        end_offset = (end_count ∙ ap (offset_of unit x) next_at) i;
        status = statuses i;
      } in
      record {
        place = end_is;
        offset = end_count ∙ ap (offset_of unit x) (sym end_is);
        behind = far;
        handed = subst (λ n. AreHandedTo takes pauses unit f table x first before next then n (base + at)) (sym end_is)
            (handed_more takes pauses unit f table x first before receiver next now then progress.place (base + progress.at) (base + at) segment
            stands.handed short ahead next_at (sym same_report ∙ shown) is_it (subst (λ l. takes receiver now l segment next then) characters took));
      }
