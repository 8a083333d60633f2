-- What is found in a window of a text is found in the text.
use Rattle.std.proofs.Common.{◌≡◌, ℕ, ◌+◌, ◌-◌, ◌<◌, ◌≤◌, ◌⊎◌, List, [], ◌++◌, length, take, drop, Bool, true, ◌&&◌, Option, Some, None, refl, sym, ap, ◌∙◌}
use Rattle.std.proofs.Common.{inl, inr, ⊎_elim, arith, length-append, length-drop, length-take}
use Rattle.std.specs.Prelude.{slice_range, map, not, nat_lt}
use Rattle.std.proofs.lemmas.Bool.{lt-ltb, le-ltb, cases_order}
use Rattle.std.specs.List.{sum_by}
use Rattle.std.proofs.lemmas.List.{length-map, map-append, drop-append-le, take-append-le, drop-drop, drop-map, take-append-drop}
use Rattle.std.proofs.lemmas.List.Sums.{sum_by-append}
use Rattle.std.proofs.Math.Seq.{take-append-add}
use Rattle.rbbi_model.specs.declared.unit.Unit.{Unit as TextUnit}
use Rattle.rbbi_model.specs.Units.{size_of, offset_of}
use Rattle.rbbi_model.specs.Tables.{Table}
use Rattle.rbbi_model.specs.Searches.{search_end, look_end}
use Rattle.rbbi_model.specs.ReadAlike.{ReadsAlike}
use Rattle.rbbi_model.proofs.Found.{end_lies, look_lies}
use Rattle.rbbi_filter.specs.Abbreviations.{ends, window}
use Rattle.rbbi_filter.specs.Pairs.{turn}
use Rattle.rbbi_filter.specs.declared.filter.Filter.{Filter}
use Rattle.rbbi_filter.specs.declared.filter.Filter.TheVariants.{Suppressing, Turning}
use Rattle.rbbi_segment.specs.Closed.{EndLines}
use Rattle.rbbi_segment.specs.Filters.{searched, reports}
use Rattle.rbbi_segment.specs.Windows.{IsWindow}

module _ (base : ℕ) (w rest x : List ℕ) (is : IsWindow base w rest x) where
  -- the text's length
  pub length_is : length x ≡ base + length w + length rest
  length_is = let within = is.within in omega (arith, within, ap length is.behind, length-append w rest, length-drop base x)

  -- what stands in the text from a place of the window on
  pub from_place : (i : ℕ) → i ≤ length w → drop (base + i) x ≡ drop i w ++ rest
  from_place i low =
      let turned : base + i ≡ i + base = omega arith in
      sym (drop-drop i base x) ∙ ap (drop i) is.behind ∙ drop-append-le i w rest low

  -- a piece of the window is one of the text
  pub piece_is : (i j n : ℕ) → i + n ≤ length w → take n (drop i w) ≡ take n (drop (base + i) x)
  piece_is i j n high =
      let low : i ≤ length w = omega (arith, high) in
      sym (ap (take n) (from_place i low) ∙ take-append-le n (drop i w) rest (omega (arith, high, length-drop i w)))

  pub slice_is : (i j : ℕ) → i ≤ j → j ≤ length w → slice_range w i j ≡ slice_range x (base + i) (base + j)
  slice_is i j low high =
      let size : base + j - (base + i) ≡ j - i = omega arith in
      piece_is i j (j - i) (omega (arith, low, high)) ∙ ap (λ n. take n (drop (base + i) x)) (sym size)

  -- a search that doesn't read on at the window's end, or where the text ends there, finds the same in the text
  pub reads_alike : (table : Table) (s : ℕ) → s < length w → (look_end table w s ≤ length w) ⊎ (rest ≡ []) → ReadsAlike table w x s (base + s)
  reads_alike table s inside how =
      let lies = end_lies table w s inside in
      let look = look_lies table w s inside in
      let e : ℕ = search_end table w s in
      let size : base + s + (e - s) - (base + s) ≡ e - s = omega arith in
      record {
        within = inside;
        characters = piece_is s e (e - s) (omega (arith, lies.0, lies.1)) ∙ ap (λ n. take n (drop (base + s) x)) (sym size);
        end = ⊎_elim
            (λ ends. inl (ends, omega (arith, ends, look.0, length_is)))
            (λ none. inr (omega (arith, length_is, ap length none)))
            how;
      }

  -- offsets in the window are so far past the window's start
  pub offset_in : (unit : TextUnit) (i : ℕ) → i ≤ length w → offset_of unit x (base + i) ≡ offset_of unit x base + offset_of unit w i
  offset_in unit i low =
      let front : length (take base x) ≡ base = let within = is.within in omega (arith, within, length-take base x) in
      let cut : take (base + i) x ≡ take base x ++ take i w =
      ap (take (base + i)) (sym (take-append-drop base x))
      ∙ ap (λ n. take (n + i) (take base x ++ drop base x)) (sym front)
      ∙ take-append-add (take base x) (drop base x) i
      ∙ ap (λ l. take base x ++ take i l) is.behind
      ∙ ap (λ l. take base x ++ l) (take-append-le i w rest low) in
      ap (sum_by (size_of unit)) cut ∙ sum_by-append (size_of unit) (take base x) (take i w)

  -- the place is within the text if it is within the window, before its end or where the text ends there
  same_end : (j : ℕ) → (j < length w) ⊎ (rest ≡ []) → nat_lt j (length w) ≡ nat_lt (base + j) (length x)
  same_end j how =
      let before : j < length w → nat_lt j (length w) ≡ nat_lt (base + j) (length x) =
      λ less. lt-ltb j (length w) less ∙ sym (lt-ltb (base + j) (length x) (omega (arith, less, length_is))) in
      let past : rest ≡ [] → length w ≤ j → nat_lt j (length w) ≡ nat_lt (base + j) (length x) =
      λ none more. le-ltb j (length w) more ∙ sym (le-ltb (base + j) (length x) (omega (arith, more, length_is, ap length none))) in
      ⊎_elim
      before
      (λ none. ⊎_elim
      (λ same. past none (omega (arith, same)))
      (λ other. ⊎_elim before (λ more. past none (omega (arith, more))) other)
      (cases_order j (length w)))
      how

  -- what stands before a place that is looked at
  same_window : (j : ℕ) → j ≤ length w → (base ≡ 0) ⊎ (64 ≤ j) → window w j ≡ window x (base + j)
  same_window j high how =
      let from : base + (j - 64) ≡ base + j - 64 =
      ⊎_elim (λ none. omega (arith, none)) (λ far. omega (arith, far)) how in
      slice_is (j - 64) j (omega arith) high ∙ ap (λ i. slice_range x i (base + j)) from

  -- a boundary is reported in the window if it is in the text
  pub reports_same : (f : Option Filter) (table : Table) (j : ℕ) → 0 < j → j ≤ length w → (base ≡ 0) ⊎ (64 ≤ j)
      → (j < length w) ⊎ ((rest ≡ []) ⊎ EndLines f table) → reports f w j ≡ reports f x (base + j)
  reports_same None table j some high far how = refl
  reports_same (Some (Turning pairs)) table j some high far how = refl
  reports_same (Some (Suppressing list)) table j some high far how =
      let first : nat_lt 0 j ≡ nat_lt 0 (base + j) = lt-ltb 0 j some ∙ sym (lt-ltb 0 (base + j) (omega (arith, some))) in
      ap (λ a. not (a && (nat_lt j (length w) && ends list (window w j)))) first
      ∙ ap (λ b. not (nat_lt 0 (base + j) && (b && ends list (window w j))))
      (same_end j (⊎_elim (λ less. inl less) (λ whole. inr (⊎_elim (λ none. none) (λ ends. absurd ends) whole)) how))
      ∙ ap (λ v. not (nat_lt 0 (base + j) && (nat_lt (base + j) (length x) && ends list v))) (same_window j high far)

-- the searched window is one of the searched text
pub searched_window : (f : Option Filter) (base : ℕ) (w rest x : List ℕ) → IsWindow base w rest x
    → IsWindow base (searched f w) (searched f rest) (searched f x)
searched_window None base w rest x is = is
searched_window (Some (Suppressing list)) base w rest x is = is
searched_window (Some (Turning pairs)) base w rest x is = record {
  within = let within = is.within in omega (arith, within, length-map x (turn pairs));
  behind = drop-map (turn pairs) base x ∙ ap (map (turn pairs)) is.behind ∙ map-append (turn pairs) w rest;
}

pub searched_none : (f : Option Filter) (rest : List ℕ) → rest ≡ [] → searched f rest ≡ []
searched_none None rest none = none
searched_none (Some (Suppressing list)) rest none = none
searched_none (Some (Turning pairs)) rest none = ap (map (turn pairs)) none
