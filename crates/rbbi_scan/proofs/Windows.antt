-- What is found in a window of a text is found in the text.
use Rattle.std.proofs.Common.{◌≡◌, ℕ, ◌+◌, ◌-◌, ◌<◌, ◌≤◌, ◌⊎◌, List, [], ◌++◌, length, take, drop, false, sym, ap, ◌∙◌}
use Rattle.std.proofs.Common.{inl, inr, ⊎_elim, arith, length-append, length-drop, length-take, sum_by}
use Rattle.std.specs.Prelude.{slice_range}
use Rattle.std.proofs.lemmas.Bool.{cases_Bool, cases_lt, cond-true, cond-false, false≢true}
use Rattle.std.proofs.lemmas.List.{drop-append-le, take-append-le, drop-drop, take-append-drop}
use Rattle.std.proofs.lemmas.List.Sums.{sum_by-append}
use Rattle.std.proofs.Math.Seq.{take-append-add}
use Rattle.rbbi_model.specs.declared.unit.Unit.{Unit as TextUnit}
use Rattle.rbbi_model.specs.Units.{size_of, offset_of}
use Rattle.rbbi_model.specs.Tables.{Table, row_after, stops}
use Rattle.rbbi_model.specs.Searches.{row_at, search_end, look_end}
use Rattle.rbbi_model.specs.ReadAlike.{ReadsAlike, FindsAlike}
use Rattle.rbbi_model.proofs.Found.{end_lies, look_lies}
use Rattle.rbbi_model.proofs.SearchFacts.{least_is}
use Rattle.rbbi_model.proofs.SearchesAlike.{finds_alike}
use Rattle.rbbi_scan.specs.Windows.{IsWindow}

module _ (place : ℕ) (w rest x : List ℕ) (is : IsWindow place w rest x) where
  -- the text's length
  pub length_is : length x ≡ place + length w + length rest
  length_is = let within = is.within in omega (arith, within, ap length is.after, length-append w rest, length-drop place x)

  -- what stands in the text from a place of the window on
  from_place : (i : ℕ) → i ≤ length w → drop (place + i) x ≡ drop i w ++ rest
  from_place i low =
      let turned : place + i ≡ i + place = omega arith in
      sym (drop-drop i place x) ∙ ap (drop i) is.after ∙ drop-append-le i w rest low

  -- a piece of the window is one of the text
  piece_is : (i n : ℕ) → i + n ≤ length w → take n (drop i w) ≡ take n (drop (place + i) x)
  piece_is i n high =
      let low : i ≤ length w = omega (arith, high) in
      sym (ap (take n) (from_place i low) ∙ take-append-le n (drop i w) rest (omega (arith, high, length-drop i w)))

  pub slice_is : (i j : ℕ) → i ≤ j → j ≤ length w → slice_range w i j ≡ slice_range x (place + i) (place + j)
  slice_is i j low high =
      let size : place + j - (place + i) ≡ j - i = omega arith in
      piece_is i (j - i) (omega (arith, low, high)) ∙ ap (λ n. take n (drop (place + i) x)) (sym size)

  -- a search that doesn't read on at the window's end, or where the text ends there, finds the same in the text
  reads_alike : (table : Table) (s : ℕ) → s < length w → (look_end table w s ≤ length w) ⊎ (rest ≡ []) → ReadsAlike table w x s (place + s)
  reads_alike table s inside how =
      let lies = end_lies table w s inside in
      let look = look_lies table w s inside in
      let e : ℕ = search_end table w s in
      let size : place + s + (e - s) - (place + s) ≡ e - s = omega arith in
      record {
        within = inside;
        characters = piece_is s (e - s) (omega (arith, lies.0, lies.1)) ∙ ap (λ n. take n (drop (place + s) x)) (sym size);
        end = ⊎_elim
            (λ ends. inl (ends, omega (arith, ends, look.0, length_is)))
            (λ none. inr (omega (arith, length_is, ap length none)))
            how;
      }

  pub alike : (table : Table) (s : ℕ) → s < length w → (look_end table w s ≤ length w) ⊎ (rest ≡ []) → FindsAlike table w x s (place + s)
  alike table s inside how = finds_alike table w x s (place + s) (reads_alike table s inside how)

  -- offsets in the window are so far past the window's start
  pub offset_in : (unit : TextUnit) (i : ℕ) → i ≤ length w → offset_of unit x (place + i) ≡ offset_of unit x place + offset_of unit w i
  offset_in unit i low =
      let front : length (take place x) ≡ place = let within = is.within in omega (arith, within, length-take place x) in
      let cut : take (place + i) x ≡ take place x ++ take i w =
      ap (take (place + i)) (sym (take-append-drop place x))
      ∙ ap (λ n. take (n + i) (take place x ++ drop place x)) (sym front)
      ∙ take-append-add (take place x) (drop place x) i
      ∙ ap (λ l. take place x ++ take i l) is.after
      ∙ ap (λ l. take place x ++ l) (take-append-le i w rest low) in
      ap (sum_by (size_of unit)) cut ∙ sum_by-append (size_of unit) (take place x) (take i w)

  -- a search that reads on past the window reads past it in the text
  module _ (table : Table) (s : ℕ) (inside : s < length w) (reads_on : length w < look_end table w s) where
    row_same : (q : ℕ) → s ≤ q → q ≤ length w → row_at table w s q ≡ row_at table x (place + s) (place + q)
    row_same q from to =
        let size : place + q - (place + s) ≡ q - s = omega arith in
        ap (row_after table) (piece_is s (q - s) (omega (arith, from, to)) ∙ ap (λ n. take n (drop (place + s) x)) (sym size))

    -- it stops at no place of the window
    goes_on : (q : ℕ) → s < q → q ≤ length w → stops table (row_at table w s q) ≡ false
    goes_on q from to =
        let z : ℕ = search_end table w s in
        let lies = end_lies table w s inside in
        let least = least_is (λ p. stops table (row_at table w s p)) (s + 1) (length w - (s + 1)) in
        ⊎_elim
        (λ holds. absurd (omega (arith, reads_on, lies.1, cond-true (stops table (row_at table w s z)) z (length w + 1) holds)))
        (λ fails.
        ⊎_elim
        (λ less. least.0 q (omega (arith, from)) less)
        (λ more.
        ⊎_elim
        (λ holds. absurd (false≢true (sym fails ∙ holds)))
        (λ all. let same : q ≡ z = omega (arith, to, more, all, from) in ap (λ n. stops table (row_at table w s n)) same ∙ fails)
        least.1)
        (cases_lt q z))
        (cases_Bool (stops table (row_at table w s z)))

    pub looks_past : place + length w < look_end table x (place + s)
    looks_past =
        let long : place + s < length x = omega (arith, inside, length_is) in
        let z : ℕ = search_end table x (place + s) in
        let lies = end_lies table x (place + s) long in
        ⊎_elim
        (λ holds.
        let past : place + length w < z =
        ⊎_elim
        (λ less. less)
        (λ more.
        let back : place + (z - place) ≡ z = omega (arith, lies.0) in
        absurd (false≢true (
        sym (goes_on (z - place) (omega (arith, lies.0)) (omega (arith, more)))
        ∙ ap (stops table) (row_same (z - place) (omega (arith, lies.0)) (omega (arith, more)) ∙ ap (row_at table x (place + s)) back)
        ∙ holds
        )))
        (cases_lt (place + length w) z) in
        omega (arith, past, cond-true (stops table (row_at table x (place + s) z)) z (length x + 1) holds))
        (λ fails. omega (arith, length_is, cond-false (stops table (row_at table x (place + s) z)) z (length x + 1) fails))
        (cases_Bool (stops table (row_at table x (place + s) z)))
