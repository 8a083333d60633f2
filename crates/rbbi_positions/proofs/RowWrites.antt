-- Rows of bits, one after another, of which one is written.
use Rattle.std.proofs.Common.{◌≡◌, ◌≢◌, ℕ, ◌+◌, ◌-◌, ◌*◌, ◌/◌, ◌%◌, ◌<◌, ◌≤◌, ◌||◌, ◌&&◌, eqb, List, ◌++◌, length, get_or, take, drop, sym, ap, ◌∙◌, ⊎_elim}
use Rattle.std.proofs.Math.Bool.{or-false}
use Rattle.std.proofs.Common.{Vec, Global, true, ◌↔◌, arith, length-take-le, length-drop}
use Rattle.std.specs.Vec.{with_items}
use Rattle.std.proofs.lemmas.Bool.{cases_lt, cases_eq, cases_order, eq-eqb, ne_eqb}
use Rattle.std.proofs.lemmas.List.{get_or-take, get_or-drop, get_or_append_left, get_or-append_right, take_at}
use Rattle.std.proofs.lemmas.Nat.{mul-le}
use borrow.Rule.Slice.PartMut.{put_mid, mid_of, post_of}
use Rattle.rbbi_model.specs.Places.{has_bit}
use Rattle.std.specs.Prelude.{slice_range}
use Rattle.rbbi_bits.specs.BitRows.{row_bit, Holds}
use Rattle.rbbi_bits.proofs.Rows.{none_past}
use Rattle.rbbi_positions.specs.inner.Rows.{in_row}

-- the items of a list that a call wrote as a whole
pub all_written : {A : Type 0} (v : Vec A Global) (old new : List A) → old ≡ v.items → length new ≡ length old → (with_items v new).items ≡ new
all_written v old new same long = take_at new (drop (length new) v.items) v.len (omega (arith, v.ok.0, ap length same, long))

-- the end of a row
pub row_end : (this w : ℕ) → (this + 1) * w ≡ this * w + w
row_end this w = grind arith

pub row_within : (this count w long : ℕ) → this < count → count * w ≤ long → this * w + w ≤ long
row_within this count w long below all = omega (arith, row_end this w, mul-le (this + 1) w count w (omega arith) (omega arith))

pub rows_within : (these count w long : ℕ) → these ≤ count → count * w ≤ long → these * w ≤ long
rows_within these count w long few all = omega (arith, mul-le these w count w few (omega arith))

module _ (a k : ℕ) (xs ys : List ℕ) (fits : a + k ≤ length xs) (many : length ys ≡ k) where
  front : length (take a xs) ≡ a
  front = omega (arith, length-take-le a xs (omega (arith, fits)))

  word_before : (i : ℕ) → i < a → get_or (put_mid a k xs ys) i 0 ≡ get_or xs i 0
  word_before i below = get_or_append_left (take a xs) (ys ++ post_of a k xs) 0 i (omega (arith, front)) ∙ get_or-take a xs i 0 below

  word_in : (i : ℕ) → i < k → get_or (put_mid a k xs ys) (a + i) 0 ≡ get_or ys i 0
  word_in i below =
      let at : (a + i) - a ≡ i = omega arith in
      get_or-append_right (take a xs) (ys ++ post_of a k xs) a (a + i) 0 front (omega arith) ∙ ap (λ (n : ℕ). get_or (ys ++ post_of a k xs) n 0) at
      ∙ get_or_append_left ys (post_of a k xs) 0 i (omega (arith, many))

  word_after : (i : ℕ) → a + k ≤ i → get_or (put_mid a k xs ys) i 0 ≡ get_or xs i 0
  word_after i past =
      let at : a + (k + ((i - a) - k)) ≡ i = omega arith in
      get_or-append_right (take a xs) (ys ++ post_of a k xs) a i 0 front (omega arith)
      ∙ get_or-append_right ys (post_of a k xs) k (i - a) 0 many (omega arith)
      ∙ get_or-drop k (drop a xs) ((i - a) - k) 0 ∙ get_or-drop a xs (k + ((i - a) - k)) 0 ∙ ap (λ (n : ℕ). get_or xs n 0) at

module _ (w row k : ℕ) (rows new : List ℕ) (same : k ≡ w) (many : length new ≡ w) (fits : row * w + w ≤ length rows) where
  pub row_put : (position : ℕ) → position < 64 * w → in_row w (put_mid (row * w) k rows new) row position ≡ row_bit new position
  row_put position below =
      ap (λ n. has_bit n (position % 64))
      (word_in (row * w) k rows new (omega (arith, same, fits)) (omega (arith, same, many)) (position / 64) (omega (arith, same, below)))

  pub row_kept : (this position : ℕ) → position < 64 * w → this ≢ row → in_row w (put_mid (row * w) k rows new) this position ≡ in_row w rows this position
  row_kept this position below other =
      ap (λ n. has_bit n (position % 64))
      (
      ⊎_elim (λ e. absurd (other e))
      (⊎_elim
      (λ before.
      let end : this * w + w ≤ row * w = row_within this row w (row * w) before (omega arith) in
      word_before (row * w) k rows new (omega (arith, same, fits)) (omega (arith, same, many)) (this * w + position / 64) (omega (arith, below, end)))
      (λ behind.
      let end : row * w + w ≤ this * w = row_within row this w (this * w) behind (omega arith) in
      word_after (row * w) k rows new (omega (arith, same, fits)) (omega (arith, same, many)) (this * w + position / 64) (omega (arith, same, end))))
      (cases_order this row)
      )

  -- what was in the row
  pub row_was : (position : ℕ) → position < 64 * w → row_bit (mid_of (row * w) k rows) position ≡ in_row w rows row position
  row_was position below =
      ap (λ n. has_bit n (position % 64)) (get_or-take k (drop (row * w) rows) (position / 64) 0 (omega (arith, same, below))
      ∙ get_or-drop (row * w) rows (position / 64) 0)

  -- the bits of another row are set in it
  pub row_united : (other : List ℕ) → ((position : ℕ) → row_bit new position ≡ (row_bit (mid_of (row * w) k rows) position || row_bit other position)) →
      (this position : ℕ) → position < 64 * w →
      in_row w (put_mid (row * w) k rows new) this position ≡ (in_row w rows this position || (eqb this row && row_bit other position))
  row_united other each this position below =
      ⊎_elim
      (λ here.
      ap (λ n. in_row w (put_mid (row * w) k rows new) n position) here ∙ row_put position below ∙ each position
      ∙ ap (λ x. x || row_bit other position) (row_was position below)
      ∙ sym (ap (λ n. in_row w rows n position || (eqb this row && row_bit other position)) here
      ∙ ap (λ x. in_row w rows row position || (x && row_bit other position)) (eq-eqb this row here)))
      (λ apart.
      row_kept this position below apart
      ∙ sym (ap (λ x. in_row w rows this position || (x && row_bit other position)) (ne_eqb this row apart) ∙ or-false (in_row w rows this position)))
      (cases_eq this row)

-- a row that is read holds what its bits say
module _ (w row : ℕ) (rows : List ℕ) (fits : row * w + w ≤ length rows) where
  row_read : (position : ℕ) → position < 64 * w → row_bit (slice_range rows (row * w) (row * w + w)) position ≡ in_row w rows row position
  row_read position below =
      ap (λ n. has_bit n (position % 64))
      (get_or-take ((row * w + w) - row * w) (drop (row * w) rows) (position / 64) 0 (omega (arith, below)) ∙ get_or-drop (row * w) rows (position / 64) 0)

  row_long : length (slice_range rows (row * w) (row * w + w)) ≡ w
  row_long =
      let many : length (drop (row * w) rows) ≡ length rows - row * w = length-drop (row * w) rows in
      let long = length-take-le ((row * w + w) - row * w) (drop (row * w) rows) (omega (arith, fits, many)) in
      omega (arith, long)

  pub row_holds : (Is : ℕ → Type 0) → ((position : ℕ) → position < 64 * w → (in_row w rows row position ≡ true) ↔ Is position) →
      ((position : ℕ) → Is position → position < 64 * w) → (position : ℕ) → Holds (slice_range rows (row * w) (row * w + w)) position ↔ Is position
  row_holds Is each within position = (
    λ holds.
        ⊎_elim
        (λ short. (each position short).0 (sym (row_read position short) ∙ holds))
        (λ past. absurd (none_past (slice_range rows (row * w) (row * w + w)) position (omega (arith, past, row_long)) holds))
        (cases_lt position (64 * w)),
    λ is. row_read position (within position is) ∙ (each position (within position is)).1 is,
  )
