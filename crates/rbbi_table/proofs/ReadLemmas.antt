-- One search over the short moves, by categories that were read before, as far as they go.
use Rattle.std.proofs.Common.{◌≡◌, ◌≢◌, ℕ, suc, ◌+◌, ◌-◌, ◌*◌, ◌/◌, ◌%◌, ◌<◌, ◌≤◌, List, length, get_or, sym, ap, ◌∙◌, subst, arith}
use Rattle.rbbi_model.specs.Words.{IsText, last_code_point}
use Rattle.rbbi_model.specs.Tables.{Table}
use Rattle.rbbi_model.specs.Searches.{row_at}
use Rattle.rbbi_table.specs.Blocks.{in_block}
use Rattle.rbbi_table.specs.Short.{IsShortKept, short_stride}
use Rattle.rbbi_table.specs.Reading.{AreRead}
use Rattle.rbbi_table.specs.inner.Searching.{IsGoing}
use Rattle.rbbi_table.proofs.StepLemmas.{text_at}
use Rattle.rbbi_table.proofs.ShortSearchLemmas.{IsTurn, within_rows, inside_row, goes_first, goes_to, goes_ended, goes_plain}

-- the short moves of a table are its own as contracts see it
pub short_kept : {table table' : Table} {numbers kept moves near : List ℕ} → table ≡ table' → IsShortKept table numbers kept moves near →
    IsShortKept table' numbers kept moves near
short_kept {numbers = numbers} {kept} {moves} {near} seen keeps = subst (λ (t : Table). IsShortKept t numbers kept moves near) seen keeps

-- a search that goes on, by the numbers of categories from a place on
pub record IsReading (table : Table) (x : List ℕ) (from s at row end end_row : ℕ) : Type 0 where
  pub going : IsGoing table x s (from + at) row (from + end) end_row
  pub low : end ≤ at

module _ {table : Table} {numbers kept moves near : List ℕ} (keeps : IsShortKept table numbers kept moves near) (x : List ℕ) (from s : ℕ)
    (text : IsText x) where
  pub reading_begins : (row : ℕ) → from ≤ s → s < length x → row ≡ short_stride table → IsReading table x from s (s - from) row (s - from) 0
  reading_begins row behind inside start =
      let begin : s ≡ from + (s - from) = omega arith in record {
        going = subst (λ n. IsGoing table x s n row n 0) begin (goes_first keeps x s text row (omega (arith, inside)) start);
        low = omega arith;
      }

  module _ {categories : List ℕ} (read : AreRead table x from categories) where
    -- the place of the move of a category
    placed : (at : ℕ) → at < length categories →
        (from + at < length x) × (get_or categories at 0 + 1 ≡ in_block numbers kept (get_or x (from + at) 0) + 1)
    placed at low =
        let short : from + at < length x = omega (arith, read.within, low) in
        let code : get_or x (from + at) 0 ≤ last_code_point = text_at x (from + at) text short in
        let same = keeps.in_blocks.same (get_or x (from + at) 0) (omega (arith, code)) in
        (short, ap (λ n. n + 1) (read.each at low ∙ sym same))

    pub inside_reading : (at row end end_row : ℕ) → at < length categories → IsReading table x from s at row end end_row →
        row + (get_or categories at 0 + 1) < length moves
    inside_reading at row end end_row low reading =
        let place = placed at low in
        inside_row keeps x s text (row_at table x s (from + at)) row (get_or categories at 0 + 1) (from + at)
        (within_rows keeps x s text (from + at)) reading.going.row_is place.0 place.1

    -- the search moves on by a character
    pub turn_read : (at row end end_row : ℕ) → at < length categories → IsReading table x from s at row end end_row →
        IsTurn table x s (from + at) (get_or moves (row + (get_or categories at 0 + 1)) 0) (from + end) end_row
    turn_read at row end end_row low reading =
        let place = placed at low in
        goes_to keeps x s text (from + at) row (get_or categories at 0 + 1) (from + end) end_row reading.going place.0 place.1

  next_place : (at : ℕ) → suc (from + at) ≡ from + (at + 1)
  next_place at = omega arith

  -- a rule ends at the row that it moves to
  pub reading_ends : (at next end end_row : ℕ) → IsTurn table x s (from + at) next (from + end) end_row → next % 4 ≢ 3 →
      IsReading table x from s (at + 1) (next / 4 * 4) (at + 1) (next / 4 * 4)
  reading_ends at next end end_row turn isnt = record {
    going = subst (λ n. IsGoing table x s n (next / 4 * 4) n (next / 4 * 4)) (next_place at)
        (goes_ended keeps x s text (from + at) next (from + end) end_row turn isnt);
    low = omega arith;
  }

  -- no rule ends there
  pub reading_on : (at next end end_row : ℕ) → IsTurn table x s (from + at) next (from + end) end_row → next % 4 ≡ 3 → next ≢ 3 → end ≤ at →
      IsReading table x from s (at + 1) (next / 4 * 4) end end_row
  reading_on at next end end_row turn kind other low = record {
    going = subst (λ n. IsGoing table x s n (next / 4 * 4) (from + end) end_row) (next_place at)
        (goes_plain keeps x s text (from + at) next (from + end) end_row turn kind other);
    low = omega (arith, low);
  }
