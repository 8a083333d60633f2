-- What holds in the middle of the lines of a file, how a line keeps it, and what it gives at the end.
use Rattle.std.proofs.Common.{◌≡◌, ℕ, ◌+◌, ◌<◌, ◌≤◌, false, cond, List, [], ◌∷◌, ◌++◌, length, take, get_or, Some, None, filter_map, ltb, ap, sym, ◌∙◌, arith}
use Rattle.std.proofs.Common.{below_more}
use Rattle.std.specs.List.{position}
use Rattle.std.proofs.lemmas.Bool.{lt-ltb, le-ltb}
use Rattle.std.proofs.lemmas.List.{take_all}
use Rattle.std.proofs.lemmas.List.Sums.{position_or_len_is}
use Rattle.std.proofs.lemmas.List.Elements.{filter_map-append}
use Rattle.rbbi_text.proofs.Lines.{IsLineAt}
use Rattle.rbbi_props.specs.Rows.{Row}
use Rattle.rbbi_props.specs.RowLines.{property_row, is_bad}
use Rattle.rbbi_props.specs.inner.Refusals.{IsLineCause, IsOneLineCause}
use Rattle.rbbi_props.specs.declared.error.PropErr.{PropErr}
use Rattle.rbbi_props.specs.declared.error.PropErr.TheVariants.{NotUtf8, BadRow, Memory}

-- of so many of the lines, the rows are these, and none is bad
pub record IsReading (lines : List (List ℕ)) (rows : List Row) (number : ℕ) : Type 0 where
  pub rows_so_far : rows ≡ filter_map property_row (take number lines)
  pub none_bad : (k : ℕ) → k < number → is_bad (get_or lines k []) ≡ false

pub IsReading-none : (lines : List (List ℕ)) (rows : List Row) → rows ≡ [] → IsReading lines rows 0
IsReading-none lines rows none = record { rows_so_far = none; none_bad = λ k below. absurd (omega arith) }

-- one line more, which isn't bad
pub IsReading-more : (lines : List (List ℕ)) (rows more : List Row) (number : ℕ) (line : List ℕ) → IsReading lines rows number → IsLineAt lines number line →
    more ≡ rows ++ filter_map property_row (line ∷ []) → is_bad line ≡ false → IsReading lines more (number + 1)
IsReading-more lines rows more number line h here rows_are good = record {
  rows_so_far =
      rows_are
      ∙ ap (λ rs. rs ++ filter_map property_row (line ∷ [])) h.rows_so_far
      ∙ sym (filter_map-append property_row (take number lines) (line ∷ []))
      ∙ ap (filter_map property_row) (sym here.taken);
  none_bad = below_more (λ k. is_bad (get_or lines k []) ≡ false) number h.none_bad (ap is_bad here.stands ∙ good);
}

-- at the end
pub IsReading-all : (lines : List (List ℕ)) (rows : List Row) (number : ℕ) → IsReading lines rows number → length lines ≤ number →
    (rows ≡ filter_map property_row lines) × (position is_bad lines ≡ None)
IsReading-all lines rows number h all = (
  h.rows_so_far ∙ ap (filter_map property_row) (take_all number lines all),
  ap (λ n. cond (ltb n (length lines)) (Some n) None) (position_or_len_is is_bad lines (length lines) [] (omega arith) (λ k l. h.none_bad k (omega arith))
      (λ l. absurd (omega arith)))
      ∙ ap (λ b. cond b (Some (length lines)) None) (le-ltb (length lines) (length lines) (omega arith)),
)

-- at a line that is refused
pub IsLineCause-from_line : (lines : List (List ℕ)) (rows : List Row) (number : ℕ) (line : List ℕ) (e : PropErr) → IsReading lines rows number →
    IsLineAt lines number line → IsOneLineCause e line (number + 1) → IsLineCause e lines
IsLineCause-from_line lines rows number line (NotUtf8 at) h here cause = absurd cause
IsLineCause-from_line lines rows number line Memory h here cause = tt
IsLineCause-from_line lines rows number line (BadRow bad) h here (is, e) = (
  number,
  ap (λ n. cond (ltb n (length lines)) (Some n) None)
      (position_or_len_is is_bad lines number [] (omega (arith, here.within)) h.none_bad (λ l. ap is_bad here.stands ∙ is))
      ∙ ap (λ b. cond b (Some number) None) (lt-ltb number (length lines) here.within),
  e,
)
