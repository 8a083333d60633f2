-- A search in a table, the next boundary that it finds, and the boundaries of a text by the table.
use Rattle.std.specs.Prelude.{ℕ, zero, suc, ◌+◌, ◌-◌, ◌&&◌, List, [], ◌∷◌, length, Option, Some, None, unwrap_or, if◌then◌else◌, ◌==◌, nat_lt, slice_range}
use Rattle.rbbi_model.specs.Places.{least_from, greatest_below, has_bit}
use Rattle.rbbi_model.specs.Boundaries.{Boundary}
use Rattle.rbbi_model.specs.Tables.{Table, accept_of, fronts_of, list_of, statuses_of, row_after, completes, stops}

-- the row after the characters from s to q
abbrev pub row_at : Table → List ℕ → ℕ → ℕ → ℕ
row_at table x s q = row_after table (slice_range x s q)

-- A search from s ends at the least place past s at which the table stops, or else at the text's end.
abbrev pub search_end : Table → List ℕ → ℕ → ℕ
search_end table x s = least_from (λ z. stops table (row_at table x s z)) (s + 1) (length x - (s + 1))

-- The place after the last character read. Where the table would read on at the text's end, it is one more.
abbrev pub look_end : Table → List ℕ → ℕ → ℕ
look_end table x s =
    let z = search_end table x s in
    if stops table (row_at table x s z) then z else length x + 1

-- the place that a search found, and the number of the status list there
pub record Found : Type 0 where
  pub at : ℕ
  pub list : ℕ

-- the greatest place between s and z at which the front of look-ahead rule k ends; a valid table has one
abbrev pub cut_place : Table → List ℕ → ℕ → ℕ → ℕ → ℕ
cut_place table x s z k =
    unwrap_or (greatest_below (λ q. nat_lt s q && has_bit (fronts_of table (row_at table x s q)) k) z) (s + 1)

-- the greatest place past s, and up to z, at which some rule ends and no look-ahead rule
abbrev pub longest_place : Table → List ℕ → ℕ → ℕ → Option ℕ
longest_place table x s z = greatest_below (λ q. nat_lt s q && (accept_of table (row_at table x s q) == 1)) (z + 1)

-- the longest match with its row's list, or where there is none, one character with list 0
abbrev pub found_longest : Table → List ℕ → ℕ → Option ℕ → Found
found_longest table x s None = record { at = s + 1; list = 0 }
found_longest table x s (Some q) = record { at = q; list = list_of table (row_at table x s q) }

-- What a search from s finds: where a look-ahead rule is completed, its cut with the list of the completing row; otherwise
-- the longest match or one character.
abbrev pub found : Table → List ℕ → ℕ → Found
found table x s =
    let z = search_end table x s in
    let last = row_at table x s z in
    if completes table last
    then record { at = cut_place table x s z (accept_of table last - 2); list = list_of table last }
    else found_longest table x s (longest_place table x s z)

-- the next boundary from s by the table
abbrev pub next_boundary : Table → List ℕ → ℕ → Boundary
next_boundary table x s = let next = found table x s in record { at = next.at; statuses = statuses_of table next.list }

-- the boundaries that follow one, up to the text's end at n, at most so many
abbrev pub follow_by : (ℕ → Boundary) → ℕ → ℕ → Boundary → List Boundary
follow_by next n zero last = []
follow_by next n (suc most) last =
    if nat_lt last.at n then next last.at ∷ follow_by next n most (next last.at) else []

-- the places found by searching from p as if p were a boundary; each lies past the one before, so the text's length bounds
-- their number
abbrev pub fresh : Table → List ℕ → ℕ → List Boundary
fresh table x p =
    let first : Boundary = record { at = p; statuses = 0 ∷ [] } in
    first ∷ follow_by (next_boundary table x) (length x) (length x) first

-- the boundaries of the text by the table
abbrev pub table_boundaries : Table → List ℕ → List Boundary
table_boundaries table x = fresh table x 0
