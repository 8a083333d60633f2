-- How many characters may be read to find what an edit changed.
use Rattle.std.specs.Prelude.{ℕ, ◌+◌, ◌-◌, Bool, ◌&&◌, List, length, filter, sum_by, unwrap_or, nat_lt, nat_le}
use Rattle.rbbi_model.specs.Places.{greatest_below}
use Rattle.rbbi_model.specs.Tables.{Table}
use Rattle.rbbi_model.specs.Searches.{look_end, table_boundaries}
use Rattle.rbbi_model.specs.Runs.{is_anchor}
use Rattle.rbbi_model.specs.Answers.{first_place, is_place_of}
use Rattle.rbbi_model.specs.Costs.{characters_read}
use Rattle.rbbi_change.specs.Changes.{moved}
use Rattle.rbbi_change.specs.declared.change.Edit.{Edit}

-- A barrier: an anchor from which the search looks at two characters at most. So each search that comes to it ends there.
abbrev pub is_barrier : Table → List ℕ → ℕ → Bool
is_barrier table x p = is_anchor table x p && nat_le (look_end table x p) (p + 2)

-- the greatest barrier that lies three characters or more before a place, or 0 where there is none
abbrev pub barrier_before : Table → List ℕ → ℕ → ℕ
barrier_before table x at = unwrap_or (greatest_below (is_barrier table x) (at - 2)) 0

-- Where the texts meet: the first old boundary that isn't before the end of what was removed, and that is a new boundary where the edit
-- moves it. The text's end is one.
abbrev pub first_met : Table → List ℕ → List ℕ → Edit → ℕ
first_met table x y edit =
    unwrap_or
    (first_place (λ place. nat_le (edit.at + edit.removed) place && is_place_of (table_boundaries table y) (moved edit place))
    (table_boundaries table x)) (length x)

-- the characters that the searches from the boundaries of the text read, from one place up to another
abbrev pub searches_between : Table → List ℕ → ℕ → ℕ → ℕ
searches_between table x from to =
    sum_by (λ boundary. characters_read table x boundary.at)
    (filter (λ boundary. nat_le from boundary.at && nat_lt boundary.at to) (table_boundaries table x))

-- The cost: a character for each place from the edit back to the greatest barrier before it, and one more; and the searches of the old
-- and of the new text from that barrier up to where the texts meet.
abbrev pub change_cost : Table → List ℕ → List ℕ → Edit → ℕ
change_cost table x y edit =
    let from : ℕ = barrier_before table x edit.at in
    let to : ℕ = first_met table x y edit in
    edit.at - from + 1 + searches_between table x from to + searches_between table y from (moved edit to)
