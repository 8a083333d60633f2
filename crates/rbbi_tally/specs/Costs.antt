-- How many characters may be read to open a tally, and for an edit.
use Rattle.std.specs.Prelude.{ℕ, ◌+◌, ◌-◌, ◌&&◌, ◌||◌, List, length, filter, sum_by, unwrap_or, ◌==◌, nat_lt, nat_le}
use Rattle.rbbi_model.specs.Tables.{Table}
use Rattle.rbbi_model.specs.Searches.{look_end, table_boundaries}
use Rattle.rbbi_model.specs.Answers.{first_place, is_place_of}
use Rattle.rbbi_model.specs.Scripts.{splice}
use Rattle.rbbi_model.specs.Costs.{characters_read}

-- the characters that the searches from all boundaries read
abbrev pub opening_cost : Table → List ℕ → ℕ
opening_cost table x = sum_by (λ boundary. characters_read table x boundary.at) (table_boundaries table x)

-- the first boundary that is the text's end or whose search looks past the place
abbrev pub first_reaching : Table → List ℕ → ℕ → ℕ
first_reaching table x at =
    unwrap_or (first_place (λ y. (y == length x) || nat_lt at (look_end table x y)) (table_boundaries table x)) (length x)

-- The first boundary of the new text that isn't before what was inserted, nor before `from`, and that is an old boundary moved. The
-- text's end is one.
abbrev pub first_met : Table → List ℕ → List ℕ → ℕ → ℕ → ℕ → ℕ → ℕ
first_met table x new at removed inserted from =
    unwrap_or
    (first_place (λ z. nat_le (at + inserted) z && (nat_le from z && is_place_of (table_boundaries table x) (z - inserted + removed)))
    (table_boundaries table new)) (length new)

-- the characters that the searches from the boundaries of the new text read, from one boundary up to another
abbrev pub searches_between : Table → List ℕ → ℕ → ℕ → ℕ
searches_between table new from to =
    sum_by (λ boundary. characters_read table new boundary.at)
    (filter (λ boundary. nat_le from boundary.at && nat_lt boundary.at to) (table_boundaries table new))

-- The cost of an edit: the searches of the new text from the first old boundary whose search looks past the edit's place, up to where
-- the boundaries are old ones moved.
abbrev pub tally_edit_cost : Table → List ℕ → ℕ → ℕ → List ℕ → ℕ
tally_edit_cost table x at removed inserted =
    let new : List ℕ = splice x at removed inserted in
    let from : ℕ = first_reaching table x at in
    searches_between table new from (first_met table x new at removed (length inserted) from)
