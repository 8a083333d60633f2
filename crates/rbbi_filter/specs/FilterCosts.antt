-- How many characters each question may read, where boundaries are reported through a filter.
use Rattle.std.specs.Prelude.{ℕ, zero, suc, ◌+◌, ◌*◌, ◌&&◌, List, length, filter, sum_by, unwrap_or, if◌then◌else◌, ◌==◌, nat_lt}
use Rattle.rbbi_model.specs.Boundaries.{Boundary}
use Rattle.rbbi_model.specs.Tables.{Table}
use Rattle.rbbi_model.specs.Searches.{table_boundaries}
use Rattle.rbbi_model.specs.Answers.{Question, First, Last, Next, Previous, Following, Preceding, IsBoundary, Current, Status, Statuses, Breaks}
use Rattle.rbbi_model.specs.Answers.{first_after, last_before}
use Rattle.rbbi_model.specs.Costs.{forward_cost, back_cost, last_cost, breaks_cost}
use Rattle.rbbi_filter.specs.Abbreviations.{window_size, kept}
use Rattle.rbbi_filter.specs.Pairs.{turned}
use Rattle.rbbi_filter.specs.declared.filter.Filter.{Filter}
use Rattle.rbbi_filter.specs.declared.filter.Filter.TheVariants.{Suppressing, Turning}
use Rattle.rbbi_filter.specs.Filters.{searched}

-- the boundaries between two places
abbrev pub between : List Boundary → ℕ → ℕ → List Boundary
between boundaries low high = filter (λ boundary. nat_lt low boundary.at && nat_lt boundary.at high) boundaries

-- What is read for an answer that is found past these boundaries, which are passed over: what it costs to go on from the place asked
-- and from each of them, and the characters before each of them and before the answer.
abbrev pub passing_cost : (ℕ → ℕ) → ℕ → List Boundary → ℕ
passing_cost cost place passed = cost place + sum_by (λ boundary. cost boundary.at) passed + window_size * (length passed + 1)

-- the cost of the first boundary past a place that isn't suppressed
abbrev pub forward_kept_cost : Table → List (List ℕ) → List ℕ → ℕ → ℕ
forward_kept_cost table list x place =
    let all : List Boundary = table_boundaries table x in
    passing_cost (forward_cost table x) place (between all place (unwrap_or (first_after (kept list x all) place) (length x)))

-- the cost of the last boundary before a place that isn't suppressed
abbrev pub back_kept_cost : Table → List (List ℕ) → List ℕ → ℕ → ℕ
back_kept_cost table list x place =
    let all : List Boundary = table_boundaries table x in
    passing_cost (back_cost table x) place (between all (unwrap_or (last_before (kept list x all) place) 0) place)

-- the cost forward, of the first boundary past a place within the text
abbrev pub forward_through : Filter → Table → List ℕ → ℕ → ℕ
forward_through (Suppressing list) table x place = forward_kept_cost table list x place
forward_through (Turning pairs) table x place = forward_cost table (turned pairs x) place

-- the cost back, of the last boundary before a place of the text
abbrev pub back_through : Filter → Table → List ℕ → ℕ → ℕ
back_through (Suppressing list) table x place = back_kept_cost table list x place
back_through (Turning pairs) table x place = back_cost table (turned pairs x) place

-- the cost of the text's last boundary
abbrev pub last_through : Filter → Table → List ℕ → ℕ
last_through filter table x = last_cost table (searched filter x)

-- the cost of the first boundary past a place
abbrev pub following_through : Filter → Table → List ℕ → ℕ → ℕ
following_through filter table x place = if nat_lt place (length x) then forward_through filter table x place else last_through filter table x

-- the cost of whether a place is a boundary
abbrev pub is_boundary_through : Filter → Table → List ℕ → ℕ → ℕ
is_boundary_through filter table x zero = 0
is_boundary_through filter table x (suc before) = following_through filter table x before

-- the cost of the last boundary before a place
abbrev pub preceding_through : Filter → Table → List ℕ → ℕ → ℕ
preceding_through filter table x zero = 0
preceding_through filter table x (suc before) =
    if nat_lt before (length x) then back_through filter table x (suc before) else last_through filter table x

-- The cost of all boundaries, and of finding the cursor's again. Where some are suppressed, the characters before each boundary of the
-- text are read too, and those before the cursor's once more.
abbrev pub breaks_through : Filter → Table → List ℕ → ℕ → ℕ
breaks_through (Suppressing list) table x cursor =
    breaks_cost table x cursor + window_size * length (table_boundaries table x) + window_size
breaks_through (Turning pairs) table x cursor = breaks_cost table (turned pairs x) cursor

-- the cost of whether a boundary is reported
abbrev pub reporting_cost : Filter → ℕ
reporting_cost (Suppressing list) = window_size
reporting_cost (Turning pairs) = 0

-- the cost of a question
abbrev pub question_through : Filter → Table → List ℕ → ℕ → Question → ℕ
question_through filter table x cursor First = 0
question_through filter table x cursor Last = last_through filter table x
question_through filter table x cursor Next = if nat_lt cursor (length x) then forward_through filter table x cursor else 0
question_through filter table x cursor Previous = if cursor == 0 then 0 else back_through filter table x cursor
question_through filter table x cursor (Following place) = following_through filter table x place
question_through filter table x cursor (Preceding place) = preceding_through filter table x place
question_through filter table x cursor (IsBoundary place) = is_boundary_through filter table x place
question_through filter table x cursor Current = 0
question_through filter table x cursor Status = 0
question_through filter table x cursor Statuses = 0
question_through filter table x cursor Breaks = breaks_through filter table x cursor
