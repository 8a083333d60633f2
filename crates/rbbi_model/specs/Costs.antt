-- How many characters each question and command may read.
use Rattle.std.specs.Prelude.{ℕ, zero, suc, ◌+◌, ◌-◌, ◌*◌, min, Bool, false, not, ◌&&◌, ◌||◌, List, [], ◌∷◌, length, filter, sum_by, Option, Some, None}
use Rattle.std.specs.Prelude.{unwrap_or, if◌then◌else◌, ◌==◌, nat_lt, nat_le}
use Rattle.std.specs.List.{list_any}
use Rattle.rbbi_model.specs.declared.unit.Unit.{Unit as TextUnit}
use Rattle.rbbi_model.specs.Places.{greatest_below}
use Rattle.rbbi_model.specs.Boundaries.{Boundary}
use Rattle.rbbi_model.specs.Tables.{Table}
use Rattle.rbbi_model.specs.Searches.{look_end, fresh, table_boundaries}
use Rattle.rbbi_model.specs.Runs.{is_anchor}
use Rattle.rbbi_model.specs.Answers.{Question, First, Last, Next, Previous, Following, Preceding, IsBoundary, Current, Status, Statuses, Breaks, Reply, Place}
use Rattle.rbbi_model.specs.Scripts.{Command, Ask, Replace, ShowText, State, Turn, opened}
use Rattle.rbbi_model.specs.UnitAnswers.{place_before, in_characters}
use Rattle.rbbi_model.specs.Plays.{table_turn}

-- the greatest anchor below a place, or 0
abbrev pub anchor_below : Table → List ℕ → ℕ → ℕ
anchor_below table x high = unwrap_or (greatest_below (is_anchor table x) high) 0

-- the characters that the search from y reads; from the text's end there is none
abbrev pub characters_read : Table → List ℕ → ℕ → ℕ
characters_read table x y = if nat_lt y (length x) then min (look_end table x y) (length x) - y else 0

-- the sum of the characters read by the searches from q on, up to the one from i
abbrev pub searches_cost : Table → List ℕ → ℕ → ℕ → ℕ
searches_cost table x q i =
    sum_by (λ member. characters_read table x member.at) (filter (λ member. nat_le member.at i) (fresh table x q))

-- The cost forward, of the first boundary past i: a walk back to the greatest anchor before i, and the searches from there.
abbrev pub forward_cost : Table → List ℕ → ℕ → ℕ
forward_cost table x i = let p = anchor_below table x i in i - p + 1 + searches_cost table x p i

-- the try at q settles the last boundary before i: it is 0, or a boundary two characters past it or later comes before i
abbrev pub settles : Table → List ℕ → ℕ → ℕ → Bool
settles table x i q = (q == 0) || list_any (λ member. nat_le (q + 2) member.at && nat_lt member.at i) (fresh table x q)

-- The tries from q on, each the greatest anchor that is at least twice as far from i, or 0. Each lies before the one before it,
-- so that there are at most i after the first.
abbrev pub tries_from : Table → List ℕ → ℕ → ℕ → ℕ → List ℕ
tries_from table x i zero q = q ∷ []
tries_from table x i (suc most) q =
    if settles table x i q then q ∷ [] else q ∷ tries_from table x i most (anchor_below table x (2 * q + 1 - i))

-- the tries back from i: the first is the greatest anchor at least three characters before it, or 0
abbrev pub tries : Table → List ℕ → ℕ → List ℕ
tries table x i = tries_from table x i i (anchor_below table x (i - 2))

-- the last of the tries
abbrev pub last_of : List ℕ → ℕ
last_of [] = 0
last_of (q ∷ []) = q
last_of (q ∷ next ∷ qs) = last_of (next ∷ qs)

-- the cost back, of the last boundary before i: the walks back to the last try, and the searches of each try
abbrev pub back_cost : Table → List ℕ → ℕ → ℕ
back_cost table x i = 2 * (i - last_of (tries table x i)) + sum_by (λ q. searches_cost table x q (i - 1)) (tries table x i)

-- the cost of the text's last boundary; the empty text has none to read for
abbrev pub last_cost : Table → List ℕ → ℕ
last_cost table x = if length x == 0 then 0 else forward_cost table x (length x - 1)

-- the cost of the first boundary past a place
abbrev pub following_cost : Table → List ℕ → ℕ → ℕ
following_cost table x place = if nat_lt place (length x) then forward_cost table x place else last_cost table x

-- the cost of whether a place is a boundary
abbrev pub is_boundary_cost : Table → List ℕ → ℕ → ℕ
is_boundary_cost table x zero = 0
is_boundary_cost table x (suc before) = following_cost table x before

-- the cost of the last boundary before a place
abbrev pub preceding_cost : Table → List ℕ → ℕ → ℕ
preceding_cost table x zero = 0
preceding_cost table x (suc before) = if nat_lt before (length x) then back_cost table x (suc before) else last_cost table x

-- the cost of going on from each of these boundaries but the text's end
abbrev pub listing_cost : Table → List ℕ → List Boundary → ℕ
listing_cost table x boundaries =
    sum_by (λ boundary. forward_cost table x boundary.at) (filter (λ boundary. nat_lt boundary.at (length x)) boundaries)

-- the cost of all boundaries, and of finding the cursor's again
abbrev pub breaks_cost : Table → List ℕ → ℕ → ℕ
breaks_cost table x cursor =
    listing_cost table x (table_boundaries table x) + (if cursor == 0 then 0 else forward_cost table x (cursor - 1))

-- the cost of a question, where the cursor and the place asked count characters
abbrev pub question_cost : Table → List ℕ → ℕ → Question → ℕ
question_cost table x cursor First = 0
question_cost table x cursor Last = last_cost table x
question_cost table x cursor Next = if nat_lt cursor (length x) then forward_cost table x cursor else 0
question_cost table x cursor Previous = if cursor == 0 then 0 else back_cost table x cursor
question_cost table x cursor (Following place) = following_cost table x place
question_cost table x cursor (Preceding place) = preceding_cost table x place
question_cost table x cursor (IsBoundary place) = is_boundary_cost table x place
question_cost table x cursor Current = 0
question_cost table x cursor Status = 0
question_cost table x cursor Statuses = 0
question_cost table x cursor Breaks = breaks_cost table x cursor

-- the characters that an edit may read: 1,024 places to look for a safe pair, and two more
abbrev pub edit_cost : ℕ
edit_cost = 1026

-- the cost of a command, where places and lengths count the unit: that of what its question asks in characters, from the cursor's place
abbrev pub command_cost : Table → TextUnit → State → Command → ℕ
command_cost table unit state (Ask question) =
    question_cost table state.text (place_before unit state.text state.cursor) (in_characters unit state.text question)
command_cost table unit state (Replace at removed inserted) = edit_cost
command_cost table unit state ShowText = length state.text

-- the question asks the same of the same place, and its answer is kept
abbrev pub is_same_question : Question → Question → Bool
is_same_question (Following these) (Following those) = these == those
is_same_question (Preceding these) (Preceding those) = these == those
is_same_question (IsBoundary these) (IsBoundary those) = these == those
is_same_question _ _ = false

-- the command repeats the one directly before it
abbrev pub repeats : Option Command → Command → Bool
repeats (Some (Ask earlier)) (Ask question) = is_same_question earlier question
repeats _ _ = false

-- the command asks for the last boundary before a place, and the answer is 0, which no run is kept for
abbrev pub is_unkept : Command → Reply → Bool
is_unkept (Ask (Preceding place)) (Place at) = at == 0
is_unkept _ _ = false

-- How commands are performed and what each costs depends on the unit of places and lengths.
module _ (perform : State → Command → Turn) (cost : State → Command → ℕ) where
  -- the cost of a command after the one before it: nothing where it repeats that one, unless no run is kept for the answer
  abbrev pub charge_by : State → Option Command → Command → ℕ
  charge_by state before command =
      if repeats before command && not (is_unkept command (perform state command).reply) then 0 else cost state command

  -- the sum of the costs of the commands from a state on, after the command before them
  abbrev pub costs_by : State → Option Command → List Command → ℕ
  costs_by state before [] = 0
  costs_by state before (command ∷ commands) =
      charge_by state before command + costs_by (perform state command).state (Some command) commands

-- The costs of commands from a state on, each over the text and the cursor of its moment. A question that repeats the one directly
-- before it costs nothing, unless it asks for the last boundary before a place and the answer is 0.
abbrev pub commands_cost : Table → TextUnit → State → List Command → ℕ
commands_cost table unit state commands = costs_by (table_turn table unit) (command_cost table unit) state None commands

-- the cost of a script
abbrev pub script_cost : Table → TextUnit → List ℕ → List Command → ℕ
script_cost table unit x commands = commands_cost table unit (opened x) commands
