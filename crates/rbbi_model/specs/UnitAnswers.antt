-- What a question asks in characters, and what an edit comes to, where places and lengths count a unit.
use Rattle.std.specs.Prelude.{ℕ, ◌+◌, ◌-◌, List, length, Option, Some, None, unwrap_or, if◌then◌else◌, ◌==◌, nat_lt, nat_le}
use Rattle.rbbi_model.specs.declared.unit.Unit.{Unit as TextUnit}
use Rattle.rbbi_model.specs.Words.{most_characters}
use Rattle.rbbi_model.specs.Places.{least_from, greatest_below}
use Rattle.rbbi_model.specs.Units.{offset_of}
use Rattle.rbbi_model.specs.Answers.{Question, First, Last, Next, Previous, Following, Preceding, IsBoundary, Current, Status, Statuses, Breaks}
use Rattle.rbbi_model.specs.Answers.{Outside, Inside, TooLong}
use Rattle.rbbi_model.specs.Scripts.{Edit, Refused, Accepted, splice}

-- the greatest place that doesn't lie past the offset
abbrev pub place_before : TextUnit → List ℕ → ℕ → ℕ
place_before unit x o = unwrap_or (greatest_below (λ i. nat_le (offset_of unit x i) o) (length x + 1)) 0

-- the least place that doesn't lie before the offset; where the text has none, one more than its length
abbrev pub place_from : TextUnit → List ℕ → ℕ → ℕ
place_from unit x o = least_from (λ i. nat_le o (offset_of unit x i)) 0 (length x + 1)

-- The question with places in the text for offsets. A boundary is looked for past the last place that doesn't lie past the offset, and
-- before the first one that doesn't lie before it. An offset past the text's end is a place past it.
abbrev pub in_characters : TextUnit → List ℕ → Question → Question
in_characters unit x First = First
in_characters unit x Last = Last
in_characters unit x Next = Next
in_characters unit x Previous = Previous
in_characters unit x (Following o) = Following (if nat_lt (offset_of unit x (length x)) o then length x + 1 else place_before unit x o)
in_characters unit x (Preceding o) = Preceding (place_from unit x o)
in_characters unit x (IsBoundary o) = IsBoundary (place_from unit x o)
in_characters unit x Current = Current
in_characters unit x Status = Status
in_characters unit x Statuses = Statuses
in_characters unit x Breaks = Breaks

-- the place that lies at the offset, if one does
abbrev pub place_at : TextUnit → List ℕ → ℕ → Option ℕ
place_at unit x o = greatest_below (λ i. offset_of unit x i == o) (length x + 1)

-- an edit between two places, or none where one of its ends lies at no place
abbrev pub edit_between : TextUnit → List ℕ → Option ℕ → Option ℕ → List ℕ → Edit
edit_between unit x None end inserted = Refused Inside
edit_between unit x (Some i) None inserted = Refused Inside
edit_between unit x (Some i) (Some j) inserted =
    if nat_lt most_characters (length x - (j - i) + length inserted) then Refused TooLong
    else Accepted (splice x i (j - i) inserted) (offset_of unit (splice x i (j - i) inserted) (length (splice x i (j - i) inserted)))

-- Such an edit, by the unit. It is outside where it removes past the end, otherwise inside where an end of it is within a character,
-- and otherwise too long where the new text would have too many characters.
abbrev pub edit_in : TextUnit → List ℕ → ℕ → ℕ → List ℕ → Edit
edit_in unit x at removed inserted =
    if nat_lt (offset_of unit x (length x)) (at + removed) then Refused Outside
    else edit_between unit x (place_at unit x at) (place_at unit x (at + removed)) inserted
