-- The edits that are drawn, and the questions after them. Each edit takes four draws: a place, how many characters are removed, a
-- character that is inserted, and a place to ask about.
use Rattle.std.specs.Prelude.{ℕ, zero, suc, ◌+◌, ◌-◌, ◌*◌, ◌%◌, List, [], ◌∷◌, length, min}
use Rattle.rbbi_model.specs.Boundaries.{Boundary}
use Rattle.rbbi_model.specs.Answers.{Reply, Place, Following, Preceding, answer}
use Rattle.rbbi_model.specs.Scripts.{splice}
use Rattle.rbbi_demo.specs.Generator.{state_drawn, drawn, drawn_character, drawn_text}

-- where the edit after the state begins
unfoldable pub edit_place : ℕ → List ℕ → ℕ
edit_place state x = drawn state 1 % (length x + 1)

-- how many characters it removes: at most two, and no more than there are
unfoldable pub removed_count : ℕ → List ℕ → ℕ
removed_count state x = min (drawn state 2 % 3) (length x - edit_place state x)

-- the text after the edit: one character stands in their place
unfoldable pub edited_text : ℕ → List ℕ → List ℕ
edited_text state x = splice x (edit_place state x) (removed_count state x) (drawn_character state 3 ∷ [])

-- the place that is asked about, in the text after the edit
unfoldable pub asked_place : ℕ → List ℕ → ℕ
asked_place state x = drawn state 4 % (length (edited_text state x) + 1)

-- The state before the edit with this number, from 0. The text at first took as many draws as it has characters, which is the
-- number that the generator begins with.
unfoldable pub state_before : ℕ → ℕ → ℕ
state_before count edit = state_drawn count (count + 4 * edit)

-- the text after so many edits
abbrev pub text_after : ℕ → ℕ → List ℕ
text_after count zero = drawn_text count count
text_after count (suc edits) = edited_text (state_before count edits) (text_after count edits)

-- the place that is asked about after the edit with this number, from 0
abbrev pub place_after : ℕ → ℕ → ℕ
place_after count edit = asked_place (state_before count edit) (text_after count edit)

-- what a reply adds to the sum: its place, and 0 for `done`
abbrev pub place_or_zero : Reply → ℕ
place_or_zero (Place place) = place
place_or_zero _ = 0

-- the places of the boundaries that follow and precede a place, added up; where the cursor is doesn't matter
unfoldable pub places_sum : List Boundary → ℕ → ℕ
places_sum boundaries place =
    place_or_zero (answer boundaries 0 (Following place)).reply + place_or_zero (answer boundaries 0 (Preceding place)).reply
