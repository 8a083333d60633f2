-- Edits of a text, and the replies to the commands of a script, by what an edit comes to.
use Rattle.std.specs.Prelude.{◌≡◌, ℕ, ◌+◌, ◌-◌, List, [], ◌∷◌, ◌++◌, length, take, drop, if◌then◌else◌, nat_lt}
use Rattle.rbbi_model.specs.Words.{IsText, most_characters}
use Rattle.rbbi_model.specs.Boundaries.{Boundary}
use Rattle.rbbi_model.specs.Answers.{Question, Reply, Edited, Outside, TooLong, Characters, Answer, answer}

-- the text with a word in place of so many characters from a place
abbrev pub splice : List ℕ → ℕ → ℕ → List ℕ → List ℕ
splice x at removed inserted = take at x ++ inserted ++ drop (at + removed) x

-- a line of a script: a question, an edit, or the command `text`
pub data Command : Type 0 where
  Ask : (question : Question) → Command
  Replace : (at removed : ℕ) (inserted : List ℕ) → Command
  ShowText : Command

-- what an edit comes to: a refusal with its reply, or a new text with its length
pub data Edit : Type 0 where
  Refused : (reply : Reply) → Edit
  Accepted : (text : List ℕ) (length : ℕ) → Edit

-- Such an edit, by characters. It is outside where it removes past the end, otherwise too long where the new length would be.
abbrev pub edit : List ℕ → ℕ → ℕ → List ℕ → Edit
edit x at removed inserted =
    if nat_lt (length x) (at + removed) then Refused Outside
    else (if nat_lt most_characters (length x - removed + length inserted) then Refused TooLong
    else Accepted (splice x at removed inserted) (length (splice x at removed inserted)))

-- the text and the cursor of a moment
pub record State : Type 0 where
  pub text : List ℕ
  pub cursor : ℕ

-- the reply to a command, and the state after it
pub record Turn : Type 0 where
  pub reply : Reply
  pub state : State

-- a refused edit leaves the state, and an accepted one sets the cursor to 0
abbrev pub edited : State → Edit → Turn
edited state (Refused reply) = record { reply = reply; state = state }
edited state (Accepted text length) = record { reply = Edited length; state = record { text = text; cursor = 0 } }

-- a question leaves the text
abbrev pub answered : State → Answer → Turn
answered state answer = record { reply = answer.reply; state = record { text = state.text; cursor = answer.cursor } }

-- the state before the first command
abbrev pub opened : List ℕ → State
opened x = record { text = x; cursor = 0 }

-- How commands are performed depends on what an edit comes to, which depends on the unit of places and lengths.
module _ (edit_by : List ℕ → ℕ → ℕ → List ℕ → Edit) where
  -- the command performed where these are the boundaries of the text
  abbrev pub turn_by : List Boundary → State → Command → Turn
  turn_by boundaries state (Ask question) = answered state (answer boundaries state.cursor question)
  turn_by boundaries state (Replace at removed inserted) = edited state (edit_by state.text at removed inserted)
  turn_by boundaries state ShowText = record { reply = Characters state.text; state = state }

  -- the replies to the commands, where the boundaries of each text are those that a relation tells
  abbrev pub AreRepliesBy : (List ℕ → List Boundary → Type 0) → State → List Command → List Reply → Type 0
  AreRepliesBy AreBoundariesOf state [] [] = Unit {0}
  AreRepliesBy AreBoundariesOf state [] (reply ∷ replies) = ⊥
  AreRepliesBy AreBoundariesOf state (command ∷ commands) [] = ⊥
  AreRepliesBy AreBoundariesOf state (command ∷ commands) (reply ∷ replies) =
      (boundaries : List Boundary) × AreBoundariesOf state.text boundaries × (reply ≡ (turn_by boundaries state command).reply) ×
      AreRepliesBy AreBoundariesOf (turn_by boundaries state command).state commands replies

  -- the replies to the commands, where the boundaries of each text are those that a function gives
  abbrev pub replies_by : (List ℕ → List Boundary) → State → List Command → List Reply
  replies_by boundaries_of state [] = []
  replies_by boundaries_of state (command ∷ commands) =
      (turn_by (boundaries_of state.text) state command).reply ∷ replies_by boundaries_of (turn_by (boundaries_of state.text) state command).state commands

-- what the command puts into the text, if anything, is a text
abbrev pub InsertsText : Command → Type 0
InsertsText (Ask question) = Unit {0}
InsertsText (Replace at removed inserted) = IsText inserted
InsertsText ShowText = Unit {0}
