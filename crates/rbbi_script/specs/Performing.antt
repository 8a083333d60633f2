-- What performing a command answers and leaves, by a session of any kind.
use Rattle.std.specs.Prelude.{◌≡◌, ◌⊎◌, ℕ, List, ◌++◌, Result, Ok, Err}
use Rattle.rbbi_model.specs.Answers.{Reply}
use Rattle.rbbi_model.specs.Scripts.{Command, Ask, Replace, ShowText, State, replies_by}
use Rattle.rbbi_model.specs.Lines.{reply_lines}
use Rattle.rbbi_session.specs.Walks.{Kind, View, kind_of, turn_of}
use Rattle.rbbi_text.specs.Appending.{AppendsFront}

-- the reply was appended, and the session is as after the command
pub record IsPerformed {A Setting : Type 0} (view : View A Setting) (old : A) (command : Command) (before : List ℕ) (new : A) (after : List ℕ) : Type 0 where
  pub same : view.setting new ≡ view.setting old
  pub appended : after ≡ before ++ reply_lines (turn_of view old command).reply
  pub state_is : view.state new ≡ (turn_of view old command).state

-- the command is an edit
abbrev pub IsEdit : Command → Type 0
IsEdit (Ask question) = ⊥
IsEdit (Replace at removed inserted) = Unit {0}
IsEdit ShowText = ⊥

-- A prefix of the reply was appended. The session is as after the command or, where an edit was refused, as before it.
pub record IsBrokenOff {A Setting : Type 0} (view : View A Setting) (old : A) (command : Command) (before : List ℕ) (new : A) (after : List ℕ) : Type 0 where
  pub same : view.setting new ≡ view.setting old
  pub appended : AppendsFront before (reply_lines (turn_of view old command).reply) after
  pub state_is : (view.state new ≡ (turn_of view old command).state) ⊎ (IsEdit command × (view.state new ≡ view.state old))

module _ {A Setting : Type 0} (view : View A Setting) where
  -- what performing the command answers and leaves: the refusal is that memory ran out
  abbrev pub Performs : {T E : Type 0} → A → Command → List ℕ → Result T E → A → List ℕ → Type 0
  Performs old command before (Ok done) new after = IsPerformed view old command before new after
  Performs old command before (Err error) new after = IsBrokenOff view old command before new after

-- the replies to the commands from a state on
abbrev pub replies_in : Kind → State → List Command → List Reply
replies_in kind state commands = replies_by kind.edit kind.boundaries state commands

-- the replies to the commands, from the session's text and cursor on
abbrev pub replies_of : {A Setting : Type 0} → View A Setting → A → List Command → List Reply
replies_of view session commands = replies_in (kind_of view session) (view.state session) commands
