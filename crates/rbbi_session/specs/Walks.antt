-- Sessions of every kind: how contracts see one, and what its questions and edits answer, leave and read.
use Rattle.std.specs.Prelude.{◌≡◌, ℕ, ◌+◌, ◌≤◌, Bool, true, false, List, [], ◌∷◌, length, sum_by, Option, Some, Result, Ok, Err, if◌then◌else◌}
use Rattle.rbbi_model.specs.Boundaries.{Boundary}
use Rattle.rbbi_model.specs.Cover.{IsPlaceOf, CoverText}
use Rattle.rbbi_model.specs.Answers.{Question, Next, IsBoundary, Breaks, Reply, Outside, Inside, TooLong}
use Rattle.rbbi_model.specs.Scripts.{Command, Ask, Replace, ShowText, State, Turn, turn_by, Edit, Refused, Accepted, edit}
use Rattle.rbbi_model.specs.Costs.{edit_cost, charge_by, is_same_question, is_unkept}
use Rattle.rbbi_text.specs.Steps.{RisesUpTo}
use Rattle.rbbi_session.specs.declared.unit_error.UnitEditErr.{UnitEditErr}
use Rattle.rbbi_session.specs.declared.unit_error.UnitEditErr.TheVariants as refused

-- What a session of a kind reports of each text: its boundaries and its length, with places as the session counts them, and what an
-- edit of it comes to. And what a question may read, and whether one that repeats the one directly before it reads nothing.
pub record Kind : Type 0 where
  pub boundaries : List ℕ → List Boundary
  pub units : List ℕ → ℕ
  pub edit : List ℕ → ℕ → ℕ → List ℕ → Edit
  pub cost : State → Question → ℕ
  pub recalls : Bool

-- the reply to a command, and the text and the cursor after it
abbrev pub turn_in : Kind → State → Command → Turn
turn_in kind state command = turn_by kind.edit (kind.boundaries state.text) state command

-- the cost of a command
abbrev pub cost_in : Kind → State → Command → ℕ
cost_in kind state (Ask question) = kind.cost state question
cost_in kind state (Replace at removed inserted) = edit_cost
cost_in kind state ShowText = length state.text

-- the cost of a command after the one before it
abbrev pub charge_in : Kind → State → Option Command → Command → ℕ
charge_in kind state before command =
    if kind.recalls then charge_by (turn_in kind) (cost_in kind) state before command else cost_in kind state command

-- the sum of the costs of the commands from a state on, after the command before them
abbrev pub costs_in : Kind → State → Option Command → List Command → ℕ
costs_in kind state before [] = 0
costs_in kind state before (command ∷ commands) =
    charge_in kind state before command + costs_in kind (turn_in kind state command).state (Some command) commands

-- the sum of what it costs to go on from each of these boundaries of a text
abbrev pub nexts_cost : Kind → List ℕ → List Boundary → ℕ
nexts_cost kind x boundaries = sum_by (λ boundary. kind.cost (record { text = x; cursor = boundary.at }) Next) boundaries

-- How contracts see sessions: what questions and edits leave as it is, and the kind that this gives; the text and the cursor of the
-- moment; and what a question and an accepted edit read, and leave of what is kept.
pub record View (A Setting : Type 0) : Type 1 where
  pub setting : A → Setting
  pub kind : Setting → Kind
  pub state : A → State
  pub asks : A → Question → A → ℕ → ℕ → Type 0
  pub edits : A → ℕ → ℕ → List ℕ → A → ℕ → ℕ → Type 0

module _ {A Setting : Type 0} (view : View A Setting) where
  abbrev pub kind_of : A → Kind
  kind_of session = view.kind (view.setting session)

  -- the boundaries of the session's text
  abbrev pub reported : A → List Boundary
  reported session = (kind_of session).boundaries (view.state session).text

  -- the reply to a command, and the text and the cursor after it
  abbrev pub turn_of : A → Command → Turn
  turn_of session command = turn_in (kind_of session) (view.state session) command

  abbrev pub reply_to : A → Question → Reply
  reply_to session question = (turn_of session (Ask question)).reply

-- a question was answered: the session has gone where the answer says, and at most the question's cost was read
pub record IsAsked {A Setting : Type 0} (view : View A Setting) (old : A) (question : Question) (new : A) (before after : ℕ) : Type 0 where
  pub same : view.setting new ≡ view.setting old
  pub state_is : view.state new ≡ (turn_of view old (Ask question)).state
  pub paid : RisesUpTo ((kind_of view old).cost (view.state old) question) before after
  pub asks : view.asks old question new before after

-- and this is the reply
pub record IsAnswered {A Setting : Type 0} (view : View A Setting) (old : A) (question : Question) (reply : Reply) (new : A) (before after : ℕ) : Type 0
  where
    pub replied : reply ≡ reply_to view old question
    pub asked : IsAsked view old question new before after

-- an edit was accepted: the session has the new text, and its cursor is at 0
pub record IsEdited {A Setting : Type 0} (view : View A Setting) (old : A) (at removed : ℕ) (inserted : List ℕ) (new : A) (before after : ℕ) : Type 0 where
  pub same : view.setting new ≡ view.setting old
  pub accepted : (kind_of view old).edit (view.state old).text at removed inserted
      ≡ Accepted (view.state new).text ((kind_of view old).units (view.state new).text)
  pub start : (view.state new).cursor ≡ 0
  pub paid : RisesUpTo edit_cost before after
  pub edits : view.edits old at removed inserted new before after

module _ {A Setting : Type 0} (view : View A Setting) where
  -- these questions were asked one after another, and nothing else was read
  abbrev pub AreAsked : List Question → A → A → ℕ → ℕ → Type 0
  AreAsked [] old new before after = (new ≡ old) × (after ≡ before)
  AreAsked (question ∷ questions) old new before after =
      (between : A) × (middle : ℕ) × IsAsked view old question between before middle × AreAsked questions between new middle after

  -- nothing was read, and the session is as before
  abbrev pub IsUnread : A → A → ℕ → ℕ → Type 0
  IsUnread old new before after = (new ≡ old) × (after ≡ before)

  -- an edit comes to this refusal, and nothing was done
  abbrev pub IsRefused : Reply → A → ℕ → ℕ → List ℕ → A → ℕ → ℕ → Type 0
  IsRefused reply old at removed inserted new before after =
      ((kind_of view old).edit (view.state old).text at removed inserted ≡ Refused reply) × IsUnread old new before after

  -- what an edit answers, leaves and reads; after a refusal, also for memory, all is as before
  abbrev pub Edits : {T : Type 0} → A → ℕ → ℕ → List ℕ → Result T UnitEditErr → A → ℕ → ℕ → Type 0
  Edits old at removed inserted (Ok done) new before after = IsEdited view old at removed inserted new before after
  Edits old at removed inserted (Err refused.Outside) new before after = IsRefused Outside old at removed inserted new before after
  Edits old at removed inserted (Err refused.Inside) new before after = IsRefused Inside old at removed inserted new before after
  Edits old at removed inserted (Err refused.TooLong) new before after = IsRefused TooLong old at removed inserted new before after
  Edits old at removed inserted (Err refused.Memory) new before after = IsUnread old new before after

  -- the boundaries of each text cover it
  abbrev pub Cover : Type 0
  Cover = (setting : Setting) (x : List ℕ) → CoverText ((view.kind setting).units x) ((view.kind setting).boundaries x)

  -- going on from each boundary and asking for the cursor's at last costs no more than asking for all boundaries
  abbrev pub ListsArePaid : Type 0
  ListsArePaid =
      (setting : Setting) (state : State) (cursor : ℕ) → IsPlaceOf ((view.kind setting).boundaries state.text) state.cursor →
      nexts_cost (view.kind setting) state.text ((view.kind setting).boundaries state.text)
      + (view.kind setting).cost (record { text = state.text; cursor = cursor }) (IsBoundary state.cursor)
      ≤ (view.kind setting).cost state Breaks

  -- where sessions recall, a question that repeats the one directly before it reads nothing, unless its answer isn't kept
  abbrev pub Recall : Type 0
  Recall =
      (old now new : A) (earlier question : Question) (start between before after : ℕ) → (kind_of view now).recalls ≡ true →
      IsAsked view old earlier now start between → IsAsked view now question new before after → is_same_question earlier question ≡ true →
      is_unkept (Ask question) (reply_to view now question) ≡ false → after ≡ before

-- places and lengths count characters
pub record CountsCharacters {A Setting : Type 0} (view : View A Setting) : Type 0 where
  pub units : (setting : Setting) (x : List ℕ) → (view.kind setting).units x ≡ length x
  pub edits : (setting : Setting) → (view.kind setting).edit ≡ edit
