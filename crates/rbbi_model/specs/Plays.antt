-- The replies to the commands of a script, where places and lengths count a unit.
use Rattle.std.specs.Prelude.{◌≡◌, ℕ, List}
use Rattle.rbbi_model.specs.declared.unit.Unit.{Unit as TextUnit}
use Rattle.rbbi_model.specs.Rules.{Rule}
use Rattle.rbbi_model.specs.Boundaries.{Boundary, AreBoundaries}
use Rattle.rbbi_model.specs.Tables.{Table}
use Rattle.rbbi_model.specs.Searches.{table_boundaries}
use Rattle.rbbi_model.specs.Units.{measured}
use Rattle.rbbi_model.specs.UnitAnswers.{edit_in}
use Rattle.rbbi_model.specs.Answers.{Reply}
use Rattle.rbbi_model.specs.Scripts.{Command, State, Turn, opened, turn_by, AreRepliesBy, replies_by}

-- the boundaries of the text that a relation tells, with their places in the unit
abbrev pub AreMeasured : TextUnit → (List ℕ → List Boundary → Type 0) → List ℕ → List Boundary → Type 0
AreMeasured unit AreBoundariesOf x boundaries = (whole : List Boundary) × AreBoundariesOf x whole × (boundaries ≡ measured unit x whole)

-- the replies to a script's commands over the boundaries by the rules
abbrev pub AreReplies : List Rule → TextUnit → List ℕ → List Command → List Reply → Type 0
AreReplies rules unit x commands replies = AreRepliesBy (edit_in unit) (AreMeasured unit (AreBoundaries rules)) (opened x) commands replies

-- the boundaries of the text by a table, with their places in the unit
abbrev pub measured_boundaries : Table → TextUnit → List ℕ → List Boundary
measured_boundaries table unit x = measured unit x (table_boundaries table x)

-- the command performed over the boundaries by a table
abbrev pub table_turn : Table → TextUnit → State → Command → Turn
table_turn table unit state command = turn_by (edit_in unit) (measured_boundaries table unit state.text) state command

-- the replies to commands from a state on, over the boundaries by a table
abbrev pub table_replies_from : Table → TextUnit → State → List Command → List Reply
table_replies_from table unit state commands = replies_by (edit_in unit) (measured_boundaries table unit) state commands

-- the replies to a script's commands over the boundaries by a table
abbrev pub table_replies : Table → TextUnit → List ℕ → List Command → List Reply
table_replies table unit x commands = table_replies_from table unit (opened x) commands
