-- What opening a session through handles answers.
use Rattle.std.specs.Prelude.{◌≡◌, ℕ, ◌<◌, ◌⊎◌, List, length, Option, None, Some, if◌then◌else◌, ◌==◌, IsUtf8, chars}
use Rattle.rbbi_model.specs.declared.unit.Unit.{Unit as TextUnit}
use Rattle.rbbi_model.specs.declared.unit.Unit.TheVariants.{Chars, Utf8, Utf16}
use Rattle.rbbi_model.specs.Tables.{Table as BreakTable}
use Rattle.rbbi_model.specs.Words.{most_characters}
use Rattle.rbbi_session.specs.UnitSessions.{UnitSession, IsOpenedBy}
use Rattle.rbbi_c.specs.Calls.{IsNoText}
use Rattle.rbbi_c.specs.Holding.{table_in, HoldsSomething}
use Rattle.rbbi_c.specs.declared.held.Held.{Held}
use Rattle.rbbi_c.specs.declared.held.Held.TheVariants.{Session}

-- the unit of a number
abbrev pub unit_named : ℕ → Option TextUnit
unit_named n = if n == 0 then Some Chars else if n == 1 then Some Utf8 else if n == 2 then Some Utf16 else None

-- Why there is no session: the handle holds no table; the number names no unit; the bytes are no text; they have too many characters; or
-- memory ran out.
abbrev pub IsNoSession : Option Held → List ℕ → ℕ → ℕ → Type 0
IsNoSession table bytes unit code =
    ((code ≡ 3) × (table_in table ≡ None)) ⊎ ((code ≡ 4) × (unit_named unit ≡ None)) ⊎ IsNoText bytes code
    ⊎ ((code ≡ 7) × (most_characters < length (chars bytes))) ⊎ (code ≡ 9)

-- the table of the handle, the unit of the number, and the text that the bytes spell
pub record IsSource (table : Option Held) (bytes : List ℕ) (unit : ℕ) (by_table : BreakTable) (in_unit : TextUnit) (text : List ℕ) : Type 0 where
  pub held : table_in table ≡ Some by_table
  pub named : unit_named unit ≡ Some in_unit
  pub utf8 : IsUtf8 bytes
  pub text_is : text ≡ chars bytes

-- a session by the table of the handle over the text that the bytes spell, with places in the unit of the number
pub record IsOpenedFrom (table : Option Held) (bytes : List ℕ) (unit : ℕ) (session : UnitSession) : Type 0 where
  pub by_table : BreakTable
  pub in_unit : TextUnit
  pub held : table_in table ≡ Some by_table
  pub named : unit_named unit ≡ Some in_unit
  pub utf8 : IsUtf8 bytes
  pub opened : IsOpenedBy in_unit by_table (chars bytes) session

-- the handle holds the new session
pub record IsOpenedThrough (table : Option Held) (bytes : List ℕ) (unit : ℕ) (now : Option Held) : Type 0 where
  pub session : UnitSession
  pub opened : IsOpenedFrom table bytes unit session
  pub holds : now ≡ Some (Session session)

-- What opening a session answers, and what the handle for it holds then. A handle that holds something already is refused.
abbrev pub OpensThrough : Option Held → List ℕ → ℕ → Option Held → ℕ → Option Held → Type 0
OpensThrough table bytes unit old code now =
    ((code ≡ 0) × (old ≡ None) × IsOpenedThrough table bytes unit now)
    ⊎ ((now ≡ old) × (((code ≡ 3) × HoldsSomething old) ⊎ IsNoSession table bytes unit code))
