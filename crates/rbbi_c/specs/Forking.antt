-- What forking a session answers.
use Rattle.std.specs.Prelude.{◌≡◌, ℕ, ◌⊎◌, Option, None, Some, MatchOption}
use Rattle.rbbi_session.specs.UnitSessions.{UnitSession}
use Rattle.rbbi_c.specs.Holding.{session_in, unserved_code, HoldsSomething, StaysThere}
use Rattle.rbbi_c.specs.declared.held.Held.{Held}
use Rattle.rbbi_c.specs.declared.held.Held.TheVariants.{Session}

-- the handle holds a session with the unit, the table, the text and the cursor of another
pub record IsForked (old : UnitSession) (now : Option Held) : Type 0 where
  pub new : UnitSession
  pub held : now ≡ Some (Session new)
  pub stays : StaysThere old new

-- What forking the session of a handle answers, and what the handle for the second one holds then. A handle that holds something already is
-- refused.
abbrev pub ForksThrough : Option Held → Option Held → ℕ → Option Held → Type 0
ForksThrough session old code now =
    MatchOption (session_in session) ((now ≡ old) × ((code ≡ unserved_code session) ⊎ ((code ≡ 3) × HoldsSomething old)))
    (λ first. ((code ≡ 0) × (old ≡ None) × IsForked first now) ⊎ ((now ≡ old) × (((code ≡ 3) × HoldsSomething old) ⊎ (code ≡ 9))))
