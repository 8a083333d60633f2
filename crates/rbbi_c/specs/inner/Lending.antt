-- What a handle holds, while a call works on the session in it.
use Rattle.std.specs.Prelude.{Option}
use Rattle.std.specs.Borrow.{LendsIf, MutBor, Fml}
use Rattle.rbbi_session.specs.UnitSessions.{UnitSession}
use Rattle.rbbi_c.specs.declared.held.Held.{Held}
use Rattle.rbbi_c.specs.declared.held.Held.TheVariants.{Session}
use Rattle.rbbi_c.specs.contracts.held.Held as held
use Rattle.rbbi_c.specs.contracts.desk.Desk as desk

-- it ends with what the call leaves of the session, or as it was where it holds none
abbrev pub LendsSession : MutBor Held → Option (MutBor UnitSession) → Fml
LendsSession holder lent = LendsIf held.the_row desk.the_row holder lent (λ session. Session session) holder.now
