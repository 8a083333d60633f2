-- What a handle holds, while a call works on the session through a filter in it.
use Rattle.std.specs.Prelude.{Option}
use Rattle.std.specs.Borrow.{LendsIf, MutBor, Fml}
use Rattle.rbbi_filter.specs.UnitFilters.{UnitFilterSession}
use Rattle.rbbi_c.specs.declared.held.Held.{Held}
use Rattle.rbbi_c.specs.declared.held.Held.TheVariants.{Filtered}
use Rattle.rbbi_c.specs.contracts.held.Held as held
use Rattle.rbbi_c.specs.contracts.filter_desk.FilterDesk as desk

-- it ends with what the call leaves of the session, or as it was where it holds none
abbrev pub LendsFiltered : MutBor Held → Option (MutBor UnitFilterSession) → Fml
LendsFiltered holder lent = LendsIf held.the_row desk.the_row holder lent (λ session. Filtered session) holder.now
