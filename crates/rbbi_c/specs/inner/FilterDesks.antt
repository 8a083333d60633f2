-- The session that a desk with a filter has.
use Rattle.rbbi_filter.specs.UnitFilters.{UnitFilterSession}
use Rattle.rbbi_c.specs.declared.filter_desk.FilterSession.{FilterSession}
use Rattle.rbbi_c.specs.declared.filter_desk.FilterSession.TheVariants.{Suppressing, Turning}

-- past abbreviations or through pairs
abbrev pub session_of : FilterSession → UnitFilterSession
session_of (Suppressing session) = session
session_of (Turning session) = session
