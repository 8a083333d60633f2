-- The exit statuses of runs that end early.
use Rattle.std.specs.Prelude.{ℕ}
use Rattle.rbbi_segment.specs.declared.failure.Status.{Status}
use Rattle.rbbi_segment.specs.declared.failure.Status.TheVariants.{HasFault, IsRefused, HasFindings, IsClosed}

-- its number, which is never 0
abbrev pub number_of : Status → ℕ
number_of HasFault = 1
number_of IsRefused = 2
number_of HasFindings = 3
number_of IsClosed = 141
