use Rattle.std.proofs.Common.{◌≡◌, ◌<◌, ℕ, refl, sym, ap, ◌∙◌, subst, arith}
use Rattle.rbbi_segment.specs.Statuses.{number_of}
use Rattle.rbbi_segment.specs.declared.failure.Status.{Status}
use Rattle.rbbi_segment.specs.declared.failure.Status.TheVariants.{HasFault, IsRefused, HasFindings, IsClosed}
use Rattle.rbbi_segment.proofs.program.tell.Goals as goal

-- no status is 0
some : (status : Status) → 0 < number_of status
some HasFault = omega arith
some IsRefused = omega arith
some HasFindings = omega arith
some IsClosed = omega arith

pub returns-in-Ok : goal.returns-in-Ok
returns-in-Ok g c = subst (λ n. 0 < n) (sym c.number.ensures) (some c.in-Ok.status)

pub returns-in-Err : goal.returns-in-Err
returns-in-Err g c = subst (λ n. 0 < n) (sym c.number-in-Err.ensures) (some IsRefused)
