use Rattle.std.proofs.Common.{arith}
use Rattle.rbbi_segment.proofs.program.carry_out.Goals as goal

pub returns-in-Ok : goal.returns-in-Ok
returns-in-Ok g c done = c.in-Ok.ensures

pub returns-in-Err : goal.returns-in-Err
returns-in-Err g c done = absurd (omega (arith, done, c.tell.ensures))
