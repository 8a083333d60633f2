use Rattle.std.proofs.Common.{⊎_elim, arith}
use Rattle.rbbi_tool.proofs.program.rbbi_in_memory.Goals as goal

pub returns : goal.returns
returns g c = λ remembered.
    c.rbbi.ensures.complete
    (λ name named rose. ⊎_elim (λ less. omega arith) (λ greatest. omega arith) rose)
    (λ rose. ⊎_elim (λ less. omega arith) (λ greatest. omega arith) rose)
    (λ failed. ⊎_elim (λ less. omega arith) (λ greatest. omega arith) failed.2)
    remembered
