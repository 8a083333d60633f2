use Rattle.std.proofs.Common.{◌+◌, ◌*◌, ◌/◌, ◌%◌, ap}
use Rattle.rbbi_demo.specs.Generator.{next_state, state_drawn, drawn}
use Rattle.rbbi_demo.proofs.generator.Generator.draw.Goals as goal

pub returns-clause-state : goal.returns-clause-state
unfolding next_state
returns-clause-state c = ap (λ s. (s * 1103515245 + 12345) % 2147483648) c.from.ensures

pub returns-clause-number : goal.returns-clause-number
unfolding drawn state_drawn next_state
returns-clause-number c = ap (λ s. (s * 1103515245 + 12345) % 2147483648 / 256) c.from.ensures
