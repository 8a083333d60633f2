use Rattle.std.proofs.Common.{[], arith}
use Rattle.rbbi_positions.proofs.RuleFacts.{leaves_none, leaves_some}
use Rattle.rbbi_positions.proofs.rules.count_of_rule.Goals as goal

pub count-requires-in-Some-2 : goal.count-requires-in-Some-2
count-requires-in-Some-2 c = λ sets. omega (arith, c.requires sets, leaves_some sets c.args.rule.now c.in-Some.rest c.in-Some.is)

pub overflow_add-result : goal.overflow_add-result
overflow_add-result c =
    omega (arith, c.requires [], leaves_some [] c.args.rule.now c.in-Some.rest c.in-Some.is, c.count-in-Some.ensures [], c.count-in-Some-2.ensures [])

pub returns-in-None : goal.returns-in-None
returns-in-None c = λ sets. omega (arith, leaves_none sets c.args.rule.now c.in-None.is, c.count.ensures sets)

pub returns-in-Some : goal.returns-in-Some
returns-in-Some c = λ sets.
    omega (arith, leaves_some sets c.args.rule.now c.in-Some.rest c.in-Some.is, c.count-in-Some.ensures sets, c.count-in-Some-2.ensures sets)
