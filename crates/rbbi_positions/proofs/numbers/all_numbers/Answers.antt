use Rattle.std.proofs.Common.{◌++◌, sym, ap, ◌∙◌}
use Rattle.rbbi_resolve.specs.RuleLists.{numbers_of_rule}
use Rattle.rbbi_cats.proofs.Nexts.{flat_next}
use Rattle.rbbi_positions.proofs.numbers.all_numbers.Goals as goal

pub loop-number-preserved : goal.loop-number-preserved
loop-number-preserved c =
    c.in_ok-add_rule_numbers.ensures ∙ ap (λ l. l ++ numbers_of_rule c.get.result.now) c.loop-number.invariant
    ∙ sym (flat_next numbers_of_rule c.args.rules.now.rules c.loop-number.number c.get.result.now c.get.ensures)
