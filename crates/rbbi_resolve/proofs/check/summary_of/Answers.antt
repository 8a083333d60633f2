use Rattle.rbbi_resolve.proofs.Named.{counts_of_expression}
use Rattle.rbbi_resolve.proofs.check.summary_of.Goals as goal

pub returns-in-Expression : goal.returns-in-Expression
returns-in-Expression c =
    λ files bounds statements variable is. counts_of_expression files bounds statements c.args.kind.now _ c.higher.result variable c.in-Expression.is c.higher.ensures is
