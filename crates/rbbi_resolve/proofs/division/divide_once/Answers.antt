use Rattle.std.proofs.Common.{sym, subst, rules}
use Rattle.std.specs.List.{AllByRecursion}
use Rattle.std.specs.Map.{values_of}
use Rattle.std.proofs.lemmas.List.Elements.{recursion_from_All, All-from_recursion}
use Rattle.rbbi_resolve.specs.inner.ClassValues.{IsDivided}
use Rattle.rbbi_resolve.proofs.Answered.{values_insert}
use Rattle.rbbi_resolve.proofs.division.divide_once.Goals as goal

pub returns-clause-divided : goal.returns-clause-divided
returns-clause-divided c =
    let P = IsDivided c.args.layout.now in
    All-from_recursion P _
    (subst (λ entries. AllByRecursion P (values_of entries)) (sym c.in_ok-insert.ensures.entries)
    (values_insert _ P _ _ _ (recursion_from_All P _ c.requires) (search rules)))
