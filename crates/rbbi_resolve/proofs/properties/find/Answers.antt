use Rattle.std.proofs.Common.{refl, subst}
use Rattle.rbbi_props.specs.Lookups.{IsSetOf}
use Rattle.rbbi_resolve.specs.SetValues.{property_test}
use Rattle.rbbi_resolve.proofs.PropertySets.{value_of_found}
use Rattle.rbbi_resolve.proofs.properties.find.Goals as goal

pub returns-else-negated : goal.returns-else-negated
returns-else-negated c =
    let t = property_test c.args.table.now c.args.name.now c.args.value.now in
    rw c.if-negated.false
    (value_of_found c.args.table.now c.args.name.now c.args.value.now t _ refl (subst (λ s. IsSetOf s t) c.in-Some.is c.in_ok-set.ensures))
