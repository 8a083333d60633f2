use Rattle.std.proofs.Common.{subst}
use Rattle.rbbi_resolve.specs.inner.ClassValues.{IsClassValue}
use Rattle.rbbi_resolve.proofs.Characters.{classes_emptiness}
use Rattle.rbbi_resolve.proofs.check.is_empty_set.Goals as goal

pub returns-in-Some : goal.returns-in-Some
returns-in-Some c =
    let d = c.args.division.now in
    λ files tree is respects. classes_emptiness files d tree _ c.holds_character.result c.layout.ensures.form
    (rw c.layout.ensures.value at c.holds_character.ensures) (subst (IsClassValue files d.bounds tree) c.in-Some.is is) respects
