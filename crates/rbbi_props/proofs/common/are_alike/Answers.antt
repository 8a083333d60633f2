use Rattle.std.proofs.Common.{◌≡◌, rules}
use Rattle.std.specs.Option.{option_copied}
use Rattle.rbbi_props.specs.CommonForms.{common_form}
use Rattle.rbbi_props.proofs.CommonForms.{lookup_alike}
use Rattle.rbbi_props.proofs.common.are_alike.Goals as goal

pub returns-then-are_texts_alike-clause-found : goal.returns-then-are_texts_alike-clause-found
returns-then-are_texts_alike-clause-found c =
    λ holds files.
    let names : common_form c.args.name.now ≡ common_form c.args.other.now = search rules in
    lookup_alike files c.args.name.now (option_copied c.args.value) c.args.other.now (option_copied c.args.other_value)
    (record { names = names; values = c.are_values_alike.ensures.0 holds })
