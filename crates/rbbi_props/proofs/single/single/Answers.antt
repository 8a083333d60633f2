use Rattle.std.proofs.Common.{◌≡◌, true, option_map, ap, sym, ◌∙◌}
use Rattle.unicode.specs.Lookup.{by_name}
use Rattle.unicode.specs.Sets.{in_set}
use Rattle.rbbi_props.specs.LooseForms.{is_well_formed}
use Rattle.rbbi_props.proofs.Found.{single_none, single_some}
use Rattle.rbbi_props.proofs.single.single.Goals as goal

pub returns-in_default : goal.returns-in_default
returns-in_default c =
    single_none c.args.name.now (sym (ap by_name (c.deref.ensures.value ∙ c.in_ok-normal.ensures)) ∙ c.in_default.ensures.found)

pub returns : goal.returns
returns c =
    let formed : is_well_formed c.args.name.now ≡ true =
    sym (c.is_well_formed.ensures ∙ ap is_well_formed c.as_bytes.ensures.value) ∙ c.if-not-is_well_formed.false in
    let found = sym (ap by_name (c.deref.ensures.value ∙ c.in_ok-normal.ensures)) ∙ c.in-Ok.ensures.found in
    single_some c.args.name.now (in_set c.in-Ok.set) c.in_ok-found.found formed (ap (option_map in_set) found)
    c.in_ok-found.ensures.form c.in_ok-found.ensures.members
