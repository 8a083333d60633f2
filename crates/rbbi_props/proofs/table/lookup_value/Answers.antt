-- The rows that were collected are those that the look-up finds.
use Rattle.std.proofs.Common.{◌≡◌, ◌<◌, true, length, ap, sym, ◌∙◌, arith}
use Rattle.std.proofs.lemmas.Bool.{eqb-false}
use Rattle.rbbi_props.specs.LooseForms.{loose, is_well_formed}
use Rattle.rbbi_props.specs.Lookups.{ranges_with}
use Rattle.rbbi_props.proofs.Found.{lookup_rows}
use Rattle.rbbi_props.proofs.table.lookup_value.Goals as goal

pub returns : goal.returns
returns c =
    let name_formed : is_well_formed c.args.name.now ≡ true =
    sym (c.is_well_formed.ensures ∙ ap is_well_formed c.as_bytes.ensures.value) ∙ c.if-not-is_well_formed.false in
    let value_formed : is_well_formed c.args.value.now ≡ true =
    sym (c.is_well_formed-else-not-is_well_formed.ensures ∙ ap is_well_formed c.as_bytes-else-not-is_well_formed.ensures.value)
    ∙ c.if-not-is_well_formed-2.false in
    let name_is = c.deref.ensures.value ∙ c.in_ok-loose_name.ensures ∙ ap loose c.as_bytes-2.ensures.value in
    let value_is = c.deref-2.ensures.value ∙ c.in_ok-loose_value.ensures ∙ ap loose c.as_bytes-3.ensures.value in
    let ranges_are =
    c.in_ok-ranges.ensures.ranges
    ∙ ap (λ n. ranges_with c.args.files.now n c.deref-2.result.now) name_is
    ∙ ap (λ v. ranges_with c.args.files.now (loose c.args.name.now) v) value_is in
    let filled = eqb-false _ _ (sym c.is_empty.ensures ∙ c.if-is_empty.false) in
    let some : 0 < length c.in_ok-ranges.ranges.items = omega (arith, filled, c.in_ok-ranges.ranges.ok.0) in
    lookup_rows c.args.files.now c.args.name.now c.args.value.now c.in_ok-ranges.ranges.items c.in_ok-found.found
    name_formed value_formed ranges_are some c.in_ok-found.ensures.form c.in_ok-found.ensures.members
