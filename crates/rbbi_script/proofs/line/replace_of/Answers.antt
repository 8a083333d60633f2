use Rattle.std.proofs.Common.{subst}
use Rattle.rbbi_script.specs.inner.Readings.{AreCharactersOf}
use Rattle.rbbi_script.proofs.EditLines.{replace_no_place, replace_no_count, replace_no_text}
use Rattle.rbbi_script.proofs.line.replace_of.Goals as goal

pub returns-in_default : goal.returns-in_default
returns-in_default c = replace_no_place c.args.fields.now c.in_default.ensures

pub returns-in_default-first_field : goal.returns-in_default-first_field
returns-in_default-first_field c =
    replace_no_count c.args.fields.now c.in-Some.at c.in-Some.rest.now c.in-Some.ensures c.in_default-first_field.ensures

pub returns-in_default-2 : goal.returns-in_default-2
returns-in_default-2 c =
    replace_no_text c.args.fields.now c.in-Some.at c.in-Some.rest.now c.in-Some-first_field.remove c.in-Some-first_field.rest.now
    c.in-Some.ensures c.in-Some-first_field.ensures
    (subst (AreCharactersOf c.in-Some-first_field.rest.now) c.in_default-2.is c.in_ok-text.ensures)
