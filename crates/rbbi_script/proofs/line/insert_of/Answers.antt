use Rattle.std.proofs.Common.{subst}
use Rattle.rbbi_script.specs.inner.Readings.{AreCharactersOf}
use Rattle.rbbi_script.proofs.EditLines.{insert_no_place, insert_no_text}
use Rattle.rbbi_script.proofs.line.insert_of.Goals as goal

pub returns-in_default : goal.returns-in_default
returns-in_default c = insert_no_place c.args.fields.now c.in_default.ensures

pub returns-in_default-2 : goal.returns-in_default-2
returns-in_default-2 c =
    insert_no_text c.args.fields.now c.in-Some.at c.in-Some.rest.now c.in-Some.ensures
    (subst (AreCharactersOf c.in-Some.rest.now) c.in_default-2.is c.in_ok-text.ensures)
