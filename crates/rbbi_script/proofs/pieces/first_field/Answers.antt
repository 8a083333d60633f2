use Rattle.std.proofs.Common.{ap, sym, ◌∙◌}
use Rattle.rbbi_text.specs.Numbers.{decimal}
use Rattle.rbbi_script.specs.Grammar.{most_number}
use Rattle.rbbi_script.proofs.Cuts.{only_field, no_field-none, no_field-bad}
use Rattle.rbbi_script.proofs.pieces.first_field.Goals as goal

pub returns-in_err-cut : goal.returns-in_err-cut
returns-in_err-cut c = rw c.from_residual.ensures (no_field-none c.args.text.now c.in_err-cut.ensures)

pub returns-in_err-number : goal.returns-in_err-number
returns-in_err-number c =
    rw c.from_residual-in_err-number.ensures
    (no_field-bad c.args.text.now c.in_ok-cut.cut.0.now c.in_ok-cut.cut.1.now c.in_ok-cut.ensures
    (ap (decimal most_number) (sym c.as_bytes.ensures.value) ∙ sym c.in_err-number.ensures.value))

pub returns : goal.returns
returns c =
    only_field c.args.text.now c.in_ok-cut.cut.0.now c.in_ok-cut.cut.1.now c.in_ok-number.number c.in_ok-cut.ensures
    (ap (decimal most_number) (sym c.as_bytes.ensures.value) ∙ sym c.in_ok-number.ensures.value)
