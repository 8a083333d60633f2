use Rattle.std.proofs.Common.{◌++◌, ap, sym, ◌∙◌}
use Rattle.std.specs.Prelude.{codes}
use Rattle.rbbi_text.specs.Numbers.{hexadecimal}
use Rattle.rbbi_script.proofs.Words.{only_number, no_number-bad, no_number-surrogate, surrogate_is, no_surrogate}
use Rattle.rbbi_script.proofs.escape.numbered.Goals as goal

pub returns-in_err-number : goal.returns-in_err-number
returns-in_err-number c =
    rw c.from_residual-in_err-number.ensures
    (no_number-bad c.args.text.now c.in_ok-cut.cut.0.now c.in_ok-cut.cut.1.now (c.in_ok-digits.ensures
    ∙ ap (λ d. codes "u{" ++ d) c.in_ok-cut.ensures.parts) c.in_ok-cut.ensures.first
    (ap (hexadecimal 1 6 0x10FFFF) (sym c.as_bytes.ensures.value) ∙ sym c.in_err-number.ensures.value))

pub returns-in_err-character : goal.returns-in_err-character
returns-in_err-character c =
    rw c.from_residual-in_err-character.ensures
    (no_number-surrogate c.args.text.now c.in_ok-cut.cut.0.now c.in_ok-cut.cut.1.now c.in_ok-number.number (c.in_ok-digits.ensures
    ∙ ap (λ d. codes "u{" ++ d) c.in_ok-cut.ensures.parts) c.in_ok-cut.ensures.first
    (ap (hexadecimal 1 6 0x10FFFF) (sym c.as_bytes.ensures.value) ∙ sym c.in_ok-number.ensures.value)
    (surrogate_is c.in_ok-number.number c.in_err-character.ensures.cases c.in_ok-number.ensures.bound))

pub returns : goal.returns
returns c =
    rw c.in_ok-character.ensures.value.1
    (only_number c.args.text.now c.in_ok-cut.cut.0.now c.in_ok-cut.cut.1.now c.in_ok-number.number (c.in_ok-digits.ensures
    ∙ ap (λ d. codes "u{" ++ d) c.in_ok-cut.ensures.parts) c.in_ok-cut.ensures.first
    (ap (hexadecimal 1 6 0x10FFFF) (sym c.as_bytes.ensures.value) ∙ sym c.in_ok-number.ensures.value)
    (no_surrogate c.in_ok-number.number c.in_ok-character.ensures.cases))
