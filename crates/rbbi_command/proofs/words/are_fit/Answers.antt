use Rattle.std.proofs.Common.{◌≡◌, List, ℕ, map, get_or, arith, sym, refl, ap, ◌∙◌}
use Rattle.std.specs.String.{string_bytes}
use Rattle.std.proofs.lemmas.List.{length-map}
use Rattle.std.proofs.Math.ListN.{get_or-map}
use Rattle.rbbi_command.specs.declared.words.command.Operand.TheVariants.{Read}
use Rattle.rbbi_command.specs.declared.files.Role.TheVariants.{Property}
use Rattle.rbbi_command.proofs.Fitting.{fitting_ends, fitting_more}
use Rattle.rbbi_command.proofs.words.are_fit.Goals as goal

pub returns-then-not-is_fit : goal.returns-then-not-is_fit
returns-then-not-is_fit c =
    let words : List (List ℕ) = map string_bytes c.args.words.now in
    let i = c.loop-i.i in
    let word = c.index-words-i.result in
    let at : string_bytes word ≡ get_or words i (string_bytes word) = ap string_bytes c.index-words-i.is ∙ sym
    (get_or-map string_bytes c.args.words.now i word) in
    fitting_ends c.loop-i.invariant _ (Read Property) c.as_str.result.now c.loop-i-test.true
    (omega (arith, c.requires, c.loop-i-test.true, length-map c.args.words.now string_bytes)) refl
    (c.as_str.ensures.value ∙ at ∙ ap (get_or words i) (sym c.as_str.ensures.value)) (rw c.if-not-is_fit.true at c.is_fit.ensures)

pub loop-i-preserved : goal.loop-i-preserved
loop-i-preserved c =
    let words : List (List ℕ) = map string_bytes c.args.words.now in
    let i = c.loop-i.i in
    let word = c.index-words-i.result in
    let at : string_bytes word ≡ get_or words i (string_bytes word) = ap string_bytes c.index-words-i.is ∙ sym
    (get_or-map string_bytes c.args.words.now i word) in
    fitting_more c.loop-i.invariant _ (Read Property) c.as_str.result.now c.loop-i-test.true
    (omega (arith, c.requires, c.loop-i-test.true, length-map c.args.words.now string_bytes)) refl
    (c.as_str.ensures.value ∙ at ∙ ap (get_or words i) (sym c.as_str.ensures.value)) (rw c.if-not-is_fit.false at c.is_fit.ensures)
