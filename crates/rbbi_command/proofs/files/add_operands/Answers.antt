use Rattle.std.proofs.Common.{◌≡◌, List, ℕ, map, get_or, arith, sym, refl, ap, ◌∙◌}
use Rattle.std.specs.String.{string_bytes}
use Rattle.std.proofs.lemmas.List.{length-map}
use Rattle.std.proofs.Math.ListN.{get_or-map}
use Rattle.rbbi_command.specs.declared.words.command.Operand.TheVariants.{Read}
use Rattle.rbbi_command.specs.declared.files.Role.TheVariants.{Property}
use Rattle.rbbi_command.proofs.SourceLemmas.{operands_more}
use Rattle.rbbi_command.proofs.files.add_operands.Goals as goal

pub loop-i-preserved : goal.loop-i-preserved
loop-i-preserved c =
    let names : List (List ℕ) = map string_bytes c.args.names.now in
    let i = c.loop-i.i in
    let name = c.index-names-i.result in
    let at : string_bytes name ≡ get_or names i (string_bytes name) = ap string_bytes c.index-names-i.is ∙ sym
    (get_or-map string_bytes c.args.names.now i name) in
    operands_more c.args.operands.now names c.loop-i.sources.items c.add_operand.new.sources.items _ i _ (Read Property) c.as_str.result.now c.loop-i-test.true
    (omega (arith, c.requires, c.loop-i-test.true, length-map c.args.names.now string_bytes)) refl
    (c.as_str.ensures.value ∙ at ∙ ap (get_or names i) (sym c.as_str.ensures.value)) c.in_ok-add_operand.ensures c.loop-i.invariant
