use Rattle.std.proofs.Common.{◌≡◌, map, length, false, sym, ap, ◌∙◌, subst}
use Rattle.std.specs.String.{string_bytes}
use Rattle.std.proofs.lemmas.List.{length-map}
use Rattle.rbbi_command.specs.Settings.{are_taken}
use Rattle.rbbi_command.specs.Words.{taken_by, operands_of, AllFit}
use Rattle.rbbi_command.proofs.Forms.{not_taken, other_count, not_fit}
use Rattle.rbbi_command.proofs.words.request_of.Goals as goal

pub returns-then-not-are_taken : goal.returns-then-not-are_taken
returns-then-not-are_taken c =
    let are = sym (ap (map string_bytes) c.deref.ensures.value) ∙ ap (map string_bytes) (c.in-Some.ensures.cases.0) in
    let begin = rw c.in-Some-2.is at c.in_ok-settings.ensures in
    let refused : are_taken (taken_by c.in-Some-command_of.command) c.in-Some-2.settings.list.items ≡ false =
    ap (are_taken (taken_by c.in-Some-command_of.command)) (sym c.deref-2.ensures.value)
    ∙ ap (λ t. are_taken t c.deref-2.result.now) (sym c.takes.ensures) ∙ sym c.if-not-are_taken.ensures in
    not_taken _ _ _ are c.in-Some-command_of.command
    (sym c.as_str.ensures.value ∙ c.in-Some-command_of.ensures) _ _ begin.1 refused

pub returns-then-operands : goal.returns-then-operands
returns-then-operands c =
    let are = sym (ap (map string_bytes) c.deref.ensures.value) ∙ ap (map string_bytes) (c.in-Some.ensures.cases.0) in
    let begin = rw c.in-Some-2.is at c.in_ok-settings.ensures in
    let long = ap length (sym c.behind-operands.ensures) ∙ length-map c.behind-operands.result.now string_bytes in
    other_count _ _ _ are c.in-Some-command_of.command
    (sym c.as_str.ensures.value ∙ c.in-Some-command_of.ensures) _ _ begin.1 c.in_ok-options.options.by_table (ap (λ o. o.by_table) c.in_ok-options.ensures)
    (λ same. c.if-operands.true (sym long ∙ same ∙ ap length (sym c.operands.ensures)))

pub returns-then-not-are_fit : goal.returns-then-not-are_fit
returns-then-not-are_fit c =
    let are = sym (ap (map string_bytes) c.deref.ensures.value) ∙ ap (map string_bytes) (c.in-Some.ensures.cases.0) in
    let begin = rw c.in-Some-2.is at c.in_ok-settings.ensures in
    let command = c.in-Some-command_of.command in
    let by_table = c.in_ok-options.options.by_table in
    let operands = map string_bytes c.behind-operands.result.now in
    let refused : ¬ AllFit c.operands-2.result.now operands = rw c.if-not-are_fit.true at c.are_fit.ensures in
    not_fit _ _ _ are command
    (sym c.as_str.ensures.value ∙ c.in-Some-command_of.ensures) _ _ begin.1 by_table (ap (λ o. o.by_table) c.in_ok-options.ensures)
    (λ fit.
    refused
    (subst (λ os. AllFit os operands) (sym c.operands-2.ensures) (subst (AllFit (operands_of command by_table)) (sym c.behind-operands.ensures) fit)))
