use Rattle.std.proofs.Common.{◌≡◌, ◌≤◌, ◌+◌, ◌++◌, ℕ, List, length, sym, ap, ◌∙◌}
use Rattle.std.proofs.lemmas.Result.{err_from_is_err_and}
use Rattle.rbbi_model.specs.Words.{most_characters}
use Rattle.rbbi_model.specs.Answers.{Edited}
use Rattle.rbbi_model.specs.Scripts.{Command, Replace, splice, edit}
use Rattle.rbbi_model.specs.Searches.{table_boundaries}
use Rattle.rbbi_model.specs.Lines.{reply_lines}
use Rattle.rbbi_script.specs.Meaning.{meaning}
use Rattle.rbbi_text.proofs.Appended.{front_first, appends_then}
use Rattle.rbbi_tally.specs.Tallies.{Tally, boundaries_of}
use Rattle.rbbi_tool.specs.inner.Tallying.{lines_of, edit_lines, command_lines}
use Rattle.rbbi_tool.proofs.Telling.{edit_accepted}
use Rattle.rbbi_tool.proofs.tallying.tell.Goals as goal

-- what is told of an accepted edit
accepted_lines : (old new : Tally) (at removed number : ℕ) (inserted word : List ℕ) (command : Command) → command ≡ Replace at removed word
    → inserted ≡ word → new.table ≡ old.table → at + removed ≤ length old.text → length (splice old.text at removed inserted) ≤ most_characters
    → new.text ≡ splice old.text at removed inserted → number ≡ length new.text
    → command_lines old.table old.text command ≡ reply_lines (Edited number) ++ lines_of (boundaries_of new)
accepted_lines old new at removed number inserted word command is same table within short text long =
    ap (command_lines old.table old.text) is
    ∙ ap (λ w. edit_lines old.table (edit old.text at removed w)) (sym same)
    ∙ ap (edit_lines old.table) (edit_accepted old.text at removed inserted within short)
    ∙ ap (λ y. reply_lines (Edited (length y)) ++ lines_of (table_boundaries old.table y)) (sym text)
    ∙ ap (λ n. reply_lines (Edited n) ++ lines_of (table_boundaries old.table new.text)) (sym long)
    ∙ ap (λ t. reply_lines (Edited number) ++ lines_of (table_boundaries t new.text)) (sym table)

pub returns-in_err-say-in-Ok-clause-told : goal.returns-in_err-say-in-Ok-clause-told
returns-in_err-say-in-Ok-clause-told g c =
    let told = err_from_is_err_and c.from_residual.result c.from_residual.ensures.1 in
    let edited = c.in-Ok.ensures.edited in
    let lines = accepted_lines c.args.tally.now c.replace.new.self _ _ c.len.result _ _ (meaning c.args.command.now) (ap meaning c.in-Replace.is)
    c.as_str.ensures.characters edited.0 edited.1.0 edited.1.1 edited.1.2 (c.len.ensures.exact ∙ ap length c.text.ensures) in
    rw told.1 (front_first c.args.made.now.items (reply_lines (Edited c.len.result)) (lines_of (boundaries_of c.replace.new.self)) _ _ lines
    c.in_err-say-in-Ok.ensures)

pub returns-in_ok-say-in-Ok-clause-told : goal.returns-in_ok-say-in-Ok-clause-told
returns-in_ok-say-in-Ok-clause-told g c =
    let edited = c.in-Ok.ensures.edited in
    let lines = accepted_lines c.args.tally.now c.replace.new.self _ _ c.len.result _ _ (meaning c.args.command.now) (ap meaning c.in-Replace.is)
    c.as_str.ensures.characters edited.0 edited.1.0 edited.1.1 edited.1.2 (c.len.ensures.exact ∙ ap length c.text.ensures) in
    appends_then c.args.made.now.items (reply_lines (Edited c.len.result)) (lines_of (boundaries_of c.replace.new.self)) _ _ _ _
    c.in_ok-say-in-Ok.ensures lines c.say_counts.ensures
