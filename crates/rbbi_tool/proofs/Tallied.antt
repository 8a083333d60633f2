-- What a table tells of counts is what its basis tells, and it is told in one way alone.
use Rattle.std.proofs.Common.{◌≡◌, ℕ, ◌+◌, ◌-◌, List, [], ◌∷◌, ◌++◌, length, take, drop, sym, refl, ap, ◌∙◌, subst, cond, ltb}
use Rattle.std.specs.List.{AllByRecursion}
use Rattle.std.proofs.lemmas.Bool.{cond_both}
use Rattle.rbbi_model.specs.Words.{IsText, most_characters}
use Rattle.rbbi_model.specs.Boundaries.{Boundary}
use Rattle.rbbi_model.specs.Tables.{Table}
use Rattle.rbbi_model.specs.Searches.{table_boundaries}
use Rattle.rbbi_model.specs.Answers.{Outside, TooLong, Edited}
use Rattle.rbbi_model.specs.Scripts.{Command, Ask, Replace, ShowText, Edit, Refused, Accepted, splice, edit, InsertsText}
use Rattle.rbbi_model.specs.Lines.{reply_lines}
use Rattle.rbbi_model.proofs.Texts.{text_take, text_drop, text_append}
use Rattle.rbbi_tally.specs.Counts.{segment_count, AreCounts}
use Rattle.rbbi_command.specs.Stages.{passing}
use Rattle.rbbi_command.specs.Refusals.{Outcome, printed}
use Rattle.rbbi_tool.specs.Basis.{Basis, AreBoundariesBy}
use Rattle.rbbi_tool.specs.Command.Tally.{count_lines, TellText, TellEdit, edited_text, text_after, TellCommand, TellCommands}
use Rattle.rbbi_tool.specs.Command.Tally.{TellTally}
use Rattle.rbbi_tool.proofs.StageLemmas.{passing_determined}
use Rattle.rbbi_tool.specs.inner.Stages.{IsDeterministic}
use Rattle.rbbi_tool.specs.inner.Tallying.{counts_of, lines_of, edit_lines, commands_lines, tally_lines}
use Rattle.rbbi_tool.proofs.Bases.{GivesThem, boundaries_given}
use Rattle.rbbi_tool.proofs.CountLists.{counts_are, same_counts}

-- an edit of a text leaves a text
edited_is_text : (x : List ℕ) (at removed : ℕ) (inserted : List ℕ) → IsText x → IsText inserted → IsText (edited_text x (edit x at removed inserted))
edited_is_text x at removed inserted text text' =
    let spliced : List ℕ = splice x at removed inserted in
    let long = ltb most_characters (length x - removed + length inserted) in
    let accepted : Edit = Accepted spliced (length spliced) in
    cond_both (ltb (length x) (at + removed)) (Refused Outside) (cond long (Refused TooLong) accepted) (λ e. IsText (edited_text x e))
    (λ _. text)
    (λ _. cond_both long (Refused TooLong) accepted (λ e. IsText (edited_text x e))
    (λ _. text)
    (λ _. text_append (take at x ++ inserted) (drop (at + removed) x) (text_append (take at x) inserted (text_take at x text) text')
    (text_drop (at + removed) x text)))

module _ (basis : Basis) (table : Table) (gives : GivesThem table basis) where
  text_told : (x : List ℕ) → IsText x → TellText basis x (lines_of (table_boundaries table x))
  text_told x text =
      let boundaries : List Boundary = table_boundaries table x in
      record {
        boundaries = boundaries;
        are = boundaries_given basis table x gives text;
        counts = counts_of boundaries;
        counted = counts_are boundaries;
        is = refl;
      }

  edit_told : (x : List ℕ) (e : Edit) → IsText (edited_text x e) → TellEdit basis e (edit_lines table e)
  edit_told x (Refused reply) text = refl
  edit_told x (Accepted y length) text = (lines_of (table_boundaries table y), text_told y text, refl)

  commands_told : (x : List ℕ) (commands : List Command) → IsText x → AllByRecursion InsertsText commands →
      TellCommands basis x commands (commands_lines table x commands)
  commands_told x [] text inserts = refl
  commands_told x (Ask question ∷ commands) text inserts =
      ([], commands_lines table x commands, refl, commands_told x commands text inserts.1, refl)
  commands_told x (ShowText ∷ commands) text inserts =
      ([], commands_lines table x commands, refl, commands_told x commands text inserts.1, refl)
  commands_told x (Replace at removed inserted ∷ commands) text inserts =
      let e : Edit = edit x at removed inserted in
      let text' = edited_is_text x at removed inserted text inserts.0 in (
        edit_lines table e,
        commands_lines table (edited_text x e) commands,
        edit_told x e text',
        commands_told (edited_text x e) commands text' inserts.1,
        refl,
      )

  -- what a table gives is told
  pub tally_told : (x : List ℕ) (commands : List Command) → IsText x → AllByRecursion InsertsText commands →
      TellTally basis x commands (printed (tally_lines table x commands))
  tally_told x commands text inserts = record {
    counts = lines_of (table_boundaries table x);
    told = commands_lines table x commands;
    first = text_told x text;
    then = commands_told x commands text inserts;
    is = refl;
  }

module _ (basis : Basis)
    (same : (x : List ℕ) (these those : List Boundary) → AreBoundariesBy basis x these → AreBoundariesBy basis x those → these ≡ those) where
  same_text : (x these those : List ℕ) → TellText basis x these → TellText basis x those → these ≡ those
  same_text x these those is is' =
      let boundaries = same x is.boundaries is'.boundaries is.are is'.are in
      let counted = subst (λ b. AreCounts b is.counts) boundaries is.counted in
      is.is
      ∙ ap (λ b. count_lines (segment_count b) is.counts) boundaries
      ∙ ap (count_lines (segment_count is'.boundaries)) (same_counts is'.boundaries is.counts is'.counts counted is'.counted)
      ∙ sym is'.is

  same_edit : (e : Edit) (these those : List ℕ) → TellEdit basis e these → TellEdit basis e those → these ≡ those
  same_edit (Refused reply) these those is is' = is ∙ sym is'
  same_edit (Accepted y length) these those (counts, tell, is) (counts', tell', is') =
      is ∙ ap (λ l. reply_lines (Edited length) ++ l) (same_text y counts counts' tell tell') ∙ sym is'

  same_command : (x : List ℕ) (command : Command) (these those : List ℕ) → TellCommand basis x command these → TellCommand basis x command those →
      these ≡ those
  same_command x (Ask question) these those is is' = is ∙ sym is'
  same_command x (Replace at removed inserted) these those is is' = same_edit (edit x at removed inserted) these those is is'
  same_command x ShowText these those is is' = is ∙ sym is'

  same_commands : (x : List ℕ) (commands : List Command) (these those : List ℕ) → TellCommands basis x commands these →
      TellCommands basis x commands those → these ≡ those
  same_commands x [] these those is is' = is ∙ sym is'
  same_commands x (command ∷ commands) these those (first, rest, tell, others, is) (first', rest', tell', others', is') =
      is
      ∙ ap (λ l. l ++ rest) (same_command x command first first' tell tell')
      ∙ ap (λ l. first' ++ l) (same_commands (text_after x command) commands rest rest' others others')
      ∙ sym is'

  -- what is told is determined
  pub tally_determined : (x : List ℕ) (commands : List Command) → IsDeterministic Outcome (passing (TellTally basis x commands))
  tally_determined x commands =
      passing_determined (TellTally basis x commands) (λ o p is is'.
      is.is
      ∙ ap (λ l. printed (l ++ is.told)) (same_text x is.counts is'.counts is.first is'.first)
      ∙ ap (λ l. printed (is'.counts ++ l)) (same_commands x commands is.told is'.told is.then is'.then)
      ∙ sym is'.is)
