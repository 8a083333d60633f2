-- The replies to a script are determined, and a table that gives the boundaries by the rules gives the replies too.
use Rattle.std.proofs.Common.{◌≡◌, ℕ, ◌+◌, ◌-◌, ltb, List, [], ◌∷◌, ◌++◌, Option, Some, None, length, take, drop, sym, refl, ap, ◌∙◌, subst}
use Rattle.std.specs.List.{AllByRecursion}
use Rattle.std.proofs.lemmas.Bool.{cond_both}
use Rattle.rbbi_model.specs.declared.unit.Unit.{Unit as TextUnit}
use Rattle.rbbi_model.specs.Words.{IsText, most_characters}
use Rattle.rbbi_model.specs.Rules.{Rule}
use Rattle.rbbi_model.specs.Boundaries.{Boundary, AreBoundaries}
use Rattle.rbbi_model.specs.Tables.{Table}
use Rattle.rbbi_model.specs.Searches.{table_boundaries}
use Rattle.rbbi_model.specs.Compiled.{GivesBoundaries}
use Rattle.rbbi_model.specs.Units.{offset_of, measured}
use Rattle.rbbi_model.specs.UnitAnswers.{place_at, edit_between, edit_in}
use Rattle.rbbi_model.specs.Answers.{Reply, Outside, TooLong}
use Rattle.rbbi_model.specs.Scripts.{Command, Ask, Replace, ShowText, Edit, Refused, Accepted, State, splice, edited, opened, turn_by, AreRepliesBy}
use Rattle.rbbi_model.specs.Scripts.{replies_by, InsertsText}
use Rattle.rbbi_model.specs.Plays.{AreMeasured, AreReplies, measured_boundaries, table_replies}
use Rattle.rbbi_model.proofs.Texts.{text_take, text_drop, text_append}
use Rattle.rbbi_model.proofs.Uniqueness.{same_boundaries}

-- an edit of a text by characters leaves a text
module _ (unit : TextUnit) (state : State) (inserted : List ℕ) (text : IsText state.text) (text' : IsText inserted) where
  between_text : (first end : Option ℕ) → IsText (edited state (edit_between unit state.text first end inserted)).state.text
  between_text None end = text
  between_text (Some i) None = text
  between_text (Some i) (Some j) =
      let x : List ℕ = state.text in
      let spliced : List ℕ = splice x i (j - i) inserted in
      cond_both (ltb most_characters (length x - (j - i) + length inserted)) (Refused TooLong) (Accepted spliced (offset_of unit spliced (length spliced)))
      (λ e. IsText (edited state e).state.text)
      (λ _. text)
      (λ _. text_append (take i x ++ inserted) (drop (i + (j - i)) x) (text_append (take i x) inserted (text_take i x text) text')
      (text_drop (i + (j - i)) x text))

  edited_text : (at removed : ℕ) → IsText (edited state (edit_in unit state.text at removed inserted)).state.text
  edited_text at removed =
      let x : List ℕ = state.text in
      cond_both (ltb (offset_of unit x (length x)) (at + removed)) (Refused Outside)
      (edit_between unit x (place_at unit x at) (place_at unit x (at + removed)) inserted) (λ e. IsText (edited state e).state.text)
      (λ _. text)
      (λ _. between_text (place_at unit x at) (place_at unit x (at + removed)))

module _ (unit : TextUnit) where
  text_after : (boundaries : List Boundary) (state : State) (command : Command) → IsText state.text → InsertsText command →
      IsText (turn_by (edit_in unit) boundaries state command).state.text
  text_after boundaries state (Ask question) text inserts = text
  text_after boundaries state (Replace at removed inserted) text inserts = edited_text unit state inserted text inserts at removed
  text_after boundaries state ShowText text inserts = text

  replies_from : (table : Table) (rules : List Rule) → GivesBoundaries table rules → (state : State) (commands : List Command) → IsText state.text →
      AllByRecursion InsertsText commands → AreRepliesBy (edit_in unit) (AreMeasured unit (AreBoundaries rules)) state commands
      (replies_by (edit_in unit) (measured_boundaries table unit) state commands)
  replies_from table rules gives state [] text inserts = tt
  replies_from table rules gives state (command ∷ commands) text inserts =
      let boundaries : List Boundary = measured_boundaries table unit state.text in (
        boundaries,
        (table_boundaries table state.text, gives state.text text, refl),
        refl,
        replies_from table rules gives (turn_by (edit_in unit) boundaries state command).state commands
            (text_after boundaries state command text inserts.0) inserts.1,
      )

pub table_replies_are : (table : Table) (rules : List Rule) → GivesBoundaries table rules → (unit : TextUnit) (x : List ℕ) (commands : List Command) →
    IsText x → AllByRecursion InsertsText commands → AreReplies rules unit x commands (table_replies table unit x commands)
table_replies_are table rules gives unit x commands text inserts = replies_from unit table rules gives (opened x) commands text inserts

-- replies over boundaries that are determined are determined
pub same_from : (edit_by : List ℕ → ℕ → ℕ → List ℕ → Edit) (Of : List ℕ → List Boundary → Type 0) →
    ((x : List ℕ) (bs cs : List Boundary) → Of x bs → Of x cs → bs ≡ cs) → (state : State) (commands : List Command) (these those : List Reply) →
    AreRepliesBy edit_by Of state commands these → AreRepliesBy edit_by Of state commands those → these ≡ those
same_from edit_by Of one state [] [] [] are are' = refl
same_from edit_by Of one state [] [] (r ∷ those) are are' = absurd are'
same_from edit_by Of one state [] (r ∷ these) those are are' = absurd are
same_from edit_by Of one state (command ∷ commands) [] those are are' = absurd are
same_from edit_by Of one state (command ∷ commands) (r ∷ these) [] are are' = absurd are'
same_from edit_by Of one state (command ∷ commands) (r ∷ these) (q ∷ those) are are' =
    let same : are.0 ≡ are'.0 = one state.text are.0 are'.0 are.1 are'.1 in
    let reply : r ≡ q = are.2 ∙ ap (λ bs. (turn_by edit_by bs state command).reply) same ∙ sym are'.2 in
    let next = subst (λ bs. AreRepliesBy edit_by Of (turn_by edit_by bs state command).state commands these) same are.3 in
    ap (λ p. p ∷ these) reply ∙ ap (λ l. q ∷ l) (same_from edit_by Of one (turn_by edit_by are'.0 state command).state commands these those next are'.3)

same_measured : (rules : List Rule) (unit : TextUnit) (x : List ℕ) (bs cs : List Boundary) → AreMeasured unit (AreBoundaries rules) x bs →
    AreMeasured unit (AreBoundaries rules) x cs → bs ≡ cs
same_measured rules unit x bs cs are are' = are.2 ∙ ap (measured unit x) (same_boundaries rules x are.0 are'.0 are.1 are'.1) ∙ sym are'.2

pub same_replies : (rules : List Rule) (unit : TextUnit) (x : List ℕ) (commands : List Command) (these those : List Reply) →
    AreReplies rules unit x commands these → AreReplies rules unit x commands those → these ≡ those
same_replies rules unit x commands these those are are' =
    same_from (edit_in unit) (AreMeasured unit (AreBoundaries rules)) (same_measured rules unit) (opened x) commands these those are are'
