-- Boundaries and replies by a table, as they are reported.
use Rattle.std.proofs.Common.{ℕ, ◌+◌, ◌-◌, cond, ltb, List, [], ◌∷◌, ◌++◌, length, take, drop, refl, sym, ap}
use Rattle.std.specs.Prelude.{Option, Some, None, IfSome}
use Rattle.std.specs.List.{AllByRecursion}
use Rattle.std.proofs.lemmas.Bool.{cond_both}
use Rattle.rbbi_model.specs.declared.unit.Unit.{Unit as TextUnit}
use Rattle.rbbi_model.specs.Words.{IsText, most_characters}
use Rattle.rbbi_model.specs.Rules.{Rule}
use Rattle.rbbi_model.specs.Boundaries.{Boundary}
use Rattle.rbbi_model.specs.Tables.{Table}
use Rattle.rbbi_model.specs.Searches.{table_boundaries}
use Rattle.rbbi_model.specs.Compiled.{GivesBoundaries}
use Rattle.rbbi_model.specs.Plays.{AreReplies, table_replies}
use Rattle.rbbi_model.specs.Answers.{Outside, TooLong}
use Rattle.rbbi_model.specs.Scripts.{Command, Ask, Replace, ShowText, Edit, Refused, Accepted, State, splice, edit, edited, opened, turn_by, AreRepliesBy}
use Rattle.rbbi_model.specs.Scripts.{InsertsText}
use Rattle.rbbi_model.proofs.Texts.{text_take, text_drop, text_append}
use Rattle.rbbi_filter.specs.declared.filter.Filter.{Filter}
use Rattle.rbbi_script.specs.Performing.{replies_in}
use Rattle.rbbi_filter.specs.Filters.{searched, boundaries_through, AreBoundariesThrough}
use Rattle.rbbi_filter.specs.FilterSessions.{filter_kind}
use Rattle.rbbi_tool.specs.Basis.{Basis, ByRules, ByTable}
use Rattle.rbbi_tool.specs.Filters.{kind_in, AreReportedBy, AreRepliesBasedOn}
use Rattle.rbbi_tool.proofs.Bases.{GivesThem}

-- an edit of a text leaves a text
edited_text : (state : State) (at removed : ℕ) (inserted : List ℕ) → IsText state.text → IsText inserted
    → IsText (edited state (edit state.text at removed inserted)).state.text
edited_text state at removed inserted text text' =
    let x : List ℕ = state.text in
    let spliced : List ℕ = splice x at removed inserted in
    let fits : Edit = Accepted spliced (length spliced) in
    cond_both (ltb (length x) (at + removed)) (Refused Outside)
    (cond (ltb most_characters (length x - removed + length inserted)) (Refused TooLong) fits)
    (λ e. IsText (edited state e).state.text)
    (λ _. text)
    (λ _.
    cond_both (ltb most_characters (length x - removed + length inserted)) (Refused TooLong) fits (λ e. IsText (edited state e).state.text) (λ _. text)
    (λ _. text_append (take at x ++ inserted) (drop (at + removed) x) (text_append (take at x) inserted (text_take at x text) text')
    (text_drop (at + removed) x text)))

text_after : (boundaries : List Boundary) (state : State) (command : Command) → IsText state.text → InsertsText command
    → IsText (turn_by edit boundaries state command).state.text
text_after boundaries state (Ask question) text inserts = text
text_after boundaries state (Replace at removed inserted) text inserts = edited_text state at removed inserted text inserts
text_after boundaries state ShowText text inserts = text

module _ (filter : Filter) (table : Table) (searches : (x : List ℕ) → IsText x → IsText (searched filter x)) where
  through_rules : (rules : List Rule) → GivesBoundaries table rules → (x : List ℕ) → IsText x
      → AreBoundariesThrough filter rules x (boundaries_through filter table x)
  through_rules rules given x text = (table_boundaries table (searched filter x), given (searched filter x) (searches x text), refl)

  replies_from : (rules : List Rule) → GivesBoundaries table rules → (state : State) (commands : List Command) → IsText state.text
      → AllByRecursion InsertsText commands → AreRepliesBy edit (AreBoundariesThrough filter rules) state commands
      (replies_in (filter_kind filter table) state commands)
  replies_from rules given state [] text inserts = tt
  replies_from rules given state (command ∷ commands) text inserts =
      let boundaries : List Boundary = boundaries_through filter table state.text in (
        boundaries,
        through_rules rules given state.text text,
        refl,
        replies_from rules given (turn_by edit boundaries state command).state commands (text_after boundaries state command text inserts.0) inserts.1,
      )

module _ (table : Table) (filter : Option Filter) (searches : IfSome filter (λ f. (x : List ℕ) → IsText x → IsText (searched f x))) (unit : TextUnit)
    (x : List ℕ) (text : IsText x) where
  -- the boundaries that a table gives
  pub boundaries_given : (basis : Basis) → GivesThem table basis → AreReportedBy basis filter unit x ((kind_in filter unit table).boundaries x)
  boundaries_given (ByRules rules) given = by_rules filter searches
    where
      by_rules : (filter : Option Filter) → IfSome filter (λ f. (x : List ℕ) → IsText x → IsText (searched f x)) →
          AreReportedBy (ByRules rules) filter unit x ((kind_in filter unit table).boundaries x)
      by_rules None searches = (table_boundaries table x, given x text, refl)
      by_rules (Some f) searches = through_rules f table searches rules given x text
  boundaries_given (ByTable other) given = ap (λ t. (kind_in filter unit t).boundaries x) (sym given)

  -- the replies that a table gives
  pub replies_given : (commands : List Command) → AllByRecursion InsertsText commands →
      ((table : Table) (rules : List Rule) → GivesBoundaries table rules → (unit : TextUnit) (x : List ℕ) (commands : List Command) → IsText x →
      AllByRecursion InsertsText commands → AreReplies rules unit x commands (table_replies table unit x commands)) →
      (basis : Basis) → GivesThem table basis → AreRepliesBasedOn basis filter unit x commands (replies_in (kind_in filter unit table) (opened x) commands)
  replies_given commands inserts law (ByRules rules) given = by_rules filter searches
    where
      by_rules : (filter : Option Filter) → IfSome filter (λ f. (x : List ℕ) → IsText x → IsText (searched f x)) →
          AreRepliesBasedOn (ByRules rules) filter unit x commands (replies_in (kind_in filter unit table) (opened x) commands)
      by_rules None searches = law table rules given unit x commands text inserts
      by_rules (Some f) searches = replies_from f table searches rules given (opened x) commands text inserts
  replies_given commands inserts law (ByTable other) given = ap (λ t. replies_in (kind_in filter unit t) (opened x) commands) (sym given)
