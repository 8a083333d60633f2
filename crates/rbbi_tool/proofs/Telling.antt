-- Commands whose edits are counted one after another, and what is told of them, which goes out in pieces.
use Rattle.std.proofs.Common.{◌≡◌, ◌≤◌, ℕ, ◌+◌, ◌-◌, cond, ltb, List, ◌∷◌, ◌++◌, length, Option, sym, refl, ap, ◌∙◌, subst, arith}
use Rattle.std.proofs.lemmas.Bool.{cond-false, le-ltb}
use Rattle.rbbi_model.specs.Words.{most_characters}
use Rattle.rbbi_model.specs.Answers.{Outside, TooLong}
use Rattle.rbbi_model.specs.Scripts.{Command, Edit, Refused, Accepted, splice, edit}
use Rattle.rbbi_model.specs.Tables.{Table}
use Rattle.rbbi_model.specs.Searches.{table_boundaries}
use Rattle.rbbi_text.specs.Steps.{RisesUpTo}
use Rattle.rbbi_text.proofs.Splices.{length-splice}
use Rattle.rbbi_tally.specs.Costs.{opening_cost}
use Rattle.rbbi_io.specs.Sinks.{IsBuffered}
use Rattle.rbbi_tool.specs.Command.Tally.{text_after}
use Rattle.rbbi_tool.specs.Steps.{counting_cost, countings_cost, tally_cost}
use Rattle.rbbi_tool.specs.inner.Tallying.{lines_of, command_lines, commands_lines, tally_lines}
use Rattle.rbbi_tool.proofs.Emitting.{IsPutTo, put_none, put_more, put_flushed}

-- Of all that is to be told a front was put, up to these commands, which come over the text; and what was read leaves enough for them.
pub record AreTold (table : Table) (all : List ℕ) (most : ℕ) (x : List ℕ) (commands : List Command) (before now : Option (List ℕ)) (waiting : List ℕ)
    (start steps : ℕ) : Type 0 where
  pub put : IsPutTo all (commands_lines table x commands) before now waiting
  pub more : start ≤ steps
  pub cost : steps + countings_cost table x commands ≤ start + most

-- the counts of the text were told, and no command yet
pub told_first : (table : Table) (x : List ℕ) (commands : List Command) (taken : Option (List ℕ)) (made : List ℕ) (start steps : ℕ)
    → made ≡ lines_of (table_boundaries table x) → RisesUpTo (opening_cost table x) start steps
    → AreTold table (tally_lines table x commands) (tally_cost table x commands) x commands taken taken made start steps
told_first table x commands taken made start steps is read = record {
  put = put_none _ _ taken made (ap (λ l. l ++ commands_lines table x commands) (sym is));
  more = read.more;
  cost = omega (arith, read.cost);
}

module _ (table : Table) (all : List ℕ) (most : ℕ) (x : List ℕ) (command : Command) (commands : List Command) (before between : Option (List ℕ))
    (waiting : List ℕ) (start here steps : ℕ) (so_far : AreTold table all most x (command ∷ commands) before between waiting start here)
    (read : RisesUpTo (counting_cost table x command) here steps) where
  -- one more command was told
  pub told_more : (y made : List ℕ) → y ≡ text_after x command → made ≡ waiting ++ command_lines table x command
      → AreTold table all most y commands before between made start steps
  told_more y made text is =
      subst (λ t. AreTold table all most t commands before between made start steps) (sym text)
      (record {
        put = put_more all _ before between waiting so_far.put (command_lines table x command) _ made refl is;
        more = omega (arith, so_far.more, read.more);
        cost = omega (arith, so_far.cost, read.cost);
      })

  -- what was read up to here
  pub told_cost : RisesUpTo most start steps
  told_cost = record { more = omega (arith, so_far.more, read.more); cost = omega (arith, so_far.cost, read.cost) }

-- the commands, told by the first of them
pub next_told : (table : Table) (all : List ℕ) (most : ℕ) (x : List ℕ) (commands same : List Command) (before now : Option (List ℕ)) (waiting : List ℕ)
    (start steps : ℕ) → commands ≡ same → AreTold table all most x commands before now waiting start steps
    → AreTold table all most x same before now waiting start steps
next_told table all most x commands same before now waiting start steps is so_far =
    subst (λ cs. AreTold table all most x cs before now waiting start steps) is so_far

-- some of what waited was put
pub told_flushed : (table : Table) (all : List ℕ) (most : ℕ) (x : List ℕ) (commands : List Command) (before between now : Option (List ℕ))
    (waiting left : List ℕ) (start steps : ℕ) → AreTold table all most x commands before between waiting start steps
    → IsBuffered between now waiting left → AreTold table all most x commands before now left start steps
told_flushed table all most x commands before between now waiting left start steps so_far flushed = record {
  put = put_flushed _ _ before between waiting so_far.put now left flushed;
  more = so_far.more;
  cost = so_far.cost;
}

-- what an accepted edit comes to
pub edit_accepted : (x : List ℕ) (at removed : ℕ) (inserted : List ℕ) → at + removed ≤ length x → length (splice x at removed inserted) ≤ most_characters
    → edit x at removed inserted ≡ Accepted (splice x at removed inserted) (length (splice x at removed inserted))
edit_accepted x at removed inserted within short =
    let accepted : Edit = Accepted (splice x at removed inserted) (length (splice x at removed inserted)) in
    let long = ltb most_characters (length x - removed + length inserted) in
    cond-false (ltb (length x) (at + removed)) (Refused Outside) (cond long (Refused TooLong) accepted) (le-ltb (length x) (at + removed) within)
    ∙ cond-false long (Refused TooLong) accepted
    (le-ltb most_characters (length x - removed + length inserted) (omega (arith, short, length-splice x inserted at removed within)))
