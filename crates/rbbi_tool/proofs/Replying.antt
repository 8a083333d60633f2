-- Commands that a session performs one after another, what they read, and their replies, which go out in pieces.
use Rattle.std.proofs.Common.{◌≡◌, ℕ, ◌+◌, ◌≤◌, ◌<◌, Bool, true, false, cond, List, [], ◌∷◌, ◌++◌, Option, Some, None, Result, length, map, drop}
use Rattle.std.proofs.Common.{refl, sym, ap, ◌∙◌, subst, ⊎_elim, arith}
use Rattle.std.specs.Prelude.{not, ◌&&◌, slice_get}
use Rattle.std.proofs.lemmas.Bool.{false≢true, cases_Bool, cond-true, cond-false}
use Rattle.std.proofs.lemmas.List.{drop_more}
use Rattle.std.proofs.lemmas.Option.{get_or_from_slice_get}
use Rattle.rbbi_model.specs.declared.unit.Unit.{Unit as TextUnit}
use Rattle.rbbi_model.specs.Tables.{Table}
use Rattle.rbbi_model.specs.Answers.{Question, Following, Preceding, IsBoundary}
use Rattle.rbbi_model.specs.Scripts.{Command, Ask, Replace, ShowText, State, opened}
use Rattle.rbbi_model.specs.Plays.{table_turn}
use Rattle.rbbi_model.specs.Units.{offset_of}
use Rattle.rbbi_model.specs.Lines.{reply_lines, all_reply_lines}
use Rattle.rbbi_model.specs.Costs.{is_same_question, repeats, is_unkept, charge_by, costs_by, command_cost, script_cost}
use Rattle.rbbi_text.specs.Steps.{RisesUpTo}
use Rattle.rbbi_session.specs.Walks.{View, kind_of, turn_of, turn_in, cost_in, charge_in, costs_in, IsAsked, Recall}
use Rattle.rbbi_session.specs.UnitSessions.{UnitSession, IsOpenedBy}
use Rattle.rbbi_session.specs.UnitWalks.{unit_kind, unit_view}
use Rattle.rbbi_script.specs.Performing.{IsPerformed, replies_in, replies_of}
use Rattle.rbbi_script.specs.Reading.{IsPaid, Reads}
use Rattle.rbbi_filter.specs.declared.filter.Filter.{Filter}
use Rattle.rbbi_filter.specs.FilterSessions.{FilterSession, IsOpened, filter_view}
use Rattle.rbbi_io.specs.Sinks.{IsBuffered}
use Rattle.rbbi_io.specs.declared.error.WriteErr.{WriteErr}
use Rattle.rbbi_tool.specs.inner.Prepared.{costs_of}
use Rattle.rbbi_tool.specs.inner.Puts.{Puts, PutsReplies}
use Rattle.rbbi_tool.proofs.Emitting.{IsPutTo, put_none, put_more, put_flushed, puts_as}

module _ {A Setting : Type 0} (view : View A Setting) where
  -- the question was the last thing that was asked
  abbrev pub WasAsked : Question → A → Type 0
  WasAsked question session = (old : A) × (before after : ℕ) × IsAsked view old question session before after

  -- the session is as after the command, as far as one that may be repeated tells
  abbrev pub IsAfter : Option Command → A → Type 0
  IsAfter (Some (Ask (Following o))) session = WasAsked (Following o) session
  IsAfter (Some (Ask (Preceding o))) session = WasAsked (Preceding o) session
  IsAfter (Some (Ask (IsBoundary o))) session = WasAsked (IsBoundary o) session
  IsAfter former session = Unit {0}

  after_performed : {T E : Type 0} (session new : A) (command : Command) (r : Result T E) (here steps : ℕ) → Reads view session command r new here steps →
      IsAfter (Some command) new
  after_performed session new (Ask (Following o)) r here steps reads = (session, here, steps, reads)
  after_performed session new (Ask (Preceding o)) r here steps reads = (session, here, steps, reads)
  after_performed session new (Ask (IsBoundary o)) r here steps reads = (session, here, steps, reads)
  after_performed session new command r here steps reads = tt

  module _ (recall : Recall view) (session new : A) (here steps : ℕ) where
    -- a question that is repeated reads nothing
    asked_again : {T E : Type 0} (earlier question : Question) (r : Result T E) → (kind_of view session).recalls ≡ true →
        IsAfter (Some (Ask earlier)) session → is_same_question earlier question ≡ true →
        is_unkept (Ask question) (turn_of view session (Ask question)).reply ≡ false → Reads view session (Ask question) r new here steps → steps ≡ here
    asked_again (Following a) (Following b) r recalls was same kept reads =
        recall was.0 session new (Following a) (Following b) was.1 was.2 here steps recalls was.3 reads same kept
    asked_again (Preceding a) (Preceding b) r recalls was same kept reads =
        recall was.0 session new (Preceding a) (Preceding b) was.1 was.2 here steps recalls was.3 reads same kept
    asked_again (IsBoundary a) (IsBoundary b) r recalls was same kept reads =
        recall was.0 session new (IsBoundary a) (IsBoundary b) was.1 was.2 here steps recalls was.3 reads same kept
    asked_again earlier question r recalls was same kept reads = absurd (false≢true same)

    reads_nothing : {T E : Type 0} (former : Option Command) (command : Command) (r : Result T E) → (kind_of view session).recalls ≡ true →
        IsAfter former session → repeats former command ≡ true → is_unkept command (turn_of view session command).reply ≡ false →
        Reads view session command r new here steps → steps ≡ here
    reads_nothing (Some (Ask earlier)) (Ask question) r recalls was again kept reads = asked_again earlier question r recalls was again kept reads
    reads_nothing former command r recalls was again kept reads = absurd (false≢true again)

    both_hold : (a b : Bool) → (a && not b) ≡ true → (a ≡ true) × (b ≡ false)
    both_hold true true is = absurd (false≢true is)
    both_hold true false is = (refl, refl)
    both_hold false b is = absurd (false≢true is)

    -- a command reads at most what it is charged
    charged : {T E : Type 0} (former : Option Command) (command : Command) (r : Result T E) → IsAfter former session →
        IsPaid view session command here steps → Reads view session command r new here steps →
        RisesUpTo (charge_in (kind_of view session) (view.state session) former command) here steps
    charged former command r was paid reads =
        let kind = kind_of view session in
        let state : State = view.state session in
        let cost : ℕ = cost_in (kind_of view session) (view.state session) command in
        let charge : ℕ = charge_by (turn_in kind) (cost_in kind) state former command in
        let free : Bool = repeats former command && not (is_unkept command (turn_of view session command).reply) in
        ⊎_elim
        (λ recalls.
        subst (λ most. RisesUpTo most here steps) (sym (cond-true kind.recalls charge cost recalls))
        (⊎_elim
        (λ holds.
        let both = both_hold (repeats former command) (is_unkept command (turn_of view session command).reply) holds in
        let none : steps ≡ here = reads_nothing former command r recalls was both.0 both.1 reads in
        record { more = paid.more; cost = omega (arith, none) })
        (λ fails. subst (λ most. RisesUpTo most here steps) (sym (cond-false free 0 cost fails)) paid)
        (cases_Bool free)))
        (λ forgets. subst (λ most. RisesUpTo most here steps) (sym (cond-false kind.recalls charge cost forgets)) paid)
        (cases_Bool kind.recalls)

-- The commands before the others were performed, at most at what all cost less the others; of the lines of all replies a prefix was put.
pub record AreReplied {A Setting : Type 0} (view : View A Setting) (old : A) (commands others : List Command) (session : A) (before now : Option (List ℕ))
    (waiting : List ℕ) (start steps : ℕ) : Type 0 where
  pub former : Option Command
  pub was : IsAfter view former session
  pub more : start ≤ steps
  pub cost : steps + costs_in (kind_of view session) (view.state session) former others ≤ start + costs_of view old commands
  pub put : IsPutTo (all_reply_lines (replies_of view old commands)) (all_reply_lines (replies_of view session others)) before now waiting

module _ {A Setting : Type 0} (view : View A Setting) (old : A) (commands : List Command) where
  -- no command was performed
  pub replied_none : (taken : Option (List ℕ)) (waiting : List ℕ) (steps : ℕ) → waiting ≡ [] →
      AreReplied view old commands commands old taken taken waiting steps steps
  replied_none taken waiting steps none = record {
    former = None;
    was = tt;
    more = omega arith;
    cost = omega arith;
    put = put_none _ _ taken waiting (ap (λ l. l ++ all_reply_lines (replies_of view old commands)) (sym none));
  }

  -- some of what waited was put
  pub replied_flushed : (others : List Command) (session : A) (before between now : Option (List ℕ)) (waiting left : List ℕ) (start here : ℕ) →
      AreReplied view old commands others session before between waiting start here → IsBuffered between now waiting left →
      AreReplied view old commands others session before now left start here
  replied_flushed others session before between now waiting left start here so_far more = record {
    former = so_far.former;
    was = so_far.was;
    more = so_far.more;
    cost = so_far.cost;
    put = put_flushed _ _ before between waiting so_far.put now left more;
  }

  -- the others, by the first of them
  pub next_left : (others same : List Command) (session : A) (before now : Option (List ℕ)) (waiting : List ℕ) (start steps : ℕ) → others ≡ same →
      AreReplied view old commands others session before now waiting start steps → AreReplied view old commands same session before now waiting start steps
  next_left others same session before now waiting start steps is so_far =
      subst (λ cs. AreReplied view old commands cs session before now waiting start steps) is so_far

  -- all commands are paid
  pub all_paid : (others : List Command) (session : A) (before now : Option (List ℕ)) (waiting : List ℕ) (start steps : ℕ) →
      AreReplied view old commands others session before now waiting start steps → RisesUpTo (costs_of view old commands) start steps
  all_paid others session before now waiting start steps so_far = record { more = so_far.more; cost = omega (arith, so_far.cost) }

  module _ (recall : Recall view) (session : A) (before between : Option (List ℕ)) (waiting : List ℕ) (start here : ℕ) (command : Command)
      (others : List Command) (so_far : AreReplied view old commands (command ∷ others) session before between waiting start here) (new : A) (steps : ℕ) where
    -- one more command is paid
    pub one_paid : {T E : Type 0} (r : Result T E) → IsPaid view session command here steps → Reads view session command r new here steps →
        RisesUpTo (costs_of view old commands) start steps
    one_paid r paid reads =
        let charge = charged view recall session new here steps so_far.former command r so_far.was paid reads in
        record { more = omega (arith, so_far.more, charge.more); cost = omega (arith, so_far.cost, charge.cost) }

    -- one more command was performed
    pub replied_more : {T E : Type 0} (r : Result T E) (made : List ℕ) → IsPerformed view session command waiting new made →
        IsPaid view session command here steps → Reads view session command r new here steps →
        AreReplied view old commands others new before between made start steps
    replied_more r made is paid reads =
        let reply : List ℕ = reply_lines (turn_of view session command).reply in
        let turned : State = (turn_of view session command).state in
        let charge = charged view recall session new here steps so_far.former command r so_far.was paid reads in
        let costs : costs_in (kind_of view new) (view.state new) (Some command) others
        ≡ costs_in (kind_of view session) (turn_of view session command).state (Some command) others =
        ap (λ s. costs_in (view.kind s) (view.state new) (Some command) others) is.same
        ∙ ap (λ s. costs_in (kind_of view session) s (Some command) others) is.state_is in
        let same : replies_of view new others ≡ replies_in (kind_of view session) (turn_of view session command).state others =
        ap (λ s. replies_in (view.kind s) (view.state new) others) is.same ∙ ap (λ s. replies_in (kind_of view session) s others) is.state_is in
        record {
          former = Some command;
          was = after_performed view session new command r here steps reads;
          more = omega (arith, so_far.more, charge.more);
          cost = omega (arith, so_far.cost, charge.cost, costs);
          put = put_more _ _ before between waiting so_far.put reply (all_reply_lines (replies_of view new others)) made
              (ap (λ rs. reply ++ all_reply_lines rs) (sym same)) is.appended;
        }

-- the replies and the costs of a session that was opened
module _ {A Setting : Type 0} (view : View A Setting) (session : A) (setting : Setting) (x : List ℕ) (same : view.setting session ≡ setting)
    (state : view.state session ≡ opened x) (commands : List Command) where
  opened_replies : replies_of view session commands ≡ replies_in (view.kind setting) (opened x) commands
  opened_replies =
      ap (λ s. replies_in (view.kind s) (view.state session) commands) same ∙ ap (λ s. replies_in (view.kind setting) s commands) state

  opened_costs : costs_of view session commands ≡ costs_in (view.kind setting) (opened x) None commands
  opened_costs = ap (λ s. costs_in (view.kind s) (view.state session) None commands) same ∙ ap (λ s. costs_in (view.kind setting) s None commands) state

  pub opened_puts : {T : Type 0} {r : Result T WriteErr} {taken taken' : Option (List ℕ)} {count count' before after : ℕ} →
      Puts (all_reply_lines (replies_of view session commands)) (costs_of view session commands) r taken taken' count count' before after →
      PutsReplies (view.kind setting) x commands r taken taken' count count' before after
  opened_puts puts = puts_as (ap all_reply_lines opened_replies) opened_costs puts

module _ (unit : TextUnit) (table : Table) (x : List ℕ) (session : UnitSession) (is : IsOpenedBy unit table x session) where
  pub unit_setting : unit_view.setting session ≡ record { below = table; unit = unit }
  unit_setting =
      ap (λ t. record { below = t; unit = session.unit }) is.opened.table_is ∙ ap (λ u. record { below = table; unit = u }) is.unit_is

  pub unit_state : unit_view.state session ≡ opened x
  unit_state = ap (λ s. record { text = s.text; cursor = offset_of session.unit s.text s.cursor }) is.opened.state_is

module _ (filter : Filter) (table : Table) (x : List ℕ) (session : FilterSession) (is : IsOpened filter table x session) where
  pub filter_setting : filter_view.setting session ≡ record { filter = filter; table = table }
  filter_setting = ap (λ f. record { filter = f; table = session.table }) is.filter_is ∙ ap (λ t. record { filter = filter; table = t }) is.table_is

-- the costs of a script in a unit
module _ (table : Table) (unit : TextUnit) where
  one_cost : (state : State) (command : Command) → cost_in (unit_kind table unit) state command ≡ command_cost table unit state command
  one_cost state (Ask question) = refl
  one_cost state (Replace at removed inserted) = refl
  one_cost state ShowText = refl

  costs_are : (state : State) (former : Option Command) (commands : List Command) → costs_in (unit_kind table unit) state former commands
      ≡ costs_by (table_turn table unit) (command_cost table unit) state former commands
  costs_are state former [] = refl
  costs_are state former (command ∷ commands) =
      let turn = table_turn table unit state command in
      ap (λ n. cond (repeats former command && not (is_unkept command turn.reply)) 0 n + costs_in (unit_kind table unit) turn.state (Some command) commands)
      (one_cost state command)
      ∙ ap (λ n. charge_by (table_turn table unit) (command_cost table unit) state former command + n) (costs_are turn.state (Some command) commands)

  pub unit_costs : (x : List ℕ) (commands : List Command) → costs_in (unit_kind table unit) (opened x) None commands ≡ script_cost table unit x commands
  unit_costs x commands = costs_are (opened x) None commands

-- the items from one on are it and those behind it
pub mapped_left : {A B : Type 0} (f : A → B) (xs : List A) (i : ℕ) (x : A) → i < length xs → slice_get xs i ≡ Some x
    → map f (drop i xs) ≡ f x ∷ map f (drop (i + 1) xs)
mapped_left f xs i x within is =
    ap (map f) (drop_more xs i x within) ∙ ap (λ y. f y ∷ map f (drop (i + 1) xs)) (get_or_from_slice_get xs i x x is)
