-- What commands read, and what they leave of what a session keeps.
use Rattle.std.specs.Prelude.{◌≡◌, ◌⊎◌, ℕ, List, [], ◌∷◌, ◌++◌, map, Result, Ok, Err}
use Rattle.rbbi_model.specs.Boundaries.{Boundary}
use Rattle.rbbi_model.specs.Answers.{Question, First, Next, IsBoundary, Current, Status, Statuses, Breaks}
use Rattle.rbbi_model.specs.Scripts.{Command, Ask, Replace, ShowText, Edit, Refused, Accepted}
use Rattle.rbbi_text.specs.Steps.{RisesUpTo}
use Rattle.rbbi_session.specs.Walks.{View, kind_of, cost_in, reported, IsAsked, AreAsked, IsEdited, IsUnread}

-- What listing these boundaries asks: to go to the first, and on from each of them in order, and at last whether the cursor's place is
-- a boundary, by which the cursor goes back to it.
abbrev pub asked_by_listing : ℕ → List Boundary → List Question
asked_by_listing cursor boundaries = First ∷ map (λ boundary. Next) boundaries ++ IsBoundary cursor ∷ []

module _ {A Setting : Type 0} (view : View A Setting) where
  -- the command reads at most its cost, over the text and the cursor before it
  abbrev pub IsPaid : A → Command → ℕ → ℕ → Type 0
  IsPaid old command before after = RisesUpTo (cost_in (kind_of view old) (view.state old) command) before after

  -- The questions of a list of all boundaries were asked one after another, or where memory ran out, those of a list of the first ones.
  abbrev pub Lists : {T E : Type 0} → A → Result T E → A → ℕ → ℕ → Type 0
  Lists old (Ok done) new before after = AreAsked view (asked_by_listing (view.state old).cursor (reported view old)) old new before after
  Lists old (Err error) new before after =
      (first rest : List Boundary) × (reported view old ≡ first ++ rest)
      × AreAsked view (asked_by_listing (view.state old).cursor first) old new before after

  -- What a question reads and leaves: what asking the session does. What stands at the cursor reads nothing and leaves all, and all
  -- boundaries are found by many questions.
  abbrev pub AsksFor : {T E : Type 0} → A → Question → Result T E → A → ℕ → ℕ → Type 0
  AsksFor old Current r new before after = IsUnread view old new before after
  AsksFor old Status r new before after = IsUnread view old new before after
  AsksFor old Statuses r new before after = IsUnread view old new before after
  AsksFor old Breaks r new before after = Lists old r new before after
  AsksFor old question r new before after = IsAsked view old question new before after

  -- what an edit reads and leaves; nothing is read for a refused one, nor for one that memory doesn't suffice for
  abbrev pub EditsFor : {T E : Type 0} → Edit → A → ℕ → ℕ → List ℕ → Result T E → A → ℕ → ℕ → Type 0
  EditsFor (Refused reply) old at removed inserted r new before after = IsUnread view old new before after
  EditsFor (Accepted text length) old at removed inserted (Ok done) new before after = IsEdited view old at removed inserted new before after
  EditsFor (Accepted text length) old at removed inserted (Err error) new before after =
      IsEdited view old at removed inserted new before after ⊎ IsUnread view old new before after

  -- what the command reads, and leaves of what is kept
  abbrev pub Reads : {T E : Type 0} → A → Command → Result T E → A → ℕ → ℕ → Type 0
  Reads old (Ask question) r new before after = AsksFor old question r new before after
  Reads old (Replace at removed inserted) r new before after =
      EditsFor ((kind_of view old).edit (view.state old).text at removed inserted) old at removed inserted r new before after
  Reads old ShowText r new before after = new ≡ old
