-- What an edit of a session changed, as it is reported to C.
use Rattle.std.specs.Prelude.{◌≡◌, ℕ, ◌+◌, ◌-◌, ◌⊎◌, List, length, Option, Some, MatchOption, chars}
use Rattle.rbbi_model.specs.Searches.{table_boundaries}
use Rattle.rbbi_model.specs.UnitAnswers.{place_at}
use Rattle.rbbi_session.specs.UnitSessions.{UnitSession, offset_in}
use Rattle.rbbi_change.specs.Changes.{IsLeastChange}
use Rattle.rbbi_change.specs.declared.change.Change.{Change}
use Rattle.rbbi_c.specs.Calls.{IsNoText, IsUnserved, IsEditedThrough}
use Rattle.rbbi_c.specs.Sorts.{plain}
use Rattle.rbbi_c.specs.Holding.{session_in}
use Rattle.rbbi_c.specs.declared.held.Held.{Held}
use Rattle.rbbi_c.specs.declared.changing.Changed.{Changed}

-- The least range that an accepted edit changed among the boundaries of the old and the new text, by the characters between the places at
-- its ends. It is reported in the session's unit: where it begins, in both texts, where it ends in the old one, and where in the new one.
pub record IsToldChange (old new : UnitSession) (at removed : ℕ) (inserted : List ℕ) (told : Changed) : Type 0 where
  pub first : ℕ
  pub end : ℕ
  pub first_is : place_at old.unit old.asked.state.text at ≡ Some first
  pub end_is : place_at old.unit old.asked.state.text (at + removed) ≡ Some end
  pub change : Change
  pub least : IsLeastChange (record { at = first; removed = end - first; inserted = length inserted })
      (table_boundaries old.asked.table old.asked.state.text) (table_boundaries new.asked.table new.asked.state.text) change
  pub from_is : told.from ≡ offset_in old change.from
  pub from_new_is : told.from ≡ offset_in new change.from
  pub old_to_is : told.old_to ≡ offset_in old change.old_to
  pub new_to_is : told.new_to ≡ offset_in new change.new_to

-- an edit of a session without a filter; bytes that are no text are reported first
abbrev pub EditsPlain : Option Held → ℕ → ℕ → List ℕ → ℕ → Option Held → Type 0
EditsPlain held at removed bytes code now =
    (IsNoText bytes code × (now ≡ held))
    ⊎ MatchOption (session_in held) (IsUnserved held code now) (λ old. IsEditedThrough plain old at removed bytes code now)

-- What an edit answers that also reports what it changed: it is an edit, the change is reported where it is accepted, and otherwise nothing.
pub record EditsTellingThrough (held : Option Held) (at removed : ℕ) (bytes : List ℕ) (code : ℕ) (before after : Changed) (now : Option Held) : Type 0 where
  pub edits : EditsPlain held at removed bytes code now
  pub accepted : code ≡ 0
      → MatchOption (session_in held) ⊥ (λ old. MatchOption (session_in now) ⊥ (λ new. IsToldChange old new at removed (chars bytes) after))
  pub refused : (code ≡ 0 → ⊥) → after ≡ before
