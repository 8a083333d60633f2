-- The characters that an edit removes, and what an edit comes to.
use Rattle.std.specs.Prelude.{◌≡◌, ℕ, ◌+◌, ◌≤◌, List, length, Some, Result, slice_range}
use Rattle.rbbi_model.specs.declared.unit.Unit.{Unit as TextUnit}
use Rattle.rbbi_model.specs.Units.{offset_of}
use Rattle.rbbi_model.specs.UnitAnswers.{place_at, edit_in}
use Rattle.rbbi_model.specs.Answers as reply
use Rattle.rbbi_model.specs.Scripts.{Refused}
use Rattle.rbbi_session.specs.UnitSessions.{UnitSession}
use Rattle.rbbi_session.specs.Walks.{Edits}
use Rattle.rbbi_session.specs.UnitWalks.{unit_view}
use Rattle.rbbi_session.specs.declared.unit_error.UnitEditErr.{UnitEditErr}
use Rattle.rbbi_session.specs.declared.unit_error.UnitEditErr.TheVariants.{Outside, Inside, TooLong, Memory}
use Rattle.rbbi_c.specs.declared.changing.Removed.{Removed}
use Rattle.rbbi_c.specs.declared.span.Span.{Span}

-- the places at two numbers, between which an edit removes
pub record IsSpan (unit : TextUnit) (x : List ℕ) (at removed : ℕ) (span : Span) : Type 0 where
  pub first_is : place_at unit x at ≡ Some span.first
  pub end_is : place_at unit x (at + removed) ≡ Some span.end
  pub order : span.first ≤ span.end
  pub within : span.end ≤ length x
  pub low : at + removed ≤ offset_of unit x (length x)

-- the characters that it removes
pub record IsRemoved (unit : TextUnit) (x : List ℕ) (at removed : ℕ) (part : Removed) : Type 0 where
  pub end : ℕ
  pub first_is : place_at unit x at ≡ Some part.first
  pub end_is : place_at unit x (at + removed) ≡ Some end
  pub order : part.first ≤ end
  pub within : end ≤ length x
  pub low : at + removed ≤ offset_of unit x (length x)
  pub text_is : part.text ≡ slice_range x part.first end

-- or why it is refused, whatever it inserts
abbrev pub IsNotRemoved : TextUnit → List ℕ → ℕ → ℕ → UnitEditErr → Type 0
IsNotRemoved unit x at removed Outside = (inserted : List ℕ) → edit_in unit x at removed inserted ≡ Refused reply.Outside
IsNotRemoved unit x at removed Inside = (inserted : List ℕ) → edit_in unit x at removed inserted ≡ Refused reply.Inside
IsNotRemoved unit x at removed TooLong = ⊥
IsNotRemoved unit x at removed Memory = Unit {0}

-- the session is edited, whatever is read besides
pub record IsEditOf {T : Type 0} (old : UnitSession) (at removed : ℕ) (inserted : List ℕ) (result : Result T UnitEditErr) (new : UnitSession) : Type 0 where
  pub before : ℕ
  pub after : ℕ
  pub edits : Edits unit_view old at removed inserted result new before after
