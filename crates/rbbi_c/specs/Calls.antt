-- What calls on a handle answer, by what it holds, and what they leave in it.
use Rattle.std.specs.Prelude.{◌≡◌, ℕ, ◌<◌, ◌⊎◌, List, length, Option, Some, Result, Ok, Err, IsUtf8, chars}
use Rattle.rbbi_model.specs.Answers.{Question}
use Rattle.rbbi_model.specs.Scripts.{Ask}
use Rattle.rbbi_text.specs.Bytes.{most_bytes}
use Rattle.rbbi_session.specs.Walks.{reply_to, turn_of, Edits}
use Rattle.rbbi_session.specs.declared.unit_error.UnitEditErr.{UnitEditErr}
use Rattle.rbbi_session.specs.declared.unit_error.UnitEditErr.TheVariants as edit
use Rattle.rbbi_c.specs.Asking.{told_of, code_of, number_of}
use Rattle.rbbi_c.specs.declared.held.Held.{Held}
use Rattle.rbbi_c.specs.Holding.{unserved_code}
use Rattle.rbbi_c.specs.Sorts.{Sort, OfSession}

-- the call is refused for what the handle holds, which stays there
abbrev pub IsWrongHandle : Option Held → ℕ → Option Held → Type 0
IsWrongHandle old code now = (code ≡ 3) × (now ≡ old)

-- the call is refused, since it serves no session that the handle holds, and what it holds stays there
abbrev pub IsUnserved : Option Held → ℕ → Option Held → Type 0
IsUnserved old code now = (code ≡ unserved_code old) × (now ≡ old)

-- the session's reply is reported by a code and a number, and the handle holds the session after the question
pub record IsToldThrough {A Setting : Type 0} (sort : Sort A Setting) (old : A) (question : Question) (code before after : ℕ) (now : Option Held) : Type 0
  where
    pub new : A
    pub held : now ≡ Some (sort.hold new)
    pub same : sort.view.setting new ≡ sort.view.setting old
    pub state_is : sort.view.state new ≡ (turn_of sort.view old (Ask question)).state
    pub code_is : code ≡ code_of (told_of (reply_to sort.view old question))
    pub number_is : after ≡ number_of before (told_of (reply_to sort.view old question))

-- what a question answers through a handle, and what it leaves there
abbrev pub AnswersThrough : Option Held → Question → ℕ → ℕ → ℕ → Option Held → Type 0
AnswersThrough held question code before after now =
    OfSession held (IsWrongHandle held code now × (after ≡ before)) (λ A Setting sort old. IsToldThrough sort old question code before after now)

-- the bytes are too long to be looked at, or they are not UTF-8
abbrev pub IsNoText : List ℕ → ℕ → Type 0
IsNoText bytes code = ((code ≡ 7) × (most_bytes < length bytes)) ⊎ ((code ≡ 8) × ¬ IsUtf8 bytes)

-- the code of what an edit answers
abbrev pub code_of_edit : {T : Type 0} → Result T UnitEditErr → ℕ
code_of_edit (Ok done) = 0
code_of_edit (Err edit.Outside) = 5
code_of_edit (Err edit.Inside) = 6
code_of_edit (Err edit.TooLong) = 7
code_of_edit (Err edit.Memory) = 9

-- the edit of the session is reported by a code, and the handle holds the session after it
pub record IsEditedThrough {A Setting : Type 0} (sort : Sort A Setting) (old : A) (at removed : ℕ) (bytes : List ℕ) (code : ℕ) (now : Option Held) : Type 0
  where
    pub new : A
    pub edited : Result (Unit {0}) UnitEditErr
    pub held : now ≡ Some (sort.hold new)
    pub utf8 : IsUtf8 bytes
    pub before : ℕ
    pub after : ℕ
    pub edits : Edits sort.view old at removed (chars bytes) edited new before after
    pub code_is : code ≡ code_of_edit edited

-- What an edit by the characters of these bytes answers through a handle, and what it leaves there. Bytes that are no text are reported first.
abbrev pub EditsThrough : Option Held → ℕ → ℕ → List ℕ → ℕ → Option Held → Type 0
EditsThrough held at removed bytes code now =
    (IsNoText bytes code × (now ≡ held))
    ⊎ OfSession held (IsWrongHandle held code now) (λ A Setting sort old. IsEditedThrough sort old at removed bytes code now)
