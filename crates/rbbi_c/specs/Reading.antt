-- What calls that only read a session answer.
use Rattle.std.specs.Prelude.{◌≡◌, ℕ, List, length, Option}
use Rattle.rbbi_model.specs.Answers.{AllOf, Statuses}
use Rattle.rbbi_session.specs.Walks.{View, kind_of, reply_to}
use Rattle.rbbi_c.specs.Calls.{IsWrongHandle}
use Rattle.rbbi_c.specs.Copying.{IsCopied, room_code}
use Rattle.rbbi_c.specs.declared.held.Held.{Held}
use Rattle.rbbi_c.specs.Sorts.{OfSession}

-- the length of the text by the unit
abbrev pub MeasuresThrough : Option Held → ℕ → ℕ → ℕ → Option Held → Type 0
MeasuresThrough held code before after now =
    OfSession held (IsWrongHandle held code now × (after ≡ before))
    (λ A Setting sort old. (code ≡ 0) × (after ≡ (kind_of sort.view old).units (sort.view.state old).text) × (now ≡ held))

-- The statuses at the cursor are written, as many as there is room for, and counted.
pub record AreListed {A Setting : Type 0} (view : View A Setting) (old : A) (before after : List ℕ) (count : ℕ) : Type 0 where
  pub list : List ℕ
  pub statuses : AllOf list ≡ reply_to view old Statuses
  pub copied : IsCopied list before after
  pub counted : count ≡ length list

abbrev pub ListsThrough : Option Held → ℕ → List ℕ → List ℕ → ℕ → ℕ → Option Held → Type 0
ListsThrough held code before after count_before count now =
    OfSession held (IsWrongHandle held code now × (after ≡ before) × (count ≡ count_before))
    (λ A Setting sort old. AreListed sort.view old before after count × (code ≡ room_code count (length before)) × (now ≡ held))
