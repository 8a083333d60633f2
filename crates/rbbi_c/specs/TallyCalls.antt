-- What calls on a handle that holds a tally answer, and what they leave in it.
use Rattle.std.specs.Prelude.{◌≡◌, ℕ, ◌⊎◌, List, length, map, Option, None, Some, Result, IsUtf8, chars, MatchOption}
use Rattle.rbbi_model.specs.Boundaries.{Boundary}
use Rattle.rbbi_session.specs.declared.unit_error.UnitEditErr.{UnitEditErr}
use Rattle.rbbi_tally.specs.Counts.{AreCounts}
use Rattle.rbbi_tally.specs.declared.counts.ValueCount.{ValueCount}
use Rattle.rbbi_c.specs.Calls.{IsNoText, IsWrongHandle, code_of_edit}
use Rattle.rbbi_c.specs.Copying.{IsCopied, room_code}
use Rattle.rbbi_c.specs.Holding.{tally_in, HoldsSomething}
use Rattle.rbbi_c.specs.Opening.{IsSource, IsNoSession}
use Rattle.rbbi_c.specs.Tallying.{UnitTally, boundaries_of, EditsTally}
use Rattle.rbbi_c.specs.declared.held.Held.{Held}
use Rattle.rbbi_c.specs.declared.held.Held.TheVariants.{Tally}

-- a tally by the table of the handle over the text that the bytes spell, with places in the unit of the number
abbrev pub IsTallyFrom : Option Held → List ℕ → ℕ → UnitTally → Type 0
IsTallyFrom table bytes unit tally = IsSource table bytes unit tally.table tally.unit tally.text

-- What opening a tally answers, and what the handle for it holds then. A handle that holds something already is refused.
abbrev pub OpensTallyThrough : Option Held → List ℕ → ℕ → Option Held → ℕ → Option Held → Type 0
OpensTallyThrough table bytes unit old code now =
    ((code ≡ 0) × (old ≡ None) × ((tally : UnitTally) × IsTallyFrom table bytes unit tally × (now ≡ Some (Tally tally))))
    ⊎ ((now ≡ old) × (((code ≡ 3) × HoldsSomething old) ⊎ IsNoSession table bytes unit code))

-- the edit of the tally is reported by a code, and the handle holds the tally after it
pub record IsTallyEditedIn (old : UnitTally) (at removed : ℕ) (inserted : List ℕ) (code : ℕ) (now : Option Held) : Type 0 where
  pub new : UnitTally
  pub edited : Result (Unit {0}) UnitEditErr
  pub held : now ≡ Some (Tally new)
  pub edits : EditsTally old at removed inserted edited new
  pub code_is : code ≡ code_of_edit edited

-- what an edit answers by what is held
abbrev pub EditsTallyIn : Option Held → ℕ → ℕ → List ℕ → ℕ → Option Held → Type 0
EditsTallyIn held at removed inserted code now =
    MatchOption (tally_in held) (IsWrongHandle held code now) (λ old. IsTallyEditedIn old at removed inserted code now)

-- What an edit by the characters of these bytes answers through a handle, and what it leaves there. Bytes that are no text are reported first.
abbrev pub EditsTallyThrough : Option Held → ℕ → ℕ → List ℕ → ℕ → Option Held → Type 0
EditsTallyThrough held at removed bytes code now =
    (IsNoText bytes code × (now ≡ held)) ⊎ (IsUtf8 bytes × EditsTallyIn held at removed (chars bytes) code now)

-- a number that is counted of the boundaries of the tally's text, as it is then; the tally stays
abbrev pub TalliesThrough : (List Boundary → ℕ) → Option Held → ℕ → ℕ → ℕ → Option Held → Type 0
TalliesThrough counted held code before after now =
    (now ≡ held) × MatchOption (tally_in held) ((code ≡ 3) × (after ≡ before)) (λ tally. (code ≡ 0) × (after ≡ counted (boundaries_of tally)))

-- where C wants statuses and their counts
pub record Counted : Type 0 where
  pub statuses : List ℕ
  pub counts : List ℕ

abbrev pub counted : List ℕ → List ℕ → Counted
counted statuses counts = record { statuses = statuses; counts = counts }

-- The statuses that some segment has, which rise, are written with their counts, as many as there is room for; and how many there are.
pub record AreCountsListed (boundaries : List Boundary) (before after : Counted) (number : ℕ) : Type 0 where
  pub list : List ValueCount
  pub are : AreCounts boundaries list
  pub in_statuses : IsCopied (map (λ pair. pair.value) list) before.statuses after.statuses
  pub in_counts : IsCopied (map (λ pair. pair.count) list) before.counts after.counts
  pub number_is : number ≡ length list

-- what listing the counts answers; the tally stays
abbrev pub ListsCountsThrough : Option Held → ℕ → Counted → Counted → ℕ → ℕ → Option Held → Type 0
ListsCountsThrough held code before after number_before number now =
    (now ≡ held)
    × MatchOption (tally_in held) ((code ≡ 3) × (after ≡ before) × (number ≡ number_before))
    (λ tally. (AreCountsListed (boundaries_of tally) before after number × (code ≡ room_code number (length before.statuses)))
    ⊎ ((code ≡ 9) × (after ≡ before) × (number ≡ number_before)))
