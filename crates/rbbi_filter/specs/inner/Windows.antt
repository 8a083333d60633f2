-- What is read before a place to tell whether an abbreviation stands there, and where a session's cursor stands that leaves out boundaries.
use Rattle.std.specs.Prelude.{◌≡◌, ℕ, ◌<◌, ◌⊎◌, false, List, length, drop}
use Rattle.std.specs.List.{suffix_len}
use Rattle.rbbi_model.specs.Scripts.{State}
use Rattle.rbbi_filter.specs.Abbreviations.{is_space, without_last_spaces, is_suppressed}

-- the cursor stands at a place that isn't suppressed
abbrev pub IsAtKept : List (List ℕ) → State → Type 0
IsAtKept list state = is_suppressed list state.text state.cursor ≡ false

-- The part is the end of the characters without their last spaces. It is all of that, or longer than the longest abbreviation.
pub record IsEnough (longest : ℕ) (w part : List ℕ) : Type 0 where
  pub start : ℕ
  pub part_is : part ≡ without_last_spaces (drop start w)
  pub solid : suffix_len is_space part ≡ 0
  pub most : (start ≡ 0) ⊎ (longest < length part)
