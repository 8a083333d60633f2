-- What is marked after a word: by the rules, and by a table.
use Rattle.std.specs.Prelude.{◌≡◌, ◌≢◌, ℕ, ◌+◌, ◌<◌, ◌≤◌, ◌⊎◌, ◌↔◌, List, [], ◌∷◌, length, take, IsTrue}
use Rattle.rbbi_model.specs.Words.{IsWord}
use Rattle.rbbi_model.specs.Places.{has_bit}
use Rattle.rbbi_model.specs.Rules.{Rule, look_aheads}
use Rattle.rbbi_model.specs.Chains.{EndsAt, FrontEndsAt, AreTags}
use Rattle.rbbi_model.specs.Boundaries.{LookAheadEndsAt}
use Rattle.rbbi_model.specs.LeafSets.{EndedBefore}
use Rattle.rbbi_model.specs.Tables.{Table, accept_of, fronts_of, list_of, statuses_of, row_after}

-- an accept number, a front mask and the status numbers
pub record Marks : Type 0 where
  pub accept : ℕ
  pub fronts : ℕ
  pub statuses : List ℕ

-- the marks where nothing ends
abbrev pub no_marks : Marks
no_marks = record { accept = 0; fronts = 0; statuses = 0 ∷ [] }

-- the number among the look-ahead rules, from 0, of the rule with this number in the file
abbrev pub look_ahead_number : List Rule → ℕ → ℕ
look_ahead_number rules number = length (look_aheads (take number rules))

-- look-ahead rules end where the word does, and the accept number is 2 more than the number of the first
pub record IsCompleted (rules : List Rule) (w : List ℕ) (accept : ℕ) : Type 0 where
  pub number : ℕ
  pub ends : LookAheadEndsAt rules w 0 (length w) number
  pub first : (other : ℕ) → LookAheadEndsAt rules w 0 (length w) other → number ≤ other
  pub numbered : accept ≡ look_ahead_number rules number + 2

-- some rule ends where the word does and no look-ahead rule, and the accept number is 1
pub record IsEnded (rules : List Rule) (w : List ℕ) (accept : ℕ) : Type 0 where
  pub number : ℕ
  pub ends : EndsAt rules w 0 (length w) number
  pub no_look_ahead : (other : ℕ) → ¬ LookAheadEndsAt rules w 0 (length w) other
  pub is_one : accept ≡ 1

-- no rule ends where the word does, and the accept number is 0
pub record IsUnended (rules : List Rule) (w : List ℕ) (accept : ℕ) : Type 0 where
  pub no_end : (number : ℕ) → ¬ EndsAt rules w 0 (length w) number
  pub is_zero : accept ≡ 0

-- the front of look-ahead rule k ends where the word does
pub record HasFront (rules : List Rule) (w : List ℕ) (k : ℕ) : Type 0 where
  pub number : ℕ
  pub numbered : look_ahead_number rules number ≡ k
  pub front : FrontEndsAt rules w 0 (length w) number

-- the marks of a word before whose end no look-ahead rule ended
pub record AreMarksAtEnd (rules : List Rule) (w : List ℕ) (marks : Marks) : Type 0 where
  pub accept : IsCompleted rules w marks.accept ⊎ (IsEnded rules w marks.accept ⊎ IsUnended rules w marks.accept)
  pub fronts : marks.accept < 2 → (k : ℕ) → IsTrue (has_bit marks.fronts k) ↔ HasFront rules w k
  pub no_fronts : 2 ≤ marks.accept → marks.fronts ≡ 0
  pub statuses : AreTags rules w 0 (length w) marks.statuses

-- the marks after a word by the rules; none where a look-ahead rule ended before its end
abbrev pub AreMarks : List Rule → List ℕ → Marks → Type 0
AreMarks rules w marks = (EndedBefore rules w × (marks ≡ no_marks)) ⊎ (¬ EndedBefore rules w × AreMarksAtEnd rules w marks)

-- the same, where the empty word is one too and has none
abbrev pub AreMarksOrNone : List Rule → List ℕ → Marks → Type 0
AreMarksOrNone rules [] marks = marks ≡ no_marks
AreMarksOrNone rules (c ∷ w) marks = AreMarks rules (c ∷ w) marks

-- the marks of a table's row
abbrev pub marks_of : Table → ℕ → Marks
marks_of table row =
    record { accept = accept_of table row; fronts = fronts_of table row; statuses = statuses_of table (list_of table row) }

-- after every nonempty word the table's row has the marks of the rules, and there are as many look-ahead rules
pub record HasSameMarks (table : Table) (rules : List Rule) : Type 0 where
  pub slashes : table.slashes ≡ length (look_aheads rules)
  pub each : (w : List ℕ) → IsWord w → w ≢ [] → AreMarks rules w (marks_of table (row_after table w))
