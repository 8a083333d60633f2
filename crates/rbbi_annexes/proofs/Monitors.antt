-- What a rule needs to know of a text: a state of what stands before a place, and a number for what stands after it. And what the status of a
-- segment needs to know of the segment: a number that is its label.
use Rattle.std.specs.Prelude.{◌≡◌, ℕ, Bool, List, [], ◌∷◌}
use Rattle.unicode_segmentation.specs.Segments.{Rule}
use Rattle.rbbi_model.specs.Words.{IsCharacter, IsText}
use Rattle.rbbi_annexes.proofs.Ends.{BreaksAtEnds}

-- The state before the first character, and the one after a character of a category; the number of nothing, and the one of a
-- character of a category with what stands after it. The rule breaks, or not, by the state before a place, the category of
-- the character after it, and the number of what stands after that. A segment of no characters has label 0; then come the label after
-- a character of a category, and the status by the label.
pub record Monitor (S : Type 0) : Type 0 where
  pub start : S
  pub next : S → ℕ → S
  pub nothing : ℕ
  pub ahead : ℕ → ℕ → ℕ
  pub breaks : S → ℕ → ℕ → Bool
  pub label : ℕ → ℕ → ℕ
  pub status : ℕ → ℕ

-- the state after these characters, of which the nearest comes first
abbrev pub seen : {S : Type 0} → Monitor S → (ℕ → ℕ) → List ℕ → S
seen monitor category [] = monitor.start
seen monitor category (c ∷ before) = monitor.next (seen monitor category before) (category c)

-- the number of these characters
abbrev pub coming : {S : Type 0} → Monitor S → (ℕ → ℕ) → List ℕ → ℕ
coming monitor category [] = monitor.nothing
coming monitor category (c ∷ behind) = monitor.ahead (category c) (coming monitor category behind)

-- the label of these characters, of which the last comes first
abbrev pub labelled : {S : Type 0} → Monitor S → (ℕ → ℕ) → List ℕ → ℕ
labelled monitor category [] = 0
labelled monitor category (c ∷ segment) = monitor.label (labelled monitor category segment) (category c)

-- the rule breaks at both ends of each text, and between two characters where the monitor says so; and the monitor gives the status of a
-- segment
pub record Tells {S : Type 0} (monitor : Monitor S) (category : ℕ → ℕ) (rule : Rule) (status : List ℕ → ℕ) : Type 0 where
  pub ends : BreaksAtEnds rule
  pub inside : (before : List ℕ) (c : ℕ) (behind : List ℕ) → IsText before → IsCharacter c → IsText behind →
      rule before (c ∷ behind) ≡ monitor.breaks (seen monitor category before) (category c) (coming monitor category behind)
  pub status_is : (segment : List ℕ) → IsText segment → status segment ≡ monitor.status (labelled monitor category segment)
