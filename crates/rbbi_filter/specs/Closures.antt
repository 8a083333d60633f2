-- What the closures answer that a session keeps.
use Rattle.std.specs.Prelude.{◌≡◌, ℕ, ◌≤◌, Bool, List, length}
use Rattle.rbbi_model.specs.Words.{IsCharacter, IsText}
use Rattle.rbbi_filter.specs.Abbreviations.{window_size, ends}
use Rattle.rbbi_filter.specs.declared.pair.Pair.{Pair}
use Rattle.rbbi_filter.specs.Pairs.{turn}

-- The predicate may be asked of each list of at most 64 characters, and answers whether it ends with one of these abbreviations.
pub record AnswersEnds (can_ask : List ℕ → Type 0) (gives : List ℕ → Bool → Type 0) (list : List (List ℕ)) : Type 0 where
  pub callable : (w : List ℕ) → IsText w → length w ≤ window_size → can_ask w
  pub answers : (w : List ℕ) (is : Bool) → IsText w → length w ≤ window_size → gives w is → is ≡ ends list w

-- The map may be called on each character, and answers what the pairs turn it into.
pub record Turns (can_map : ℕ → Type 0) (maps : ℕ → ℕ → Type 0) (pairs : List Pair) : Type 0 where
  pub callable : (c : ℕ) → IsCharacter c → can_map c
  pub answers : (c to : ℕ) → IsCharacter c → maps c to → to ≡ turn pairs c
