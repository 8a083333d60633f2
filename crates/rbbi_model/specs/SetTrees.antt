-- What a set expression means.
use Rattle.std.specs.Prelude.{◌≡◌, ℕ, ◌⊎◌, Bool, true, false, List, Option}
use Rattle.rbbi_model.specs.Words.{IsCodePoint}
use Rattle.rbbi_model.specs.Ranges.{Range, InRange}

-- how a part of a set joins what stands to its left
pub data Join : Type 0 where
  Add : Join
  Both : Join
  Minus : Join

-- A set expression with its variables replaced. Its parts join from the left, and nothing stands before the first.
pub data SetTree : Type 0 where
  Nothing : SetTree
  Character : (c : ℕ) → SetTree
  Span : (range : Range) → SetTree
  Property : (negated : Bool) (name : List ℕ) (value : Option (List ℕ)) → SetTree
  Joined : (left : SetTree) (join : Join) (part : SetTree) → SetTree
  Others : (set : SetTree) → SetTree

-- Add keeps what is in either, Both what is in both, Minus what is in the left one and not in the right one.
abbrev pub InJoin : Join → Type 0 → Type 0 → Type 0
InJoin Add left right = left ⊎ right
InJoin Both left right = left × right
InJoin Minus left right = left × ¬ right

-- the property's own code points, or where it is negated, the others
abbrev pub InProperty : Bool → ℕ → Type 0 → Type 0
InProperty false c own = own
InProperty true c own = IsCodePoint c × ¬ own

-- The code point is in the set. Which code points a property of a name, and perhaps a value, has is an argument.
abbrev pub InSet : (List ℕ → Option (List ℕ) → ℕ → Type 0) → SetTree → ℕ → Type 0
InSet HasProperty Nothing c = ⊥
InSet HasProperty (Character d) c = c ≡ d
InSet HasProperty (Span range) c = InRange range c
InSet HasProperty (Property negated name value) c = InProperty negated c (HasProperty name value c)
InSet HasProperty (Joined left join part) c = InJoin join (InSet HasProperty left c) (InSet HasProperty part c)
InSet HasProperty (Others set) c = IsCodePoint c × ¬ InSet HasProperty set c
