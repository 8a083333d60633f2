-- Anchors, and the kept runs that are true of a text.
use Rattle.std.specs.Prelude.{◌≡◌, ℕ, ◌+◌, ◌<◌, ◌≤◌, Bool, ◌&&◌, ◌||◌, ◌⊎◌, List, [], ◌∷◌, ◌++◌, map, length, filter, if◌then◌else◌, ◌==◌, nat_lt, nat_le}
use Rattle.std.specs.Prelude.{slice_index, IsTrue}
use Rattle.std.specs.List.{AllByRecursion}
use Rattle.rbbi_model.specs.Places.{largest}
use Rattle.rbbi_model.specs.Boundaries.{Boundary}
use Rattle.rbbi_model.specs.Tables.{Table, category_of, statuses_of}
use Rattle.rbbi_model.specs.SafePairs.{IsSafePair, is_safe}
use Rattle.rbbi_model.specs.Searches.{look_end, fresh}

-- the category of the character at the place
abbrev pub category_at : Table → List ℕ → ℕ → ℕ
category_at table x p = category_of table.ranges (slice_index x p)

-- an anchor: 0, or a place where the categories of two characters are a safe pair
abbrev pub IsAnchor : Table → List ℕ → ℕ → Type 0
IsAnchor table x p = (p ≡ 0) ⊎ ((p + 2 ≤ length x) × IsSafePair table (category_at table x p) (category_at table x (p + 1)))

-- the same by the stored bits, which are the safe pairs in a valid table
abbrev pub is_anchor : Table → List ℕ → ℕ → Bool
is_anchor table x p = (p == 0) || (nat_le (p + 2) (length x) && is_safe table (category_at table x p) (category_at table x (p + 1)))

-- the first place at which what is found from the anchor is true, statuses and all, but for the anchor itself
abbrev pub low : ℕ → ℕ
low p = if p == 0 then 1 else p + 2

-- a boundary that is kept: its place, the number of its status list, and how far the searches up to it have looked
pub record Entry : Type 0 where
  pub at : ℕ
  pub status : ℕ
  pub reach : ℕ

-- A kept run: its anchor, its entries, and whether it leads, which is to say that nothing found from the anchor lies between its
-- low place and the first entry.
pub record Run : Type 0 where
  pub anchor : ℕ
  pub entries : List Entry
  pub leads : Bool

-- the entry as a boundary
abbrev pub boundary_of : Table → Entry → Boundary
boundary_of table entry = record { at = entry.at; statuses = statuses_of table entry.status }

-- the entries are consecutive members of the list
pub record AreConsecutive (table : Table) (members : List Boundary) (entries : List Entry) : Type 0 where
  pub before : List Boundary
  pub after : List Boundary
  pub whole : members ≡ before ++ map (boundary_of table) entries ++ after

-- the look ends of the searches that lead from the anchor up to the place
abbrev pub look_ends : Table → List ℕ → ℕ → ℕ → List ℕ
look_ends table x p at = map (λ member. look_end table x member.at) (filter (λ member. nat_lt member.at at) (fresh table x p))

-- the greatest of them, or 0 where there are none
abbrev pub farthest_look : Table → List ℕ → ℕ → ℕ → ℕ
farthest_look table x p at = largest (look_ends table x p at)

-- reaches don't fall along the run
abbrev pub ReachesRise : List Entry → Type 0
ReachesRise [] = Unit {0}
ReachesRise (entry ∷ []) = Unit {0}
ReachesRise (entry ∷ next ∷ entries) = (entry.reach ≤ next.reach) × ReachesRise (next ∷ entries)

-- where the run leads, nothing found from the anchor lies between its low place and the first entry
abbrev pub LeadsTruly : Table → List ℕ → ℕ → List Entry → Type 0
LeadsTruly table x p [] = Unit {0}
LeadsTruly table x p (entry ∷ entries) = AllByRecursion (λ member. low p ≤ member.at → entry.at ≤ member.at) (fresh table x p)

-- the run is true of the text
pub record IsTrueRun (table : Table) (x : List ℕ) (run : Run) : Type 0 where
  pub anchor : IsAnchor table x run.anchor
  pub some : 1 ≤ length run.entries
  pub few : length run.entries ≤ 256
  pub consecutive : AreConsecutive table (fresh table x run.anchor) run.entries
  pub places : AllByRecursion (λ entry. (run.anchor ≡ 0) ⊎ (run.anchor + 2 ≤ entry.at)) run.entries
  pub reach_enough : AllByRecursion (λ entry. farthest_look table x run.anchor entry.at ≤ entry.reach) run.entries
  pub reach_within : AllByRecursion (λ entry. entry.reach ≤ length x + 1) run.entries
  pub reaches_rise : ReachesRise run.entries
  pub leads : IsTrue run.leads → LeadsTruly table x run.anchor run.entries

-- there is a last entry, and it isn't past i
abbrev pub EndsUpTo : List Entry → ℕ → Type 0
EndsUpTo [] i = ⊥
EndsUpTo (entry ∷ []) i = entry.at ≤ i
EndsUpTo (entry ∷ next ∷ entries) i = EndsUpTo (next ∷ entries) i

-- there is a first entry, and it isn't before i
abbrev pub StartsFrom : List Entry → ℕ → Type 0
StartsFrom [] i = ⊥
StartsFrom (entry ∷ entries) i = i ≤ entry.at

-- The run shows that a is the first boundary past i: it is an entry past i, and the entry before it isn't past i, or it is
-- the first entry of a run that leads, and i + 1 isn't below the low place.
pub record ShowsAfter (run : Run) (i a : ℕ) : Type 0 where
  pub before : List Entry
  pub entry : Entry
  pub after : List Entry
  pub whole : run.entries ≡ before ++ entry ∷ after
  pub at : entry.at ≡ a
  pub past : i < a
  pub nearest : EndsUpTo before i ⊎ ((before ≡ []) × IsTrue run.leads × (low run.anchor ≤ i + 1))

-- The run shows that a is the last boundary before i: it is an entry before i, and the entry after it isn't before i, or it
-- is the text's end.
pub record ShowsBefore (x : List ℕ) (run : Run) (i a : ℕ) : Type 0 where
  pub before : List Entry
  pub entry : Entry
  pub after : List Entry
  pub whole : run.entries ≡ before ++ entry ∷ after
  pub at : entry.at ≡ a
  pub short_of : a < i
  pub nearest : StartsFrom after i ⊎ (a ≡ length x)

-- the boundaries from a place on
abbrev pub from_place : ℕ → List Boundary → List Boundary
from_place place boundaries = filter (λ boundary. nat_le place boundary.at) boundaries
