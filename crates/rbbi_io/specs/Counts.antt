-- Counts of faults, which rise and never fall.
use Rattle.std.specs.Prelude.{◌≡◌, ◌<◌, ◌≤◌, ◌⊎◌, ◌≢◌, ℕ, List, ◌+◌, min, Option}
use Rattle.std.specs.declared.io.Error.{Error}

-- the number at which a count stops
abbrev pub greatest_count : ℕ
greatest_count = 18446744073709551615

-- the count rose between two moments, or stands where it can rise no more
abbrev pub Rose : ℕ → ℕ → Type 0
Rose before now = (before < now) ⊎ (now ≡ greatest_count)

-- a count between two moments: it doesn't fall
abbrev pub GoesOn : ℕ → ℕ → Type 0
GoesOn before now = (before ≤ now) × (now ≤ greatest_count)

-- one more, or the greatest number
abbrev pub one_more : ℕ → ℕ
one_more count = min (count + 1) greatest_count

-- a count that stops at the greatest number
abbrev pub capped : ℕ → ℕ
capped count = min count greatest_count

-- each name's count goes on
abbrev pub EachGoesOn : (List ℕ → ℕ) → (List ℕ → ℕ) → Type 0
EachGoesOn before now = (name : List ℕ) → GoesOn (before name) (now name)

-- no name's count changed
abbrev pub EachStays : (List ℕ → ℕ) → (List ℕ → ℕ) → Type 0
EachStays before now = (name : List ℕ) → now name ≡ before name

-- no name's count changed but perhaps this one's
abbrev pub OthersStay : List ℕ → (List ℕ → ℕ) → (List ℕ → ℕ) → Type 0
OthersStay name before now = (other : List ℕ) → other ≢ name → now other ≡ before other

-- how many calls there were of all names together, how many reads and how many writes of them failed, how many writes were done, and why
-- the last read was refused, if the system said that
pub record CallCounts : Type 0 where
  pub calls : ℕ
  pub reads : ℕ
  pub writes : ℕ
  pub written : ℕ
  pub fault : Option Error
