-- How many segments have each status list.
use Rattle.std.specs.Prelude.{◌≡◌, ℕ, ◌+◌, ◌<◌, ◌≤◌, List, length, count_by, ◌==◌, slice_index}
use Rattle.std.specs.List.{AllByRecursion}
use Rattle.rbbi_tally.specs.inner.Segments.{Segment}

-- how many of the segments have the list
abbrev pub count_of : List Segment → ℕ → ℕ
count_of segments list = count_by (λ segment. segment.list == list) segments

-- for each status list, how many of the segments have it
pub record AreCountsOf (lists : ℕ) (segments : List Segment) (counts : List ℕ) : Type 0 where
  pub all : length counts ≡ lists
  pub each : (list : ℕ) → list < lists → slice_index counts list ≡ count_of segments list

-- the counts after some segments are gone and others are there
pub record IsRecounted (gone new : List Segment) (before after : List ℕ) : Type 0 where
  pub all : length after ≡ length before
  pub each : (list : ℕ) → list < length before → slice_index after list + count_of gone list ≡ slice_index before list + count_of new list

-- each of the segments has one of the lists
abbrev pub AreListed : ℕ → List Segment → Type 0
AreListed lists segments = AllByRecursion (λ segment. segment.list < lists) segments

-- the segments are counted, with others or alone
pub record AreCounted (segments : List Segment) (counts : List ℕ) : Type 0 where
  pub listed : AreListed (length counts) segments
  pub each : (list : ℕ) → list < length counts → count_of segments list ≤ slice_index counts list
