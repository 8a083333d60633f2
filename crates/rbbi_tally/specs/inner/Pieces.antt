-- Segments kept by pieces, and spots in a list of pieces.
use Rattle.std.specs.Prelude.{◌≡◌, ℕ, ◌+◌, ◌<◌, ◌≤◌, ◌⊎◌, List, [], ◌∷◌, ◌++◌, length, map, take, drop}
use Rattle.std.specs.List.{flat_map, AllByRecursion}
use Rattle.rbbi_model.specs.Places.{largest}
use Rattle.rbbi_tally.specs.inner.Kept.{at_of, ahead_of, list_of}
use Rattle.rbbi_tally.specs.inner.Segments.{Segment}
use Rattle.rbbi_tally.specs.declared.kept.Kept.{Kept}
use Rattle.rbbi_tally.specs.declared.piece.Piece.{Piece}
use Rattle.rbbi_tally.specs.declared.spot.Spot.{Spot}

-- the segment that is kept in a piece which starts at the place
abbrev pub segment_of : ℕ → Kept → Segment
segment_of start kept = record { at = start + at_of kept; look = start + at_of kept + ahead_of kept; list = list_of kept }

abbrev pub segments_by : ℕ → List Kept → List Segment
segments_by start items = map (segment_of start) items

abbrev pub segments_in : Piece → List Segment
segments_in piece = segments_by piece.start piece.items.items

-- the segments of all pieces
abbrev pub contents : List Piece → List Segment
contents pieces = flat_map segments_in pieces

-- there is a first segment, and it begins at the start of its piece
abbrev pub BeginAtStart : List Kept → Type 0
BeginAtStart [] = ⊥
BeginAtStart (kept ∷ items) = at_of kept ≡ 0

-- a bound on places and look ends of texts
abbrev pub most_looked : ℕ
most_looked = 33554432

-- the greatest look end of the segments
abbrev pub farthest : List Segment → ℕ
farthest segments = largest (map (λ segment. segment.look) segments)

-- the piece begins at its start, and its reach is the greatest look end
pub record IsPiece (piece : Piece) : Type 0 where
  pub begin : BeginAtStart piece.items.items
  pub reach_is : piece.reach ≡ farthest (segments_in piece)
  pub small : piece.reach ≤ most_looked

abbrev pub ArePieces : List Piece → Type 0
ArePieces pieces = AllByRecursion IsPiece pieces

-- the number of a segment in the first of the pieces; it is 0 where there is none
abbrev pub IsItemOf : List Piece → ℕ → Type 0
IsItemOf [] item = item ≡ 0
IsItemOf (piece ∷ pieces) item = item < length piece.items.items

-- a segment of the pieces, or their end
pub record IsSpot (pieces : List Piece) (spot : Spot) : Type 0 where
  pub within : spot.piece ≤ length pieces
  pub item : IsItemOf (drop spot.piece pieces) spot.item

-- the segments from the spot on
abbrev pub segments_from : List Piece → Spot → List Segment
segments_from pieces spot = drop spot.item (contents (drop spot.piece pieces))

-- the segments before it
abbrev pub segments_before : List Piece → Spot → List Segment
segments_before pieces spot = contents (take spot.piece pieces) ++ take spot.item (contents (drop spot.piece pieces))

-- the one spot isn't after the other
abbrev pub IsUpTo : Spot → Spot → Type 0
IsUpTo first last = (first.piece < last.piece) ⊎ ((first.piece ≡ last.piece) × (first.item ≤ last.item))
