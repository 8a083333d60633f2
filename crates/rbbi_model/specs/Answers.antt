-- The questions that a session answers, off a list of boundaries and a cursor.
use Rattle.std.specs.Prelude.{ℕ, Bool, List, [], ◌∷◌, Option, Some, None, is_some, if◌then◌else◌, ◌==◌, nat_lt, nat_le, unwrap_or}
use Rattle.rbbi_model.specs.Places.{largest}
use Rattle.rbbi_model.specs.Boundaries.{Boundary}
use Rattle.rbbi_model.specs.Cover.{end_of}

-- a question; `Breaks` asks for all boundaries
pub data Question : Type 0 where
  First : Question
  Last : Question
  Next : Question
  Previous : Question
  Following : (place : ℕ) → Question
  Preceding : (place : ℕ) → Question
  IsBoundary : (place : ℕ) → Question
  Current : Question
  Status : Question
  Statuses : Question
  Breaks : Question

-- A reply to a question or an edit. An edit is inside where places count another unit than characters, and one of its ends
-- lies within a character.
pub data Reply : Type 0 where
  Place : (place : ℕ) → Reply
  Done : Reply
  Yes : Reply
  No : Reply
  Largest : (status : ℕ) → Reply
  AllOf : (statuses : List ℕ) → Reply
  Listed : (boundaries : List Boundary) → Reply
  Edited : (length : ℕ) → Reply
  Outside : Reply
  Inside : Reply
  TooLong : Reply
  Characters : (text : List ℕ) → Reply

-- a reply, and where the cursor is after it
pub record Answer : Type 0 where
  pub reply : Reply
  pub cursor : ℕ

-- the first boundary that passes the test
abbrev pub first_place : (ℕ → Bool) → List Boundary → Option ℕ
first_place test [] = None
first_place test (boundary ∷ boundaries) = if test boundary.at then Some boundary.at else first_place test boundaries

-- the last boundary that passes the test, or else the one given
abbrev pub last_place : (ℕ → Bool) → Option ℕ → List Boundary → Option ℕ
last_place test before [] = before
last_place test before (boundary ∷ boundaries) = last_place test (if test boundary.at then Some boundary.at else before) boundaries

-- the first boundary greater than the place
abbrev pub first_after : List Boundary → ℕ → Option ℕ
first_after boundaries place = first_place (λ at. nat_lt place at) boundaries

-- the last boundary less than the place
abbrev pub last_before : List Boundary → ℕ → Option ℕ
last_before boundaries place = last_place (λ at. nat_lt at place) None boundaries

-- the first boundary not less than the place
abbrev pub first_from : List Boundary → ℕ → Option ℕ
first_from boundaries place = first_place (λ at. nat_le place at) boundaries

-- the place is a boundary
abbrev pub is_place_of : List Boundary → ℕ → Bool
is_place_of boundaries place = is_some (first_place (λ at. at == place) boundaries)

-- the statuses of the boundary at the place
abbrev pub statuses_at : List Boundary → ℕ → List ℕ
statuses_at [] place = []
statuses_at (boundary ∷ boundaries) place = if boundary.at == place then boundary.statuses else statuses_at boundaries place

-- the place found becomes the cursor, or there is none and the cursor goes where it is sent
abbrev pub moved : Option ℕ → ℕ → Answer
moved None otherwise = record { reply = Done; cursor = otherwise }
moved (Some place) otherwise = record { reply = Place place; cursor = place }

-- a reply that leaves the cursor
abbrev pub stays : ℕ → Reply → Answer
stays cursor reply = record { reply = reply; cursor = cursor }

-- the reply to the question, and the new cursor
abbrev pub answer : List Boundary → ℕ → Question → Answer
answer boundaries cursor First = record { reply = Place 0; cursor = 0 }
answer boundaries cursor Last = record { reply = Place (end_of boundaries); cursor = end_of boundaries }
answer boundaries cursor Next = moved (first_after boundaries cursor) cursor
answer boundaries cursor Previous = moved (last_before boundaries cursor) cursor
answer boundaries cursor (Following place) = moved (first_after boundaries place) (end_of boundaries)
answer boundaries cursor (Preceding place) = moved (last_before boundaries place) 0
answer boundaries cursor (IsBoundary place) =
    record {
      reply = if is_place_of boundaries place then Yes else No;
      cursor = unwrap_or (first_from boundaries place) (end_of boundaries);
    }
answer boundaries cursor Current = stays cursor (Place cursor)
answer boundaries cursor Status = stays cursor (Largest (largest (statuses_at boundaries cursor)))
answer boundaries cursor Statuses = stays cursor (AllOf (statuses_at boundaries cursor))
answer boundaries cursor Breaks = stays cursor (Listed boundaries)
