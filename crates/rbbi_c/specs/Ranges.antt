-- The boundaries within a range, and how they are listed where there may be too little room.
use Rattle.std.specs.Prelude.{◌≡◌, ℕ, Bool, ◌&&◌, List, ◌∷◌, length, map, filter, take, min, reverse, nat_lt, nat_le, slice_index}
use Rattle.rbbi_model.specs.Boundaries.{Boundary}
use Rattle.rbbi_model.specs.Cover.{places}
use Rattle.rbbi_model.specs.Places.{largest}
use Rattle.rbbi_c.specs.Copying.{IsCopied}
use Rattle.rbbi_c.specs.declared.listing.Listing.{Listing}

-- the boundaries past one number, up to another
abbrev pub past_up_to : ℕ → ℕ → List Boundary → List Boundary
past_up_to from to boundaries = filter (λ boundary. nat_lt from boundary.at && nat_le boundary.at to) boundaries

-- the boundaries before one number, down to another, the last one first
abbrev pub before_down_to : ℕ → ℕ → List Boundary → List Boundary
before_down_to from to boundaries = reverse (filter (λ boundary. nat_le to boundary.at && nat_lt boundary.at from) boundaries)

-- the greatest status of each
abbrev pub greatest_statuses : List Boundary → List ℕ
greatest_statuses boundaries = map (λ boundary. largest boundary.statuses) boundaries

-- where C wants places, and their statuses
pub record Columns : Type 0 where
  pub places : List ℕ
  pub statuses : List ℕ

abbrev pub columns : List ℕ → List ℕ → Columns
columns places statuses = record { places = places; statuses = statuses }

-- The first of these boundaries are written, as many as there is room for, each with its greatest status; where there is no room for
-- statuses, without. To go on is to list from the last one that was written, or where none was, from the same number again.
pub record ListsOut (boundaries : List Boundary) (from : ℕ) (before after : Columns) (listing : Listing) : Type 0 where
  pub counted : listing.count ≡ min (length before.places) (length boundaries)
  pub in_places : IsCopied (places (take listing.count boundaries)) before.places after.places
  pub in_statuses : IsCopied (greatest_statuses (take listing.count boundaries)) before.statuses after.statuses
  pub resume_is : listing.resume ≡ slice_index (from ∷ places boundaries) listing.count
  pub more_is : listing.more ≡ nat_lt (length before.places) (length boundaries)
