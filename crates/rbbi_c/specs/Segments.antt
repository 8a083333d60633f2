-- The segment that holds a place.
use Rattle.std.specs.Prelude.{◌≡◌, ℕ, List, Some}
use Rattle.rbbi_model.specs.Boundaries.{Boundary}
use Rattle.rbbi_model.specs.Places.{largest}
use Rattle.rbbi_model.specs.Answers.{first_after, last_before, statuses_at}
use Rattle.rbbi_c.specs.declared.segment.Segment.{Segment}

-- the segment ends at this boundary, whose greatest status it has, and begins at the last boundary before it
pub record EndsAt (boundaries : List Boundary) (end : ℕ) (segment : Segment) : Type 0 where
  pub to_is : segment.to ≡ end
  pub from_is : last_before boundaries end ≡ Some segment.from
  pub status_is : segment.status ≡ largest (statuses_at boundaries end)

-- the segment of these boundaries that holds a place: it ends at the first boundary past the place
pub record IsSegmentAt (boundaries : List Boundary) (at : ℕ) (segment : Segment) : Type 0 where
  pub ends : first_after boundaries at ≡ Some segment.to
  pub begins : EndsAt boundaries segment.to segment
