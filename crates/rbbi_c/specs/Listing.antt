-- What calls that read a session at once answer through a handle: boundaries within a range, and the segment that holds a place.
use Rattle.std.specs.Prelude.{◌≡◌, ℕ, List, Option, None, Some, is_some, unwrap_or, if◌then◌else◌, MatchOption}
use Rattle.rbbi_model.specs.Boundaries.{Boundary}
use Rattle.rbbi_model.specs.Answers.{first_after}
use Rattle.rbbi_session.specs.UnitSessions.{UnitSession}
use Rattle.rbbi_session.specs.Walks.{reported}
use Rattle.rbbi_session.specs.UnitWalks.{unit_view}
use Rattle.rbbi_c.specs.Calls.{IsUnserved}
use Rattle.rbbi_c.specs.Holding.{session_in, StaysThere}
use Rattle.rbbi_c.specs.Ranges.{Columns, ListsOut}
use Rattle.rbbi_c.specs.Segments.{IsSegmentAt}
use Rattle.rbbi_c.specs.declared.held.Held.{Held}
use Rattle.rbbi_c.specs.declared.held.Held.TheVariants.{Session}
use Rattle.rbbi_c.specs.declared.listing.Listing.{Listing}
use Rattle.rbbi_c.specs.declared.segment.Segment.{Segment}

-- how many boundaries are written, and the number to go on from, as C has them
pub record Progress : Type 0 where
  pub count : ℕ
  pub resume : ℕ

abbrev pub progress : ℕ → ℕ → Progress
progress count resume = record { count = count; resume = resume }

-- the boundaries are listed, and the session stays there
pub record IsListedThrough (boundaries : List Boundary) (old : UnitSession) (from : ℕ) (before after : Columns) (code : ℕ) (reached : Progress)
    (now : Option Held) : Type 0 where
  pub new : UnitSession
  pub held : now ≡ Some (Session new)
  pub stays : StaysThere old new
  pub listing : Listing
  pub listed : ListsOut boundaries from before after listing
  pub reached_is : reached ≡ progress listing.count listing.resume
  pub code_is : code ≡ (if listing.more then 10 else 0)

-- what listing the boundaries that are asked for answers
abbrev pub ListsRangeThrough : (UnitSession → List Boundary) → Option Held → ℕ → Columns → Columns → ℕ → Progress → Progress → Option Held → Type 0
ListsRangeThrough asked held from before after code earlier reached now =
    MatchOption (session_in held) (IsUnserved held code now × (after ≡ before) × (reached ≡ earlier))
    (λ old. IsListedThrough (asked old) old from before after code reached now)

-- the segment is reported, if there is one, and the session stays there
pub record IsSegmentThrough (old : UnitSession) (at code : ℕ) (before after : Segment) (now : Option Held) : Type 0 where
  pub new : UnitSession
  pub held : now ≡ Some (Session new)
  pub stays : StaysThere old new
  pub found : Option Segment
  pub is : MatchOption found (first_after (reported unit_view old) at ≡ None) (IsSegmentAt (reported unit_view old) at)
  pub code_is : code ≡ (if is_some found then 0 else 1)
  pub reported_is : after ≡ unwrap_or found before

-- what asking for the segment that holds a place answers
abbrev pub SegmentThrough : Option Held → ℕ → ℕ → Segment → Segment → Option Held → Type 0
SegmentThrough held at code before after now =
    MatchOption (session_in held) (IsUnserved held code now × (after ≡ before)) (λ old. IsSegmentThrough old at code before after now)
