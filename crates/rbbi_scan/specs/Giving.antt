-- What a call gives of the boundaries of a text, and why it gives no more.
use Rattle.std.specs.Prelude.{◌≡◌, ℕ, ◌+◌, ◌<◌, ◌≤◌, ◌⊎◌, Bool, false, List, length, map, ◌==◌}
use Rattle.rbbi_model.specs.declared.unit.Unit.{Unit as TextUnit}
use Rattle.rbbi_model.specs.Boundaries.{Boundary}
use Rattle.rbbi_model.specs.Places.{largest}
use Rattle.rbbi_model.specs.Tables.{Table}
use Rattle.rbbi_model.specs.Units.{offset_of}
use Rattle.rbbi_model.specs.Searches.{look_end}
use Rattle.rbbi_scan.specs.Columns.{Columns, IsFilled}
use Rattle.rbbi_scan.specs.Leading.{Lead}
use Rattle.rbbi_scan.specs.Segments.{Segment, segments_of}
use Rattle.rbbi_scan.specs.Spelled.{IsFaultAt}
use Rattle.rbbi_scan.specs.declared.reached.Asked.{Asked}
use Rattle.rbbi_scan.specs.declared.reached.Stop.{Stop}
use Rattle.rbbi_scan.specs.declared.reached.Stop.TheVariants.{End, Room, More, Fault, Far, Memory}
use Rattle.rbbi_scan.specs.declared.reached.Reached.{Reached}

-- where the segments start and end in the unit, by where the text begins
abbrev pub starts_of : TextUnit → ℕ → List ℕ → List Segment → List ℕ
starts_of unit first x segments = map (λ segment. first + offset_of unit x segment.start) segments

abbrev pub ends_of : TextUnit → ℕ → List ℕ → List Segment → List ℕ
ends_of unit first x segments = map (λ segment. first + offset_of unit x segment.end) segments

-- the greatest status at the end of each
abbrev pub greatest_of : List Segment → List ℕ
greatest_of segments = map (λ segment. largest segment.statuses) segments

-- These boundaries lead from one place of the text to another, and the segments that they end are written after the first so many.
pub record GivesOn (unit : TextUnit) (table : Table) (only_words is_whole : Bool) (first : ℕ) (x : List ℕ) (place last : ℕ) (given : List Boundary)
    (count now : ℕ) (before after : Columns) : Type 0 where
  pub found : Lead is_whole table x place given last
  pub counted : now ≡ count + length (segments_of only_words x place given)
  pub in_starts : IsFilled before.starts after.starts count (starts_of unit first x (segments_of only_words x place given))
  pub in_places : IsFilled before.places after.places count (ends_of unit first x (segments_of only_words x place given))
  pub in_statuses : IsFilled before.statuses after.statuses count (greatest_of (segments_of only_words x place given))

-- Why no more were given: the text ends there; there is no room for more; the search from there reads on past units that more may follow,
-- or reads a fault, or reads on past so many characters; or memory ran out.
abbrev pub StopsFor : TextUnit → Table → Bool → List ℕ → ℕ → List ℕ → ℕ → ℕ → ℕ → ℕ → Stop → Type 0
StopsFor unit table is_last units end x last count room most End = (last ≡ length x) × (end ≡ length units)
StopsFor unit table is_last units end x last count room most Room = count ≡ room
StopsFor unit table is_last units end x last count room most More = is_last ≡ false
StopsFor unit table is_last units end x last count room most (Fault at) =
    (at ≡ end) × IsFaultAt unit units at × ((last ≡ length x) ⊎ (length x < look_end table x last))
StopsFor unit table is_last units end x last count room most Far = last + most < look_end table x last
StopsFor unit table is_last units end x last count room most Memory = Unit {0}

-- The boundaries of the text that follow a place are given, up to another place, and it is said why no more were.
pub record Gives (unit : TextUnit) (table : Table) (asked : Asked) (is_last : Bool) (most : ℕ) (units : List ℕ) (begin end : ℕ) (x : List ℕ) (place count : ℕ)
    (before after : Columns) (reached : Reached) : Type 0 where
  pub given : List Boundary
  pub last : ℕ
  pub within : last ≤ length x
  pub on : GivesOn unit table asked.only_words (end == length units) (asked.origin + begin) x place last given count reached.count before after
  pub resume_is : reached.resume ≡ begin + offset_of unit x last
  pub stops : StopsFor unit table is_last units end x last reached.count (length before.places) most reached.stop
