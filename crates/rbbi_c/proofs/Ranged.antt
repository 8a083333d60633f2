-- The boundaries within a range of a session's text, as they are found and written.
use Rattle.std.proofs.Common.{◌≡◌, ℕ, ◌+◌, ◌<◌, ◌≤◌, List, [], ◌∷◌, Option, Some, None, length, set, sym, refl, ap, ◌∙◌, subst}
use Rattle.std.specs.Prelude.{⊤, MatchOption}
use Rattle.rbbi_model.specs.declared.unit.Unit.{Unit as TextUnit}
use Rattle.rbbi_model.specs.Boundaries.{Boundary}
use Rattle.rbbi_model.specs.Places.{largest}
use Rattle.rbbi_model.specs.Tables.{Table}
use Rattle.rbbi_model.specs.Searches.{table_boundaries}
use Rattle.rbbi_model.specs.Units.{offset_of, measured}
use Rattle.rbbi_model.specs.UnitAnswers.{place_from}
use Rattle.rbbi_model.specs.Plays.{measured_boundaries}
use Rattle.rbbi_model.specs.Answers.{first_after, last_before, statuses_at}
use Rattle.rbbi_model.proofs.Covering.{table_covers}
use Rattle.rbbi_session.specs.Sessions.{Session, boundaries_of}
use Rattle.rbbi_session.specs.inner.UnitPlaces.{IsPlaceUpTo}
use Rattle.rbbi_session.proofs.Answering.{none_past}
use Rattle.rbbi_session.proofs.UnitCursors.{before_from}
use Rattle.rbbi_c.specs.Ranges.{past_up_to, before_down_to, Columns, columns, ListsOut}
use Rattle.rbbi_c.specs.declared.listing.Listing.{Listing}
use Rattle.rbbi_c.specs.declared.bounds.Bound.{Bound}
use Rattle.rbbi_c.specs.inner.Bounds.{HasSameText, IsBound, AreBounds, Finds, place_of, up_to, down_to, listed_from}
use Rattle.rbbi_c.proofs.Found.{past_up_to_place, up_to_place, from_place_on}
use Rattle.rbbi_c.proofs.Within.{past_is, before_is}
use Rattle.rbbi_c.proofs.Listed.{AreWritten, written_more, past_measured, before_measured}

module _ (table : Table) (unit : TextUnit) (x : List ℕ) where
  -- what is left to list where this is the next boundary, by what is listed after each place
  abbrev pub left : (ℕ → List Boundary) → Option Bound → List Boundary
  left after next = measured unit x (listed_from (table_boundaries table x) after (place_of next))

  pub is_bound : (next : Option Bound) (bound : Bound) → next ≡ Some bound → AreBounds table unit x next → IsBound table unit x bound
  is_bound next bound is are = subst (AreBounds table unit x) is are

  pub are_kept : (found kept : Option Bound) → MatchOption kept ⊤ (λ bound. found ≡ Some bound) → AreBounds table unit x found
      → AreBounds table unit x kept
  are_kept found None same are = tt
  are_kept found (Some bound) same are = is_bound found bound same are

  -- one boundary more is written
  pub written_on : (after : ℕ → List Boundary) (all : List Boundary) (from : ℕ) (before now : Columns) (count resume : ℕ) (bound : Bound)
      (rest : List Boundary) → IsBound table unit x bound → AreWritten all from before now count resume (left after (Some bound))
      → count < length before.places → rest ≡ measured unit x (after bound.at)
      → AreWritten all from before (columns (set now.places count bound.offset) (set now.statuses count bound.status)) (count + 1) bound.offset rest
  written_on after all from before now count resume bound rest is so_far room goes_on =
      let b : Boundary = record { at = offset_of unit x bound.at; statuses = statuses_at (table_boundaries table x) bound.at } in
      let more : AreWritten all from before (columns (set now.places count b.at) (set now.statuses count (largest b.statuses))) (count + 1) b.at
      (measured unit x (after bound.at)) = written_more all from before now count resume b (measured unit x (after bound.at)) so_far room in
      subst (λ r. AreWritten all from before (columns (set now.places count bound.offset) (set now.statuses count bound.status)) (count + 1) bound.offset r)
      (sym goes_on)
      (subst (λ n. AreWritten all from before (columns (set now.places count n) (set now.statuses count bound.status)) (count + 1) n
      (measured unit x (after bound.at))) (sym is.offset_is)
      (subst (λ n. AreWritten all from before (columns (set now.places count b.at) (set now.statuses count n)) (count + 1) b.at
      (measured unit x (after bound.at))) (sym is.status_is) more))

  abbrev pub past : ℕ → ℕ → List Boundary
  past last at = past_up_to at last (table_boundaries table x)

  abbrev pub before : ℕ → ℕ → List Boundary
  before first at = before_down_to at first (table_boundaries table x)

  -- what is listed after a place begins with the first boundary past it, or the last one before it
  pub left_past : (last i : ℕ) (next : Option Bound) → place_of next ≡ up_to last (first_after (table_boundaries table x) i)
      → left (past last) next ≡ measured unit x (past last i)
  left_past last i next is =
      ap (λ p. measured unit x (listed_from (table_boundaries table x) (past last) p)) is
      ∙ ap (measured unit x) (sym (past_is (table_boundaries table x) (table_covers table x).rise last i))

  pub left_before : (first i : ℕ) (next : Option Bound) → place_of next ≡ down_to first (last_before (table_boundaries table x) i)
      → left (before first) next ≡ measured unit x (before first i)
  left_before first i next is =
      ap (λ p. measured unit x (listed_from (table_boundaries table x) (before first) p)) is
      ∙ ap (measured unit x) (sym (before_is (table_boundaries table x) (table_covers table x).rise first i))

  -- from the first of them on that is all that is asked for, by the unit
  pub all_past : (from to i last : ℕ) (next : Option Bound) → IsPlaceUpTo unit x from i → IsPlaceUpTo unit x to last
      → place_of next ≡ up_to last (first_after (table_boundaries table x) i)
      → left (past last) next ≡ past_up_to from to (measured_boundaries table unit x)
  all_past from to i last next is_from is_to is =
      left_past last i next is
      ∙ sym (past_measured unit x (table_boundaries table x) (none_past table x) from to i last (past_up_to_place unit x from i is_from)
      (up_to_place unit x to last is_to))

  pub all_before : (from to : ℕ) (next : Option Bound)
      → place_of next ≡ down_to (place_from unit x to) (last_before (table_boundaries table x) (place_from unit x from))
      → left (before (place_from unit x to)) next ≡ before_down_to from to (measured_boundaries table unit x)
  all_before from to next is =
      left_before (place_from unit x to) (place_from unit x from) next is
      ∙ sym (before_measured unit x (table_boundaries table x) (none_past table x) from to (place_from unit x from) (place_from unit x to)
      (before_from unit x from) (from_place_on unit x to))

-- the numbers are where they were written
pub written_in : (all : List Boundary) (from : ℕ) (before now : Columns) (count resume : ℕ) (rest : List Boundary) (places' statuses' : List ℕ)
    → places' ≡ now.places → statuses' ≡ now.statuses → AreWritten all from before now count resume rest
    → AreWritten all from before (columns places' statuses') count resume rest
written_in all from before now count resume rest places' statuses' in_places in_statuses written =
    subst (λ p. AreWritten all from before (columns p statuses') count resume rest) (sym in_places)
    (subst (λ s. AreWritten all from before (columns now.places s) count resume rest) (sym in_statuses) written)

-- what a session finds that has gone on, by what its table and its text have
pub found_before : (old now : Session) (unit : TextUnit) (place : Table → List ℕ → Option ℕ) (found : Option Bound) → HasSameText old now
    → Finds now.table unit now.state.text (place now.table now.state.text) found → Finds old.table unit old.state.text (place old.table old.state.text) found
found_before old now unit place found same finds =
    subst (λ t. Finds t unit old.state.text (place t old.state.text) found) same.table_is
    (subst (λ x. Finds now.table unit x (place now.table x) found) same.text_is finds)

-- what is left to list backwards, of a text and of a session's
abbrev pub back_in : Table → TextUnit → List ℕ → ℕ → Option Bound → List Boundary
back_in table unit x first next = left table unit x (before table unit x first) next

abbrev pub left_back : Session → TextUnit → ℕ → Option Bound → List Boundary
left_back session unit first next = back_in session.table unit session.state.text first next

-- what a session finds is found by its table in its text
pub are_listed : (old : Session) (table : Table) (unit : TextUnit) (x : List ℕ) (found first : Option Bound) → old.table ≡ table → x ≡ old.state.text
    → MatchOption first ⊤ (λ bound. found ≡ Some bound) → AreBounds old.table unit old.state.text found → AreBounds table unit x first
are_listed old table unit x found first same text kept are =
    are_kept table unit x found first kept
    (subst (λ y. AreBounds table unit y found) (sym text) (subst (λ t. AreBounds t unit old.state.text found) same are))

-- places lie at the same offsets in another unit
module _ (x : List ℕ) (one other : TextUnit) (same : (i : ℕ) → offset_of one x i ≡ offset_of other x i) where
  pub measured_alike : (boundaries : List Boundary) → measured one x boundaries ≡ measured other x boundaries
  measured_alike [] = refl
  measured_alike (boundary ∷ boundaries) =
      let first : ℕ → Boundary = λ n. record { at = n; statuses = boundary.statuses } in
      ap (λ n. first n ∷ measured one x boundaries) (same boundary.at)
      ∙ ap (λ (l : List Boundary). first (offset_of other x boundary.at) ∷ l) (measured_alike boundaries)

  pub bounds_alike : (table : Table) (found : Option Bound) → AreBounds table one x found → AreBounds table other x found
  bounds_alike table None are = tt
  bounds_alike table (Some bound) are = record {
    is_place = are.is_place;
    offset_is = are.offset_is ∙ same bound.at;
    status_is = are.status_is;
  }

-- What is listed from the first boundary within a range on is what the range has.
pub lists_past : (old : Session) (table : Table) (unit : TextUnit) (x : List ℕ) (from to i last : ℕ) (found first : Option Bound)
    (before after : Columns) (listing : Listing) → old.table ≡ table → x ≡ old.state.text → IsPlaceUpTo unit old.state.text from i
    → IsPlaceUpTo unit old.state.text to last → place_of found ≡ first_after (boundaries_of old) i → place_of first ≡ up_to last (place_of found)
    → ListsOut (left table unit x (past table unit x last) first) from before after listing
    → ListsOut (past_up_to from to (measured_boundaries old.table unit old.state.text)) from before after listing
lists_past old table unit x from to i last found first before after listing same text is_from is_to found_at first_at out =
    subst (λ bs. ListsOut bs from before after listing)
    (all_past old.table unit old.state.text from to i last first is_from is_to (first_at ∙ ap (up_to last) found_at))
    (subst (λ t. ListsOut (left t unit old.state.text (past t unit old.state.text last) first) from before after listing) (sym same)
    (subst (λ y. ListsOut (left table unit y (past table unit y last) first) from before after listing) text out))

pub lists_before : (old now : Session) (unit : TextUnit) (from to i first : ℕ) (found latest : Option Bound) (before after : Columns) (listing : Listing)
    → HasSameText old now → i ≡ place_from unit old.state.text from → first ≡ place_from unit old.state.text to
    → place_of found ≡ last_before (boundaries_of old) i → place_of latest ≡ down_to first (place_of found)
    → ListsOut (left_back now unit first latest) from before after listing
    → ListsOut (before_down_to from to (measured_boundaries old.table unit old.state.text)) from before after listing
lists_before old now unit from to i first found latest before after listing same is_from is_to found_at latest_at out =
    let there : ListsOut (left_back old unit first latest) from before after listing =
    subst (λ t. ListsOut (back_in t unit old.state.text first latest) from before after listing) same.table_is
    (subst (λ y. ListsOut (back_in now.table unit y first latest) from before after listing) same.text_is out) in
    subst (λ bs. ListsOut bs from before after listing)
    (all_before old.table unit old.state.text from to latest
    (latest_at ∙ (λ j. down_to (is_to j) (found_at j)) ∙ ap (λ k. down_to (place_from unit old.state.text to) (last_before (boundaries_of old) k)) is_from))
    (subst (λ k. ListsOut (left_back old unit k latest) from before after listing) is_to there)
