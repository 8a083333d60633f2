-- A session that leaves out suppressed boundaries, by what the session asks that it keeps.
use Rattle.std.proofs.Common.{◌≡◌, ℕ, zero, suc, ◌+◌, ◌<◌, ◌≤◌, Bool, true, false, ltb, List, Option, Some, length, sym, ap, ◌∙◌, subst}
use Rattle.std.proofs.Common.{arith}
use Rattle.std.proofs.lemmas.Bool.{cond-true, lt-ltb, not_from_false}
use Rattle.rbbi_model.specs.Boundaries.{Boundary}
use Rattle.rbbi_model.specs.Cover.{end_of, IsPlaceOf}
use Rattle.rbbi_model.specs.Tables.{Table}
use Rattle.rbbi_model.specs.Searches.{table_boundaries}
use Rattle.rbbi_model.specs.Answers.{Following, Preceding, first_after, last_before, statuses_at, moved}
use Rattle.rbbi_model.specs.Costs.{forward_cost, back_cost, last_cost, following_cost, preceding_cost, question_cost}
use Rattle.rbbi_model.proofs.Covering.{table_covers}
use Rattle.rbbi_text.specs.Steps.{RisesUpTo}
use Rattle.rbbi_session.specs.Sessions.{Session, place_reply}
use Rattle.rbbi_session.specs.Sessions as plain
use Rattle.rbbi_session.proofs.Stepping.{place_is}
use Rattle.rbbi_session.proofs.Answering.{first_up_to, none_behind}
use Rattle.rbbi_filter.specs.Abbreviations.{window_size, is_suppressed, kept}
use Rattle.rbbi_filter.specs.declared.filter.Filter.TheVariants.{Suppressing}
use Rattle.rbbi_filter.specs.Filters.{boundaries_through}
use Rattle.rbbi_filter.specs.FilterCosts.{forward_kept_cost, back_kept_cost, forward_through, back_through}
use Rattle.rbbi_filter.specs.FilterSessions.{FilterSession, boundaries_of, MovesTo}
use Rattle.rbbi_filter.specs.inner.Windows.{IsAtKept}
use Rattle.rbbi_filter.proofs.Sifting.{sift_place, sift_statuses}
use Rattle.rbbi_filter.proofs.Covering.{passes}
use Rattle.rbbi_filter.proofs.Passing.{suppressed_within, stops_first, stops_cost, goes_first, goes_cost, stops_last, stops_back_cost, goes_last}
use Rattle.rbbi_filter.proofs.Passing.{goes_back_cost}
use Rattle.rbbi_filter.proofs.Neighbours.{first_lies, prior_at}

-- the session through abbreviations
abbrev pub through : List (List ℕ) → Session → FilterSession
through list session = record { filter = Suppressing list; table = session.table; state = session.state; runs = session.runs }

-- where its cursor is at a boundary that isn't suppressed, that is one of those told
pub told_place : (list : List (List ℕ)) (session : Session) → IsAtKept list session.state → IsPlaceOf (plain.boundaries_of session) session.state.cursor →
    IsPlaceOf (boundaries_of (through list session)) session.state.cursor
told_place list session tells here =
    let x : List ℕ = session.state.text in
    sift_place (passes list x) (plain.boundaries_of session) session.state.cursor (not_from_false (is_suppressed list x session.state.cursor) tells) here

-- and has the statuses that it had
pub told_statuses : (list : List (List ℕ)) (session : Session) → IsAtKept list session.state →
    statuses_at (boundaries_of (through list session)) session.state.cursor ≡ statuses_at (plain.boundaries_of session) session.state.cursor
told_statuses list session tells =
    let x : List ℕ = session.state.text in
    sift_statuses (passes list x) (plain.boundaries_of session) session.state.cursor (not_from_false (is_suppressed list x session.state.cursor) tells)

following_is : (table : Table) (x : List ℕ) (o : ℕ) → o < length x → following_cost table x o ≡ forward_cost table x o
following_is table x o short = cond-true (ltb o (length x)) (forward_cost table x o) (last_cost table x) (lt-ltb o (length x) short)

pub preceding_is : (table : Table) (x : List ℕ) (o : ℕ) → 0 < o → o ≤ length x → preceding_cost table x o ≡ back_cost table x o
preceding_is table x zero some within = absurd (omega arith)
preceding_is table x (suc p) some within = cond-true (ltb p (length x)) (back_cost table x (suc p)) (last_cost table x) (lt-ltb p (length x) (omega arith))

-- what the kept session is while boundaries are passed over: it has the table and the text of the session through the filter
pub record IsSame (list : List (List ℕ)) (old : FilterSession) (now : Session) : Type 0 where
  pub filter_is : old.filter ≡ Suppressing list
  pub table_is : now.table ≡ old.table
  pub text_is : now.state.text ≡ old.state.text

pub same_at_first : (list : List (List ℕ)) (session : Session) (old : FilterSession) → through list session ≡ old → IsSame list old session
same_at_first list session old is = record {
  filter_is = sym (ap (λ s. s.filter) is);
  table_is = ap (λ s. s.table) is;
  text_is = ap (λ s. s.state.text) is;
}

-- what was looked at is told, or hidden
pub looked_told : (list : List (List ℕ)) (x y : List ℕ) (place : ℕ) (is : Bool) → is ≡ is_suppressed list y place → y ≡ x → is ≡ false →
    is_suppressed list x place ≡ false
looked_told list x y place is exact same tells = ap (λ z. is_suppressed list z place) (sym same) ∙ sym exact ∙ tells

pub looked_hidden : (list : List (List ℕ)) (x y : List ℕ) (place : ℕ) (is : Bool) → is ≡ is_suppressed list y place → y ≡ x → is ≡ true →
    is_suppressed list x place ≡ true
looked_hidden list x y place is exact same hides = ap (λ z. is_suppressed list z place) (sym same) ∙ sym exact ∙ hides

-- Boundaries up to this place are passed over: the same one is first past it as past the place asked, and what was read and what it
-- costs to go on from it isn't more than what it costs to go on from the place asked.
pub record IsPassing (list : List (List ℕ)) (old : FilterSession) (o : ℕ) (now : Session) (from start steps : ℕ) : Type 0 where
  pub same : IsSame list old now
  pub within : from < length old.state.text
  pub first : first_after (kept list old.state.text (table_boundaries old.table old.state.text)) o
      ≡ first_after (kept list old.state.text (table_boundaries old.table old.state.text)) from
  pub more : start ≤ steps
  pub paid : steps + forward_kept_cost old.table list old.state.text from ≤ start + forward_kept_cost old.table list old.state.text o

module _ (list : List (List ℕ)) (old : FilterSession) (o : ℕ) (now new : Session) (from start steps : ℕ)
    (passing : IsPassing list old o now from start steps) where
  bounds_same : plain.boundaries_of now ≡ table_boundaries old.table old.state.text
  bounds_same = ap (λ t. table_boundaries t now.state.text) passing.same.table_is ∙ ap (table_boundaries old.table) passing.same.text_is

  pub first_is : (place : Option ℕ) → plain.Answers now (Following from) (place_reply place) new →
      place ≡ first_after (table_boundaries old.table old.state.text) from
  first_is place answers =
      place_is place (first_after (plain.boundaries_of now) from) (end_of (plain.boundaries_of now)) answers.replied
      ∙ ap (λ bs. first_after bs from) bounds_same

  -- it lies within the text
  pub found_within : (place : ℕ) → plain.Answers now (Following from) (place_reply (Some place)) new → place ≤ length old.state.text
  found_within place answers =
      let bs : List Boundary = table_boundaries old.table old.state.text in
      first_up_to (λ p. ltb from p) bs place (length old.state.text) (none_behind (length old.state.text) bs (table_covers old.table old.state.text))
      (sym (first_is (Some place) answers))

  pub moved_there : (place : ℕ) → plain.Answers now (Following from) (place_reply (Some place)) new
      → new.state ≡ record { text = old.state.text; cursor = place }
  moved_there place answers =
      answers.moved.state_is
      ∙ ap (λ m. record { text = now.state.text; cursor = (moved m (end_of (plain.boundaries_of now))).cursor })
      (ap (λ bs. first_after bs from) bounds_same ∙ sym (first_is (Some place) answers))
      ∙ ap (λ x. record { text = x; cursor = place }) passing.same.text_is

  pub still_same : (place : ℕ) → plain.Answers now (Following from) (place_reply (Some place)) new → IsSame list old new
  still_same place answers = record {
    filter_is = passing.same.filter_is;
    table_is = answers.moved.table_is ∙ passing.same.table_is;
    text_is = ap (λ s. s.text) (moved_there place answers);
  }

  cost_here : question_cost now.table now.state.text now.state.cursor (Following from) ≡ forward_cost old.table old.state.text from
  cost_here =
      ap (λ t. following_cost t now.state.text from) passing.same.table_is
      ∙ ap (λ x. following_cost old.table x from) passing.same.text_is
      ∙ following_is old.table old.state.text from passing.within

  module _ (place middle after : ℕ) (answers : plain.Answers now (Following from) (place_reply (Some place)) new)
      (asked : RisesUpTo (question_cost now.table now.state.text now.state.cursor (Following from)) steps middle)
      (looked : RisesUpTo window_size middle after) where
    -- a boundary that isn't suppressed ends the search
    pub passing_stops : is_suppressed list old.state.text place ≡ false →
        (first_after (boundaries_of old) o ≡ Some place) × MovesTo old place (through list new)
        × RisesUpTo (forward_through old.filter old.table old.state.text o) start after
    passing_stops tells =
        let x : List ℕ = old.state.text in
        let found = sym (first_is (Some place) answers) in
        let cost = stops_cost old.table list x from place found tells in (
          ap (λ f. first_after (boundaries_through f old.table x) o) passing.same.filter_is ∙ passing.first ∙ stops_first old.table list x from place
              found tells,
          record {
            filter_is = sym passing.same.filter_is;
            table_is = answers.moved.table_is ∙ passing.same.table_is;
            state_is = moved_there place answers;
          },
          subst (λ f. RisesUpTo (forward_through f old.table old.state.text o) start after) (sym passing.same.filter_is) (record {
            more = omega (arith, passing.more, asked.more, looked.more);
            cost = omega (arith, passing.paid, asked.cost, looked.cost, cost_here, cost);
          }),
        )

    -- from one that is, it goes on
    pub passing_goes : is_suppressed list old.state.text place ≡ true → IsPassing list old o new place start after × (from < place)
    passing_goes hides =
        let x : List ℕ = old.state.text in
        let found = sym (first_is (Some place) answers) in
        let cost = goes_cost old.table list x from place found hides in (
          record {
            same = still_same place answers;
            within = (suppressed_within old.table list x place hides).1;
            first = passing.first ∙ goes_first old.table list x from place found hides;
            more = omega (arith, passing.more, asked.more, looked.more);
            paid = omega (arith, passing.paid, asked.cost, looked.cost, cost_here, cost);
          },
          first_lies (table_boundaries old.table x) from place found,
        )

-- the same backwards
pub record IsPassingBack (list : List (List ℕ)) (old : FilterSession) (o : ℕ) (now : Session) (from start steps : ℕ) : Type 0 where
  pub same : IsSame list old now
  pub some : 0 < from
  pub within : from ≤ length old.state.text
  pub last : last_before (kept list old.state.text (table_boundaries old.table old.state.text)) o
      ≡ last_before (kept list old.state.text (table_boundaries old.table old.state.text)) from
  pub more : start ≤ steps
  pub paid : steps + back_kept_cost old.table list old.state.text from ≤ start + back_kept_cost old.table list old.state.text o

module _ (list : List (List ℕ)) (old : FilterSession) (o : ℕ) (now new : Session) (from start steps : ℕ)
    (passing : IsPassingBack list old o now from start steps) where
  back_same : plain.boundaries_of now ≡ table_boundaries old.table old.state.text
  back_same = ap (λ t. table_boundaries t now.state.text) passing.same.table_is ∙ ap (table_boundaries old.table) passing.same.text_is

  pub last_is : (place : Option ℕ) → plain.Answers now (Preceding from) (place_reply place) new →
      place ≡ last_before (table_boundaries old.table old.state.text) from
  last_is place answers = place_is place (last_before (plain.boundaries_of now) from) 0 answers.replied ∙ ap (λ bs. last_before bs from) back_same

  pub back_there : (place : ℕ) → plain.Answers now (Preceding from) (place_reply (Some place)) new
      → new.state ≡ record { text = old.state.text; cursor = place }
  back_there place answers =
      answers.moved.state_is
      ∙ ap (λ m. record { text = now.state.text; cursor = (moved m 0).cursor })
      (ap (λ bs. last_before bs from) back_same ∙ sym (last_is (Some place) answers))
      ∙ ap (λ x. record { text = x; cursor = place }) passing.same.text_is

  back_cost_here : question_cost now.table now.state.text now.state.cursor (Preceding from) ≡ back_cost old.table old.state.text from
  back_cost_here =
      ap (λ t. preceding_cost t now.state.text from) passing.same.table_is
      ∙ ap (λ x. preceding_cost old.table x from) passing.same.text_is
      ∙ preceding_is old.table old.state.text from passing.some passing.within

  module _ (place middle after : ℕ) (answers : plain.Answers now (Preceding from) (place_reply (Some place)) new)
      (asked : RisesUpTo (question_cost now.table now.state.text now.state.cursor (Preceding from)) steps middle)
      (looked : RisesUpTo window_size middle after) where
    pub back_stops : is_suppressed list old.state.text place ≡ false →
        (last_before (boundaries_of old) o ≡ Some place) × MovesTo old place (through list new)
        × RisesUpTo (back_through old.filter old.table old.state.text o) start after
    back_stops tells =
        let x : List ℕ = old.state.text in
        let found = sym (last_is (Some place) answers) in
        let cost = stops_back_cost old.table list x from place found tells in (
          ap (λ f. last_before (boundaries_through f old.table x) o) passing.same.filter_is ∙ passing.last ∙ stops_last old.table list x from place found tells,
          record {
            filter_is = sym passing.same.filter_is;
            table_is = answers.moved.table_is ∙ passing.same.table_is;
            state_is = back_there place answers;
          },
          subst (λ f. RisesUpTo (back_through f old.table old.state.text o) start after) (sym passing.same.filter_is) (record {
            more = omega (arith, passing.more, asked.more, looked.more);
            cost = omega (arith, passing.paid, asked.cost, looked.cost, back_cost_here, cost);
          }),
        )

    pub back_goes : is_suppressed list old.state.text place ≡ true → IsPassingBack list old o new place start after × (place < from)
    back_goes hides =
        let x : List ℕ = old.state.text in
        let found = sym (last_is (Some place) answers) in
        let lies = suppressed_within old.table list x place hides in
        let cost = goes_back_cost old.table list x from place found hides in (
          record {
            same = record {
              filter_is = passing.same.filter_is;
              table_is = answers.moved.table_is ∙ passing.same.table_is;
              text_is = ap (λ s. s.text) (back_there place answers);
            };
            some = lies.0;
            within = omega (arith, lies.1);
            last = passing.last ∙ goes_last old.table list x from place found hides;
            more = omega (arith, passing.more, asked.more, looked.more);
            paid = omega (arith, passing.paid, asked.cost, looked.cost, back_cost_here, cost);
          },
          (prior_at (table_boundaries old.table x) from place (table_covers old.table x).rise found).short,
        )
