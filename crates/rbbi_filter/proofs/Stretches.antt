-- Many suppressed boundaries in a row: what is known of a stretch on the way through it, and on the way back past stretches.
use Rattle.std.proofs.Common.{◌≡◌, ℕ, ◌+◌, ◌-◌, ◌<◌, ◌≤◌, ◌⊎◌, inl, inr, ⊎_elim, Bool, true, false, ◌&&◌, ltb, leb, List, [], ◌∷◌, ◌++◌, Option, Some}
use Rattle.std.proofs.Common.{None, length}
use Rattle.std.proofs.Common.{filter, drop, sym, refl, ap, ◌∙◌, subst, arith}
use Rattle.std.specs.Prelude.{sum_by}
use Rattle.std.specs.List.{AllByRecursion}
use Rattle.std.proofs.lemmas.Bool.{cases_Bool, cond-true, cond-false, lt-ltb, le-ltb, le-leb, lt-leb, leb-true, and_from, and_left, and_parts}
use Rattle.std.proofs.lemmas.List.Elements.{filter-append}
use Rattle.std.proofs.lemmas.List.{length-take}
use Rattle.std.proofs.lemmas.List.Sums.{sum_by-append, sum_by-cons}
use Rattle.rbbi_model.specs.Words.{IsText}
use Rattle.rbbi_model.specs.Lists.{IsRising}
use Rattle.rbbi_model.specs.Boundaries.{Boundary}
use Rattle.rbbi_model.specs.Cover.{places}
use Rattle.rbbi_model.specs.Tables.{Table}
use Rattle.rbbi_model.specs.Searches.{table_boundaries}
use Rattle.rbbi_model.specs.Answers.{last_place, first_after, last_before}
use Rattle.rbbi_model.specs.Costs.{characters_read, back_cost}
use Rattle.rbbi_model.proofs.Covering.{table_covers}
use Rattle.rbbi_model.proofs.Texts.{text_take, text_drop}
use Rattle.rbbi_cache.proofs.Reached.{rises_after, rising_right}
use Rattle.rbbi_session.specs.Scans.{boundary_at, IsBoundaryWith}
use Rattle.rbbi_session.specs.declared.boundary.Boundary.{Boundary as Here}
use Rattle.rbbi_session.specs.Sessions.{Session}
use Rattle.rbbi_session.specs.Sessions as plain
use Rattle.rbbi_session.specs.Stretches.{stretch_cost, BeginsStretch}
use Rattle.rbbi_session.proofs.Places.{all_through, last_skips}
use Rattle.rbbi_session.proofs.Stretching.{apart}
use Rattle.rbbi_filter.specs.Abbreviations.{window_size, window, is_suppressed, kept, ends}
use Rattle.rbbi_text.specs.Steps.{RisesUpTo}
use Rattle.rbbi_filter.specs.Filters.{boundaries_through}
use Rattle.rbbi_filter.specs.FilterCosts.{back_kept_cost, back_through}
use Rattle.rbbi_filter.specs.FilterSessions.{FilterSession, boundaries_of, MovesTo}
use Rattle.rbbi_filter.specs.inner.Stretches.{IsLastReported, GoesBackTo}
use Rattle.rbbi_filter.proofs.Neighbours.{first_lies, last_append}
use Rattle.rbbi_filter.proofs.Filtering.{through, IsPassingBack}
use Rattle.rbbi_filter.proofs.Passing.{stops_last, stops_back_cost, goes_last, goes_back_cost}
use Rattle.rbbi_filter.proofs.Windows.{told_by_window}

-- the characters before a place are at most 64, and those of a text
pub window_text : (x : List ℕ) (at : ℕ) → IsText x → IsText (window x at)
window_text x at text = text_take (at - (at - 64)) (drop (at - 64) x) (text_drop (at - 64) x text)

window_short : (x : List ℕ) (at : ℕ) → length (window x at) ≤ 64
window_short x at = omega (arith, length-take (at - (at - 64)) (drop (at - 64) x))

-- the characters before a place may be asked about, and the answer is whether the place is suppressed
module _ (x : List ℕ) (text : IsText x) (at : ℕ) (w : List ℕ) (w_is : w ≡ window x at) where
  pub are_few : length w ≤ 64
  are_few = subst (λ v. length v ≤ 64) (sym w_is) (window_short x at)

  pub of_text : IsText w
  of_text = subst IsText (sym w_is) (window_text x at text)

  pub answer_is : (list : List (List ℕ)) → 0 < at → at < length x → (is : Bool) → is ≡ ends list w → is ≡ is_suppressed list x at
  answer_is list some within is given = given ∙ ap (ends list) w_is ∙ told_by_window list x at some within

-- fewer are kept by a test that asks more, and one fewer where it leaves out one
sum_less : (f : Boundary → ℕ) (more less : Boundary → Bool) → ((b : Boundary) → more b ≡ true → less b ≡ true) → (bs : List Boundary) →
    sum_by f (filter more bs) ≤ sum_by f (filter less bs)
sum_less f more less implies [] = omega arith
sum_less f more less implies (b ∷ bs) =
    let rest = sum_less f more less implies bs in
    let sum : (test : Boundary → Bool) → (test b ≡ true → sum_by f (filter test (b ∷ bs)) ≡ f b + sum_by f (filter test bs))
    × (test b ≡ false → sum_by f (filter test (b ∷ bs)) ≡ sum_by f (filter test bs)) =
    λ test. (
      λ holds. ap (sum_by f) (cond-true (test b) (b ∷ filter test bs) (filter test bs) holds) ∙ sum_by-cons f b (filter test bs),
      λ fails. ap (sum_by f) (cond-false (test b) (b ∷ filter test bs) (filter test bs) fails),
    ) in
    ⊎_elim
    (λ holds. omega (arith, rest, (sum more).0 holds, (sum less).0 (implies b holds)))
    (λ fails. ⊎_elim
    (λ has. omega (arith, rest, (sum more).1 fails, (sum less).0 has))
    (λ none. omega (arith, rest, (sum more).1 fails, (sum less).1 none))
    (cases_Bool (less b)))
    (cases_Bool (more b))

-- A boundary of the text, and the first one past it.
module _ (table : Table) (x : List ℕ) (at number next : ℕ) (here : IsBoundaryWith table x at number)
    (first : first_after (table_boundaries table x) at ≡ Some next) (past : at < next) where
  rising : IsRising (places (here.before ++ boundary_at table at number ∷ here.after))
  rising = subst (λ bs. IsRising (places bs)) here.whole (table_covers table x).rise

  behind : AllByRecursion (λ b. next ≤ b.at) here.after
  behind = from here.before here.after (rises_after (boundary_at table at number) here.after (rising_right here.before
      (boundary_at table at number ∷ here.after)
      rising)) (subst (λ bs. AllByRecursion (λ b. (b.at ≤ at) ⊎ (next ≤ b.at)) bs) here.whole (apart (table_boundaries table x) at next
      (table_covers table x).rise first))
    where
      later : (bs : List Boundary) → AllByRecursion (λ b. at < b.at) bs → AllByRecursion (λ b. (b.at ≤ at) ⊎ (next ≤ b.at)) bs →
          AllByRecursion (λ b. next ≤ b.at) bs
      later [] up each = tt
      later (b ∷ bs) up each = (⊎_elim (λ low. absurd (omega (arith, low, up.0))) (λ far. far) each.0, later bs up.1 each.1)

      from : (before after : List Boundary) → AllByRecursion (λ b. at < b.at) after →
          AllByRecursion (λ b. (b.at ≤ at) ⊎ (next ≤ b.at)) (before ++ boundary_at table at number ∷ after) → AllByRecursion (λ b. next ≤ b.at) after
      from [] after up each = later after up each.1
      from (b ∷ before) after up each = from before after up each.1

  -- it is the last one before each place up to the next
  pub last_is_here : (o : ℕ) → at < o → o ≤ next → last_before (table_boundaries table x) o ≡ Some at
  last_is_here o short up =
      ap (λ bs. last_before bs o) here.whole
      ∙ last_append (λ n. ltb n o) None here.before (boundary_at table at number ∷ here.after)
      ∙ ap (λ m. last_place (λ n. ltb n o) m here.after)
      (cond-true (ltb at o) (Some at) (last_place (λ n. ltb n o) None here.before) (lt-ltb at o short))
      ∙ last_skips (λ n. ltb n o) (Some at) here.after
      (all_through (λ b. next ≤ b.at) (λ b. ltb b.at o ≡ false) (λ b far. le-ltb b.at o (omega (arith, far, up))) here.after behind)

  -- what the searches from it on read, and those from the next one on
  pub stretch_goes_on : (o : ℕ) → at < o → characters_read table x at + stretch_cost table x next o ≤ stretch_cost table x at o
  stretch_goes_on o short =
      let f : Boundary → ℕ = λ b. characters_read table x b.at in
      let these : Boundary → Bool = λ b. leb at b.at && ltb b.at o in
      let those : Boundary → Bool = λ b. leb next b.at && ltb b.at o in
      let b : Boundary = boundary_at table at number in
      let parts : (test : Boundary → Bool) → sum_by f (filter test (table_boundaries table x))
      ≡ sum_by f (filter test here.before) + sum_by f (filter test (b ∷ here.after)) =
      λ test. ap (λ bs. sum_by f (filter test bs)) here.whole
      ∙ ap (sum_by f) (filter-append test here.before (b ∷ here.after))
      ∙ sum_by-append f (filter test here.before) (filter test (b ∷ here.after)) in
      let has : sum_by f (filter these (b ∷ here.after)) ≡ f b + sum_by f (filter these here.after) =
      ap (sum_by f) (cond-true (these b) (b ∷ filter these here.after) (filter these here.after)
      (and_from (leb at at) (ltb at o) (le-leb at at (omega arith)) (lt-ltb at o short)))
      ∙ sum_by-cons f b (filter these here.after) in
      let none : sum_by f (filter those (b ∷ here.after)) ≡ sum_by f (filter those here.after) =
      ap (sum_by f) (cond-false (those b) (b ∷ filter those here.after) (filter those here.after)
      (and_left (leb next at) (ltb at o) (lt-leb next at past))) in
      omega (
        arith,
        parts these,
        parts those,
        has,
        none,
        sum_less f those these implied here.before,
        sum_less f those these implied here.after,
      )
    where
      implied : (b : Boundary) → (leb next b.at && ltb b.at o) ≡ true → (leb at b.at && ltb b.at o) ≡ true
      implied b holds =
          let both = and_parts (leb next b.at) (ltb b.at o) holds in
          and_from (leb at b.at) (ltb b.at o) (le-leb at b.at (omega (arith, leb-true next b.at both.0, past))) both.1

-- What was found of the boundaries from the first one on and before one at which the way has come: the last one that isn't suppressed,
-- or, where there is none, that all are.
abbrev pub IsFound : List (List ℕ) → Table → List ℕ → ℕ → ℕ → Option Here → Type 0
IsFound list table x first at None =
    ((at ≡ first) ⊎ (is_suppressed list x first ≡ true))
    × (last_before (kept list x (table_boundaries table x)) at ≡ last_before (kept list x (table_boundaries table x)) first)
    × (back_kept_cost table list x first ≤ back_kept_cost table list x at)
IsFound list table x first at (Some last) =
    IsBoundaryWith table x last.at last.status × (is_suppressed list x last.at ≡ false)
    × (last_before (kept list x (table_boundaries table x)) at ≡ Some last.at)

-- what is found with one more: it is suppressed, or it is the last that isn't
abbrev pub IsTested : List (List ℕ) → List ℕ → Here → Option Here → Option Here → Type 0
IsTested list x here last now =
    ((is_suppressed list x here.at ≡ true) × (now ≡ last)) ⊎ ((is_suppressed list x here.at ≡ false) × (now ≡ Some here))

module _ (list : List (List ℕ)) (table : Table) (x : List ℕ) (first : ℕ) (here : Here) (is : IsBoundaryWith table x here.at here.status) (next : ℕ)
    (follows : first_after (table_boundaries table x) here.at ≡ Some next) (past : here.at < next) where
  -- before each place up to the next boundary
  found_with : (last now : Option Here) → IsFound list table x first here.at last → IsTested list x here last now → (o : ℕ) → here.at < o → o ≤ next →
      IsLastReported list table x first o now
  found_with last now found (inr tells) o short up =
      subst (IsLastReported list table x first o) (sym tells.1) (
        is,
        tells.0,
        stops_last table list x o here.at (last_is_here table x here.at here.status next is follows past o short up) tells.0,
      )
  found_with (Some last) now found (inl hides) o short up =
      subst (IsLastReported list table x first o) (sym hides.1) (
        found.0,
        found.1,
        goes_last table list x o here.at (last_is_here table x here.at here.status next is follows past o short up) hides.0 ∙ found.2,
      )
  found_with None now found (inl hides) o short up =
      let prior = last_is_here table x here.at here.status next is follows past o short up in
      subst (IsLastReported list table x first o) (sym hides.1) (
        ⊎_elim (λ same. ap (is_suppressed list x) (sym same) ∙ hides.0) (λ first_hides. first_hides) found.0,
        goes_last table list x o here.at prior hides.0 ∙ found.1,
        omega (arith, found.2, goes_back_cost table list x o here.at prior hides.0),
      )

  weaker : (now : Option Here) → IsLastReported list table x first next now → IsFound list table x first next now
  weaker None reported = (inr reported.0, reported.1, omega (arith, reported.2))
  weaker (Some last) reported = reported

  -- the way goes on to the next boundary
  pub found_next : (last now : Option Here) → IsFound list table x first here.at last → IsTested list x here last now → IsFound list table x first next now
  found_next last now found tested = weaker now (found_with last now found tested next past (omega arith))

  -- or that isn't before o, and all were found
  pub found_all : (o : ℕ) → here.at < o → o ≤ next → (last now : Option Here) → IsFound list table x first here.at last → IsTested list x here last now →
      IsLastReported list table x first o now
  found_all o short up last now found tested = found_with last now found tested o short up

-- what holds of a table, a text and a place holds of equal ones
carry : (P : Table → List ℕ → ℕ → Type 0) (t t' : Table) (y y' : List ℕ) (n n' : ℕ) → t ≡ t' → y ≡ y' → n ≡ n' → P t y n → P t' y' n'
carry P t t' y y' n n' table_is text_is place_is holds =
    subst (λ m. P t' y' m) place_is (subst (λ z. P t' z n) text_is (subst (λ u. P u y n) table_is holds))

-- A session with the table and the text of an old one has gone on from a boundary to the next.
pub record WentOn (old : Session) (here : Here) (next : ℕ) (new : Session) (before after : ℕ) : Type 0 where
  pub is : IsBoundaryWith old.table old.state.text here.at here.status
  pub follows : first_after (table_boundaries old.table old.state.text) here.at ≡ Some next
  pub past : here.at < next
  pub table_is : new.table ≡ old.table
  pub text_is : new.state.text ≡ old.state.text
  pub cursor_is : new.state.cursor ≡ next
  pub more : before ≤ after
  pub read : after ≤ before + characters_read old.table old.state.text here.at

pub went_on : (old now : Session) → now.table ≡ old.table → now.state.text ≡ old.state.text → (here : Here) → here.at ≡ now.state.cursor →
    IsBoundaryWith now.table now.state.text here.at here.status → (next : ℕ) → first_after (plain.boundaries_of now) now.state.cursor ≡ Some next →
    (new : Session) → plain.MovesTo now next new → (before after : ℕ) →
    RisesUpTo (characters_read now.table now.state.text now.state.cursor) before after → WentOn old here next new before after
went_on old now table_is text_is here at_is is next first new moved before after read =
    let follows = carry (λ t x n. first_after (table_boundaries t x) n ≡ Some next) now.table old.table now.state.text old.state.text now.state.cursor here.at
    table_is text_is (sym at_is) first in
    record {
      is = carry (λ t x n. IsBoundaryWith t x n here.status) now.table old.table now.state.text old.state.text here.at here.at table_is text_is refl is;
      follows = follows;
      past = first_lies (table_boundaries old.table old.state.text) here.at next follows;
      table_is = moved.table_is ∙ table_is;
      text_is = ap (λ s. s.text) moved.state_is ∙ text_is;
      cursor_is = ap (λ s. s.cursor) moved.state_is;
      more = read.more;
      read = carry (λ t x n. after ≤ before + characters_read t x n) now.table old.table now.state.text old.state.text now.state.cursor here.at table_is text_is
          (sym at_is) read.cost;
    }

-- Boundaries have been passed over from o to a place, a stretch begins before that, and its searches begin there.
module _ (list : List (List ℕ)) (old : Session) (o : ℕ) (now : Session) (from start steps : ℕ)
    (passing : IsPassingBack list (through list old) o now from start steps) (first : ℕ) (new : Session) (middle : ℕ)
    (begins : BeginsStretch now from first new steps middle) where
  begun_table : new.table ≡ old.table
  begun_table = begins.moved.table_is ∙ passing.same.table_is

  begun_text : new.state.text ≡ old.state.text
  begun_text = ap (λ s. s.text) begins.moved.state_is ∙ passing.same.text_is

  begun_at : new.state.cursor ≡ first
  begun_at = ap (λ s. s.cursor) begins.moved.state_is

  -- no boundary but 0 is left
  pub goes_to_start : first ≡ 0 → (place : ℕ) → place ≡ first → GoesBackTo list old o place new start middle
  goes_to_start zero place same =
      let start_is = carry (λ t x n. last_before (table_boundaries t x) from ≡ Some n) now.table old.table now.state.text old.state.text 0 place
      passing.same.table_is passing.same.text_is (sym (same ∙ zero)) (begins.start zero) in
      let tells : is_suppressed list old.state.text place ≡ false = ap (is_suppressed list old.state.text) (same ∙ zero) in
      let paid = carry (λ t x n. middle ≤ steps + back_cost t x n) now.table old.table now.state.text old.state.text from from passing.same.table_is
      passing.same.text_is refl begins.cost in
      record {
        last = passing.last ∙ stops_last old.table list old.state.text from place start_is tells;
        tells = tells;
        moved = record {
          table_is = begun_table;
          state_is = begins.moved.state_is ∙ ap (λ x. record { text = x; cursor = first }) passing.same.text_is
              ∙ ap (λ n. record { text = old.state.text; cursor = n }) (sym same);
        };
        more = omega (arith, passing.more, begins.more);
        cost = omega (arith, passing.paid, paid, stops_back_cost old.table list old.state.text from place start_is tells);
      }

  module _ (some : 0 < first) (gone : Session) (table_is : gone.table ≡ new.table) (text_is : gone.state.text ≡ new.state.text) (after : ℕ)
      (rise : middle ≤ after)
      (read : after ≤ middle + window_size + (from - 1 - new.state.cursor) + stretch_cost new.table new.state.text new.state.cursor from) where
    paid_for : after ≤ steps + back_cost old.table old.state.text from + window_size
    paid_for =
        let left = carry (λ t x n. middle + stretch_cost t x n from + (from - 1 - n) ≤ steps + back_cost t x from) now.table old.table now.state.text
        old.state.text
        first first passing.same.table_is passing.same.text_is refl (begins.left some) in
        let reads = carry (λ t x n. after ≤ middle + window_size + (from - 1 - n) + stretch_cost t x n from) new.table old.table new.state.text old.state.text
        new.state.cursor first begun_table begun_text begun_at read in
        omega (arith, left, reads)

    -- all are suppressed, and it goes on from the first
    pub goes_on : IsLastReported list new.table new.state.text new.state.cursor from None → IsPassingBack list (through list old) o gone first start after
    goes_on reported =
        let is = carry (λ t x n. IsLastReported list t x n from None) new.table old.table new.state.text old.state.text new.state.cursor first begun_table
        begun_text begun_at reported in
        let paid = paid_for in
        record {
          same = record { filter_is = refl; table_is = table_is ∙ begun_table; text_is = text_is ∙ begun_text };
          some = some;
          within = omega (arith, begins.short, passing.within);
          last = passing.last ∙ is.1;
          more = omega (arith, passing.more, begins.more, rise);
          paid = omega (arith, passing.paid, paid, is.2);
        }

-- Boundaries have been passed over, and stretches of them after that.
pub back_far : (list : List (List ℕ)) (old : FilterSession) (o : ℕ) (now : Session) (from start steps : ℕ) → IsPassingBack list old o now from start steps →
    (place : ℕ) (new : Session) (after : ℕ) → GoesBackTo list now from place new steps after →
    (last_before (boundaries_of old) o ≡ Some place) × MovesTo old place (through list new)
    × RisesUpTo (back_through old.filter old.table old.state.text o) start after
back_far list old o now from start steps passing place new after goes =
    let x : List ℕ = old.state.text in
    let last = carry (λ t y n. last_before (kept list y (table_boundaries t y)) n ≡ Some place) now.table old.table now.state.text old.state.text from from
    passing.same.table_is passing.same.text_is refl goes.last in
    let cost = carry (λ t y n. after ≤ steps + back_kept_cost t list y n) now.table old.table now.state.text old.state.text from from passing.same.table_is
    passing.same.text_is refl goes.cost in (
      ap (λ f. last_before (boundaries_through f old.table x) o) passing.same.filter_is ∙ passing.last ∙ last,
      record {
        filter_is = sym passing.same.filter_is;
        table_is = goes.moved.table_is ∙ passing.same.table_is;
        state_is = goes.moved.state_is ∙ ap (λ y. record { text = y; cursor = place }) passing.same.text_is;
      },
      subst (λ f. RisesUpTo (back_through f old.table old.state.text o) start after) (sym passing.same.filter_is) (record {
        more = omega (arith, passing.more, goes.more);
        cost = omega (arith, passing.paid, cost);
      }),
    )
