-- Boundaries that were listed one by one, what was asked for them, and what that costs.
use Rattle.std.proofs.Common.{◌≡◌, ℕ, ◌+◌, ◌-◌, ◌<◌, ◌≤◌, List, [], ◌∷◌, ◌++◌, map, Option, Some, None, sym, refl, ap, ◌∙◌}
use Rattle.std.proofs.Common.{Result, Ok, Err, subst, append_assoc, append-nil, arith}
use Rattle.std.specs.Prelude.{unwrap_or}
use Rattle.std.specs.List.{AllByRecursion}
use Rattle.std.proofs.lemmas.List.{map-append}
use Rattle.std.proofs.lemmas.List.Sums.{sum_by-append}
use Rattle.std.proofs.lemmas.Grind.{flat_map-append}
use Rattle.rbbi_model.specs.Lists.{IsRising}
use Rattle.rbbi_model.specs.Boundaries.{Boundary}
use Rattle.rbbi_model.specs.Cover.{places, end_of, BeginAtZero, IsPlaceOf}
use Rattle.rbbi_model.specs.Answers.{Question, First, Next, IsBoundary, Breaks, Place, first_after, first_from, statuses_at}
use Rattle.rbbi_model.specs.Scripts.{Ask}
use Rattle.rbbi_model.specs.Lines.{boundary_line, boundary_lines}
use Rattle.rbbi_text.specs.Appending.{AppendsFront}
use Rattle.rbbi_text.specs.Steps.{RisesUpTo}
use Rattle.rbbi_text.proofs.Appended.{front_first, front_later}
use Rattle.rbbi_session.specs.Sessions.{place_reply}
use Rattle.rbbi_session.specs.Walks.{View, kind_of, reported, reply_to, nexts_cost, IsAsked, AreAsked, Cover, ListsArePaid}
use Rattle.rbbi_session.proofs.Places.{statuses_here}
use Rattle.rbbi_session.proofs.Rises.{rises_before, rises_after, rising_right, from_a_place}
use Rattle.rbbi_session.proofs.Answering.{none_behind}
use Rattle.rbbi_session.proofs.Stepping.{StandsBefore, place_of, place_is, first_is_next, stands_next, moved_cursor, left_of, falls, later_within}
use Rattle.rbbi_script.specs.Reading.{IsPaid, Lists, asked_by_listing}
use Rattle.rbbi_script.specs.inner.Reading.{IsSameText, AsksNexts, ListsNexts}

module _ {A Setting : Type 0} (view : View A Setting) where
  -- these were asked, and then one more
  asked_more : (first : List Question) (question : Question) (old now new : A) (before middle after : ℕ) → AreAsked view first old now before middle →
      IsAsked view now question new middle after → AreAsked view (first ++ question ∷ []) old new before after
  asked_more [] question old now new before middle after none one =
      (new, after, subst (λ s. IsAsked view s question new before after) none.0 (subst (λ n. IsAsked view now question new n after) none.1 one), (refl, refl))
  asked_more (q ∷ first) question old now new before middle after are one =
      (are.0, are.1, are.2, asked_more first question are.0 now new are.1 middle after are.3 one)

  same_bounds : (old now : A) → IsSameText view old now → reported view now ≡ reported view old
  same_bounds old now same =
      ap (λ s. (view.kind s).boundaries (view.state now).text) same.same ∙ ap (λ x. (kind_of view old).boundaries x) same.text_is

  same_then : (old now new : A) (question : Question) (before after : ℕ) → IsSameText view old now → IsAsked view now question new before after →
      IsSameText view old new
  same_then old now new question before after same asked =
      record { same = asked.same ∙ same.same; text_is = ap (λ s. s.text) asked.state_is ∙ same.text_is }

  -- the cost of a question depends on the setting, the text and the cursor
  same_cost : (old now : A) (cursor : ℕ) (question : Question) → IsSameText view old now → (view.state now).cursor ≡ cursor →
      (kind_of view now).cost (view.state now) question ≡ (kind_of view old).cost (record { text = (view.state old).text; cursor = cursor }) question
  same_cost old now cursor question same at =
      ap (λ s. (view.kind s).cost (view.state now) question) same.same
      ∙ ap (λ x. (kind_of view old).cost (record { text = x; cursor = (view.state now).cursor }) question) same.text_is
      ∙ ap (λ c. (kind_of view old).cost (record { text = (view.state old).text; cursor = c }) question) at

-- what it costs to go on from these boundaries of the session's text
abbrev pub cost_of_nexts : {A Setting : Type 0} → View A Setting → A → List Boundary → ℕ
cost_of_nexts view session boundaries = nexts_cost (kind_of view session) (view.state session).text boundaries

nexts_parts : {A Setting : Type 0} (view : View A Setting) (session : A) (done rest : List Boundary) →
    cost_of_nexts view session (done ++ rest) ≡ cost_of_nexts view session done + cost_of_nexts view session rest
nexts_parts view session done rest =
    sum_by-append (λ (b : Boundary). (kind_of view session).cost (record { text = (view.state session).text; cursor = b.at }) Next) done rest

-- The lines of the first boundaries were appended, the session stands at the next one, if there is one, and going on from the first ones
-- was asked and paid.
pub record IsListed {A Setting : Type 0} (view : View A Setting) (old now : A) (place : Option ℕ) (before after : List ℕ) (start steps : ℕ) : Type 0 where
  pub same : IsSameText view old now
  pub done : List Boundary
  pub rest : List Boundary
  pub whole : reported view old ≡ done ++ rest
  pub stands : StandsBefore (view.state now).cursor place rest
  pub appended : after ≡ before ++ boundary_lines done
  pub paid : RisesUpTo (cost_of_nexts view old done) start steps
  pub asked : AsksNexts view done old now start steps

pub listed_start : {A Setting : Type 0} (view : View A Setting) → Cover view → (old now : A) (r : ℕ) (before : List ℕ) (start : ℕ) →
    Place r ≡ reply_to view old First → ((at : ℕ) → IsAsked view old First now at at) → IsListed view old now (Some r) before before start start
listed_start view cover old now r before start replied asked =
    let zero_is : r ≡ 0 = cc (replied) in
    let first = asked start in
    record {
      same = record { same = first.same; text_is = ap (λ s. s.text) first.state_is };
      done = [];
      rest = reported view old;
      whole = refl;
      stands = begins (reported view old) (cover (view.setting old) (view.state old).text).begin zero_is (ap (λ s. s.cursor) first.state_is ∙ sym zero_is);
      appended = sym (append-nil before);
      paid = record { more = omega arith; cost = omega arith };
      asked = (now, start, first, (refl, refl));
    }
  where
    begins : (bs : List Boundary) → BeginAtZero bs → r ≡ 0 → (view.state now).cursor ≡ r → StandsBefore (view.state now).cursor (Some r) bs
    begins [] begin zero_is cursor = absurd begin
    begins (b ∷ bs) begin zero_is cursor = (begin ∙ sym zero_is, cursor)

-- where the session stands: the boundary at its cursor, and those behind it
record IsAt {A Setting : Type 0} (view : View A Setting) (old now : A) (at : ℕ) (done : List Boundary) : Type 0 where
  here : Boundary
  later : List Boundary
  whole : reported view old ≡ done ++ here ∷ later
  rising : IsRising (places (done ++ here ∷ later))
  bounds : reported view now ≡ done ++ here ∷ later
  place : here.at ≡ at
  cursor : (view.state now).cursor ≡ here.at

is_at : {A Setting : Type 0} (view : View A Setting) → Cover view → (old now : A) (at : ℕ) → IsSameText view old now → (done rest : List Boundary) →
    reported view old ≡ done ++ rest → StandsBefore (view.state now).cursor (Some at) rest → IsAt view old now at done
is_at view cover old now at same done [] whole stands = absurd stands
is_at view cover old now at same done (b ∷ rest) whole stands = record {
  here = b;
  later = rest;
  whole = whole;
  rising = subst (λ bs. IsRising (places bs)) whole (cover (view.setting old) (view.state old).text).rise;
  bounds = same_bounds view old now same ∙ whole;
  place = stands.0;
  cursor = stands.1 ∙ sym stands.0;
}

-- how many units the session's text has
abbrev pub units_of : {A Setting : Type 0} → View A Setting → A → ℕ
units_of view session = (kind_of view session).units (view.state session).text

module _ {A Setting : Type 0} (view : View A Setting) (cover : Cover view) (old now : A) (at : ℕ) (before reply : List ℕ) (start steps : ℕ)
    (listed : IsListed view old now (Some at) before reply start steps) (list : List ℕ)
    (replied : list ≡ statuses_at (reported view now) (view.state now).cursor) where
  at_it : IsAt view old now at listed.done
  at_it = is_at view cover old now at listed.same listed.done listed.rest listed.whole listed.stands

  line_is : boundary_line (record { at = at; statuses = list }) ≡ boundary_line at_it.here
  line_is =
      ap (λ p. boundary_line (record { at = p; statuses = list })) (sym at_it.place)
      ∙ ap (λ l. boundary_line (record { at = at_it.here.at; statuses = l }))
      (replied
      ∙ ap (statuses_at (reported view now)) at_it.cursor
      ∙ ap (λ bs. statuses_at bs at_it.here.at) at_it.bounds
      ∙ statuses_here listed.done at_it.here at_it.later (rises_before listed.done at_it.here at_it.later at_it.rising))

  cost_is : (kind_of view now).cost (view.state now) Next ≡ cost_of_nexts view old (at_it.here ∷ [])
  cost_is =
      let one : cost_of_nexts view old (at_it.here ∷ [])
      ≡ (kind_of view old).cost (record { text = (view.state old).text; cursor = at_it.here.at }) Next = omega arith in
      same_cost view old now at_it.here.at Next listed.same at_it.cursor ∙ sym one

  -- one boundary more: its line was appended, and the session has gone to the next
  pub listed_further : (place : Option ℕ) (new : A) (after : List ℕ) (end : ℕ) → after ≡ reply ++ boundary_line (record { at = at; statuses = list }) →
      place_reply place ≡ reply_to view now Next → IsAsked view now Next new steps end →
      IsListed view old new place before after start end × (left_of (units_of view old) place < units_of view old + 1 - at)
  listed_further place new after end more answered asked =
      let b : Boundary = at_it.here in
      let n : ℕ = units_of view old in
      let found : place ≡ first_after (reported view now) (view.state now).cursor =
      place_is place (first_after (reported view now) (view.state now).cursor) (view.state now).cursor answered in
      let next : place ≡ place_of at_it.later =
      found
      ∙ ap (first_after (reported view now)) at_it.cursor
      ∙ ap (λ bs. first_after bs at_it.here.at) at_it.bounds
      ∙ first_is_next listed.done b at_it.later at_it.rising in
      let within : AllByRecursion (λ c. c.at ≤ units_of view old) (at_it.here ∷ at_it.later) =
      later_within listed.done (b ∷ at_it.later) n
      (subst (λ bs. AllByRecursion (λ c. c.at ≤ units_of view old) bs) at_it.whole
      (none_behind n (reported view old) (cover (view.setting old) (view.state old).text))) in
      let parts = nexts_parts view old listed.done (b ∷ []) in
      let low : at_it.here.at ≤ units_of view old = within.0 in (
        record {
          same = same_then view old now new Next steps end listed.same asked;
          done = listed.done ++ b ∷ [];
          rest = at_it.later;
          whole = at_it.whole ∙ sym (append_assoc listed.done (b ∷ []) at_it.later);
          stands = stands_next (view.state new).cursor (view.state now).cursor at_it.later place next
              (ap (λ s. s.cursor) asked.state_is ∙ moved_cursor (first_after (reported view now) (view.state now).cursor) (view.state now).cursor
              ∙ ap (λ p. unwrap_or p (view.state now).cursor) (sym found));
          appended =
              more
              ∙ ap (λ l. reply ++ l) line_is
              ∙ ap (λ m. m ++ boundary_line b) listed.appended
              ∙ append_assoc before (boundary_lines listed.done) (boundary_line b)
              ∙ ap (λ l. before ++ (boundary_lines listed.done ++ l)) (sym (append-nil (boundary_line b)))
              ∙ ap (λ l. before ++ l) (sym (flat_map-append boundary_line listed.done (b ∷ [])));
          paid = record {
            more = omega (arith, listed.paid.more, asked.paid.more);
            cost = omega (arith, listed.paid.cost, asked.paid.cost, cost_is, parts);
          };
          asked = subst (λ qs. AreAsked view (First ∷ qs) old new start end) (sym (map-append (λ (c : Boundary). Next) listed.done (b ∷ [])))
              (asked_more view (First ∷ map (λ (c : Boundary). Next) listed.done) Next old now new start steps end listed.asked asked);
        },
        subst (λ p. left_of (units_of view old) p < units_of view old + 1 - at) (sym next)
            (subst (λ p. left_of (units_of view old) (place_of at_it.later) < units_of view old + 1 - p) at_it.place
            (falls n at_it.here.at at_it.later low
            (rises_after at_it.here at_it.later (rising_right listed.done (at_it.here ∷ at_it.later) at_it.rising)))),
      )

  pub listed_broken : (after : List ℕ) → AppendsFront reply (boundary_line (record { at = at; statuses = list })) after →
      AppendsFront before (boundary_lines (reported view old)) after
  listed_broken after more =
      front_later before (boundary_lines listed.done) (boundary_line at_it.here ++ boundary_lines at_it.later) (boundary_lines (reported view old)) reply after
      listed.appended
      (ap boundary_lines at_it.whole ∙ flat_map-append boundary_line listed.done (at_it.here ∷ at_it.later))
      (front_first reply (boundary_line at_it.here) (boundary_lines at_it.later) (boundary_line at_it.here ++ boundary_lines at_it.later) after refl
      (subst (λ l. AppendsFront reply l after) line_is more))

module _ {A Setting : Type 0} (view : View A Setting) (old now : A) where
  -- what was read so far isn't more than what all cost
  pub listed_paid : (place : Option ℕ) (before after : List ℕ) (start steps : ℕ) → IsListed view old now place before after start steps →
      RisesUpTo (cost_of_nexts view old (reported view old)) start steps
  listed_paid place before after start steps listed =
      let all : cost_of_nexts view old (reported view old) ≡ cost_of_nexts view old listed.done + cost_of_nexts view old listed.rest =
      ap (cost_of_nexts view old) listed.whole ∙ nexts_parts view old listed.done listed.rest in
      record { more = listed.paid.more; cost = omega (arith, listed.paid.cost, all) }

module _ {A Setting : Type 0} (view : View A Setting) (cover : Cover view) (old now new : A) (cursor start middle steps : ℕ)
    (same : IsSameText view old now) (at : cursor ≡ (view.state old).cursor) (here : IsPlaceOf (reported view old) cursor)
    (asked : IsAsked view now (IsBoundary cursor) new middle steps) where
  -- asked whether the boundary is one at which the cursor stood, the session goes back to it
  pub goes_back : view.state new ≡ view.state old
  goes_back =
      let bs : List Boundary = reported view old in
      let from : first_from (reported view old) cursor ≡ Some cursor =
      from_a_place bs cursor (cover (view.setting old) (view.state old).text).rise here in
      let back : unwrap_or (first_from (reported view now) cursor) (end_of (reported view now)) ≡ (view.state old).cursor =
      ap (λ bs. unwrap_or (first_from bs cursor) (end_of bs)) (same_bounds view old now same)
      ∙ ap (λ p. unwrap_or p (end_of (reported view old))) from ∙ at in
      asked.state_is ∙ ap (λ p. record { text = (view.state now).text; cursor = p }) back
      ∙ ap (λ x. record { text = x; cursor = (view.state old).cursor }) same.text_is

  -- all that was read isn't more than what asking for all boundaries costs
  pub breaks_paid : ListsArePaid view → RisesUpTo (cost_of_nexts view old (reported view old)) start middle → IsPaid view old (Ask Breaks) start steps
  breaks_paid pays paid =
      let there : IsPlaceOf (reported view old) (view.state old).cursor = subst (λ p. IsPlaceOf (reported view old) p) at here in
      let all = pays (view.setting old) (view.state old) (view.state now).cursor there in
      let one = same_cost view old now (view.state now).cursor (IsBoundary cursor) same refl
      ∙ ap (λ p. (kind_of view old).cost (record { text = (view.state old).text; cursor = (view.state now).cursor }) (IsBoundary p)) at in
      record {
        more = omega (arith, paid.more, asked.paid.more);
        cost = omega (arith, paid.cost, asked.paid.cost, all, one);
      }

  -- the first ones were listed, and then the cursor's was asked for
  nexts_asked : (bs : List Boundary) → AsksNexts view bs old now start middle →
      AreAsked view (asked_by_listing (view.state old).cursor bs) old new start steps
  nexts_asked bs nexts =
      subst (λ p. AreAsked view (asked_by_listing p bs) old new start steps) at
      (asked_more view (First ∷ map (λ (b : Boundary). Next) bs) (IsBoundary cursor) old now new start middle steps nexts asked)

  pub lists : {T E : Type 0} (r : Result T E) → ListsNexts view old r now start middle → Lists view old r new start steps
  lists (Ok done) nexts = nexts_asked (reported view old) nexts
  lists (Err error) nexts = (nexts.0, nexts.1, nexts.2, nexts_asked nexts.0 nexts.3)
