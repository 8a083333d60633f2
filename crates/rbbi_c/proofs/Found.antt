-- Boundaries that questions find, and the cursor after them.
use Rattle.std.proofs.Common.{◌≡◌, ℕ, ◌<◌, ◌≤◌, true, false, ltb, leb, cond, List, [], ◌∷◌, Option, Some, None, length}
use Rattle.std.proofs.Common.{◌+◌, sym, refl, ap, ◌∙◌, subst, ⊎_elim, arith}
use Rattle.std.specs.Prelude.{unwrap_or, slice_index, MatchOption, IsSomeAnd}
use Rattle.std.proofs.lemmas.List.Sums.{sum_by_more}
use Rattle.std.proofs.lemmas.Bool.{false≢true, cases_lt, lt-ltb, le-ltb, le-leb, lt-leb}
use Rattle.rbbi_model.specs.declared.unit.Unit.{Unit as TextUnit}
use Rattle.rbbi_model.specs.Boundaries.{Boundary}
use Rattle.rbbi_model.specs.Cover.{IsPlaceOf, end_of}
use Rattle.rbbi_model.specs.Tables.{Table}
use Rattle.rbbi_model.specs.Units.{offset_of, size_of, measured}
use Rattle.rbbi_model.specs.Searches.{table_boundaries}
use Rattle.rbbi_model.proofs.Measured.{offset_rises, rises_up_to}
use Rattle.rbbi_model.specs.UnitAnswers.{place_from}
use Rattle.rbbi_model.specs.Answers.{Question, Following, Preceding, IsBoundary, Reply, Place, Done, first_after, last_before, first_from, moved}
use Rattle.rbbi_model.proofs.Covering.{table_covers}
use Rattle.rbbi_session.specs.Sessions.{Session, boundaries_of, answer_of, Answers, place_reply, test_reply}
use Rattle.rbbi_session.specs.inner.UnitPlaces.{IsPlaceUpTo}
use Rattle.rbbi_session.proofs.Rises.{from_a_place}
use Rattle.rbbi_session.proofs.UnitCursors.{before_from}
use Rattle.rbbi_c.specs.Segments.{EndsAt}
use Rattle.rbbi_c.specs.declared.segment.Segment.{Segment}
use Rattle.rbbi_c.specs.declared.bounds.Bound.{Bound}
use Rattle.rbbi_c.specs.inner.Bounds.{HasSameText, IsBound, IsHere, AreBounds, Finds, place_of}

-- a place that is replied is the one that was found
reply_place : (r p : Option ℕ) (otherwise : ℕ) → place_reply r ≡ (moved p otherwise).reply → r ≡ p
reply_place None None otherwise is = refl
reply_place None (Some p) otherwise is = absurd (differs p is)
  where
    differs : (p : ℕ) → Done ≡ Place p → ⊥
    differs p is = grind arith
reply_place (Some r) None otherwise is = absurd (differs r is)
  where
    differs : (r : ℕ) → Place r ≡ Done → ⊥
    differs r is = grind arith
reply_place (Some r) (Some p) otherwise is = ap Some (place_same r p is)
  where
    place_same : (r p : ℕ) → Place r ≡ Place p → r ≡ p
    place_same r p is = cc

-- a boundary of the session after a question is one of the session before it
pub bound_before : (old new : Session) (unit : TextUnit) (bound : Bound) → HasSameText old new → IsBound new.table unit new.state.text bound
    → IsBound old.table unit old.state.text bound
bound_before old new unit bound same is =
    subst (λ t. IsBound t unit old.state.text bound) same.table_is (subst (λ x. IsBound new.table unit x bound) same.text_is is)

-- what is found by a question whose answer is where the cursor goes
module _ (old new : Session) (unit : TextUnit) (question : Question) (found : Option ℕ) (otherwise : ℕ)
    (says : answer_of old question ≡ moved found otherwise) where
  pub same_text : (r : Option ℕ) → Answers old question (place_reply r) new → HasSameText old new
  same_text r answers = record { table_is = answers.moved.table_is; text_is = ap (λ s. s.text) answers.moved.state_is }

  pub finds : (r : Option ℕ) (b : Option Bound) → Answers old question (place_reply r) new → MatchOption r (b ≡ None) (λ _. IsHere new unit b)
      → Finds old.table unit old.state.text found b
  finds None b answers none = record {
    found_at = ap place_of none ∙ reply_place None found otherwise (answers.replied ∙ ap (λ a. a.reply) says);
    are = subst (AreBounds old.table unit old.state.text) (sym none) tt;
  }
  finds (Some p) None answers here = absurd here
  finds (Some p) (Some bound) answers here =
      let place : found ≡ Some p = sym (reply_place (Some p) found otherwise (answers.replied ∙ ap (λ a. a.reply) says)) in
      let cursor : new.state.cursor ≡ p =
      ap (λ s. s.cursor) answers.moved.state_is ∙ ap (λ a. a.cursor) says ∙ ap (λ f. (moved f otherwise).cursor) place in
      record {
        found_at = ap Some (here.0 ∙ cursor) ∙ sym place;
        are = bound_before old new unit bound (same_text (Some p) answers) here.1;
      }

-- asked whether a boundary is one, the session goes there
pub back_there : (old new : Session) (cursor : ℕ) (reply : Reply) → IsPlaceOf (boundaries_of old) cursor → Answers old (IsBoundary cursor) reply new
    → new.state.cursor ≡ cursor
back_there old new cursor reply here answers =
    ap (λ s. s.cursor) answers.moved.state_is
    ∙ ap (λ p. unwrap_or p (end_of (boundaries_of old)))
    (from_a_place (boundaries_of old) cursor (table_covers old.table old.state.text).rise here)

-- the places up to a number, by tests
module _ (unit : TextUnit) (x : List ℕ) (o at : ℕ) (is : IsPlaceUpTo unit x o at) where
  pub past_up_to_place : (p : ℕ) → p ≤ length x → ltb o (offset_of unit x p) ≡ ltb at p
  past_up_to_place p within =
      ⊎_elim
      (λ less. lt-ltb o (offset_of unit x p) (is.past p within less) ∙ sym (lt-ltb at p less))
      (λ more. le-ltb o (offset_of unit x p) (is.up_to p within more) ∙ sym (le-ltb at p more))
      (cases_lt at p)

  pub up_to_place : (p : ℕ) → p ≤ length x → leb (offset_of unit x p) o ≡ leb p at
  up_to_place p within =
      ⊎_elim
      (λ less. let far = is.past p within less in lt-leb (offset_of unit x p) o far ∙ sym (lt-leb p at less))
      (λ more. le-leb (offset_of unit x p) o (is.up_to p within more) ∙ sym (le-leb p at more))
      (cases_lt at p)

-- the places from a number on, by a test
pub from_place_on : (unit : TextUnit) (x : List ℕ) (o p : ℕ) → p ≤ length x → leb o (offset_of unit x p) ≡ leb (place_from unit x o) p
from_place_on unit x o p within =
    turned (offset_of unit x p) o p (place_from unit x o) (before_from unit x o p within)
  where
    turned : (a b c d : ℕ) → ltb a b ≡ ltb c d → leb b a ≡ leb d c
    turned a b c d same =
        ⊎_elim
        (λ less.
        ⊎_elim
        (λ less'. lt-leb b a less ∙ sym (lt-leb d c less'))
        (λ more'. absurd (false≢true (sym (le-ltb c d more') ∙ sym same ∙ lt-ltb a b less)))
        (cases_lt c d))
        (λ more.
        ⊎_elim
        (λ less'. absurd (false≢true (sym (le-ltb a b more) ∙ same ∙ lt-ltb c d less')))
        (λ more'. le-leb b a more ∙ sym (le-leb d c more'))
        (cases_lt c d))
        (cases_lt a b)

-- one character more is counted, and the offset of the text's end bounds all
pub counts_on : (unit : TextUnit) (x : List ℕ) (i n : ℕ) → n ≡ offset_of unit x i → i < length x
    → (n + size_of unit (slice_index x i) ≡ offset_of unit x (i + 1)) × (offset_of unit x (i + 1) ≤ offset_of unit x (length x))
counts_on unit x i n is inside = (
  ap (λ m. m + size_of unit (slice_index x i)) is ∙ sym (sum_by_more (size_of unit) x i 0 inside),
  rises_up_to (offset_of unit x) (length x) (offset_rises unit x) (i + 1) (length x) (omega (arith, inside)) (omega arith),
)

-- what ends at a boundary of the session after a question ends at it in the session before
pub ends_before : (old new : Session) (unit : TextUnit) → HasSameText old new → (end : Option Bound) (segment : Option Segment)
    → MatchOption end (segment ≡ None) (λ bound. IsSomeAnd segment (EndsAt (measured unit new.state.text (boundaries_of new)) bound.offset))
    → MatchOption end (segment ≡ None) (λ bound. IsSomeAnd segment (EndsAt (measured unit old.state.text (boundaries_of old)) bound.offset))
ends_before old new unit same end segment ends =
    subst (λ t. MatchOption end (segment ≡ None) (λ bound. IsSomeAnd segment (EndsAt (measured unit old.state.text (table_boundaries t old.state.text))
    bound.offset))) same.table_is
    (subst (λ x. MatchOption end (segment ≡ None) (λ bound. IsSomeAnd segment (EndsAt (measured unit x (table_boundaries new.table x)) bound.offset)))
    same.text_is ends)
