-- Answers of a session whose places count a unit, by what the session by characters answers.
use Rattle.std.proofs.Common.{◌≡◌, ◌≢◌, ℕ, ◌+◌, ◌<◌, ◌≤◌, Bool, true, false, not, cond, ltb, leb, eqb, List, Option, Some, None, length, refl, sym, ap}
use Rattle.std.proofs.Common.{◌∙◌, ⊎_elim, subst}
use Rattle.std.specs.Prelude.{MatchOption, MatchBool}
use Rattle.std.specs.List.{AllByRecursion}
use Rattle.std.proofs.lemmas.Bool.{cases_lt, lt-ltb, le-ltb, lt-leb, le-leb, ne_eqb}
use Rattle.rbbi_model.specs.declared.unit.Unit.{Unit as TextUnit}
use Rattle.rbbi_model.specs.Boundaries.{Boundary}
use Rattle.rbbi_model.specs.Cover.{IsPlaceOf, CoverText, end_of}
use Rattle.rbbi_model.specs.Units.{offset_of, measured}
use Rattle.rbbi_model.specs.UnitAnswers.{place_before, in_characters}
use Rattle.rbbi_model.specs.Answers.{Question, First, Last, Next, Previous, Following, Preceding, IsBoundary, Reply, Place, No, Answer, answer, moved}
use Rattle.rbbi_model.specs.Answers.{first_after, last_before, statuses_at}
use Rattle.rbbi_model.proofs.Measured.{offset_rises, turned_reply, turned_answer, answers_last, answers_next, answers_previous, answers_following}
use Rattle.rbbi_model.proofs.Measured.{answers_preceding, answers_whether, answers_inside, statuses_same, same_place}
use Rattle.rbbi_text.specs.declared.units.Index.{Index}
use Rattle.rbbi_text.specs.Steps.{RisesUpTo}
use Rattle.rbbi_session.specs.Sessions.{place_reply, test_reply}
use Rattle.rbbi_session.specs.UnitSessions.{InUnit}
use Rattle.rbbi_session.specs.UnitWalks.{in_unit}
use Rattle.rbbi_session.specs.Walks.{View, Cover, CountsCharacters, IsAsked, IsAnswered, kind_of, reported}
use Rattle.rbbi_session.specs.KnownPlaces.{IsKnown}
use Rattle.rbbi_session.specs.inner.UnitPlaces.{IsPlaceUpTo, IsPlaceFrom, StandsAt}
use Rattle.rbbi_session.specs.declared.known.Known.{Known}
use Rattle.rbbi_session.proofs.Answering.{none_behind, place_within}
use Rattle.rbbi_session.proofs.UnitCursors.{place_before_here}

pub not_true : (b : Bool) → not b ≡ true → b ≡ false
not_true true is = sym is
not_true false is = refl

pub not_false : (b : Bool) → not b ≡ false → b ≡ true
not_false true is = refl
not_false false is = sym is

pub found_at : (r r' : Option ℕ) {o o' : ℕ} → o ≡ o' → MatchOption r (r' ≡ None) (λ _. r' ≡ Some o) → MatchOption r (r' ≡ None) (λ _. r' ≡ Some o')
found_at r r' same is = subst (λ p. MatchOption r (r' ≡ None) (λ _. r' ≡ Some p)) same is

module _ {A Setting : Type 0} (view : View A Setting) where
  -- where places count characters, the boundaries of a text cover its characters
  pub covered_by : Cover view → CountsCharacters view → (session : A) → CoverText (length (view.state session).text) (reported view session)
  covered_by cover counts session =
      subst (λ n. CoverText n (reported view session)) (counts.units (view.setting session) (view.state session).text)
      (cover (view.setting session) (view.state session).text)

  pub place_in_text : Cover view → CountsCharacters view → (session : A) (p : ℕ) → IsPlaceOf (reported view session) p →
      p ≤ length (view.state session).text
  place_in_text cover counts session p here =
      let n = length (view.state session).text in
      place_within (reported view session) p n (none_behind n (reported view session) (covered_by cover counts session)) here

  pub covered : (session : A) → StandsAt view session → CoverText (length (view.state session).text) (reported view session)
  covered session stands = covered_by stands.cover stands.counts session

  -- the cursor lies within the text
  pub within_text : (session : A) → StandsAt view session → (view.state session).cursor ≤ length (view.state session).text
  within_text session stands = place_in_text stands.cover stands.counts session (view.state session).cursor stands.at

  -- the session as it is seen stands where its parts say
  pub stands_in : {was old : InUnit A} → was ≡ old → StandsAt view old.asked → StandsAt view was.asked
  stands_in same stands = subst (λ (s : InUnit A). StandsAt view s.asked) (sym same) stands

  -- a place whose offset was known before a question is one after it
  pub known_on : {was old : InUnit A} {q : Question} {new : A} {known : Known} {before after : ℕ} → was ≡ old →
      IsKnown old.unit (view.state old.asked).text known → IsAsked view was.asked q new before after → IsKnown was.unit (view.state new).text known
  known_on {was = was} {known = known} same is asked =
      subst (λ x. IsKnown was.unit x known) (sym (ap (λ s. s.text) asked.state_is))
      (subst (λ (s : InUnit A). IsKnown s.unit (view.state s.asked).text known) (sym same) is)

  -- what is answered from the session as it is seen
  pub at_view : {was old new : InUnit A} {q : Question} {r : Reply} {before after : ℕ} → was ≡ old →
      IsAnswered (in_unit view) was q r new before after → IsAnswered (in_unit view) old q r new before after
  at_view {new = new} {q = q} {r = r} {before = before} {after = after} same is =
      subst (λ s. IsAnswered (in_unit view) s q r new before after) same is

-- the session by a unit that asks this one
abbrev pub by_unit : {A : Type 0} → TextUnit → A → InUnit A
by_unit unit session = record { unit = unit; asked = session }

placed : (found : Option ℕ) (otherwise p : ℕ) → Place p ≡ (moved found otherwise).reply → (moved found otherwise).cursor ≡ p
placed None otherwise p is = cc
placed (Some q) otherwise p is = cc

place_turned : (f : ℕ → ℕ) (found : Option ℕ) (otherwise here : ℕ) (r r' : Option ℕ) → place_reply r ≡ (moved found otherwise).reply →
    here ≡ f (moved found otherwise).cursor → MatchOption r (r' ≡ None) (λ _. r' ≡ Some here) → place_reply r' ≡ turned_reply f (place_reply r)
place_turned f found otherwise here None r' is at says = ap place_reply says
place_turned f found otherwise here (Some p) r' is at says =
    ap place_reply says ∙ ap (λ o. Place o) (at ∙ ap f (placed found otherwise p is))

test_turned : (f : ℕ → ℕ) (is : Bool) → turned_reply f (test_reply is) ≡ test_reply is
test_turned f true = refl
test_turned f false = refl

module _ {A Setting : Type 0} (view : View A Setting) (unit : TextUnit) (old new : A) (before after : ℕ) (stands : StandsAt view old) where
  abbrev x : List ℕ
  x = (view.state old).text

  abbrev bs : List Boundary
  bs = reported view old

  abbrev f : ℕ → ℕ
  f = offset_of unit x

  abbrev bs_answer : Question → Answer
  bs_answer q = answer bs (view.state old).cursor q

  -- what is answered by the unit
  abbrev told : Question → Answer
  told q = answer (measured unit x bs) (f (view.state old).cursor) q

  -- where the session goes
  abbrev there : ℕ
  there = offset_of unit (view.state new).text (view.state new).cursor

  low : (view.state old).cursor ≤ length x
  low = within_text view old stands

  rises : (i j : ℕ) → i < j → j ≤ length x → f i < f j
  rises = offset_rises unit x

  within : AllByRecursion (λ b. b.at ≤ length x) bs
  within = none_behind (length x) bs (covered view old stands)

  -- the session has gone where the answer by characters says, so where that by the unit does
  gone : (q q' : Question) → (told q).cursor ≡ f (bs_answer q').cursor → IsAsked view old q' new before after →
      there ≡ (told q).cursor
  gone q q' is asked = ap (λ s. offset_of unit s.text s.cursor) asked.state_is ∙ sym is

  pub asked_by : (q q' : Question) → in_characters unit x q ≡ q' → (told q).cursor ≡ f (bs_answer q').cursor →
      IsAsked view old q' new before after → IsAsked (in_unit view) (by_unit unit old) q (by_unit unit new) before after
  asked_by q q' same is asked = record {
    same = λ i. record { below = asked.same i; unit = unit };
    state_is = λ i. record { text = (asked.state_is i).text; cursor = gone q q' is asked i };
    paid = subst (λ p. RisesUpTo ((kind_of view old).cost (record { text = x; cursor = p }) (in_characters unit x q)) before after)
        (sym (place_before_here unit x (view.state old).cursor low))
        (subst (λ p. RisesUpTo ((kind_of view old).cost (view.state old) p) before after) (sym same) asked.paid);
    asks = subst (λ p. IsAsked view old p new before after) (sym same) asked;
  }

  -- the answer by the unit is that by characters, turned
  unit_told : (q q' : Question) (r : Reply) → in_characters unit x q ≡ q' → told q ≡ turned_answer f (bs_answer q') →
      IsAnswered view old q' r new before after →
      IsAnswered (in_unit view) (by_unit unit old) q (turned_reply f r) (by_unit unit new) before after
  unit_told q q' r same is answers = record {
    replied = ap (turned_reply f) answers.replied ∙ sym (ap (λ a. a.reply) is);
    asked = asked_by q q' same (ap (λ a. a.cursor) is) answers.asked;
  }

  -- a question that goes to a place, if there is one
  unit_moved : (q q' : Question) (found : Option ℕ) (otherwise : ℕ) (r r' : Option ℕ) → in_characters unit x q ≡ q' →
      bs_answer q' ≡ moved found otherwise → told q ≡ turned_answer f (bs_answer q') → IsAnswered view old q' (place_reply r) new before after →
      MatchOption r (r' ≡ None) (λ _. r' ≡ Some there) →
      IsAnswered (in_unit view) (by_unit unit old) q (place_reply r') (by_unit unit new) before after
  unit_moved q q' found otherwise r r' same is turns answers says =
      let it = unit_told q q' (place_reply r) same turns answers in
      let at : there ≡ f (moved found otherwise).cursor =
      gone q q' (ap (λ a. a.cursor) turns) answers.asked ∙ ap (λ a. a.cursor) turns ∙ ap (λ a. f a.cursor) is in
      record {
        replied = place_turned f found otherwise there r r' (answers.replied ∙ ap (λ a. a.reply) is) at says
            ∙ it.replied;
        asked = it.asked;
      }

  pub unit_first : IsAsked view old First new before after → IsAsked (in_unit view) (by_unit unit old) First (by_unit unit new) before after
  unit_first asked = asked_by First First refl refl asked

  pub unit_last : (r r' : ℕ) → r' ≡ there → IsAnswered view old Last (Place r) new before after →
      IsAnswered (in_unit view) (by_unit unit old) Last (Place r') (by_unit unit new) before after
  unit_last r r' is answers =
      let turns = answers_last f (length x) refl rises bs within (view.state old).cursor in
      let it = unit_told Last Last (Place r) refl turns answers in
      record { replied = ap (λ o. Place o) (is ∙ gone Last Last (ap (λ a. a.cursor) turns) answers.asked); asked = it.asked }

  pub unit_next : (r r' : Option ℕ) → IsAnswered view old Next (place_reply r) new before after →
      MatchOption r (r' ≡ None) (λ _. r' ≡ Some there) →
      IsAnswered (in_unit view) (by_unit unit old) Next (place_reply r') (by_unit unit new) before after
  unit_next r r' =
      unit_moved Next Next (first_after bs (view.state old).cursor) (view.state old).cursor r r' refl refl
      (answers_next f (length x) refl rises bs within (view.state old).cursor low)

  pub unit_previous : (r r' : Option ℕ) → IsAnswered view old Previous (place_reply r) new before after →
      MatchOption r (r' ≡ None) (λ _. r' ≡ Some there) →
      IsAnswered (in_unit view) (by_unit unit old) Previous (place_reply r') (by_unit unit new) before after
  unit_previous r r' =
      unit_moved Previous Previous (last_before bs (view.state old).cursor) (view.state old).cursor r r' refl refl
      (answers_previous f (length x) refl rises bs within (view.state old).cursor low)

  pub unit_following : (v o : ℕ) (r r' : Option ℕ) → IsPlaceUpTo unit x v o →
      o ≡ cond (ltb (f (length x)) v) (length x + 1) (place_before unit x v) →
      IsAnswered view old (Following o) (place_reply r) new before after →
      MatchOption r (r' ≡ None) (λ _. r' ≡ Some there) →
      IsAnswered (in_unit view) (by_unit unit old) (Following v) (place_reply r') (by_unit unit new) before after
  unit_following v o r r' place is =
      unit_moved (Following v) (Following o) (first_after bs o) (end_of bs) r r' (ap (λ p. Following p) (sym is)) refl
      (answers_following f (length x) refl rises bs within (view.state old).cursor v o
      (λ p short.
      ⊎_elim (λ less. lt-ltb v (f p) (place.past p short less) ∙ sym (lt-ltb o p less))
      (λ more. le-ltb v (f p) (place.up_to p short more) ∙ sym (le-ltb o p more)) (cases_lt o p)))

  pub unit_preceding : (v : ℕ) (index : Index) (r r' : Option ℕ) → IsPlaceFrom unit x v index →
      IsAnswered view old (Preceding index.at) (place_reply r) new before after →
      MatchOption r (r' ≡ None) (λ _. r' ≡ Some there) →
      IsAnswered (in_unit view) (by_unit unit old) (Preceding v) (place_reply r') (by_unit unit new) before after
  unit_preceding v index r r' place =
      unit_moved (Preceding v) (Preceding index.at) (last_before bs index.at) 0 r r' (ap (λ p. Preceding p) (sym place.at_is)) refl
      (answers_preceding f (length x) refl rises bs within (view.state old).cursor v index.at
      (λ p short.
      ⊎_elim (λ less. lt-ltb (f p) v (place.before p short less) ∙ sym (lt-ltb p index.at less))
      (λ more. le-ltb (f p) v (place.from p short more) ∙ sym (le-ltb p index.at more)) (cases_lt p index.at)))

  from_tests : (v : ℕ) (index : Index) → IsPlaceFrom unit x v index → (p : ℕ) → p ≤ length x → leb v (f p) ≡ leb index.at p
  from_tests v index place p short =
      ⊎_elim (λ less. lt-leb v (f p) (place.before p short less) ∙ sym (lt-leb index.at p less))
      (λ more. le-leb v (f p) (place.from p short more) ∙ sym (le-leb index.at p more)) (cases_lt p index.at)

  -- a number that no place lies at is no boundary
  pub unit_whether : (v : ℕ) (index : Index) (is : Bool) → IsPlaceFrom unit x v index →
      IsAnswered view old (IsBoundary index.at) (test_reply is) new before after →
      IsAnswered (in_unit view) (by_unit unit old) (IsBoundary v) (cond index.whole (test_reply is) No) (by_unit unit new) before after
  unit_whether v index is place answers = of index.whole place.whole
    where
      same : in_characters unit x (IsBoundary v) ≡ IsBoundary index.at
      same = ap (λ p. IsBoundary p) (sym place.at_is)

      of : (whole : Bool) → MatchBool whole ((index.at ≤ length x) × (f index.at ≡ v)) ((p : ℕ) → p ≤ length x → f p ≢ v) →
          IsAnswered (in_unit view) (by_unit unit old) (IsBoundary v) (cond whole (test_reply is) No) (by_unit unit new) before after
      of true at =
          let it = unit_told (IsBoundary v) (IsBoundary index.at) (test_reply is) same
          (answers_whether f (length x) refl rises bs within (view.state old).cursor v index.at (from_tests v index place)
          (λ p short. ap (λ w. eqb (f p) w) (sym at.1)
          ∙ same_place f (length x) refl rises bs within p index.at short at.0))
          answers in
          record { replied = sym (test_turned f is) ∙ it.replied; asked = it.asked }
      of false never =
          let turns : told (IsBoundary v) ≡ record { reply = No; cursor = f (bs_answer (IsBoundary index.at)).cursor } =
          answers_inside f (length x) refl rises bs within (view.state old).cursor v index.at (from_tests v index place)
          (λ p short. ne_eqb (f p) v (never p short)) in
          record {
            replied = sym (ap (λ a. a.reply) turns);
            asked = asked_by (IsBoundary v) (IsBoundary index.at) same (ap (λ a. a.cursor) turns) answers.asked;
          }

  -- the statuses at the cursor
  pub unit_statuses : statuses_at bs (view.state old).cursor ≡ statuses_at (measured unit x bs) (f (view.state old).cursor)
  unit_statuses =
      sym (statuses_same f (length x) refl rises bs within (view.state old).cursor low)
