-- Questions that repeat the one directly before them.
use Rattle.std.proofs.Common.{◌≡◌, ℕ, suc, zero, ◌-◌, Bool, true, false, cond, ltb, eqb, List, length, Option, Some, None, sym, refl, ap, ◌∙◌}
use Rattle.std.proofs.Common.{subst, ⊎_elim, inl, inr, arith}
use Rattle.std.specs.Prelude.{◌⊎◌}
use Rattle.std.proofs.lemmas.Bool.{false≢true, eqb-true, eq-eqb, ne_eqb}
use Rattle.rbbi_model.specs.declared.unit.Unit.{Unit as TextUnit}
use Rattle.rbbi_model.specs.Boundaries.{Boundary}
use Rattle.rbbi_model.specs.Tables.{Table}
use Rattle.rbbi_model.specs.Runs.{Run}
use Rattle.rbbi_model.specs.Searches.{table_boundaries}
use Rattle.rbbi_model.specs.Answers.{Question, Following, Preceding, IsBoundary, last_before, moved}
use Rattle.rbbi_model.specs.UnitAnswers.{in_characters, place_from}
use Rattle.rbbi_model.specs.Units.{offset_of}
use Rattle.rbbi_model.specs.Scripts.{Ask}
use Rattle.rbbi_model.specs.Costs.{is_same_question, is_unkept}
use Rattle.rbbi_model.proofs.Measured.{offset_rises, turned_reply, answers_preceding}
use Rattle.rbbi_session.specs.Sessions.{Session, boundaries_of, answer_of}
use Rattle.rbbi_session.specs.Asking.{Asks}
use Rattle.rbbi_session.specs.Questions.{Sent, Nothing, Past, Back, sent_by, IsShown, LeavesRuns}
use Rattle.rbbi_session.specs.Walks.{View, Cover, CountsCharacters, Recall, reported, reply_to}
use Rattle.rbbi_session.specs.UnitWalks.{session_view, in_unit}
use Rattle.rbbi_session.proofs.Answering.{none_behind}
use Rattle.rbbi_session.proofs.UnitAnswering.{covered_by}
use Rattle.rbbi_session.proofs.UnitCursors.{before_from}

same_question : (earlier question : Question) → is_same_question earlier question ≡ true → earlier ≡ question
same_question (Following a) (Following b) same = ap Following (eqb-true a b same)
same_question (Preceding a) (Preceding b) same = ap Preceding (eqb-true a b same)
same_question (IsBoundary a) (IsBoundary b) same = ap IsBoundary (eqb-true a b same)
same_question earlier question same = absurd (false≢true same)

-- what such a question asks doesn't depend on where the cursor stands
preceding_sent : (x : List ℕ) (c d o : ℕ) → sent_by x c (Preceding o) ≡ sent_by x d (Preceding o)
preceding_sent x c d zero = refl
preceding_sent x c d (suc o) = refl

whether_sent : (x : List ℕ) (c d o : ℕ) → sent_by x c (IsBoundary o) ≡ sent_by x d (IsBoundary o)
whether_sent x c d zero = refl
whether_sent x c d (suc o) = refl

sent_again : (x : List ℕ) (c d : ℕ) (earlier question : Question) → is_same_question earlier question ≡ true →
    sent_by x c earlier ≡ sent_by x d question
sent_again x c d (Following a) (Following b) same = ap (λ v. sent_by x c (Following v)) (eqb-true a b same)
sent_again x c d (Preceding a) (Preceding b) same =
    ap (λ v. sent_by x c (Preceding v)) (eqb-true a b same) ∙ preceding_sent x c d b
sent_again x c d (IsBoundary a) (IsBoundary b) same =
    ap (λ v. sent_by x c (IsBoundary v)) (eqb-true a b same) ∙ whether_sent x c d b
sent_again x c d earlier question same = absurd (false≢true same)

not_back : (within none : Bool) (i j o : ℕ) → cond within (Past i) (cond none Nothing (Past j)) ≡ Back o → ⊥
not_back true none i j o is = cc
not_back false true i j o is = cc
not_back false false i j o is = cc

back_of : (x : List ℕ) (c n o : ℕ) → sent_by x c (Preceding n) ≡ Back o → n ≡ o
back_of x c zero o is = cc
back_of x c (suc n) o is = cc

whether_not_back : (x : List ℕ) (c n o : ℕ) → sent_by x c (IsBoundary n) ≡ Back o → ⊥
whether_not_back x c zero o is = cc
whether_not_back x c (suc p) o is = not_back (ltb p (length x)) (eqb (length x) 0) p (length x - 1) o is

-- of these questions one alone asks for the last boundary before a place
back_is_preceding : (x : List ℕ) (c o : ℕ) (earlier question : Question) → is_same_question earlier question ≡ true →
    sent_by x c earlier ≡ Back o → earlier ≡ Preceding o
back_is_preceding x c o (Following v) question same is =
    absurd (not_back (ltb v (length x)) (eqb (length x) 0) v (length x - 1) o is)
back_is_preceding x c o (Preceding v) question same is = ap Preceding (back_of x c v o is)
back_is_preceding x c o (IsBoundary v) question same is = absurd (whether_not_back x c v o is)
back_is_preceding x c o earlier question same is = absurd (false≢true same)

-- what was asked of the runs is shown by one afterwards, or it was the last boundary before a place, which is 0
shown_now : (table : Table) (x : List ℕ) (sent : Sent) (former now : List Run) → LeavesRuns table x sent former now →
    IsShown x now sent ⊎ ((o : ℕ) × (sent ≡ Back o) × (last_before (table_boundaries table x) o ≡ Some 0))
shown_now table x Nothing former now left = inl tt
shown_now table x (Past i) former now left =
    let keeps = left.2 in
    inl (subst (λ runs. IsShown x runs (Past i)) (sym keeps.are) (left.0.at, inl keeps.shows.0))
shown_now table x (Back o) former now left =
    ⊎_elim
    (λ keeps. inl (subst (λ runs. IsShown x runs (Back o)) (sym keeps.are) (left.0.at, inl keeps.shows.0)))
    (λ start. inr (o, refl, left.1.last ∙ ap Some start.0))
    left.2

module _ (old new : Session) (before after : ℕ) (text : new.state.text ≡ old.state.text) (table : new.table ≡ old.table) where
  -- before a place whose last boundary is 0 no run is kept
  unkept : (v : ℕ) → last_before (boundaries_of old) v ≡ Some 0 → is_unkept (Ask (Preceding v)) (answer_of new (Preceding v)).reply ≡ true
  unkept v last =
      let here : last_before (boundaries_of new) v ≡ Some 0 =
      ap (λ t. last_before (table_boundaries t new.state.text) v) table
      ∙ ap (λ x. last_before (table_boundaries old.table x) v) text
      ∙ last in
      ap (λ p. is_unkept (Ask (Preceding v)) (moved p 0).reply) here

  -- a question that repeats the one that was asked is shown by some kept run, unless its answer is one that no run is kept for
  shown_again : (earlier question : Question) → Asks old earlier new before after → is_same_question earlier question ≡ true →
      is_unkept (Ask question) (answer_of new question).reply ≡ false →
      IsShown new.state.text new.runs (sent_by new.state.text new.state.cursor question)
  shown_again earlier question asked same kept =
      ⊎_elim
      (λ shown.
      subst (λ x. IsShown x new.runs (sent_by x new.state.cursor question)) (sym text)
      (subst (λ s. IsShown old.state.text new.runs s)
      (sent_again old.state.text old.state.cursor new.state.cursor earlier question same) shown))
      (λ start.
      let back = back_is_preceding old.state.text old.state.cursor start.0 earlier question same start.1 in
      let is : question ≡ Preceding start.0 = sym (same_question earlier question same) ∙ back in
      let kept_there : is_unkept (Ask (Preceding start.0)) (answer_of new (Preceding start.0)).reply ≡ false =
      subst (λ q. is_unkept (Ask q) (answer_of new q).reply ≡ false) is kept in
      absurd (false≢true (sym kept_there ∙ unkept start.0 start.2)))
      (shown_now old.table old.state.text (sent_by old.state.text old.state.cursor earlier) old.runs new.runs asked.runs)

-- where a question repeats the one directly before it, it reads nothing
pub recalls : Recall session_view
recalls old now new earlier question start between before after recall asked again same kept =
    again.asks.again
    (shown_again old now start between (ap (λ s. s.text) asked.state_is) asked.same earlier question asked.asks same kept)

-- the same by characters
same_by_characters : (unit : TextUnit) (x : List ℕ) (earlier question : Question) → is_same_question earlier question ≡ true →
    is_same_question (in_characters unit x earlier) (in_characters unit x question) ≡ true
same_by_characters unit x (Following a) (Following b) same =
    ap (λ v. is_same_question (in_characters unit x (Following v)) (in_characters unit x (Following b))) (eqb-true a b same)
    ∙ eq-eqb _ _ refl
same_by_characters unit x (Preceding a) (Preceding b) same = eq-eqb (place_from unit x a) (place_from unit x b) (ap (place_from unit x) (eqb-true a b same))
same_by_characters unit x (IsBoundary a) (IsBoundary b) same = eq-eqb (place_from unit x a) (place_from unit x b) (ap (place_from unit x) (eqb-true a b same))
same_by_characters unit x earlier question same = absurd (false≢true same)

-- an answer that isn't 0 in a unit isn't 0 by characters
kept_by_characters : (unit : TextUnit) (x : List ℕ) (v o : ℕ) (found : Option ℕ) →
    is_unkept (Ask (Preceding v)) (turned_reply (offset_of unit x) (moved found 0).reply) ≡ false →
    is_unkept (Ask (Preceding o)) (moved found 0).reply ≡ false
kept_by_characters unit x v o None kept = refl
kept_by_characters unit x v o (Some zero) kept = absurd (false≢true (sym kept))
kept_by_characters unit x v o (Some (suc p)) kept = ne_eqb (suc p) 0 (λ none. omega (arith, none))

module _ {A Setting : Type 0} (view : View A Setting) (cover : Cover view) (counts : CountsCharacters view) where
  module _ (unit : TextUnit) (session : A) where
    kept_below : (question : Question) → is_unkept (Ask question) (reply_to (in_unit view) (record { unit = unit; asked = session }) question) ≡ false →
        is_unkept (Ask (in_characters unit (view.state session).text question))
        (reply_to view session (in_characters unit (view.state session).text question)) ≡ false
    kept_below (Preceding v) kept =
        let y : List ℕ = (view.state session).text in
        let bs : List Boundary = reported view session in
        let turns = answers_preceding (offset_of unit y) (length y) refl (offset_rises unit y) bs
        (none_behind (length y) bs (covered_by view cover counts session)) (view.state session).cursor v (place_from unit y v) (before_from unit y v) in
        kept_by_characters unit y v (place_from unit y v) (last_before bs (place_from unit y v))
        (sym (ap (λ a. is_unkept (Ask (Preceding v)) a.reply) turns) ∙ kept)
    kept_below question kept = refl

  -- and so it does in a unit
  pub recalls_in_unit : Recall view → Recall (in_unit view)
  recalls_in_unit recall old now new earlier question start between before after recalls asked again same kept =
      let text : (view.state now.asked).text ≡ (view.state old.asked).text = ap (λ s. s.text) asked.state_is in
      let unit : now.unit ≡ old.unit = ap (λ s. s.unit) asked.same in
      recall old.asked now.asked new.asked (in_characters old.unit (view.state old.asked).text earlier)
      (in_characters now.unit (view.state now.asked).text question) start between before after recalls asked.asks again.asks
      (subst (λ y. is_same_question (in_characters old.unit (view.state old.asked).text earlier) (in_characters now.unit y question) ≡ true) (sym text)
      (subst (λ u. is_same_question (in_characters old.unit (view.state old.asked).text earlier)
      (in_characters u (view.state old.asked).text question) ≡ true) (sym unit)
      (same_by_characters old.unit (view.state old.asked).text earlier question same)))
      (kept_below now.unit now.asked question kept)
