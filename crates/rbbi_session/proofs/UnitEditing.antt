-- Edits of a session whose places count a unit, by those of the session by characters.
use Rattle.std.proofs.Common.{◌≡◌, ℕ, ◌+◌, ◌-◌, ◌≤◌, true, false, cond, ltb, eqb, List, Option, Some, None, Result, Err, length, refl, sym, ap, ◌∙◌, subst}
use Rattle.std.proofs.Common.{⊎_elim, arith}
use Rattle.std.proofs.lemmas.Bool.{cases_Bool, cond-true, cond-false, le-ltb, eq-eqb, eqb-true, false≢true}
use Rattle.rbbi_model.specs.declared.unit.Unit.{Unit as TextUnit}
use Rattle.rbbi_model.specs.Words.{most_characters}
use Rattle.rbbi_model.specs.Places.{greatest_below}
use Rattle.rbbi_model.specs.Answers.{Outside, Inside, TooLong}
use Rattle.rbbi_model.specs.Scripts.{Edit, Refused, Accepted, splice, edit}
use Rattle.rbbi_model.specs.Units.{offset_of}
use Rattle.rbbi_model.specs.UnitAnswers.{place_at, edit_between, edit_in}
use Rattle.rbbi_model.proofs.Found.{greatest_lies}
use Rattle.rbbi_model.proofs.SearchFacts.{none_passes, greatest_is_most}
use Rattle.rbbi_model.proofs.Measured.{offset_rises, rises_up_to}
use Rattle.rbbi_session.specs.Walks.{View, kind_of, IsEdited, IsUnread, Edits, CountsCharacters}
use Rattle.rbbi_session.specs.UnitWalks.{in_unit}
use Rattle.rbbi_session.specs.declared.unit_error.UnitEditErr.{UnitEditErr}
use Rattle.rbbi_session.specs.declared.unit_error.UnitEditErr.TheVariants as refused
use Rattle.rbbi_text.specs.declared.units.Index.{Index}
use Rattle.rbbi_text.specs.Indexes.{IsIndex}

module _ (unit : TextUnit) (x : List ℕ) (o : ℕ) (index : Index) (is : IsIndex unit x o index) where
  whole_from : (place : Option ℕ) → offset_of unit x index.at ≡ o → greatest_below (λ i. eqb (offset_of unit x i) o) (length x + 1) ≡ place →
      place ≡ Some index.at
  whole_from None at found =
      absurd (none_passes (λ i. eqb (offset_of unit x i) o) (length x + 1) index.at found (omega (arith, is.within)) (eq-eqb (offset_of unit x index.at) o at))
  whole_from (Some g) at found =
      let lies = greatest_lies (λ i. eqb (offset_of unit x i) o) (length x + 1) g found in
      let most = greatest_is_most (λ i. eqb (offset_of unit x i) o) (length x + 1) g index.at found (omega (arith, is.within)) (eq-eqb
      (offset_of unit x index.at) o at) in
      let there = eqb-true (offset_of unit x g) o lies.1 in
      let up_to = is.greatest g (omega (arith, lies.0)) (omega (arith, there)) in
      let same : g ≡ index.at = omega (arith, most, up_to) in
      ap Some same

  pub place_at_whole : index.whole ≡ true → place_at unit x o ≡ Some index.at
  place_at_whole whole = whole_from (place_at unit x o) (is.whole.0 whole) refl

  inside_from : (place : Option ℕ) → index.whole ≡ false → greatest_below (λ i. eqb (offset_of unit x i) o) (length x + 1) ≡ place → place ≡ None
  inside_from None isnt found = refl
  inside_from (Some g) isnt found =
      let lies = greatest_lies (λ i. eqb (offset_of unit x i) o) (length x + 1) g found in
      let there = eqb-true (offset_of unit x g) o lies.1 in
      let up_to = is.greatest g (omega (arith, lies.0)) (omega (arith, there)) in
      let low = rises_up_to (offset_of unit x) (length x) (offset_rises unit x) g index.at up_to is.within in
      let at : offset_of unit x index.at ≡ o = omega (arith, low, there, is.before) in
      absurd (false≢true (sym isnt ∙ is.whole.1 at))

  pub place_at_inside : index.whole ≡ false → place_at unit x o ≡ None
  place_at_inside isnt = inside_from (place_at unit x o) isnt refl

module _ (unit : TextUnit) (x : List ℕ) (at removed : ℕ) (w : List ℕ) where
  within : at + removed ≤ offset_of unit x (length x) →
      edit_in unit x at removed w ≡ edit_between unit x (place_at unit x at) (place_at unit x (at + removed)) w
  within low =
      cond-false (ltb (offset_of unit x (length x)) (at + removed)) (Refused Outside) (edit_between unit x (place_at unit x at) (place_at unit x
      (at + removed)) w)
      (le-ltb (offset_of unit x (length x)) (at + removed) low)

  pub edit_begins_inside : at + removed ≤ offset_of unit x (length x) → place_at unit x at ≡ None → edit_in unit x at removed w ≡ Refused Inside
  edit_begins_inside low none = within low ∙ ap (λ p. edit_between unit x p (place_at unit x (at + removed)) w) none

  pub edit_ends_inside : (i : ℕ) → at + removed ≤ offset_of unit x (length x) → place_at unit x at ≡ Some i → place_at unit x (at + removed) ≡ None →
      edit_in unit x at removed w ≡ Refused Inside
  edit_ends_inside i low first none =
      within low ∙ ap (λ p. edit_between unit x p (place_at unit x (at + removed)) w) first ∙ ap (λ p. edit_between unit x (Some i) p w) none

  module _ (i j : ℕ) (low : at + removed ≤ offset_of unit x (length x)) (first : place_at unit x at ≡ Some i) (end : place_at unit x (at + removed) ≡ Some j)
      (order : i + (j - i) ≤ length x) where
    between : edit_in unit x at removed w ≡ edit_between unit x (Some i) (Some j) w
    between = within low ∙ ap (λ p. edit_between unit x p (place_at unit x (at + removed)) w) first ∙ ap (λ p. edit_between unit x (Some i) p w) end

    characters : edit x i (j - i) w ≡ cond (ltb most_characters (length x - (j - i) + length w)) (Refused TooLong)
        (Accepted (splice x i (j - i) w) (length (splice x i (j - i) w)))
    characters =
        cond-false (ltb (length x) (i + (j - i))) (Refused Outside)
        (cond (ltb most_characters (length x - (j - i) + length w)) (Refused TooLong) (Accepted (splice x i (j - i) w) (length (splice x i (j - i) w))))
        (le-ltb (length x) (i + (j - i)) order)

    long : ltb most_characters (length x - (j - i) + length w) ≡ true → edit x i (j - i) w ≡ Refused TooLong
    long is =
        characters
        ∙ cond-true (ltb most_characters (length x - (j - i) + length w)) (Refused TooLong) (Accepted (splice x i (j - i) w) (length (splice x i (j - i) w))) is

    fits : ltb most_characters (length x - (j - i) + length w) ≡ false →
        edit x i (j - i) w ≡ Accepted (splice x i (j - i) w) (length (splice x i (j - i) w))
    fits isnt =
        characters
        ∙ cond-false (ltb most_characters (length x - (j - i) + length w)) (Refused TooLong) (Accepted (splice x i (j - i) w) (length (splice x i
        (j - i) w))) isnt

    pub edit_too_long : edit x i (j - i) w ≡ Refused TooLong → edit_in unit x at removed w ≡ Refused TooLong
    edit_too_long refused =
        ⊎_elim
        (λ is.
        between
        ∙ cond-true (ltb most_characters (length x - (j - i) + length w)) (Refused TooLong)
        (Accepted (splice x i (j - i) w) (offset_of unit (splice x i (j - i) w) (length (splice x i (j - i) w)))) is)
        (λ isnt. let differ = sym (fits isnt) ∙ refused in cc)
        (cases_Bool (ltb most_characters (length x - (j - i) + length w)))

    pub edit_accepted : (t : List ℕ) (n : ℕ) → edit x i (j - i) w ≡ Accepted t n → edit_in unit x at removed w ≡ Accepted t (offset_of unit t (length t))
    edit_accepted t n accepted =
        ⊎_elim
        (λ is. let differ = sym (long is) ∙ accepted in cc)
        (λ isnt.
        let same : splice x i (j - i) w ≡ t = made_is t n (sym (fits isnt) ∙ accepted) in
        between
        ∙ cond-false (ltb most_characters (length x - (j - i) + length w)) (Refused TooLong)
        (Accepted (splice x i (j - i) w) (offset_of unit (splice x i (j - i) w) (length (splice x i (j - i) w)))) isnt
        ∙ ap (λ l. Accepted l (offset_of unit l (length l))) same)
        (cases_Bool (ltb most_characters (length x - (j - i) + length w)))
      where
        made_is : (t : List ℕ) (n : ℕ) → Accepted (splice x i (j - i) w) (length (splice x i (j - i) w)) ≡ Accepted t n → splice x i (j - i) w ≡ t
        made_is t n is = cc

    pub edit_not_outside : edit x i (j - i) w ≡ Refused Outside → edit_in unit x at removed w ≡ Refused Outside
    edit_not_outside refused =
        ⊎_elim (λ is. let differ = sym (long is) ∙ refused in cc) (λ isnt. let differ = sym (fits isnt) ∙ refused in cc)
        (cases_Bool (ltb most_characters (length x - (j - i) + length w)))

    pub never_inside : edit x i (j - i) w ≡ Refused Inside → ⊥
    never_inside refused =
        ⊎_elim (λ is. let differ = sym (long is) ∙ refused in cc) (λ isnt. let differ = sym (fits isnt) ∙ refused in cc)
        (cases_Bool (ltb most_characters (length x - (j - i) + length w)))

-- places at the ends of an edit
pub ends_in_order : (unit : TextUnit) (x : List ℕ) (at removed : ℕ) (first end : Index) → IsIndex unit x at first → IsIndex unit x (at + removed) end →
    first.at + (end.at - first.at) ≤ length x
ends_in_order unit x at removed first end is is' =
    let order = is'.greatest first.at is.within (omega (arith, is.before)) in
    omega (arith, order, is'.within)

-- the answer of an edit that isn't made
abbrev pub failed : UnitEditErr → Result (Unit {0}) UnitEditErr
failed error = Err error

-- what an edit between two places leaves, by the unit
module _ {A Setting : Type 0} (view : View A Setting) (counts : CountsCharacters view) (unit : TextUnit) (old new : A) (at removed : ℕ) (w : List ℕ)
    (i j k : ℕ) (k_is : k ≡ j - i) (low : at + removed ≤ offset_of unit (view.state old).text (length (view.state old).text))
    (first : place_at unit (view.state old).text at ≡ Some i) (end : place_at unit (view.state old).text (at + removed) ≡ Some j)
    (order : i + (j - i) ≤ length (view.state old).text) (before after : ℕ) where
  abbrev x : List ℕ
  x = (view.state old).text

  -- by characters
  plain : (e : Edit) → (kind_of view old).edit x i k w ≡ e → edit x i (j - i) w ≡ e
  plain e is =
      subst (λ m. edit x i m w ≡ e) k_is (subst (λ (f : List ℕ → ℕ → ℕ → List ℕ → Edit). f x i k w ≡ e) (counts.edits (view.setting old)) is)

  pub unit_accepted : IsEdited view old i k w new before after →
      IsEdited (in_unit view) (record { unit = unit; asked = old }) at removed w (record { unit = unit; asked = new }) before after
  unit_accepted accepts = record {
    same = λ t. record { below = accepts.same t; unit = unit };
    accepted = edit_accepted unit x at removed w i j low first end order (view.state new).text ((kind_of view old).units (view.state new).text)
        (plain (Accepted (view.state new).text ((kind_of view old).units (view.state new).text)) accepts.accepted);
    start = ap (λ c. offset_of unit (view.state new).text c) accepts.start;
    paid = accepts.paid;
    edits = record {
      first = i;
      end = j;
      first_is = first;
      end_is = end;
      reads = subst (λ m. view.edits old i m w new before after) k_is accepts.edits;
    };
  }

  unread : IsUnread view old new before after → IsUnread (in_unit view) (record { unit = unit; asked = old }) (record { unit = unit; asked = new }) before after
  unread is = (ap (λ a. record { unit = unit; asked = a }) is.0, is.1)

  pub unit_refused : (error : UnitEditErr) → Edits view old i k w (failed error) new before after →
      Edits (in_unit view) (record { unit = unit; asked = old }) at removed w (failed error) (record { unit = unit; asked = new }) before after
  unit_refused refused.Outside is =
      (edit_not_outside unit x at removed w i j low first end order (plain (Refused Outside) is.0), unread is.1)
  unit_refused refused.Inside is =
      absurd (never_inside unit x at removed w i j low first end order (plain (Refused Inside) is.0))
  unit_refused refused.TooLong is =
      (edit_too_long unit x at removed w i j low first end order (plain (Refused TooLong) is.0), unread is.1)
  unit_refused refused.Memory is = unread is
