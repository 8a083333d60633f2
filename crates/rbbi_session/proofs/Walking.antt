-- What holds of sessions by characters, and of them in a unit, as sessions of any kind.
use Rattle.std.proofs.Common.{◌≡◌, ℕ, zero, suc, ◌-◌, ◌≤◌, cond, ltb, eqb, List, [], ◌∷◌, length, refl, sym, ap, subst, ◌∙◌}
use Rattle.std.proofs.Common.{⊎_elim, inl, inr, arith}
use Rattle.std.specs.Prelude.{sum_by}
use Rattle.std.specs.List.{AllByRecursion}
use Rattle.std.proofs.lemmas.Bool.{cond-true, cond-false, lt-ltb, ne_eqb}
use Rattle.std.proofs.lemmas.List.Sums.{sum_by-append}
use Rattle.rbbi_model.specs.declared.unit.Unit.{Unit as TextUnit}
use Rattle.rbbi_model.specs.Lists.{IsRising}
use Rattle.rbbi_model.specs.Boundaries.{Boundary}
use Rattle.rbbi_model.specs.Cover.{IsPlaceOf, BeginAtZero, CoverText, places}
use Rattle.rbbi_model.specs.Tables.{Table}
use Rattle.rbbi_model.specs.Searches.{table_boundaries}
use Rattle.rbbi_model.specs.Units.{offset_of, measured}
use Rattle.rbbi_model.specs.UnitAnswers.{place_before, place_from}
use Rattle.rbbi_model.specs.Answers.{Next, IsBoundary, Breaks}
use Rattle.rbbi_model.specs.Costs.{question_cost, forward_cost, last_cost, listing_cost, is_boundary_cost}
use Rattle.rbbi_model.proofs.Covering.{table_covers}
use Rattle.rbbi_model.proofs.ListingCosts.{listing_parts, listing_one}
use Rattle.rbbi_model.proofs.Measured.{offset_rises, end_turned}
use Rattle.rbbi_session.specs.Walks.{Kind, View, Cover, CountsCharacters, ListsArePaid, nexts_cost}
use Rattle.rbbi_session.specs.UnitWalks.{plain_kind, session_view, kind_in_unit, in_unit}
use Rattle.rbbi_session.proofs.Answering.{none_behind, none_past, place_within}
use Rattle.rbbi_session.proofs.UnitCursors.{place_before_here, place_from_here}

-- a place of the boundaries by characters, and an offset of those by the unit
pub is_measured : (unit : TextUnit) (x : List ℕ) (bs : List Boundary) (p : ℕ) → IsPlaceOf bs p → IsPlaceOf (measured unit x bs) (offset_of unit x p)
is_measured unit x [] p here = here
is_measured unit x (b ∷ bs) p here = ⊎_elim (λ same. inl (ap (offset_of unit x) same)) (λ later. inr (is_measured unit x bs p later)) here

pub was_measured : (unit : TextUnit) (x : List ℕ) (bs : List Boundary) (o : ℕ) → IsPlaceOf (measured unit x bs) o →
    (p : ℕ) × IsPlaceOf bs p × (offset_of unit x p ≡ o)
was_measured unit x [] o here = absurd here
was_measured unit x (b ∷ bs) o here =
    ⊎_elim (λ same. (b.at, inl refl, same)) (λ later. let is = was_measured unit x bs o later in (is.0, inr is.1, is.2)) here

-- the boundaries of a text cover it in each unit
module _ (unit : TextUnit) (x : List ℕ) where
  pub begins : (bs : List Boundary) → BeginAtZero bs → BeginAtZero (measured unit x bs)
  begins [] begin = begin
  begins (b ∷ bs) begin = ap (offset_of unit x) begin

  pub rises : (bs : List Boundary) → AllByRecursion (λ b. b.at ≤ length x) bs → IsRising (places bs) → IsRising (places (measured unit x bs))
  rises [] within rising = tt
  rises (b ∷ []) within rising = tt
  rises (b ∷ c ∷ bs) within rising = (offset_rises unit x b.at c.at rising.0 within.1.0, rises (c ∷ bs) within.1 rising.1)

-- what holds of sessions by characters holds of them in a unit
module _ {A Setting : Type 0} (view : View A Setting) (cover : Cover view) (counts : CountsCharacters view) where
  covered : (setting : Setting) (x : List ℕ) → CoverText (length x) ((view.kind setting).boundaries x)
  covered setting x = subst (λ n. CoverText n ((view.kind setting).boundaries x)) (counts.units setting x) (cover setting x)

  within : (setting : Setting) (x : List ℕ) → AllByRecursion (λ b. b.at ≤ length x) ((view.kind setting).boundaries x)
  within setting x = none_behind (length x) ((view.kind setting).boundaries x) (covered setting x)

  pub covers_in_unit : Cover (in_unit view)
  covers_in_unit setting x =
      let bs : List Boundary = (view.kind setting.below).boundaries x in
      let all = covered setting.below x in
      record {
        begin = begins setting.unit x bs all.begin;
        rise = rises setting.unit x bs (within setting.below x) all.rise;
        reach = end_turned (offset_of setting.unit x) refl bs ∙ ap (offset_of setting.unit x) all.reach;
      }

  -- going on from boundaries costs what it does by characters
  nexts_are : (kind : Kind) (unit : TextUnit) (x : List ℕ) (bs : List Boundary) → AllByRecursion (λ b. b.at ≤ length x) bs →
      nexts_cost (kind_in_unit unit kind) x (measured unit x bs) ≡ nexts_cost kind x bs
  nexts_are kind unit x [] within = refl
  nexts_are kind unit x (b ∷ bs) within =
      let later = nexts_are kind unit x bs within.1 in
      let cost : Boundary → ℕ = λ c. kind.cost (record { text = x; cursor = place_before unit x c.at }) Next in
      let plain : Boundary → ℕ = λ c. kind.cost (record { text = x; cursor = c.at }) Next in
      let here : Boundary = record { at = offset_of unit x b.at; statuses = b.statuses } in
      let parts = sum_by-append cost (here ∷ []) (measured unit x bs) in
      let parts' = sum_by-append plain (b ∷ []) bs in
      let one : sum_by cost (here ∷ []) ≡ kind.cost (record { text = x; cursor = place_before unit x (offset_of unit x b.at) }) Next = omega arith in
      let one' : sum_by plain (b ∷ []) ≡ kind.cost (record { text = x; cursor = b.at }) Next = omega arith in
      let place = ap (λ p. kind.cost (record { text = x; cursor = p }) Next) (place_before_here unit x b.at within.0) in
      omega (arith, later, parts, parts', one, one', place)

  pub lists_in_unit : ListsArePaid view → ListsArePaid (in_unit view)
  lists_in_unit lists setting state cursor here =
      let kind : Kind = view.kind setting.below in
      let unit : TextUnit = setting.unit in
      let x : List ℕ = state.text in
      let bs : List Boundary = kind.boundaries x in
      let was = was_measured unit x bs state.cursor here in
      let near : was.0 ≤ length x = place_within bs was.0 (length x) (within setting.below x) was.1 in
      let before : place_before unit x state.cursor ≡ was.0 =
      ap (place_before unit x) (sym was.2) ∙ place_before_here unit x was.0 near in
      let from : place_from unit x state.cursor ≡ was.0 =
      ap (place_from unit x) (sym was.2) ∙ place_from_here unit x was.0 near in
      omega (
        arith,
        nexts_are kind unit x bs (within setting.below x),
        lists setting.below (record { text = x; cursor = was.0 }) (place_before unit x cursor) was.1,
        ap (λ p. kind.cost (record { text = x; cursor = place_before unit x cursor }) (IsBoundary p)) from,
        ap (λ p. kind.cost (record { text = x; cursor = p }) Breaks) before,
      )

-- the boundaries by a table cover the text
pub covers : Cover session_view
covers table x = table_covers table x

module _ (table : Table) (x : List ℕ) where
  nexts_listed : (bs : List Boundary) → nexts_cost (plain_kind table) x bs ≡ listing_cost table x bs
  nexts_listed [] = refl
  nexts_listed (b ∷ bs) =
      let later = nexts_listed bs in
      let cost : Boundary → ℕ = λ c. question_cost table x c.at Next in
      let parts = sum_by-append cost (b ∷ []) bs in
      let one : sum_by cost (b ∷ []) ≡ question_cost table x b.at Next = omega arith in
      omega (arith, later, parts, one, listing_parts table x (b ∷ []) bs, listing_one table x b)

  -- a place within the text that isn't 0 is asked about by going on from the place before it
  asked_again : (c : ℕ) → c ≤ length x → is_boundary_cost table x c ≡ cond (eqb c 0) 0 (forward_cost table x (c - 1))
  asked_again zero within = refl
  asked_again (suc p) within =
      cond-true (ltb p (length x)) (forward_cost table x p) (last_cost table x) (lt-ltb p (length x) (omega arith))
      ∙ ap (forward_cost table x) (let one : p ≡ suc p - 1 = omega arith in one)
      ∙ sym (cond-false (eqb (suc p) 0) 0 (forward_cost table x (suc p - 1)) (ne_eqb (suc p) 0 (λ none. omega (arith, none))))

pub lists_are_paid : ListsArePaid session_view
lists_are_paid table state cursor here =
    let x : List ℕ = state.text in
    let at : ℕ = state.cursor in
    let within : at ≤ length x = place_within (table_boundaries table x) at (length x) (none_past table x) here in
    omega (arith, nexts_listed table x (table_boundaries table x), asked_again table x at within)
