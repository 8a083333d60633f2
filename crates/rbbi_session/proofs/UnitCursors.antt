-- The places that a number names, where the offset of a place lies, and which places lie before an offset.
use Rattle.std.proofs.Common.{◌≡◌, ◌≢◌, ℕ, ◌+◌, ◌<◌, ◌≤◌, true, false, ltb, leb, List, Option, Some, None, length, refl, sym, ◌∙◌, ⊎_elim, inl, inr}
use Rattle.std.proofs.Common.{arith, subst}
use Rattle.std.specs.Prelude.{MatchBool, unwrap_or, ◌⊎◌}
use Rattle.std.proofs.lemmas.Bool.{cases_lt, lt-ltb, le-ltb, lt-leb, le-leb, leb-true, leb-false, false≢true}
use Rattle.rbbi_model.specs.declared.unit.Unit.{Unit as TextUnit}
use Rattle.rbbi_model.specs.Places.{greatest_below}
use Rattle.rbbi_model.specs.Units.{offset_of}
use Rattle.rbbi_model.specs.UnitAnswers.{place_before, place_from}
use Rattle.rbbi_model.proofs.Found.{least_lies, greatest_lies}
use Rattle.rbbi_model.proofs.SearchFacts.{least_is, none_passes, greatest_is_most}
use Rattle.rbbi_model.proofs.SearchesAlike.{least_unique}
use Rattle.rbbi_model.proofs.Measured.{offset_rises, rises_up_to}
use Rattle.rbbi_text.specs.declared.units.Index.{Index}
use Rattle.rbbi_text.specs.Indexes.{IsIndex}
use Rattle.rbbi_session.specs.KnownPlaces.{IsKnown}
use Rattle.rbbi_session.specs.inner.UnitPlaces.{IsPlaceUpTo, IsPlaceFrom}

-- what is found of a number
module _ (unit : TextUnit) (x : List ℕ) (o : ℕ) (index : Index) (is : IsIndex unit x o index) where
  low_passes : leb (offset_of unit x index.at) o ≡ true
  low_passes = le-leb (offset_of unit x index.at) o is.before

  greatest : (place : Option ℕ) → greatest_below (λ i. leb (offset_of unit x i) o) (length x + 1) ≡ place → unwrap_or place 0 ≡ index.at
  greatest None found =
      absurd (none_passes (λ i. leb (offset_of unit x i) o) (length x + 1) index.at found (omega (arith, is.within)) low_passes)
  greatest (Some g) found =
      let lies = greatest_lies (λ i. leb (offset_of unit x i) o) (length x + 1) g found in
      let most = greatest_is_most (λ i. leb (offset_of unit x i) o) (length x + 1) g index.at found (omega (arith, is.within)) low_passes in
      let up_to = is.greatest g (omega (arith, lies.0)) (leb-true (offset_of unit x g) o lies.1) in
      omega (arith, most, up_to)

  pub before_is : place_before unit x o ≡ index.at
  before_is = greatest (greatest_below (λ i. leb (offset_of unit x i) o) (length x + 1)) refl

-- the first place that doesn't lie before the number, where each earlier one does
pub from_is : (unit : TextUnit) (x : List ℕ) (o p : ℕ) → p ≤ length x + 1 → ((q : ℕ) → q < p → q ≤ length x → offset_of unit x q < o) →
    ((p ≤ length x) → o ≤ offset_of unit x p) → place_from unit x o ≡ p
from_is unit x o p within before here =
    least_unique (λ i. leb o (offset_of unit x i)) 0 (length x + 1) p (omega arith) (omega (arith, within))
    (λ q low less. lt-leb o (offset_of unit x q) (before q less (omega (arith, less, within))))
    (⊎_elim (λ short. inl (le-leb o (offset_of unit x p) (here (omega (arith, short))))) (λ all. inr (omega (arith, all, within)))
    (cases_lt p (length x + 1)))

-- the places that a number names
module _ (unit : TextUnit) (x : List ℕ) (o : ℕ) where
  rising : (i j : ℕ) → i ≤ j → j ≤ length x → offset_of unit x i ≤ offset_of unit x j
  rising = rises_up_to (offset_of unit x) (length x) (offset_rises unit x)

  pub place_past : offset_of unit x (length x) < o → IsPlaceFrom unit x o (record { at = length x + 1; whole = false })
  place_past past = record {
    at_is = sym (from_is unit x o (length x + 1) (omega arith) (λ q less short. let low = rising q (length x) short (omega arith) in omega (arith, low, past))
        (λ short. absurd (omega (arith, short))));
    before = λ p short less. let low = rising p (length x) short (omega arith) in omega (arith, low, past);
    from = λ p short more. absurd (omega (arith, short, more));
    whole = λ p short is. let low = rising p (length x) short (omega arith) in omega (arith, low, past, is);
  }

  pub up_to_past : offset_of unit x (length x) < o → IsPlaceUpTo unit x o (length x + 1)
  up_to_past past = record {
    up_to = λ p short more. let low = rising p (length x) short (omega arith) in omega (arith, low, past);
    past = λ p short less. absurd (omega (arith, short, less));
  }

  pub up_to_index : (index : Index) → IsIndex unit x o index → IsPlaceUpTo unit x o index.at
  up_to_index index is = record {
    up_to = λ p short more. let low = rising p index.at more is.within in omega (arith, low, is.before);
    past = λ p short less.
        ⊎_elim (λ far. far) (λ near. let low = is.greatest p short near in absurd (omega (arith, low, less))) (cases_lt o (offset_of unit x p));
  }

  pub place_whole : (index : Index) → IsIndex unit x o index → index.whole ≡ true → IsPlaceFrom unit x o index
  place_whole index is whole =
      let at : offset_of unit x index.at ≡ o = is.whole.0 whole in
      let before : (p : ℕ) → p < index.at → p ≤ length x → offset_of unit x p < o =
      λ p less short. let low = offset_rises unit x p index.at less is.within in omega (arith, low, at) in
      record {
        at_is = sym (from_is unit x o index.at (omega (arith, is.within)) before (λ _. omega (arith, at)));
        before = λ p short less. before p less short;
        from = λ p short more. let low = rising index.at p more short in omega (arith, low, at);
        whole = subst (λ b. MatchBool b ((index.at ≤ length x) × (offset_of unit x index.at ≡ o)) ((p : ℕ) → p ≤ length x → offset_of unit x p ≢ o))
            (sym whole) (is.within, at);
      }

  pub place_inside : (index : Index) → IsIndex unit x o index → index.whole ≡ false → o ≤ offset_of unit x (length x) →
      IsPlaceFrom unit x o (record { at = index.at + 1; whole = false })
  place_inside index is isnt within =
      let never_at : offset_of unit x index.at ≢ o = λ at. false≢true (sym isnt ∙ is.whole.1 at) in
      let before : (p : ℕ) → p < index.at + 1 → p ≤ length x → offset_of unit x p < o =
      λ p less short. let low = rising p index.at (omega (arith, less)) is.within in omega (arith, low, is.before, never_at) in
      let from : (p : ℕ) → p ≤ length x → index.at + 1 ≤ p → o ≤ offset_of unit x p =
      λ p short more.
      ⊎_elim (λ near. let low = is.greatest p short (omega (arith, near)) in absurd (omega (arith, low, more))) (λ far. far) (cases_lt
      (offset_of unit x p) o) in
      record {
        at_is = sym (from_is unit x o (index.at + 1) (omega (arith, is.within)) before (λ short. from (index.at + 1) short (omega arith)));
        before = λ p short less. before p less short;
        from = from;
        whole = λ p short at.
            let low = is.greatest p short (omega (arith, at)) in
            let less = before p (omega (arith, low)) short in omega (arith, less, at);
      }

  -- whether the number lies past the text's end
  pub up_to_end : (index : Index) → IsIndex unit x o index → index.whole ≡ true ⊎ (index.at < length x) → o ≤ offset_of unit x (length x)
  up_to_end index is (inl whole) = let low = rising index.at (length x) is.within (omega arith) in omega (arith, low, is.whole.0 whole)
  up_to_end index is (inr short) =
      ⊎_elim (λ past. let low = is.greatest (length x) (omega arith) (omega (arith, past)) in absurd (omega (arith, low, short))) (λ up_to. up_to)
      (cases_lt (offset_of unit x (length x)) o)

  pub past_end : (index : Index) → IsIndex unit x o index → index.whole ≡ false → length x ≤ index.at → offset_of unit x (length x) < o
  past_end index is isnt all =
      let never_at : offset_of unit x index.at ≢ o = λ at. false≢true (sym isnt ∙ is.whole.1 at) in
      let low = rising (length x) index.at all is.within in omega (arith, low, is.before, never_at)

  pub place_after : (index : Index) → IsIndex unit x o index → index.whole ≡ false → IsPlaceFrom unit x o (record { at = index.at + 1; whole = false })
  place_after index is isnt =
      ⊎_elim
      (λ past. let low = is.greatest (length x) (omega arith) (omega (arith, past)) in
      let all : length x ≡ index.at = omega (arith, low, is.within) in
      subst (λ n. IsPlaceFrom unit x o (record { at = n + 1; whole = false })) all (place_past past))
      (λ up_to. place_inside index is isnt up_to) (cases_lt (offset_of unit x (length x)) o)

  -- the place that it names is known
  pub named_is : (index : Index) → IsIndex unit x o index → index.whole ≡ true → IsKnown unit x (record { at = index.at; offset = o })
  named_is index is whole = record { within = is.within; offset_is = sym (is.whole.0 whole) }

-- what lies at the offset of a place is the place
module _ (unit : TextUnit) (x : List ℕ) (c : ℕ) (within : c ≤ length x) where
  exact : IsIndex unit x (offset_of unit x c) (record { at = c; whole = true })
  exact = record {
    within = within;
    before = omega arith;
    greatest = λ i short low.
        ⊎_elim (λ past. let more = offset_rises unit x c i past short in absurd (omega (arith, low, more))) (λ up_to. up_to) (cases_lt c i);
    whole = (λ _. refl, λ _. refl);
  }

  pub place_before_here : place_before unit x (offset_of unit x c) ≡ c
  place_before_here = before_is unit x (offset_of unit x c) (record { at = c; whole = true }) exact

  pub place_from_here : place_from unit x (offset_of unit x c) ≡ c
  place_from_here = sym (place_whole unit x (offset_of unit x c) (record { at = c; whole = true }) exact refl).at_is

-- which places lie before the offset
pub before_from : (unit : TextUnit) (x : List ℕ) (v p : ℕ) → p ≤ length x → ltb (offset_of unit x p) v ≡ ltb p (place_from unit x v)
before_from unit x v p within =
    let lies = least_lies (λ i. leb v (offset_of unit x i)) 0 (length x + 1) in
    let is = least_is (λ i. leb v (offset_of unit x i)) 0 (length x + 1) in
    ⊎_elim
    (λ less.
    lt-ltb (offset_of unit x p) v (leb-false v (offset_of unit x p) (is.0 p (omega arith) less)) ∙ sym (lt-ltb p (place_from unit x v) less))
    (λ more.
    ⊎_elim
    (λ holds.
    let at = leb-true v (offset_of unit x (place_from unit x v)) holds in
    let low = rises_up_to (offset_of unit x) (length x) (offset_rises unit x) (place_from unit x v) p more within in
    le-ltb (offset_of unit x p) v (omega (arith, at, low)) ∙ sym (le-ltb p (place_from unit x v) more))
    (λ none. absurd (omega (arith, none, more, within)))
    is.1)
    (cases_lt p (place_from unit x v))
