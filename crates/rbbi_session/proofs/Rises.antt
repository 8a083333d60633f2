-- Lists of boundaries that rise.
use Rattle.std.proofs.Common.{◌≡◌, ℕ, ◌-◌, ◌<◌, ◌≤◌, false, ltb, leb, eqb, List, [], ◌∷◌, Some, sym, ap, ◌∙◌, ⊎_elim, arith}
use Rattle.std.specs.Prelude.{is_some}
use Rattle.std.specs.List.{AllByRecursion}
use Rattle.std.proofs.lemmas.Bool.{cases_Bool, cond-true, cond-false, ne_eqb, eqb-false, leb-true, leb-false, lt-leb, le-leb, le-ltb, lt-ltb}
use Rattle.rbbi_model.specs.Lists.{IsRising}
use Rattle.rbbi_model.specs.Boundaries.{Boundary}
use Rattle.rbbi_model.specs.Cover.{places, IsPlaceOf}
use Rattle.rbbi_model.specs.Answers.{first_place, first_after, first_from, is_place_of}
use Rattle.rbbi_model.proofs.Rising.{rising_tail}
use Rattle.rbbi_model.proofs.Found.{some_same, none_some}
pub use Rattle.rbbi_cache.proofs.Reached.{rises_before, rises_after, rising_right}
use Rattle.rbbi_session.proofs.Places.{all_through, first_none, first_same}

-- the first boundary that isn't before a place past 0 is the first past the place before it
pub from_is_after : (bs : List Boundary) (o : ℕ) → 1 ≤ o → first_from bs o ≡ first_after bs (o - 1)
from_is_after bs o some =
    first_same (λ at. leb o at) (λ at. ltb (o - 1) at)
    (λ at.
    ⊎_elim
    (λ is. let low : o ≤ at = leb-true o at is in is ∙ sym (lt-ltb (o - 1) at (omega arith)))
    (λ isnt. let high : at < o = leb-false o at isnt in isnt ∙ sym (le-ltb (o - 1) at (omega arith)))
    (cases_Bool (leb o at)))
    bs

-- the first boundary that isn't before a place tells whether the place is one
pub place_is_told : (bs : List Boundary) (o r : ℕ) → IsRising (places bs) → first_from bs o ≡ Some r → is_place_of bs o ≡ eqb r o
place_is_told [] o r rising is = absurd (none_some r is)
place_is_told (b ∷ bs) o r rising is =
    ⊎_elim
    (λ holds.
    let same : b.at ≡ r = some_same b.at r (sym (cond-true (leb o b.at) (Some b.at) (first_from bs o) holds) ∙ is) in
    let low : o ≤ b.at = leb-true o b.at holds in
    ⊎_elim
    (λ here.
    ap is_some (cond-true (eqb b.at o) (Some b.at) (first_place (λ at. eqb at o) bs) here) ∙ sym here ∙ ap (λ n. eqb n o) same)
    (λ there.
    let differ : b.at ≡ o → ⊥ = eqb-false b.at o there in
    ap is_some (cond-false (eqb b.at o) (Some b.at) (first_place (λ at. eqb at o) bs) there)
    ∙ ap is_some (first_none (λ at. eqb at o) bs (all_through (λ c. b.at < c.at) (λ c. eqb c.at o ≡ false) (λ c less. ne_eqb c.at o (λ equal. omega arith))
    bs (rises_after b bs rising)))
    ∙ sym there
    ∙ ap (λ n. eqb n o) same)
    (cases_Bool (eqb b.at o)))
    (λ fails.
    let high : b.at < o = leb-false o b.at fails in
    ap is_some (cond-false (eqb b.at o) (Some b.at) (first_place (λ at. eqb at o) bs) (ne_eqb b.at o (λ equal. omega arith)))
    ∙ place_is_told bs o r (rising_tail b.at (places bs) rising) (sym (cond-false (leb o b.at) (Some b.at) (first_from bs o) fails) ∙ is))
    (cases_Bool (leb o b.at))

-- a place among boundaries that lie behind another
later_place : (bs : List Boundary) (p low : ℕ) → AllByRecursion (λ b. low < b.at) bs → IsPlaceOf bs p → low < p
later_place [] p low later here = absurd here
later_place (b ∷ bs) p low later here =
    ⊎_elim (λ same. let less : low < b.at = later.0 in omega arith) (λ further. later_place bs p low later.1 further) here

-- at a boundary the first one that isn't before it is it
pub from_a_place : (bs : List Boundary) (p : ℕ) → IsRising (places bs) → IsPlaceOf bs p → first_from bs p ≡ Some p
from_a_place [] p rising here = absurd here
from_a_place (b ∷ bs) p rising here =
    ⊎_elim
    (λ same. cond-true (leb p b.at) (Some b.at) (first_from bs p) (le-leb p b.at (omega arith)) ∙ ap Some same)
    (λ later.
    cond-false (leb p b.at) (Some b.at) (first_from bs p) (lt-leb p b.at (later_place bs p b.at (rises_after b bs rising) later))
    ∙ from_a_place bs p (rising_tail b.at (places bs) rising) later)
    here
