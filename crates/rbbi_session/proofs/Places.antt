-- Where tests of places hold first and last in a list of boundaries.
use Rattle.std.proofs.Common.{◌≡◌, ℕ, Bool, true, false, cond, eqb, ◌<◌, List, [], ◌∷◌, ◌++◌, Option, Some, None, refl, ap, ◌∙◌, arith}
use Rattle.std.specs.List.{AllByRecursion}
use Rattle.std.proofs.lemmas.Bool.{cond-true, cond-false, eq-eqb, ne_eqb}
use Rattle.rbbi_model.specs.Boundaries.{Boundary}
use Rattle.rbbi_model.specs.Answers.{first_place, last_place, statuses_at}
pub use Rattle.rbbi_model.proofs.Lists.{all_through}

-- where the test fails at the first boundaries, it holds first behind them
pub first_skips : (test : ℕ → Bool) (done rest : List Boundary) → AllByRecursion (λ b. test b.at ≡ false) done →
    first_place test (done ++ rest) ≡ first_place test rest
first_skips test [] rest fails = refl
first_skips test (b ∷ done) rest fails =
    cond-false (test b.at) (Some b.at) (first_place test (done ++ rest)) fails.0 ∙ first_skips test done rest fails.1

pub first_takes : (test : ℕ → Bool) (b : Boundary) (rest : List Boundary) → test b.at ≡ true → first_place test (b ∷ rest) ≡ Some b.at
first_takes test b rest holds = cond-true (test b.at) (Some b.at) (first_place test rest) holds

pub first_none : (test : ℕ → Bool) (bs : List Boundary) → AllByRecursion (λ b. test b.at ≡ false) bs → first_place test bs ≡ None
first_none test [] fails = refl
first_none test (b ∷ bs) fails = cond-false (test b.at) (Some b.at) (first_place test bs) fails.0 ∙ first_none test bs fails.1

-- tests that agree hold first at the same place
pub first_same : (test other : ℕ → Bool) → ((n : ℕ) → test n ≡ other n) → (bs : List Boundary) → first_place test bs ≡ first_place other bs
first_same test other same [] = refl
first_same test other same (b ∷ bs) =
    ap (λ t. cond t (Some b.at) (first_place test bs)) (same b.at) ∙ ap (λ o. cond (other b.at) (Some b.at) o) (first_same test other same bs)

pub last_skips : (test : ℕ → Bool) (before : Option ℕ) (rest : List Boundary) → AllByRecursion (λ b. test b.at ≡ false) rest
    → last_place test before rest ≡ before
last_skips test before [] fails = refl
last_skips test before (b ∷ rest) fails =
    ap (λ o. last_place test o rest) (cond-false (test b.at) (Some b.at) before fails.0) ∙ last_skips test before rest fails.1

pub last_none : (test : ℕ → Bool) (bs : List Boundary) → AllByRecursion (λ b. test b.at ≡ false) bs → last_place test None bs ≡ None
last_none test bs fails = last_skips test None bs fails

-- the statuses of a boundary behind others that lie before it
pub statuses_here : (done : List Boundary) (here : Boundary) (rest : List Boundary) → AllByRecursion (λ b. b.at < here.at) done →
    statuses_at (done ++ here ∷ rest) here.at ≡ here.statuses
statuses_here [] here rest before = cond-true (eqb here.at here.at) here.statuses (statuses_at rest here.at) (eq-eqb here.at here.at refl)
statuses_here (b ∷ done) here rest before =
    let less : b.at < here.at = before.0 in
    cond-false (eqb b.at here.at) b.statuses (statuses_at (done ++ here ∷ rest) here.at) (ne_eqb b.at here.at (λ same. omega arith))
    ∙ statuses_here done here rest before.1
