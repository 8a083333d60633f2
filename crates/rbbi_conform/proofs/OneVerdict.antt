-- A test has one verdict.
use Rattle.std.proofs.Common.{◌≡◌, ℕ, ◌<◌, List, refl, ap, inl, inr, arith}
use Rattle.std.proofs.lemmas.Bool.{cases_lt}
use Rattle.rbbi_model.specs.Boundaries.{Boundary}
use Rattle.rbbi_conform.specs.Tests.{Test}
use Rattle.rbbi_conform.specs.declared.verdict.Verdict.{Verdict}
use Rattle.rbbi_conform.specs.declared.verdict.Verdict.TheVariants.{Same, Differs}
use Rattle.rbbi_conform.specs.Verdicts.{IsFirstDifference, IsVerdict}

-- no place before the first difference differs
not_before : (boundaries : List Boundary) (test : Test) (m n : ℕ) → IsFirstDifference boundaries test m → IsFirstDifference boundaries test n → m < n → ⊥
not_before boundaries test m n is is' below = is.differs (is'.least m is.past_start below)

same_place : (boundaries : List Boundary) (test : Test) (m n : ℕ) → IsFirstDifference boundaries test m → IsFirstDifference boundaries test n → m ≡ n
same_place boundaries test m n is is' =
    elim (cases_lt m n) [
      | inl below ↦ absurd (not_before boundaries test m n is is' below)
      | inr from ↦ elim (cases_lt n m) [
        | inl below ↦ absurd (not_before boundaries test n m is' is below)
        | inr to ↦ omega arith
      ]
    ]

pub same_verdict : (boundaries : List Boundary) (test : Test) (one other : Verdict) → IsVerdict boundaries test one → IsVerdict boundaries test other
    → one ≡ other
same_verdict boundaries test Same Same is is' = refl
same_verdict boundaries test Same (Differs n) is is' = absurd (is'.differs (is n is'.past_start is'.within))
same_verdict boundaries test (Differs m) Same is is' = absurd (is.differs (is' m is.past_start is.within))
same_verdict boundaries test (Differs m) (Differs n) is is' = ap Differs (same_place boundaries test m n is is')
