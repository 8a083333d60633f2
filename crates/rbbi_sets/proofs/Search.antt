-- What a binary search by the ranges' ends tells of membership.
use Rattle.std.proofs.Common.{◌≡◌, ℕ, ◌<◌, true, false, leb, ltb, List, length, get_or, sym, ◌∙◌, inl, inr, arith, ◌↔◌}
use Rattle.std.specs.List.Sorted.{IsNonDecreasingBy, IsPartitionPoint}
use Rattle.std.proofs.lemmas.Bool.{cases_lt, ltb-true, ltb-false, leb-true, le-leb, false≢true}
use Rattle.rbbi_model.specs.Ranges.{Range, Has}
use Rattle.rbbi_sets.specs.Rising.{AreRising}
use Rattle.rbbi_sets.specs.inner.Rising.{IsNextRange}
use Rattle.rbbi_sets.proofs.Coverage.{Decides-covers, covers-at}
use Rattle.rbbi_sets.proofs.Rise.{rising-order}
use Rattle.rbbi_sets.proofs.Places.{covers-past, covers-gap}

pub ends_rise : (xs : List Range) → AreRising xs → IsNonDecreasingBy (λ (range : Range). range.high) xs
ends_rise xs r i j d l m = (rising-order xs r i j d d l m).1

pub next_from_point : (xs : List Range) (c next : ℕ) →
    IsPartitionPoint (λ (range : Range). ltb range.high c ≡ true) (λ (range : Range). ltb range.high c ≡ false) xs next → IsNextRange xs c next
next_from_point xs c next h =
    (λ k d l m. ltb-true _ _ (h.0 k d l m), λ k d l m. ltb-false _ _ (h.1 k d l m))

pub has_at_next : (xs : List Range) (c next low : ℕ) (d : Range) → AreRising xs → IsNextRange xs c next → next < length xs → low ≡ (get_or xs next d).low →
    (leb low c ≡ true) ↔ Has xs c
has_at_next xs c next low d r h l e = (found, missed) where
  found : leb low c ≡ true → Has xs c
  found t =
      (Decides-covers xs c).0
      (covers-at xs next d c l (omega (arith, leb-true low c t, e)) (h.1 next d (omega arith) l))

  missed : Has xs c → leb low c ≡ true
  missed m =
      elim (cases_lt c low) [
        | inl before ↦
            absurd (false≢true (sym (covers-gap xs c next c d r h l (omega arith) (omega (arith, e))) ∙ (Decides-covers xs c).1 m))
        | inr from ↦ le-leb low c from
      ]

pub has_past : (xs : List Range) (c next : ℕ) → IsNextRange xs c next → next ≡ length xs → Has xs c → ⊥
has_past xs c next h e m =
    false≢true (sym (covers-past xs c next c h e (omega arith)) ∙ (Decides-covers xs c).1 m)
