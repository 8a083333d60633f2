-- What the number of the first range that doesn't end before a code point tells.
use Rattle.std.proofs.Common.{◌≡◌, ℕ, ◌+◌, ◌<◌, ◌≤◌, false, List, length, get_or, ap, inl, inr, arith, ◌⊎◌}
use Rattle.std.specs.List.{AllWithin}
use Rattle.std.proofs.lemmas.Bool.{cases_lt}
use Rattle.std.proofs.lemmas.List.{get_or_default}
use Rattle.rbbi_model.specs.Ranges.{Range}
use Rattle.rbbi_sets.specs.Covers.{covers}
use Rattle.rbbi_sets.specs.Rising.{AreRising}
use Rattle.rbbi_sets.specs.inner.Rising.{IsNextRange}
use Rattle.rbbi_sets.proofs.Coverage.{covers-none}
use Rattle.rbbi_sets.proofs.Rise.{rising-range, rising-apart, rising-order}

-- where all ranges end before
pub covers-past : (xs : List Range) (at next c : ℕ) → IsNextRange xs at next → next ≡ length xs → at ≤ c → covers xs c ≡ false
covers-past xs at next c h e l =
    covers-none xs c (λ k d m. inr (omega (arith, h.0 k d (omega arith) (omega arith))))

-- between the code point and the next range
pub covers-gap : (xs : List Range) (at next c : ℕ) (d : Range) → AreRising xs → IsNextRange xs at next → next < length xs → at ≤ c →
    c < (get_or xs next d).low → covers xs c ≡ false
covers-gap xs at next c d r h n l g = covers-none xs c outside where
  outside : (k : ℕ) (e : Range) → k < length xs → (c < (get_or xs k e).low) ⊎ ((get_or xs k e).high < c)
  outside k e m =
      elim (cases_lt k next) [
        | inl before ↦ inr (omega (arith, h.0 k e (omega arith) before))
        | inr from ↦ inl (omega (arith, (rising-order xs r next k d e from m).0))
      ]

-- the next range still ends at a later code point or past it
pub next_stays : (xs : List Range) (at next : ℕ) (d : Range) → AreRising xs → AllWithin (λ (range : Range). range.high < at) xs 0 next → next < length xs →
    at ≤ (get_or xs next d).high → IsNextRange xs at next
next_stays xs at next d r h n l = (h, λ k e m b. omega (arith, l, (rising-order xs r next k d e m b).1))

-- with a range that ends before, all up to it do
pub ended_through : (xs : List Range) (at number : ℕ) (d : Range) → AreRising xs → number < length xs → (get_or xs number d).high < at →
    AllWithin (λ (range : Range). range.high < at) xs 0 (number + 1)
ended_through xs at number d r n l k e z b = omega (arith, l, (rising-order xs r k number e d (omega arith) n).1)

-- the next range ends right before a later code point, so the one after it is the next
pub next_moves : (xs : List Range) (at next : ℕ) (d : Range) → AreRising xs → next < length xs → (get_or xs next d).high < at →
    at ≤ (get_or xs next d).high + 1 → IsNextRange xs at (next + 1)
next_moves xs at next d r n l m = (ended_through xs at next d r n l, later) where
  later : (k : ℕ) (e : Range) → next + 1 ≤ k → k < length xs → at ≤ (get_or xs k e).high
  later k e a b =
      let first : (get_or xs next e).high ≡ (get_or xs next d).high = ap (λ (x : Range). x.high) (get_or_default xs next e d n) in
      omega (arith, rising-apart 0 xs r next k e (omega arith) b, (rising-range 0 xs r k e b).0, first)
