-- Characters that take one of a unit each.
use Rattle.std.proofs.Common.{◌≡◌, ℕ, ◌+◌, ◌-◌, ◌<◌, ◌≤◌, List, [], ◌∷◌, length, length-take, length-drop, take, drop, sum_by, min, sym, arith}
use Rattle.std.proofs.lemmas.List.Sums.{sum_by-take-drop, sum_by-cons}
use Rattle.rbbi_model.specs.declared.unit.Unit.{Unit as TextUnit}
use Rattle.rbbi_model.specs.Units.{size_of}
use Rattle.rbbi_model.proofs.Measured.{offset_rises}
use Rattle.rbbi_text.specs.inner.Fits.{IsFit}

one_at_least : (unit : TextUnit) (c : ℕ) → 1 ≤ size_of unit c
one_at_least unit c =
    let rise : sum_by (size_of unit) [] < sum_by (size_of unit) (c ∷ []) = offset_rises unit (c ∷ []) 0 1 (omega arith) (omega arith) in
    omega (arith, rise, sum_by-cons (size_of unit) c [])

at_least : (unit : TextUnit) (x : List ℕ) → length x ≤ sum_by (size_of unit) x
at_least unit [] = omega arith
at_least unit (c ∷ x) = omega (arith, one_at_least unit c, at_least unit x, sum_by-cons (size_of unit) c x)

-- where all together take as much as there are, the first ones do
pub even_front : (unit : TextUnit) (x : List ℕ) (i : ℕ) → sum_by (size_of unit) x ≡ length x → i ≤ length x → sum_by (size_of unit) (take i x) ≡ i
even_front unit x i even within =
    omega (
      arith,
      even,
      within,
      at_least unit (take i x),
      at_least unit (drop i x),
      sum_by-take-drop (size_of unit) x i,
      length-take i x,
      length-drop i x,
    )

-- and as many fit as there is room for
pub even_fit : (unit : TextUnit) (x : List ℕ) (most count : ℕ) → sum_by (size_of unit) x ≡ length x → count ≡ min (length x) most →
    IsFit (size_of unit) x most count count
even_fit unit x most count even is = record {
  within = omega arith;
  sum = sym (even_front unit x count even (omega arith));
  fits = omega arith;
  greatest = λ short. omega (arith, even_front unit x (count + 1) even (omega arith));
}

-- what the first ones take, by what the others take
pub front_by_rest : (unit : TextUnit) (x : List ℕ) (i all rest : ℕ) → all ≡ sum_by (size_of unit) x → rest ≡ sum_by (size_of unit) (drop i x) →
    all - rest ≡ sum_by (size_of unit) (take i x)
front_by_rest unit x i all rest is rest_is = omega (arith, sum_by-take-drop (size_of unit) x i)
