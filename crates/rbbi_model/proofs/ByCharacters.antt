-- Places that count characters are those of the text itself.
use Rattle.std.proofs.Common.{◌≡◌, ℕ, ◌≤◌, List, [], ◌∷◌, length, take, sum_by, refl, arith, length-take}
use Rattle.std.proofs.lemmas.List.Sums.{sum_by-cons}
use Rattle.rbbi_model.specs.declared.unit.Unit.TheVariants.{Chars}
use Rattle.rbbi_model.specs.Units.{size_of, offset_of}

pub sum_ones : (x : List ℕ) → sum_by (size_of Chars) x ≡ length x
sum_ones [] = refl
sum_ones (c ∷ x) = omega (arith, sum_by-cons (size_of Chars) c x, sum_ones x)

-- a place lies where it is
pub offset_of_chars : (x : List ℕ) (i : ℕ) → i ≤ length x → offset_of Chars x i ≡ i
offset_of_chars x i within = omega (arith, sum_ones (take i x), length-take i x, within)
