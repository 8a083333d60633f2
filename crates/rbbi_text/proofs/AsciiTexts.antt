-- Texts of ASCII characters, each of which takes one of every unit.
use Rattle.std.proofs.Common.{◌≡◌, ℕ, suc, ◌-◌, ◌<◌, ◌≤◌, List, [], ◌∷◌, length, take, get_or, sum_by, cond, ltb, refl, ◌∙◌, subst, inl, inr, arith, eq-zero-or-pos}
use Rattle.std.specs.Str.{IsAscii}
use Rattle.std.proofs.lemmas.Bool.Decides.{nat_tests}
use Rattle.std.proofs.lemmas.List.{get_or_past, length-take-le}
use Rattle.std.proofs.lemmas.List.Sums.{sum_by-cons}
use Rattle.std.proofs.lemmas.Str.{chars-IsAscii, IsUtf8-from_ascii, IsAscii-take}
use Rattle.rbbi_model.specs.declared.unit.Unit.{Unit as TextUnit}
use Rattle.rbbi_model.specs.declared.unit.Unit.TheVariants.{Chars, Utf8, Utf16}
use Rattle.rbbi_model.specs.Units.{size_of, offset_of}
use Rattle.rbbi_model.specs.Words.{IsText}
use Rattle.rbbi_text.proofs.Characters.{IsText-chars}

-- bytes of which none is greater than an ASCII one
pub IsAscii-below : (bytes : List ℕ) (greatest : ℕ) → ((k : ℕ) → k < length bytes → get_or bytes k 0 ≤ greatest) → greatest < 128 → IsAscii bytes
IsAscii-below bytes greatest below small k =
    elim (eq-zero-or-pos (length bytes - k)) [
      | inl z ↦ let past = get_or_past bytes k 0 (omega arith) in omega (arith, past)
      | inr p ↦ omega (arith, below k (omega arith))
    ]

pub IsText-ascii : (x : List ℕ) → IsAscii x → IsText x
IsText-ascii x ascii = subst IsText (chars-IsAscii x ascii) (IsText-chars x (IsUtf8-from_ascii x ascii))

first_case : (c limit a b : ℕ) → c < limit → cond (ltb c limit) a b ≡ a
first_case c limit a b below = grind (arith, nat_tests)

size_one : (unit : TextUnit) (c : ℕ) → c < 128 → size_of unit c ≡ 1
size_one Chars c ascii = refl
size_one Utf8 c ascii = first_case c 0x80 1 _ ascii
size_one Utf16 c ascii = first_case c 0x10000 1 2 (omega arith)

sizes : (unit : TextUnit) (x : List ℕ) → IsAscii x → sum_by (size_of unit) x ≡ length x
sizes unit [] ascii = refl
sizes unit (c ∷ x) ascii = omega (arith, sum_by-cons (size_of unit) c x, size_one unit c (ascii 0), sizes unit x (λ k. ascii (suc k)))

-- a place lies in each unit where it lies in characters
pub offset-ascii : (unit : TextUnit) (x : List ℕ) (i : ℕ) → IsAscii x → i ≤ length x → offset_of unit x i ≡ i
offset-ascii unit x i ascii within = sizes unit (take i x) (IsAscii-take x i ascii) ∙ length-take-le i x within
