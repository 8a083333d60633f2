-- Texts each of whose characters takes one of a unit: a place lies where it is.
use Rattle.std.proofs.Common.{◌≡◌, ℕ, ◌+◌, ◌<◌, ◌≤◌, List, [], ◌∷◌, ◌++◌, length, get_or, take, drop, sum_by, min, ltb, leb, cond, ap, arith}
use Rattle.std.proofs.Common.{length-append, length-take, length-drop}
use Rattle.std.proofs.lemmas.Bool.{leb-true, le-leb, lt-ltb}
use Rattle.std.proofs.lemmas.List.Sums.{sum_by-append, sum_by-cons, sum_by-take-drop, sum_by_more}
use Rattle.rbbi_model.specs.declared.unit.Unit.{Unit as TextUnit}
use Rattle.rbbi_model.specs.declared.unit.Unit.TheVariants.{Utf8, Utf16}
use Rattle.rbbi_model.specs.Units.{size_of, offset_of}
use Rattle.rbbi_model.proofs.Measured.{offset_rises}
use Rattle.rbbi_model.specs.Scripts.{splice}
use Rattle.rbbi_text.specs.Indexes.{IsIndex}
use Rattle.rbbi_text.specs.Weighed.{IsSingle}

-- a text takes as much of a unit as it has characters at least
sum_some : (unit : TextUnit) (x : List ℕ) → length x ≤ sum_by (size_of unit) x
sum_some unit [] = omega arith
sum_some unit (c ∷ x) =
    let some : 1 ≤ size_of unit c = omega (arith, offset_rises unit (c ∷ []) 0 1 (omega arith) (omega arith), sum_by-cons (size_of unit) c []) in
    omega (arith, sum_by-cons (size_of unit) c x, some, sum_some unit x)

module _ (unit : TextUnit) (x : List ℕ) (single : IsSingle unit x) where
  -- both parts of such a text are such texts
  pub single_parts : (i : ℕ) → IsSingle unit (take i x) × IsSingle unit (drop i x)
  single_parts i =
      let short = sum_some unit (take i x) in
      let rest = sum_some unit (drop i x) in
      let all = sum_by-take-drop (size_of unit) x i in
      (omega (arith, short, rest, all, length-take i x, length-drop i x, single), omega (arith, short, rest, all, length-take i x, length-drop i x, single))

  pub offset_of_single : (i : ℕ) → i ≤ length x → offset_of unit x i ≡ i
  offset_of_single i within = omega (arith, (single_parts i).0, length-take i x, within)

  pub index_of_single : (o : ℕ) → IsIndex unit x o (record { at = min o (length x); whole = leb o (length x) })
  index_of_single o =
      let at = offset_of_single (min o (length x)) (omega arith) in
      record {
        within = omega arith;
        before = omega (arith, at);
        greatest = λ i fits low. omega (arith, low, offset_of_single i fits, fits);
        whole = (λ is. let low = leb-true o (length x) is in omega (arith, at, low), λ is. le-leb o (length x) (omega (arith, at, is)));
      }

  -- and so is what an edit makes of it by such a text
  pub single_spliced : (w now : List ℕ) (at remove : ℕ) → IsSingle unit w → now ≡ splice x at remove w → IsSingle unit now
  single_spliced w now at remove single_word is =
      let f : ℕ → ℕ = size_of unit in
      let front : List ℕ = take at x in
      let back : List ℕ = drop (at + remove) x in
      omega (
        arith,
        ap (λ l. sum_by f l) is,
        ap length is,
        sum_by-append f (front ++ w) back,
        sum_by-append f front w,
        length-append (front ++ w) back,
        length-append front w,
        (single_parts at).0,
        (single_parts (at + remove)).1,
        single_word,
      )

-- one more character that takes one
pub single_more : (unit : TextUnit) (x : List ℕ) (i : ℕ) → i < length x → size_of unit (get_or x i 0) ≡ 1 → IsSingle unit (take i x) →
    IsSingle unit (take (i + 1) x)
single_more unit x i short one single = omega (arith, sum_by_more (size_of unit) x i 0 short, one, single, length-take i x, length-take (i + 1) x)

pub one_byte : (c : ℕ) → c < 0x80 → size_of Utf8 c ≡ 1
one_byte c low = ap (λ b. cond b 1 (cond (ltb c 0x800) 2 (cond (ltb c 0x10000) 3 4))) (lt-ltb c 0x80 low)

pub one_unit : (c : ℕ) → c < 0x10000 → size_of Utf16 c ≡ 1
one_unit c low = ap (λ b. cond b 1 2) (lt-ltb c 0x10000 low)
