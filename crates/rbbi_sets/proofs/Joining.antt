-- What `join_last` leaves, case by case.
use Rattle.std.proofs.Common.{◌≡◌, ℕ, ◌+◌, ◌≤◌, List, [], ◌∷◌, ◌++◌, length, get_or, set, take, ap, sym, ◌∙◌, subst, arith}
use Rattle.rbbi_model.specs.Ranges.{Range}
use Rattle.rbbi_sets.specs.Covers.{is_between}
use Rattle.rbbi_sets.specs.inner.Joins.{Joins}
use Rattle.rbbi_sets.specs.Rising.{AreRising}
use Rattle.rbbi_sets.specs.inner.Rising.{BeginUpTo}
use Rattle.rbbi_sets.proofs.Coverage.{covers-push}
use Rattle.rbbi_sets.proofs.Rise.{rising-range, last_split, last_set, rising-joined, rising-push, begin-push, begin-joined, begin-at, covers-joined}
use Rattle.rbbi_sets.proofs.Rise.{covers-inside}

-- where the list had no range
pub Joins-first : (xs : List Range) (y : Range) → xs ≡ [] → y.low ≤ y.high → y.high ≤ 0x10FFFF → Joins xs (xs ++ y ∷ []) (is_between y.low y.high) y.low
Joins-first xs y e a b =
    subst (λ zs. Joins zs (zs ++ y ∷ []) (is_between y.low y.high) y.low) (sym e)
    (record { members = covers-push [] y; rising = (omega arith, a, b, tt); begin = (omega arith, tt) })

push_split : (xs : List Range) (l y : Range) → AreRising (xs ++ l ∷ []) → BeginUpTo (xs ++ l ∷ []) y.low → l.high + 2 ≤ y.low → y.low ≤ y.high →
    y.high ≤ 0x10FFFF → Joins (xs ++ l ∷ []) ((xs ++ l ∷ []) ++ y ∷ []) (is_between y.low y.high) y.low
push_split xs l y h g e a b = record {
  members = covers-push (xs ++ l ∷ []) y;
  rising = rising-push 0 xs l y h e a b;
  begin = begin-push (xs ++ l ∷ []) y y.low g (omega arith);
}

-- where a gap follows the last range
pub Joins-push : (xs : List Range) (n : ℕ) (l y : Range) → n + 1 ≡ length xs → l ≡ get_or xs n l → AreRising xs → BeginUpTo xs y.low → l.high + 2 ≤ y.low →
    y.low ≤ y.high → y.high ≤ 0x10FFFF → Joins xs (xs ++ y ∷ []) (is_between y.low y.high) y.low
Joins-push xs n l y e i h g f a b =
    let split : xs ≡ take n xs ++ l ∷ [] = last_split xs n l e ∙ ap (λ r. take n xs ++ r ∷ []) (sym i) in
    subst (λ zs. Joins zs (zs ++ y ∷ []) (is_between y.low y.high) y.low) (sym split)
    (push_split (take n xs) l y (subst AreRising split h) (subst (λ zs. BeginUpTo zs y.low) split g) f a b)

joined_split : (xs : List Range) (l y : Range) (low : ℕ) → AreRising (xs ++ l ∷ []) → BeginUpTo (xs ++ l ∷ []) low → y.low ≡ l.low → l.low ≤ low →
    l.low ≤ l.high → low ≤ l.high + 1 → l.high ≤ y.high → y.high ≤ 0x10FFFF → Joins (xs ++ l ∷ []) (xs ++ y ∷ []) (is_between low y.high) low
joined_split xs l y low h g e a r f b m = record {
  members = λ c. covers-joined xs l y low c e a f b r;
  rising = rising-joined 0 xs l y h e b m;
  begin = begin-joined xs l y low g e;
}

-- where the last range is overlapped or touched, and ends later now
pub Joins-joined : (xs : List Range) (n : ℕ) (l y : Range) (low : ℕ) → n + 1 ≡ length xs → l ≡ get_or xs n l → AreRising xs → BeginUpTo xs low →
    y.low ≡ l.low → low ≤ l.high + 1 → l.high ≤ y.high → y.high ≤ 0x10FFFF → Joins xs (set xs n y) (is_between low y.high) low
Joins-joined xs n l y low e i h g s f b m =
    let split : xs ≡ take n xs ++ l ∷ [] = last_split xs n l e ∙ ap (λ r. take n xs ++ r ∷ []) (sym i) in
    let inside = rising-range 0 xs h n l (omega arith) in
    let l_range : l.low ≤ l.high = subst (λ r. r.low ≤ r.high) (sym i) inside.0 in
    let l_begin : l.low ≤ low = subst (λ r. r.low ≤ low) (sym i) (begin-at xs low g n l (omega arith)) in
    let of_split : Joins (take n xs ++ l ∷ []) (take n xs ++ y ∷ []) (is_between low y.high) low =
    joined_split (take n xs) l y low (subst AreRising split h) (subst (λ zs. BeginUpTo zs low) split g) s l_begin l_range f b m in
    let of_old : Joins xs (take n xs ++ y ∷ []) (is_between low y.high) low =
    subst (λ zs. Joins zs (take n xs ++ y ∷ []) (is_between low y.high) low) (sym split) of_split in
    subst (λ zs. Joins xs zs (is_between low y.high) low) (sym (last_set xs n y e)) of_old

-- where the last range holds all that is added
pub Joins-inside : (xs : List Range) (n : ℕ) (l : Range) (low high : ℕ) → n + 1 ≡ length xs → l ≡ get_or xs n l → AreRising xs → BeginUpTo xs low →
    high ≤ l.high → Joins xs xs (is_between low high) low
Joins-inside xs n l low high e i h g f = record {
  members = λ c. covers-inside xs n l low high c (omega arith) (begin-at xs low g n l (omega arith)) (subst (λ r. high ≤ r.high) i f);
  rising = h;
  begin = g;
}
