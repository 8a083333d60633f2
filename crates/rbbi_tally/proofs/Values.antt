-- Values of statuses with their counts.
use Rattle.std.proofs.Common.{◌≡◌, ℕ, zero, suc, ◌+◌, ◌-◌, ◌<◌, ◌≤◌, cond, eqb, ◌++◌, ◌∷◌, [], List, length, map, take, drop, get_or, set, sym}
use Rattle.std.proofs.Common.{refl, ap, ◌∙◌, subst, ⊎_elim, arith, add-one}
use Rattle.std.specs.Prelude.{Contains, ◌↔◌}
use Rattle.std.specs.List.{AllByRecursion}
use Rattle.std.proofs.lemmas.Bool.{cases_lt, cases_Bool, cond-true, cond-false, eqb-true}
use Rattle.std.proofs.lemmas.Bool.Decides.{nat_tests}
use Rattle.std.proofs.lemmas.List.{map-set, set-get_or, get_or-map}
use Rattle.std.proofs.lemmas.List.Sums.{sum_by-cons, sum_by-set, sum_by-insert}
use Rattle.rbbi_model.specs.Places.{largest}
use Rattle.rbbi_model.specs.Lists.{IsRising}
use Rattle.rbbi_model.specs.Tables.{Table, statuses_of}
use Rattle.rbbi_model.proofs.Lists.{all_append, all_at, all_take, all_drop}
use Rattle.rbbi_model.proofs.Rising.{rising_tail}
use Rattle.rbbi_tally.specs.declared.counts.ValueCount.{ValueCount}
use Rattle.rbbi_tally.specs.inner.Values.{count_below, sum_at, AreValues}

-- more lists have no smaller counts
pub count_below_grows : (table : Table) (counts : List ℕ) (value few lists : ℕ) → few ≤ lists →
    count_below table counts few value ≤ count_below table counts lists value
count_below_grows table counts value few zero within = omega (arith, ap (λ n. count_below table counts n value) (let e : few ≡ 0 = omega arith in e))
count_below_grows table counts value few (suc lists) within =
    ⊎_elim
    (λ less. omega (arith, count_below_grows table counts value few lists (omega (arith, less))))
    (λ past. omega (arith, ap (λ n. count_below table counts n value) (let e : few ≡ suc lists = omega arith in e)))
    (cases_lt few (suc lists))

pub count_below_one : (table : Table) (counts : List ℕ) (list value : ℕ) → count_below table counts (list + 1) value
    ≡ count_below table counts list value + cond (eqb (largest (statuses_of table list)) value) (get_or counts list 0) 0
count_below_one table counts list value = ap (λ n. count_below table counts n value) (add-one list)

-- a value that is there gets more
pub more_at : (of : ℕ → ℕ) (pairs : List ValueCount) (k value count : ℕ) (d p : ValueCount) → k < length pairs → (get_or pairs k d).value ≡ value →
    p.value ≡ value → p.count ≡ (get_or pairs k d).count + count → AreValues of pairs → AreValues (λ v. of v + cond (eqb value v) count 0) (set pairs k p)
more_at of pairs k value count d p short there same more are = record {
  rising =
      subst IsRising
      (sym (map-set (λ (q : ValueCount). q.value) pairs k p ∙ ap (set (map (λ (q : ValueCount). q.value) pairs) k) (same ∙ sym there
      ∙ sym (get_or-map (λ (q : ValueCount). q.value) pairs k d 0 short)) ∙ set-get_or (map (λ (q : ValueCount). q.value) pairs) k 0)) are.rising;
  positive = all_set (λ (q : ValueCount). 0 < q.count) pairs k p are.positive
      (omega (arith, more, all_at (λ (q : ValueCount). 0 < q.count) pairs k d short are.positive));
  at = λ v.
      let sums = sum_by-set (λ (q : ValueCount). cond (eqb q.value v) q.count 0) pairs k p d short in
      grind (arith, nat_tests, sums, are.at v, same, there, more);
}
  where
    all_set : (P : ValueCount → Type 0) (xs : List ValueCount) (i : ℕ) (y : ValueCount) → AllByRecursion P xs → P y → AllByRecursion P (set xs i y)
    all_set P [] i y all holds = tt
    all_set P (x ∷ xs) zero y all holds = (holds, all.1)
    all_set P (x ∷ xs) (suc i) y all holds = (all.0, all_set P xs i y all.1 holds)

rising_all : (value : ℕ) (rest : List ValueCount) → IsRising (map (λ q. q.value) rest) → AllByRecursion (λ q. value < q.value) rest →
    IsRising (value ∷ map (λ q. q.value) rest)
rising_all value [] rise all = tt
rising_all value (q ∷ rest) rise all = (all.0, rise)

rising_insert : (pairs : List ValueCount) (k : ℕ) (d p : ValueCount) → k ≤ length pairs → IsRising (map (λ q. q.value) pairs) →
    (0 < k → (get_or pairs (k - 1) d).value < p.value) → AllByRecursion (λ q. p.value < q.value) (drop k pairs) →
    IsRising (map (λ q. q.value) (take k pairs ++ p ∷ drop k pairs))
rising_insert pairs zero d p within rise low high = rising_all p.value pairs rise high
rising_insert [] (suc k) d p within rise low high = absurd (omega (arith, within))
rising_insert (q ∷ pairs) (suc zero) d p within rise low high =
    (low (omega arith), rising_all p.value pairs (rising_tail q.value (map (λ q. q.value) pairs) rise) high)
rising_insert (q ∷ []) (suc (suc k)) d p within rise low high = absurd (omega (arith, within))
rising_insert (q ∷ r ∷ pairs) (suc (suc k)) d p within rise low high = (
  rise.0,
  rising_insert (r ∷ pairs) (suc k) d p (omega (arith, within)) rise.1
      (λ some. subst (λ n. (get_or (q ∷ r ∷ pairs) n d).value < p.value) (let e : suc (suc k) - 1 ≡ suc (suc k - 1) = omega arith in e)
      (low (omega arith))) high,
)

-- a new value
pub new_at : (of : ℕ → ℕ) (pairs pairs' : List ValueCount) (k value count : ℕ) (d : ValueCount) → k ≤ length pairs →
    (0 < k → (get_or pairs (k - 1) d).value < value) → AllByRecursion (λ q. value < q.value) (drop k pairs) → 0 < count →
    pairs' ≡ take k pairs ++ record { value = value; count = count } ∷ drop k pairs → AreValues of pairs →
    AreValues (λ v. of v + cond (eqb value v) count 0) pairs'
new_at of pairs pairs' k value count d within low high some is are =
    let p : ValueCount = record { value = value; count = count } in
    record {
      rising = subst (λ l. IsRising (map (λ (q : ValueCount). q.value) l)) (sym is) (rising_insert pairs k d p within are.rising low high);
      positive =
          subst (AllByRecursion (λ (q : ValueCount). 0 < q.count)) (sym is)
          (all_append (λ (q : ValueCount). 0 < q.count) (take k pairs) (p ∷ drop k pairs) (all_take (λ (q : ValueCount). 0 < q.count) k pairs are.positive)
          (some, all_drop (λ (q : ValueCount). 0 < q.count) k pairs are.positive));
      at = λ v. omega (arith, ap (λ l. sum_at l v) is, sum_by-insert (λ (q : ValueCount). cond (eqb q.value v) q.count 0) pairs k p, are.at v);
    }

pub none_at : (of : ℕ → ℕ) (pairs : List ValueCount) (value count : ℕ) → count ≡ 0 → AreValues of pairs →
    AreValues (λ v. of v + cond (eqb value v) count 0) pairs
none_at of pairs value count none are = record {
  rising = are.rising;
  positive = are.positive;
  at = λ v. grind (arith, nat_tests, are.at v, none);
}

pub values_same : (f g : ℕ → ℕ) (pairs : List ValueCount) → ((v : ℕ) → f v ≡ g v) → AreValues f pairs → AreValues g pairs
values_same f g pairs same are = record { rising = are.rising; positive = are.positive; at = λ v. are.at v ∙ same v }

-- the count of a value that is there is at most its sum
pub count_within : (pairs : List ValueCount) (k : ℕ) (d : ValueCount) (v : ℕ) → k < length pairs → (get_or pairs k d).value ≡ v →
    (get_or pairs k d).count ≤ sum_at pairs v
count_within [] k d v short is = absurd (omega (arith, short))
count_within (q ∷ pairs) zero d v short is = grind (arith, nat_tests, sum_by-cons (λ (r : ValueCount). cond (eqb r.value v) r.count 0) q pairs, is)
count_within (q ∷ pairs) (suc k) d v short is =
    omega (arith, sum_by-cons (λ (r : ValueCount). cond (eqb r.value v) r.count 0) q pairs, count_within pairs k d v (omega (arith, short)) is)

later_greater : (v : ℕ) (pairs : List ValueCount) → IsRising (v ∷ map (λ q. q.value) pairs) → AllByRecursion (λ q. v < q.value) pairs
later_greater v [] rise = tt
later_greater v (q ∷ pairs) rise = (rise.0, weaker pairs (later_greater q.value pairs rise.1))
  where
    weaker : (qs : List ValueCount) → AllByRecursion (λ r. q.value < r.value) qs → AllByRecursion (λ r. v < r.value) qs
    weaker [] all = tt
    weaker (r ∷ qs) all = (omega (arith, all.0, rise.0), weaker qs all.1)

sum_none : (v : ℕ) (pairs : List ValueCount) → AllByRecursion (λ q. v < q.value) pairs → sum_at pairs v ≡ 0
sum_none v [] all = refl
sum_none v (q ∷ pairs) all =
    grind (arith, nat_tests, sum_by-cons (λ (r : ValueCount). cond (eqb r.value v) r.count 0) q pairs, all.0, sum_none v pairs all.1)

-- the pair of a value has its whole sum
sum_there : (pairs : List ValueCount) (k : ℕ) (d : ValueCount) → IsRising (map (λ q. q.value) pairs) → k < length pairs →
    sum_at pairs (get_or pairs k d).value ≡ (get_or pairs k d).count
sum_there [] k d rise short = absurd (omega (arith, short))
sum_there (q ∷ pairs) zero d rise short =
    let sums = sum_by-cons (λ (r : ValueCount). cond (eqb r.value q.value) r.count 0) q pairs in
    grind (arith, nat_tests, sums, sum_none q.value pairs (later_greater q.value pairs rise))
sum_there (q ∷ pairs) (suc k) d rise short =
    let v : ℕ = (get_or pairs k d).value in
    let greater = all_at (λ (r : ValueCount). q.value < r.value) pairs k d (omega (arith, short)) (later_greater q.value pairs rise) in
    let further = sum_there pairs k d (rising_tail q.value (map (λ r. r.value) pairs) rise) (omega (arith, short)) in
    grind (arith, nat_tests, sum_by-cons (λ (r : ValueCount). cond (eqb r.value v) r.count 0) q pairs, greater, further)

pair_is : (p q : ValueCount) → p.value ≡ q.value → p.count ≡ q.count → p ≡ q
pair_is p q values counts =
    ap (λ n. record { value = n; count = p.count }) values ∙ ap (λ n. record { value = q.value; count = n }) counts

sum_some : (pairs : List ValueCount) (p : ValueCount) → IsRising (map (λ q. q.value) pairs) → sum_at pairs p.value ≡ p.count → 0 < p.count →
    (k : ℕ) × (k < length pairs) × (get_or pairs k p ≡ p)
sum_some [] p rise is some = absurd (omega (arith, is, some))
sum_some (q ∷ pairs) p rise is some =
    let sums = sum_by-cons (λ (r : ValueCount). cond (eqb r.value p.value) r.count 0) q pairs in
    ⊎_elim
    (λ here.
    let same = eqb-true q.value p.value here in
    let none = sum_none q.value pairs (later_greater q.value pairs rise) in
    (0, omega arith, pair_is q p same (omega (arith, sums, cond-true {A = ℕ} (eqb q.value p.value) q.count 0 here, none, ap (λ n. sum_at pairs n) same, is))))
    (λ other.
    let further = sum_some pairs p (rising_tail q.value (map (λ r. r.value) pairs) rise)
    (omega (arith, sums, cond-false {A = ℕ} (eqb q.value p.value) q.count 0 other, is)) some in
    (suc further.0, omega (arith, further.1), further.2))
    (cases_Bool (eqb q.value p.value))

-- the pairs are exactly those of the values
pub values_exact : (of : ℕ → ℕ) (pairs : List ValueCount) (v n : ℕ) → AreValues of pairs →
    Contains pairs (record { value = v; count = n }) ↔ ((of v ≡ n) × (0 < n))
values_exact of pairs v n are =
    let p : ValueCount = record { value = v; count = n } in (
      λ contains.
          let there = sum_there pairs contains.0 p are.rising contains.1 in
          let values = ap (λ (q : ValueCount). q.value) contains.2 in
          let counts = ap (λ (q : ValueCount). q.count) contains.2 in (
            omega (arith, are.at v, there, ap (λ m. sum_at pairs m) values, counts),
            omega (arith, all_at (λ (q : ValueCount). 0 < q.count) pairs contains.0 p contains.1 are.positive, counts),
          ),
      λ is. sum_some pairs p are.rising (are.at v ∙ is.0) is.1,
    )

pub count_below_here : (table : Table) (counts : List ℕ) (list value : ℕ) → largest (statuses_of table list) ≡ value →
    count_below table counts (list + 1) value ≡ count_below table counts list value + get_or counts list 0
count_below_here table counts list value is = grind (arith, nat_tests, count_below_one table counts list value, is)
