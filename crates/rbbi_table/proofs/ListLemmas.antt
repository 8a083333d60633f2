-- Status lists, number by number and list by list.
use Rattle.std.proofs.Common.{◌≡◌, ℕ, ◌+◌, min, ◌<◌, ◌≤◌, ◌⊎◌, ◌↔◌, List, [], ◌∷◌, length, drop, get_or, sym, ap, subst, ⊎_elim}
use Rattle.std.proofs.Common.{arith}
use Rattle.std.proofs.lemmas.Bool.{cases_lt}
use Rattle.std.proofs.lemmas.List.{drop_more, drop_all}
use Rattle.std.specs.List.{AllByRecursion}
use Rattle.rbbi_model.specs.Lists.{IsRising}
use Rattle.rbbi_model.specs.Rules.{largest_tag}
use Rattle.rbbi_model.specs.ValidTables.{IsValidList, IsBefore, AreInOrder, AreValidLists}

-- the numbers rise from the one before them, and the last isn't too large
abbrev pub RiseFrom : ℕ → List ℕ → Type 0
RiseFrom previous [] = previous ≤ largest_tag
RiseFrom previous (status ∷ statuses) = (previous < status) × RiseFrom status statuses

rises : (status : ℕ) (statuses : List ℕ) → IsRising (status ∷ statuses) → AllByRecursion (λ n. n ≤ largest_tag) (status ∷ statuses) → RiseFrom status statuses
rises status [] rising small = small.0
rises status (next ∷ statuses) rising small = (rising.0, rises next statuses rising.1 small.1)

is_rising : (status : ℕ) (statuses : List ℕ) → RiseFrom status statuses → IsRising (status ∷ statuses) × (status ≤ largest_tag) ×
    AllByRecursion (λ n. n ≤ largest_tag) statuses
is_rising status [] rise = (tt, rise, tt)
is_rising status (next ∷ statuses) rise =
    let rest = is_rising next statuses rise.1 in
    ((rise.0, rest.0), omega (arith, rise.0, rest.1), (rest.1, rest.2))

pub valid_where_rise : (statuses : List ℕ) → 1 ≤ length statuses → length statuses ≤ 4096 →
    IsValidList statuses ↔ RiseFrom (get_or statuses 0 0) (drop 1 statuses)
valid_where_rise [] some few = absurd (omega (arith, some))
valid_where_rise (status ∷ statuses) some few = (
  λ valid. rises status statuses valid.rising valid.small,
  λ rise.
      let parts = is_rising status statuses rise in
      record { some = some; few = few; rising = parts.0; small = (parts.1, parts.2) },
)

-- each of the lists is valid and comes after the one before it
abbrev pub ComeOn : List ℕ → List (List ℕ) → Type 0
ComeOn previous [] = Unit {0}
ComeOn previous (statuses ∷ lists) = (IsValidList statuses × IsBefore previous statuses) × ComeOn statuses lists

come : (statuses : List ℕ) (lists : List (List ℕ)) → AreInOrder (statuses ∷ lists) → AllByRecursion IsValidList lists → ComeOn statuses lists
come statuses [] order valid = tt
come statuses (next ∷ lists) order valid = ((valid.0, order.0), come next lists order.1 valid.1)

in_order : (statuses : List ℕ) (lists : List (List ℕ)) → ComeOn statuses lists → AreInOrder (statuses ∷ lists) × AllByRecursion IsValidList lists
in_order statuses [] come = (tt, tt)
in_order statuses (next ∷ lists) come =
    let rest = in_order next lists come.1 in
    ((come.0.1, rest.0), (come.0.0, rest.1))

zero_alone : IsValidList (0 ∷ [])
zero_alone = record { some = omega arith; few = omega arith; rising = tt; small = (omega arith, tt) }

pub valid_where_come_on : (lists : List (List ℕ)) → 1 ≤ length lists → length lists ≤ 4095 → get_or lists 0 [] ≡ 0 ∷ [] →
    AreValidLists lists ↔ ComeOn (get_or lists 0 []) (drop 1 lists)
valid_where_come_on [] some few first = absurd (omega (arith, some))
valid_where_come_on (statuses ∷ lists) some few first = (
  λ valid. come statuses lists valid.in_order valid.each.1,
  λ on.
      let parts = in_order statuses lists on in
      record { some = some; few = few; each = (subst (λ l. IsValidList l) (sym first) zero_alone, parts.1); first = first; in_order = parts.0 },
)

nothing_before : (these : List ℕ) → IsBefore these [] → ⊥
nothing_before [] before = before
nothing_before (n ∷ these) before = before

-- at the end of the shorter list
pub ending : (these those : List ℕ) (i : ℕ) → i ≡ min (length these) (length those) → (length these < length those) ↔ IsBefore (drop i these) (drop i those)
ending these those i is =
    ⊎_elim
    (λ shorter.
    let none : drop i these ≡ [] = drop_all i these (omega arith) in
    let more : drop i those ≡ get_or those i 0 ∷ drop (i + 1) those = drop_more those i 0 (omega arith) in
    (λ _. subst (λ (l : List ℕ). IsBefore l (drop i those)) (sym none) (subst (λ (l : List ℕ). IsBefore [] l) (sym more) tt), λ _. shorter))
    (λ longer.
    let none : drop i those ≡ [] = drop_all i those (omega arith) in
    (λ shorter. absurd (omega arith), λ before. absurd (nothing_before (drop i these) (subst (λ (l : List ℕ). IsBefore (drop i these) l) none before))))
    (cases_lt (length these) (length those))

-- what decides at a place that both lists have
abbrev pub DecidesAt : List ℕ → List ℕ → ℕ → Type 0
DecidesAt these those i = (get_or these i 0 < get_or those i 0) ⊎ ((get_or these i 0 ≡ get_or those i 0) × IsBefore (drop (i + 1) these) (drop (i + 1) those))

pub both_more : (these those : List ℕ) (i : ℕ) → i < length these → i < length those → IsBefore (drop i these) (drop i those) → DecidesAt these those i
both_more these those i this that before =
    subst (λ (l : List ℕ). IsBefore (get_or these i 0 ∷ drop (i + 1) these) l) (drop_more those i 0 that)
    (subst (λ (l : List ℕ). IsBefore l (drop i those)) (drop_more these i 0 this) before)

pub both_back : (these those : List ℕ) (i : ℕ) → i < length these → i < length those → DecidesAt these those i → IsBefore (drop i these) (drop i those)
both_back these those i this that decides =
    let one : IsBefore (get_or these i 0 ∷ drop (i + 1) these) (get_or those i 0 ∷ drop (i + 1) those) = decides in
    subst (λ (l : List ℕ). IsBefore l (drop i those)) (sym (drop_more these i 0 this))
    (subst (λ (l : List ℕ). IsBefore (get_or these i 0 ∷ drop (i + 1) these) l) (sym (drop_more those i 0 that)) one)

-- a list of one number that is 0
pub zero_alone_is : (statuses : List ℕ) → length statuses ≡ 1 → get_or statuses 0 0 ≡ 0 → statuses ≡ 0 ∷ []
zero_alone_is [] one first = absurd (omega (arith, one))
zero_alone_is (n ∷ []) one first = ap (λ m. m ∷ []) first
zero_alone_is (n ∷ m ∷ statuses) one first = absurd (omega (arith, one))
