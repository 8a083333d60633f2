-- What an answer of yes or no says.
use Rattle.std.proofs.Common.{◌≡◌, ◌↔◌, ℕ, ◌-◌, ◌<◌, ◌≤◌, Bool, true, false, eqb, IsTrue, List, [], length, take, drop, get_or, refl, sym, ap, ◌∙◌, subst}
use Rattle.std.proofs.Common.{arith}
use Rattle.std.proofs.lemmas.Bool.{false≢true, eqb-false}
use Rattle.std.proofs.lemmas.List.{take_rest, get_or_read, drop_all}

-- the answer no, where the fact doesn't hold
pub refuted : {P : Type 0} → ¬ P → IsTrue false ↔ P
refuted fails = (λ is. absurd (false≢true is), λ holds. absurd (fails holds))

-- the answer yes, where the fact holds
pub granted : {P : Type 0} → P → IsTrue true ↔ P
granted holds = (λ _. holds, λ _. refl)

-- what an answer no says
pub fails : {P : Type 0} (b : Bool) → IsTrue b ↔ P → b ≡ false → ¬ P
fails b means is holds = false≢true (let P_is : b ≡ true = means.1 holds in cc)

-- a list that isn't empty has an item
pub some_items : {A : Type 0} (xs : List A) (b : Bool) → b ≡ eqb (length xs) 0 → b ≡ false → 1 ≤ length xs
some_items xs b is fails = omega (arith, eqb-false (length xs) 0 (sym is ∙ fails))

-- an item of what follows the first
pub item_is : {X : Type 0} (xs : List X) (i : ℕ) (x d : X) → i < length (take (length xs - 1) (drop 1 xs)) → x ≡ get_or (take (length xs - 1) (drop 1 xs)) i x →
    (i < length (drop 1 xs)) × (x ≡ get_or (drop 1 xs) i d)
item_is {X} xs i x d short is =
    let same : take (length xs - 1) (drop 1 xs) ≡ drop 1 xs = take_rest xs 1 in
    let within : i < length (drop 1 xs) = subst (λ (l : List X). i < length l) same short in
    (within, get_or_read (drop 1 xs) i x within (subst (λ (l : List X). x ≡ get_or l i x) same is) d)

-- where nothing follows the first any more
pub items_end : {X : Type 0} (xs : List X) (i : ℕ) → length (take (length xs - 1) (drop 1 xs)) ≤ i → drop i (drop 1 xs) ≡ []
items_end {X} xs i past = drop_all i (drop 1 xs) (subst (λ (l : List X). length l ≤ i) (take_rest xs 1) past)

-- the same, read with a default
pub rest_item : {X : Type 0} (xs : List X) (i : ℕ) (d : X) → i < length (take (length xs - 1) (drop 1 xs)) → (i < length (drop 1 xs)) ×
    (get_or (take (length xs - 1) (drop 1 xs)) i d ≡ get_or (drop 1 xs) i d)
rest_item {X} xs i d short =
    let same : take (length xs - 1) (drop 1 xs) ≡ drop 1 xs = take_rest xs 1 in
    (subst (λ (l : List X). i < length l) same short, ap (λ (l : List X). get_or l i d) same)
