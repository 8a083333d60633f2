-- Lists by their members.
use Rattle.std.proofs.Common.{◌≡◌, ℕ, zero, suc, ◌<◌, ◌≤◌, true, ◌||◌, List, [], ◌∷◌, ◌++◌, length, get_or, eqb, refl, ap, sym, ◌∙◌, subst, ⊎_elim}
use Rattle.std.proofs.Common.{arith}
use Rattle.std.specs.List.{AllByRecursion, list_any}
use Rattle.std.proofs.lemmas.Bool.{cases_Bool, eqb-true, ne_eqb, false≢true}
use Rattle.std.proofs.lemmas.List.{get_or_append_left, get_or_push, length_push}
use Rattle.std.proofs.lemmas.Map.Keys.{IsDistinct-from_apart}
use Rattle.std.proofs.lemmas.Map.Steps.{length-le_from_distinct_below}
use Rattle.rbbi_model.proofs.Lists.{all_by_index}
use borrow.Author.Count.{below_more}

-- what holds of each number of a list holds of each that is in it
each_member : (P : ℕ → Type 0) (xs : List ℕ) → AllByRecursion P xs → (q : ℕ) → list_any (eqb q) xs ≡ true → P q
each_member P [] all q member = absurd (false≢true member)
each_member P (x ∷ xs) all q member =
    ⊎_elim
    (λ here. subst P (sym (eqb-true q x here)) all.0)
    (λ other. each_member P xs all.1 q (ap (λ b. b || list_any (eqb q) xs) (sym other) ∙ member))
    (cases_Bool (eqb q x))

-- a choice for each number below count, in a list
pub picked : {X : Type 0} (P : ℕ → X → Type 0) (count : ℕ) → ((i : ℕ) → i < count → (x : X) × P i x) →
    (xs : List X) × (length xs ≡ count) × ((i : ℕ) (d : X) → i < count → P i (get_or xs i d))
picked P zero choice = ([], refl, λ i d short. absurd (omega arith))
picked P (suc count) choice =
    let before = picked P count (λ i short. choice i (omega arith)) in
    let last = choice count (omega arith) in (
      before.0 ++ last.0 ∷ [],
      omega (arith, length_push before.0 last.0, before.1),
      λ i d short. below_more (λ k. P k (get_or (before.0 ++ last.0 ∷ []) k d)) count
          (λ k l. subst (P k) (sym (get_or_append_left before.0 (last.0 ∷ []) d k (omega (arith, before.1)))) (before.2 k d l))
          (subst (P count) (sym (get_or_push before.0 last.0 d count before.1)) last.1)
          i (omega arith),
    )

-- where each number below count is given one below bound, and no two the same, count is no more than bound
pub le_from_choices : (P : ℕ → ℕ → Type 0) (count bound : ℕ) → ((i : ℕ) → i < count → (x : ℕ) × ((x < bound) × P i x)) →
    ((i j x : ℕ) → i < j → j < count → P i x → P j x → ⊥) → count ≤ bound
le_from_choices P count bound choice apart =
    let xs = picked (λ i x. (x < bound) × P i x) count choice in
    let distinct = IsDistinct-from_apart eqb xs.0
    (λ i j d less short.
    let short' : j < count = omega (arith, short, xs.1) in
    ne_eqb (get_or xs.0 i d) (get_or xs.0 j d)
    (λ same. apart i j (get_or xs.0 j d) less short' (subst (P i) same (xs.2 i d (omega (arith, less, short'))).1) (xs.2 j d short').1)) in
    let below = all_by_index (λ x. x < bound) 0 xs.0 (λ i short. (xs.2 i 0 (omega (arith, short, xs.1))).0) in
    omega (arith, length-le_from_distinct_below xs.0 bound distinct (each_member (λ x. x < bound) xs.0 below), xs.1)
