-- Status lists in order are told by their members.
use Rattle.std.proofs.Common.{◌≡◌, ◌⊎◌, ℕ, zero, suc, ◌<◌, List, [], ◌∷◌, length, refl, sym, ◌∙◌, subst, inl, inr, ⊎_elim, arith}
use Rattle.std.proofs.Common.{slice_index_or}
use Rattle.std.proofs.lemmas.Bool.{cases_order}
use Rattle.rbbi_model.specs.ValidTables.{IsBefore, AreInOrder}

irreflexive : (statuses : List ℕ) → ¬ IsBefore statuses statuses
irreflexive [] h = h
irreflexive (n ∷ ns) (inl h) = absurd (omega arith)
irreflexive (n ∷ ns) (inr h) = irreflexive ns h.1

transitive : (these those last : List ℕ) → IsBefore these those → IsBefore those last → IsBefore these last
transitive these [] last h k = absurd h
transitive [] (n ∷ those) [] h k = k
transitive [] (n ∷ those) (l ∷ last) h k = tt
transitive (m ∷ these) (n ∷ those) [] h k = k
transitive (m ∷ these) (n ∷ those) (l ∷ last) (inl h) (inl k) = inl (omega arith)
transitive (m ∷ these) (n ∷ those) (l ∷ last) (inl h) (inr k) = inl (omega (arith, k.0))
transitive (m ∷ these) (n ∷ those) (l ∷ last) (inr h) (inl k) = inl (omega (arith, h.0))
transitive (m ∷ these) (n ∷ those) (l ∷ last) (inr h) (inr k) = inr (h.0 ∙ k.0, transitive these those last h.1 k.1)

-- the first comes before all others
before_at : (first : List ℕ) (lists : List (List ℕ)) (i : ℕ) → AreInOrder (first ∷ lists) → i < length lists → IsBefore first (slice_index_or lists i [])
before_at first [] i h k = absurd (omega (arith, k))
before_at first (next ∷ lists) zero h k = h.0
before_at first (next ∷ lists) (suc i) h k = transitive first next (slice_index_or lists i []) h.0 (before_at next lists i h.1 (omega (arith, k)))

rest_in_order : (first : List ℕ) (lists : List (List ℕ)) → AreInOrder (first ∷ lists) → AreInOrder lists
rest_in_order first [] h = tt
rest_in_order first (next ∷ lists) h = h.1

-- no list stands at two places
pub at_one_place : (lists : List (List ℕ)) (i j : ℕ) → AreInOrder lists → i < j → j < length lists → slice_index_or lists i [] ≡ slice_index_or lists j [] → ⊥
at_one_place [] i j order less short same = omega (arith, short)
at_one_place (first ∷ lists) i zero order less short same = omega (arith, less)
at_one_place (first ∷ lists) zero (suc j) order less short same =
    irreflexive first (subst (λ (l : List ℕ). IsBefore first l) (sym same) (before_at first lists j order (omega (arith, short))))
at_one_place (first ∷ lists) (suc i) (suc j) order less short same =
    at_one_place lists i j (rest_in_order first lists order) (omega (arith, less)) (omega (arith, short)) same

pub one_place : (lists : List (List ℕ)) (i j : ℕ) → AreInOrder lists → i < length lists → j < length lists →
    slice_index_or lists i [] ≡ slice_index_or lists j [] → i ≡ j
one_place lists i j order h k same =
    ⊎_elim (λ equal. equal)
    (⊎_elim (λ less. absurd (at_one_place lists i j order less k same)) (λ more. absurd (at_one_place lists j i order more h (sym same))))
    (cases_order i j)

-- each of the lists is among the others
abbrev pub AreAmong : List (List ℕ) → List (List ℕ) → Type 0
AreAmong these those =
    (i : ℕ) → i < length these → (j : ℕ) × (j < length those) × (slice_index_or these i [] ≡ slice_index_or those j [])

-- the first of some lists is no later than that of others that have it
no_later : (this that : List ℕ) (these those : List (List ℕ)) → AreInOrder (that ∷ those) → AreAmong (this ∷ these) (that ∷ those) →
    IsBefore this that → ⊥
no_later this that these those order among before =
    let found = among 0 (omega arith) in
    at found.0 found.1 found.2
  where
    at : (j : ℕ) → j < length (that ∷ those) → this ≡ slice_index_or (that ∷ those) j [] → ⊥
    at zero short same = irreflexive that (subst (λ (l : List ℕ). IsBefore l that) same before)
    at (suc j) short same =
        irreflexive this (transitive this that this before
        (subst (λ (l : List ℕ). IsBefore that l) (sym same) (before_at that those j order (omega (arith, short)))))

among_rest : (first : List ℕ) (these those : List (List ℕ)) → AreInOrder (first ∷ these) → AreAmong (first ∷ these) (first ∷ those) → AreAmong these those
among_rest first these those order among i short = let found = among (suc i) (omega (arith, short)) in at found.0 found.1 found.2
  where
    at : (j : ℕ) → j < length (first ∷ those) → slice_index_or these i [] ≡ slice_index_or (first ∷ those) j [] →
        (k : ℕ) × (k < length those) × (slice_index_or these i [] ≡ slice_index_or those k [])
    at zero low same = absurd (irreflexive first (subst (λ (l : List ℕ). IsBefore first l) same (before_at first these i order short)))
    at (suc j) low same = (j, omega (arith, low), same)

pub same_members : (order_of : (these those : List ℕ) → (these ≡ those) ⊎ (IsBefore these those ⊎ IsBefore those these)) (these those : List (List ℕ)) →
    AreInOrder these → AreInOrder those → AreAmong these those → AreAmong those these → these ≡ those
same_members order_of [] [] order order' among among' = refl
same_members order_of [] (that ∷ those) order order' among among' = absurd (let found = among' 0 (omega arith) in omega (arith, found.1))
same_members order_of (this ∷ these) [] order order' among among' = absurd (let found = among 0 (omega arith) in omega (arith, found.1))
same_members order_of (this ∷ these) (that ∷ those) order order' among among' =
    let first : this ≡ that =
    ⊎_elim (λ same. same)
    (⊎_elim (λ before. absurd (no_later this that these those order' among before)) (λ after. absurd (no_later that this those these order among' after)))
    (order_of this that) in
    let rest : these ≡ those =
    same_members order_of these those (rest_in_order this these order) (rest_in_order that those order')
    (among_rest this these those order (subst (λ (l : List ℕ). AreAmong (this ∷ these) (l ∷ those)) (sym first) among))
    (among_rest that those these order' (subst (λ (l : List ℕ). AreAmong (that ∷ those) (l ∷ these)) first among')) in
    λ i. first i ∷ rest i

-- of two lists one comes before the other, or they are the same
pub order_of : (these those : List ℕ) → (these ≡ those) ⊎ (IsBefore these those ⊎ IsBefore those these)
order_of [] [] = inl refl
order_of [] (n ∷ those) = inr (inl tt)
order_of (m ∷ these) [] = inr (inr tt)
order_of (m ∷ these) (n ∷ those) =
    ⊎_elim
    (λ same. ⊎_elim (λ rest. inl (λ i. same i ∷ rest i)) (⊎_elim (λ before. inr (inl (inr (same, before)))) (λ after. inr (inr (inr (sym same, after)))))
    (order_of these those))
    (⊎_elim (λ less. inr (inl (inl less))) (λ more. inr (inr (inl more))))
    (cases_order m n)
