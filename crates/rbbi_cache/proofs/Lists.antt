-- What holds of each element of a list, and what a filter keeps.
use Rattle.std.proofs.Common.{◌≡◌, ℕ, max, Bool, true, false, cond, Option, None, Some, List, [], ◌∷◌, ◌++◌, map, filter, sym, refl, ap, ◌∙◌, subst, ⊎_elim, arith}
use Rattle.std.specs.List.{AllByRecursion}
use Rattle.std.specs.Prelude.{MatchOption}
use Rattle.std.proofs.lemmas.Bool.{cond-true, cond-false, cases_Bool}
use Rattle.rbbi_model.specs.Places.{largest}

pub everywhere : {X : Type 0} (P : X → Type 0) → ((x : X) → P x) → (xs : List X) → AllByRecursion P xs
everywhere P holds [] = tt
everywhere P holds (x ∷ xs) = (holds x, everywhere P holds xs)

pub all_map : {X Y : Type 0} (f : X → Y) (P : Y → Type 0) (xs : List X) → AllByRecursion (λ x. P (f x)) xs → AllByRecursion P (map f xs)
all_map f P [] each = tt
all_map f P (x ∷ xs) each = (each.0, all_map f P xs each.1)

pub all_unmap : {X Y : Type 0} (f : X → Y) (P : Y → Type 0) (xs : List X) → AllByRecursion P (map f xs) → AllByRecursion (λ x. P (f x)) xs
all_unmap f P [] each = tt
all_unmap f P (x ∷ xs) each = (each.0, all_unmap f P xs each.1)

-- what holds of the elements that a test keeps, and of those that it doesn't, holds of all
pub all_by_test : {X : Type 0} (P : X → Type 0) (test : X → Bool) (xs : List X) → AllByRecursion P (filter test xs) →
    AllByRecursion (λ x. test x ≡ false → P x) xs → AllByRecursion P xs
all_by_test P test [] kept others = tt
all_by_test P test (x ∷ xs) kept others =
    ⊎_elim
    (λ holds.
    let both = subst (λ l. AllByRecursion P l) (cond-true (test x) (x ∷ filter test xs) (filter test xs) holds) kept in
    (both.0, all_by_test P test xs both.1 others.1))
    (λ fails. (
      others.0 fails,
      all_by_test P test xs (subst (λ l. AllByRecursion P l) (cond-false (test x) (x ∷ filter test xs) (filter test xs) fails) kept)
          others.1,
    ))
    (cases_Bool (test x))

pub all_filter : {X : Type 0} (P : X → Type 0) (test : X → Bool) (xs : List X) → AllByRecursion P xs → AllByRecursion P (filter test xs)
all_filter P test [] each = tt
all_filter P test (x ∷ xs) each =
    ⊎_elim
    (λ holds. subst (λ l. AllByRecursion P l) (sym (cond-true (test x) (x ∷ filter test xs) (filter test xs) holds)) (each.0, all_filter P test xs each.1))
    (λ fails. subst (λ l. AllByRecursion P l) (sym (cond-false (test x) (x ∷ filter test xs) (filter test xs) fails)) (all_filter P test xs each.1))
    (cases_Bool (test x))

dropped_inside : {X : Type 0} (more less : X → Bool) (x : X) (xs : List X) → more x ≡ false → filter more (filter less (x ∷ xs)) ≡ filter more (filter less xs)
dropped_inside more less x xs fails =
    ⊎_elim
    (λ holds.
    ap (filter more) (cond-true (less x) (x ∷ filter less xs) (filter less xs) holds)
    ∙ cond-false (more x) (x ∷ filter more (filter less xs)) (filter more (filter less xs)) fails)
    (λ no. ap (filter more) (cond-false (less x) (x ∷ filter less xs) (filter less xs) no))
    (cases_Bool (less x))

-- a test that asks less keeps nothing else after one that asks more
pub filter_twice : {X : Type 0} (more less : X → Bool) → ((x : X) → more x ≡ true → less x ≡ true) →
    (xs : List X) → filter more (filter less xs) ≡ filter more xs
filter_twice more less weaker [] = refl
filter_twice more less weaker (x ∷ xs) =
    ⊎_elim
    (λ holds.
    ap (filter more) (cond-true (less x) (x ∷ filter less xs) (filter less xs) (weaker x holds))
    ∙ cond-true (more x) (x ∷ filter more (filter less xs)) (filter more (filter less xs)) holds
    ∙ ap (λ l. x ∷ l) (filter_twice more less weaker xs)
    ∙ sym (cond-true (more x) (x ∷ filter more xs) (filter more xs) holds))
    (λ fails.
    dropped_inside more less x xs fails
    ∙ filter_twice more less weaker xs
    ∙ sym (cond-false (more x) (x ∷ filter more xs) (filter more xs) fails))
    (cases_Bool (more x))

pub filter_all : {X : Type 0} (test : X → Bool) (xs : List X) → AllByRecursion (λ x. test x ≡ true) xs → filter test xs ≡ xs
filter_all test [] each = refl
filter_all test (x ∷ xs) each = cond-true (test x) (x ∷ filter test xs) (filter test xs) each.0 ∙ ap (λ l. x ∷ l) (filter_all test xs each.1)

pub filter_same : {X : Type 0} (f g : X → Bool) (xs : List X) → ((x : X) → f x ≡ g x) → filter f xs ≡ filter g xs
filter_same f g [] same = refl
filter_same f g (x ∷ xs) same =
    ap (λ b. cond b (x ∷ filter f xs) (filter f xs)) (same x) ∙ ap (λ l. cond (g x) (x ∷ l) l) (filter_same f g xs same)

pub filter_none : {X : Type 0} (test : X → Bool) (xs : List X) → AllByRecursion (λ x. test x ≡ false) xs → filter test xs ≡ []
filter_none test [] each = refl
filter_none test (x ∷ xs) each = cond-false (test x) (x ∷ filter test xs) (filter test xs) each.0 ∙ filter_none test xs each.1

max_assoc : (a b c : ℕ) → max a (max b c) ≡ max (max a b) c
max_assoc a b c = omega arith

pub largest_join : (xs ys : List ℕ) → largest (xs ++ ys) ≡ max (largest xs) (largest ys)
largest_join [] ys = omega arith
largest_join (x ∷ xs) ys = ap (λ n. max x n) (largest_join xs ys) ∙ max_assoc x (largest xs) (largest ys)

-- another thing holds of an option where there is none, and of what it has
pub mapped : {X A B : Type 0} {P Q : X → Type 0} (found : Option X) → (A → B) → ((x : X) → P x → Q x) → MatchOption found A P → MatchOption found B Q
mapped None none some is = none is
mapped (Some x) none some is = some x is

pub no_value : {X A : Type 0} (P : X → Type 0) (found : Option X) → found ≡ None → MatchOption found A P → A
no_value P None is given = given
no_value P (Some x) is given = absurd (some_none is)
  where
    some_none : {X : Type 0} {x : X} → Some x ≡ None → ⊥
    some_none is = cc
