-- Answers where places count a unit are those by characters, with offsets for places.
use Rattle.std.proofs.Common.{◌≡◌, ℕ, ◌+◌, ◌<◌, ◌≤◌, Bool, false, cond, ltb, leb, eqb, List, [], ◌∷◌, Option, Some, None}
use Rattle.std.proofs.Common.{length, take, map}
use Rattle.std.proofs.Common.{get_or, sum_by, sym, refl, ap, ◌∙◌, ⊎_elim, arith}
use Rattle.std.specs.Prelude.{option_map, unwrap_or, is_some}
use Rattle.std.specs.List.{AllByRecursion}
use Rattle.std.proofs.lemmas.Bool.{cases_lt, cond_both, cases_Bool, cond-true, cond-false, lt-ltb, le-ltb}
use Rattle.std.proofs.lemmas.Bool.{eq-eqb, ne_eqb}
use Rattle.std.proofs.lemmas.List.{take-take}
use Rattle.std.proofs.lemmas.List.Sums.{sum_by_more, sum_by-take-le}
use Rattle.rbbi_model.specs.declared.unit.Unit.{Unit as TextUnit}
use Rattle.rbbi_model.specs.declared.unit.Unit.TheVariants.{Chars, Utf8, Utf16}
use Rattle.rbbi_model.specs.Boundaries.{Boundary}
use Rattle.rbbi_model.specs.Cover.{end_of}
use Rattle.rbbi_model.specs.Units.{size_of, offset_of}
use Rattle.rbbi_model.specs.Answers.{Last, Next, Previous, Following, Preceding, IsBoundary, Reply, Place, Done, Yes, No, Largest, AllOf}
use Rattle.rbbi_model.specs.Answers.{Listed, Edited, Outside, Inside, TooLong, Characters, Answer, first_place, last_place, first_after, last_before}
use Rattle.rbbi_model.specs.Answers.{first_from, statuses_at, moved, answer}
use Rattle.rbbi_model.proofs.Lists.{all_through}

-- a character takes some of each unit
size_some : (unit : TextUnit) (c : ℕ) → 1 ≤ size_of unit c
size_some Chars c = omega arith
size_some Utf8 c =
    cond_both (ltb c 0x80) 1 (cond (ltb c 0x800) 2 (cond (ltb c 0x10000) 3 4)) (λ n. 1 ≤ n) (λ _. omega arith)
    (λ _.
    cond_both (ltb c 0x800) 2 (cond (ltb c 0x10000) 3 4) (λ n. 1 ≤ n) (λ _. omega arith)
    (λ _. cond_both (ltb c 0x10000) 3 4 (λ n. 1 ≤ n) (λ _. omega arith) (λ _. omega arith)))
size_some Utf16 c = cond_both (ltb c 0x10000) 1 2 (λ n. 1 ≤ n) (λ _. omega arith) (λ _. omega arith)

-- later places have greater offsets
pub offset_rises : (unit : TextUnit) (x : List ℕ) (i j : ℕ) → i < j → j ≤ length x → offset_of unit x i < offset_of unit x j
offset_rises unit x i j less within =
    omega (
      arith,
      sum_by_more (size_of unit) x i 0 (omega (arith, less, within)),
      size_some unit (get_or x i 0),
      sum_by-take-le (size_of unit) (take j x) (i + 1),
      ap (λ l. sum_by (size_of unit) l) (take-take (i + 1) j x (omega (arith, less))),
    )

-- boundaries whose places are turned into others by a rising function
module _ (f : ℕ → ℕ) (n : ℕ) (rises : (i j : ℕ) → i < j → j ≤ n → f i < f j) where
  pub rises_up_to : (i j : ℕ) → i ≤ j → j ≤ n → f i ≤ f j
  rises_up_to i j order within =
      ⊎_elim (λ less. omega (arith, rises i j less within)) (λ more. let same : i ≡ j = omega (arith, order, more) in omega (arith, ap f same)) (cases_lt i j)

  pub less_same : (i j : ℕ) → i ≤ n → j ≤ n → ltb (f i) (f j) ≡ ltb i j
  less_same i j within within' =
      ⊎_elim (λ less. lt-ltb (f i) (f j) (rises i j less within') ∙ sym (lt-ltb i j less))
      (λ more. le-ltb (f i) (f j) (rises_up_to j i more within) ∙ sym (le-ltb i j more)) (cases_lt i j)

-- the boundaries with places turned by a function
abbrev pub turned : (ℕ → ℕ) → List Boundary → List Boundary
turned f bs = map (λ b. record { at = f b.at; statuses = b.statuses }) bs

pub first_turned : (f : ℕ → ℕ) (test test' : ℕ → Bool) (bs : List Boundary) → AllByRecursion (λ b. test' (f b.at) ≡ test b.at) bs →
    first_place test' (turned f bs) ≡ option_map f (first_place test bs)
first_turned f test test' [] same = refl
first_turned f test test' (b ∷ bs) same =
    ⊎_elim
    (λ holds.
    cond-true (test' (f b.at)) (Some (f b.at)) (first_place test' (turned f bs)) (same.0 ∙ holds)
    ∙ ap (option_map f) (sym (cond-true (test b.at) (Some b.at) (first_place test bs) holds)))
    (λ fails.
    cond-false (test' (f b.at)) (Some (f b.at)) (first_place test' (turned f bs)) (same.0 ∙ fails)
    ∙ first_turned f test test' bs same.1
    ∙ ap (option_map f) (sym (cond-false (test b.at) (Some b.at) (first_place test bs) fails)))
    (cases_Bool (test b.at))

pub last_turned : (f : ℕ → ℕ) (test test' : ℕ → Bool) (before : Option ℕ) (bs : List Boundary) → AllByRecursion (λ b. test' (f b.at) ≡ test b.at) bs →
    last_place test' (option_map f before) (turned f bs) ≡ option_map f (last_place test before bs)
last_turned f test test' before [] same = refl
last_turned f test test' before (b ∷ bs) same =
    let step : cond (test' (f b.at)) (Some (f b.at)) (option_map f before) ≡ option_map f (cond (test b.at) (Some b.at) before) =
    ⊎_elim
    (λ holds.
    cond-true (test' (f b.at)) (Some (f b.at)) (option_map f before) (same.0 ∙ holds) ∙ ap (option_map f) (sym (cond-true (test b.at)
    (Some b.at) before holds)))
    (λ fails.
    cond-false (test' (f b.at)) (Some (f b.at)) (option_map f before) (same.0 ∙ fails)
    ∙ ap (option_map f) (sym (cond-false (test b.at) (Some b.at) before fails)))
    (cases_Bool (test b.at)) in
    ap (λ o. last_place test' o (turned f bs)) step ∙ last_turned f test test' (cond (test b.at) (Some b.at) before) bs same.1

pub end_turned : (f : ℕ → ℕ) → f 0 ≡ 0 → (bs : List Boundary) → end_of (turned f bs) ≡ f (end_of bs)
end_turned f none [] = sym none
end_turned f none (b ∷ []) = refl
end_turned f none (b ∷ c ∷ bs) = end_turned f none (c ∷ bs)

pub statuses_turned : (f : ℕ → ℕ) (place : ℕ) (bs : List Boundary) → AllByRecursion (λ b. eqb (f b.at) (f place) ≡ eqb b.at place) bs →
    statuses_at (turned f bs) (f place) ≡ statuses_at bs place
statuses_turned f place [] same = refl
statuses_turned f place (b ∷ bs) same =
    ap (λ t. cond t b.statuses (statuses_at (turned f bs) (f place))) same.0
    ∙ ap (λ s. cond (eqb b.at place) b.statuses s) (statuses_turned f place bs same.1)

-- the reply with places turned by a function
abbrev pub turned_reply : (ℕ → ℕ) → Reply → Reply
turned_reply f (Place place) = Place (f place)
turned_reply f Done = Done
turned_reply f Yes = Yes
turned_reply f No = No
turned_reply f (Largest status) = Largest status
turned_reply f (AllOf statuses) = AllOf statuses
turned_reply f (Listed boundaries) = Listed (turned f boundaries)
turned_reply f (Edited length) = Edited length
turned_reply f Outside = Outside
turned_reply f Inside = Inside
turned_reply f TooLong = TooLong
turned_reply f (Characters text) = Characters text

abbrev pub turned_answer : (ℕ → ℕ) → Answer → Answer
turned_answer f answer = record { reply = turned_reply f answer.reply; cursor = f answer.cursor }

moved_turned : (f : ℕ → ℕ) (place : Option ℕ) (otherwise : ℕ) → moved (option_map f place) (f otherwise) ≡ turned_answer f (moved place otherwise)
moved_turned f None otherwise = refl
moved_turned f (Some p) otherwise = refl

unwrapped_turned : (f : ℕ → ℕ) (place : Option ℕ) (otherwise : ℕ) → unwrap_or (option_map f place) (f otherwise) ≡ f (unwrap_or place otherwise)
unwrapped_turned f None otherwise = refl
unwrapped_turned f (Some p) otherwise = refl

whether_turned : (f : ℕ → ℕ) (place : Option ℕ) (cursor : ℕ) → record { reply = cond (is_some (option_map f place)) Yes No; cursor = f cursor }
    ≡ turned_answer f (record { reply = cond (is_some place) Yes No; cursor = cursor })
whether_turned f None cursor = refl
whether_turned f (Some p) cursor = refl

none_turned : (f : ℕ → ℕ) (test : ℕ → Bool) (bs : List Boundary) → AllByRecursion (λ b. test (f b.at) ≡ false) bs → first_place test (turned f bs) ≡ None
none_turned f test [] fails = refl
none_turned f test (b ∷ bs) fails = cond-false (test (f b.at)) (Some (f b.at)) (first_place test (turned f bs)) fails.0 ∙ none_turned f test bs fails.1

-- the boundaries of a text of n characters, whose places are turned by a rising function from 0 on
module _ (f : ℕ → ℕ) (n : ℕ) (none : f 0 ≡ 0) (rises : (i j : ℕ) → i < j → j ≤ n → f i < f j) (bs : List Boundary)
    (within : AllByRecursion (λ b. b.at ≤ n) bs) where
  each : (P : Boundary → Type 0) → ((b : Boundary) → b.at ≤ n → P b) → AllByRecursion P bs
  each P for = all_through (λ b. b.at ≤ n) P for bs within

  pub same_place : (i j : ℕ) → i ≤ n → j ≤ n → eqb (f i) (f j) ≡ eqb i j
  same_place i j low low' =
      ⊎_elim
      (λ less. ne_eqb (f i) (f j) (λ is. omega (arith, rises i j less low', is)) ∙ sym (ne_eqb i j (λ is. omega (arith, less, is))))
      (λ more.
      ⊎_elim
      (λ less. ne_eqb (f i) (f j) (λ is. omega (arith, rises j i less low, is)) ∙ sym (ne_eqb i j (λ is. omega (arith, less, is))))
      (λ less. let is : i ≡ j = omega (arith, more, less) in eq-eqb (f i) (f j) (ap f is) ∙ sym (eq-eqb i j is))
      (cases_lt j i))
      (cases_lt i j)

  pub answers_last : (c : ℕ) → answer (turned f bs) (f c) Last ≡ turned_answer f (answer bs c Last)
  answers_last c = ap (λ z. record { reply = Place z; cursor = z }) (end_turned f none bs)

  pub answers_next : (c : ℕ) → c ≤ n → answer (turned f bs) (f c) Next ≡ turned_answer f (answer bs c Next)
  answers_next c low =
      ap (λ p. moved p (f c)) (first_turned f (λ p. ltb c p) (λ p. ltb (f c) p) bs (each (λ b. ltb (f c) (f b.at) ≡ ltb c b.at)
      (λ b short. less_same f n rises c b.at low short)))
      ∙ moved_turned f (first_after bs c) c

  pub answers_previous : (c : ℕ) → c ≤ n → answer (turned f bs) (f c) Previous ≡ turned_answer f (answer bs c Previous)
  answers_previous c low =
      ap (λ p. moved p (f c)) (last_turned f (λ p. ltb p c) (λ p. ltb p (f c)) None bs (each (λ b. ltb (f b.at) (f c) ≡ ltb b.at c)
      (λ b short. less_same f n rises b.at c short low)))
      ∙ moved_turned f (last_before bs c) c

  -- a number whose place is the last one that doesn't lie past it
  pub answers_following : (c v o : ℕ) → ((p : ℕ) → p ≤ n → ltb v (f p) ≡ ltb o p) →
      answer (turned f bs) (f c) (Following v) ≡ turned_answer f (answer bs c (Following o))
  answers_following c v o same =
      ap (λ e. moved (first_after (turned f bs) v) e) (end_turned f none bs)
      ∙ ap (λ p. moved p (f (end_of bs))) (first_turned f (λ p. ltb o p) (λ p. ltb v p) bs (each (λ b. ltb v (f b.at) ≡ ltb o b.at)
      (λ b short. same b.at short)))
      ∙ moved_turned f (first_after bs o) (end_of bs)

  -- a number whose place is the first one that doesn't lie before it
  pub answers_preceding : (c v o : ℕ) → ((p : ℕ) → p ≤ n → ltb (f p) v ≡ ltb p o) →
      answer (turned f bs) (f c) (Preceding v) ≡ turned_answer f (answer bs c (Preceding o))
  answers_preceding c v o same =
      ap (λ z. moved (last_before (turned f bs) v) z) (sym none)
      ∙ ap (λ p. moved p (f 0)) (last_turned f (λ p. ltb p o) (λ p. ltb p v) None bs (each (λ b. ltb (f b.at) v ≡ ltb b.at o) (λ b short. same b.at short)))
      ∙ moved_turned f (last_before bs o) 0

  cursor_from : (v o : ℕ) → ((p : ℕ) → p ≤ n → leb v (f p) ≡ leb o p) →
      unwrap_or (first_from (turned f bs) v) (end_of (turned f bs)) ≡ f (unwrap_or (first_from bs o) (end_of bs))
  cursor_from v o from =
      ap (λ e. unwrap_or (first_from (turned f bs) v) e) (end_turned f none bs)
      ∙ ap (λ p. unwrap_or p (f (end_of bs)))
      (first_turned f (λ p. leb o p) (λ p. leb v p) bs (each (λ b. leb v (f b.at) ≡ leb o b.at) (λ b short. from b.at short)))
      ∙ unwrapped_turned f (first_from bs o) (end_of bs)

  pub answers_whether : (c v o : ℕ) → ((p : ℕ) → p ≤ n → leb v (f p) ≡ leb o p) → ((p : ℕ) → p ≤ n → eqb (f p) v ≡ eqb p o) →
      answer (turned f bs) (f c) (IsBoundary v) ≡ turned_answer f (answer bs c (IsBoundary o))
  answers_whether c v o from same =
      let found : first_place (λ p. eqb p v) (turned f bs) ≡ option_map f (first_place (λ p. eqb p o) bs) =
      first_turned f (λ p. eqb p o) (λ p. eqb p v) bs (each (λ b. eqb (f b.at) v ≡ eqb b.at o) (λ b short. same b.at short)) in
      ap (λ p. record { reply = cond (is_some p) Yes No; cursor = unwrap_or (first_from (turned f bs) v) (end_of (turned f bs)) }) found
      ∙ ap (λ q. record { reply = cond (is_some (option_map f (first_place (λ p. eqb p o) bs))) Yes No; cursor = q }) (cursor_from v o from)
      ∙ whether_turned f (first_place (λ p. eqb p o) bs) (unwrap_or (first_from bs o) (end_of bs))

  -- a number within a character is no boundary
  pub answers_inside : (c v o : ℕ) → ((p : ℕ) → p ≤ n → leb v (f p) ≡ leb o p) → ((p : ℕ) → p ≤ n → eqb (f p) v ≡ false) →
      answer (turned f bs) (f c) (IsBoundary v) ≡ record { reply = No; cursor = f (answer bs c (IsBoundary o)).cursor }
  answers_inside c v o from never =
      let nowhere : first_place (λ p. eqb p v) (turned f bs) ≡ None = none_turned f (λ p. eqb p v) bs (each (λ b. eqb (f b.at) v ≡ false)
      (λ b short. never b.at short)) in
      ap (λ p. record { reply = cond (is_some p) Yes No; cursor = unwrap_or (first_from (turned f bs) v) (end_of (turned f bs)) }) nowhere
      ∙ ap (λ q. record { reply = No; cursor = q }) (cursor_from v o from)

  pub statuses_same : (c : ℕ) → c ≤ n → statuses_at (turned f bs) (f c) ≡ statuses_at bs c
  statuses_same c low = statuses_turned f c bs (each (λ b. eqb (f b.at) (f c) ≡ eqb b.at c) (λ b short. same_place b.at c short low))
