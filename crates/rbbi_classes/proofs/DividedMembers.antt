-- The code points of classes of a division, and what holds while one goes over its steps.
use Rattle.std.proofs.Common.{◌≡◌, ℕ, ◌+◌, ◌/◌, ◌%◌, ◌<◌, ◌≤◌, Bool, true, List, ◌∷◌, ◌↔◌, length, get_or, drop, ap, sym, ◌∙◌, subst, arith, cond}
use Rattle.rbbi_model.specs.Places.{has_bit}
use Rattle.std.proofs.lemmas.Bool.{le-leb, lt-leb}
use Rattle.std.proofs.lemmas.List.{drop_more, drop_all}
use Rattle.rbbi_classes.specs.Classes.{ClassBits, HasClass, class_bit, word_at}
use Rattle.rbbi_classes.specs.Steps.{number_from, number_at, AreStepsFrom}
use Rattle.rbbi_classes.specs.Divisions.{ClassDivision, IsDivision, HasDivided}
use Rattle.rbbi_classes.specs.declared.steps.Step.{Step}
use Rattle.rbbi_classes.proofs.FirstCodePoints.{stand-in_is_point, class-of_stand_in}

-- a set has the class of a code point where it has the class with the number of the code point
pub divided-by_number : (division : ClassDivision) → IsDivision division → (set : ClassBits) (c : ℕ) →
    HasDivided division set c ↔ ((c ≤ 0x10FFFF) × HasClass set (number_at division.steps c))
divided-by_number division h set c = (
  λ has. (has.0, subst (λ k. HasClass set k) (class-of_stand_in division h c has.0) has.1.1),
  λ has. (has.0, (stand-in_is_point division h c has.0, subst (λ k. HasClass set k) (sym (class-of_stand_in division h c has.0)) has.1)),
)

-- the bit of a class in its word tells whether a set has it
pub class-by_bit : (set : ClassBits) (class word : ℕ) (bit : Bool) → word ≡ word_at set (class / 64) → bit ≡ has_bit word (class % 64) →
    (bit ≡ true) ↔ HasClass set class
class-by_bit set class word bit is tells =
    let same : bit ≡ class_bit set class = tells ∙ ap (λ n. has_bit n (class % 64)) is in
    (λ t. sym same ∙ t, λ has. same ∙ has)

-- the number of a code point from the first step on, and before it
number-past : (before : ℕ) (step : Step) (steps : List Step) (c : ℕ) → step.start ≤ c → number_from before (step ∷ steps) c ≡ number_from step.number steps c
number-past before step steps c l = ap (λ b. cond b (number_from step.number steps c) before) (le-leb step.start c l)

number-before : (before : ℕ) (step : Step) (steps : List Step) (c : ℕ) → c < step.start → number_from before (step ∷ steps) c ≡ before
number-before before step steps c l = ap (λ b. cond b (number_from step.number steps c) before) (lt-leb step.start c l)

-- From this code point on numbers are those of the steps that are left, with this number before the first of them.
pub record AreLeft (steps : List Step) (i start class : ℕ) : Type 0 where
  pub form : AreStepsFrom (start + 1) (drop i steps)
  pub point : start ≤ 0x10FFFF
  pub numbers : (c : ℕ) → start ≤ c → number_at steps c ≡ number_from class (drop i steps) c

module _ (steps : List Step) (i start class : ℕ) (h : AreLeft steps i start class) (step d : Step) (inside : i < length steps)
    (is : step ≡ get_or steps i d) where
  split : drop i steps ≡ step ∷ drop (i + 1) steps
  split = drop_more steps i d inside ∙ ap (λ s. s ∷ drop (i + 1) steps) (sym is)

  form_here : AreStepsFrom (start + 1) (step ∷ drop (i + 1) steps)
  form_here = subst (λ rest. AreStepsFrom (start + 1) rest) split h.form

  -- the next step begins past this code point, and is one
  pub left-next : (start < step.start) × (step.start ≤ 0x10FFFF)
  left-next = (omega (arith, form_here.0), form_here.1)

  -- up to the next step the number stays
  pub left-same : (c : ℕ) → start ≤ c → c < step.start → number_at steps c ≡ class
  left-same c l m =
      h.numbers c l ∙ ap (λ rest. number_from class rest c) split ∙ number-before class step (drop (i + 1) steps) c m

  -- and from there on it is that of the step
  pub left-more : AreLeft steps (i + 1) step.start step.number
  left-more = record {
    form = form_here.2;
    point = form_here.1;
    numbers = λ c l.
        h.numbers c (omega (arith, left-next.0)) ∙ ap (λ rest. number_from class rest c) split ∙ number-past class step (drop (i + 1) steps) c l;
  }

-- past the last step the number stays
pub left-none : (steps : List Step) (i start class : ℕ) → AreLeft steps i start class → length steps ≤ i → (c : ℕ) → start ≤ c → number_at steps c ≡ class
left-none steps i start class h l c from = h.numbers c from ∙ ap (λ rest. number_from class rest c) (drop_all i steps l)
