-- The code points at which the numbers of steps come for the first time.
use Rattle.std.proofs.Common.{◌≡◌, ℕ, ◌+◌, ◌<◌, ◌≤◌, List, [], ◌∷◌, ◌++◌, ◌⊎◌, length, get_or, take, drop, cond, refl, ap, sym, ◌∙◌, inl, inr, arith, subst}
use Rattle.std.proofs.lemmas.Bool.{cases_lt, le-leb, lt-leb}
use Rattle.std.proofs.lemmas.List.{take_more, take_all, drop_more, get_or_append_left}
use Rattle.std.proofs.Math.Seq.{get_or-append_seam}
use Rattle.std.proofs.Math.ListN.{length-append}
use Rattle.rbbi_classes.specs.Classes.{AreBounds}
use Rattle.rbbi_classes.specs.Steps.{number_at, AreStepsFrom, AreSteps}
use Rattle.rbbi_classes.specs.inner.Steps.{HasRestrictedGrowthFrom, HasRestrictedGrowth}
use Rattle.rbbi_classes.specs.Divisions.{first_of}
use Rattle.rbbi_classes.specs.declared.steps.Step.{Step}
use Rattle.rbbi_classes.proofs.ClassBounds.{AreBoundsTo, bounds-push, bounds-form}
use Rattle.rbbi_classes.proofs.Stepping.{AreStepsTo, steps-push, number-kept, number-pushed}

-- the bounds are the code points at which the numbers of the first steps come for the first time, which lie before the next step
pub record AreFirsts (steps : List Step) (i : ℕ) (bounds : List ℕ) : Type 0 where
  pub at : ℕ
  pub last : ℕ
  pub done : AreStepsTo 1 (take i steps) at
  pub rest : AreStepsFrom at (drop i steps)
  pub order : HasRestrictedGrowthFrom (length bounds + 1) (drop i steps)
  pub form : AreBoundsTo 0 bounds last
  pub before : last < at
  pub within : (c : ℕ) → number_at (take i steps) c ≤ length bounds
  pub first : (k : ℕ) → k ≤ length bounds → (first_of bounds k < at) × (number_at (take i steps) (first_of bounds k) ≡ k)
  pub least : (c : ℕ) → first_of bounds (number_at (take i steps) c) ≤ c

-- no bound belongs to no step
none : (steps : List Step) → AreSteps steps → HasRestrictedGrowth steps → AreFirsts steps 0 []
none steps form order = record {
  at = 1;
  last = 0;
  done = omega arith;
  rest = form;
  order = order;
  form = omega arith;
  before = omega arith;
  within = λ c. omega arith;
  first = λ k l. let zero : 0 ≡ k = omega arith in subst (λ (k : ℕ). (first_of [] k < 1) × (number_at [] (first_of [] k) ≡ k)) zero (omega arith, refl);
  least = λ c. omega arith;
}

-- before the first step there is 0 alone
pub firsts-none : (steps : List Step) (bounds : List ℕ) → AreSteps steps → HasRestrictedGrowth steps → bounds ≡ [] → AreFirsts steps 0 bounds
firsts-none steps bounds form order empty = subst (λ (xs : List ℕ). AreFirsts steps 0 xs) (sym empty) (none steps form order)

-- at the end the bounds are those of all numbers
pub firsts-all : (steps : List Step) (i : ℕ) (bounds : List ℕ) → length steps ≤ i → AreFirsts steps i bounds →
    AreBounds bounds × ((c : ℕ) → number_at steps c ≤ length bounds) × ((k : ℕ) → k ≤ length bounds → number_at steps (first_of bounds k) ≡ k)
    × ((c : ℕ) → first_of bounds (number_at steps c) ≤ c)
firsts-all steps i bounds l h =
    let all = take_all i steps l in (
      bounds-form 0 bounds h.last h.form,
      λ c. subst (λ (xs : List Step). number_at xs c ≤ length bounds) all (h.within c),
      λ k m. subst (λ (xs : List Step). number_at xs (first_of bounds k) ≡ k) all (h.first k m).1,
      λ c. subst (λ (xs : List Step). first_of bounds (number_at xs c) ≤ c) all (h.least c),
    )

module _ (steps : List Step) (i : ℕ) (bounds : List ℕ) (step : Step) (l : i < length steps) (is : step ≡ get_or steps i step)
    (h : AreFirsts steps i bounds) where
  -- the steps that are left begin with the next one
  next_rest : drop i steps ≡ step ∷ drop (i + 1) steps
  next_rest = drop_more steps i step l ∙ ap (λ (s : Step). s ∷ drop (i + 1) steps) (sym is)

  -- the steps that are done end with it then
  next_done : take i steps ++ step ∷ [] ≡ take (i + 1) steps
  next_done = ap (λ (s : Step). take i steps ++ s ∷ []) is ∙ sym (take_more steps i step l)

  -- what is left rises from the code point that was come to
  rest_is : AreStepsFrom h.at (step ∷ drop (i + 1) steps)
  rest_is = subst (λ (xs : List Step). AreStepsFrom h.at xs) next_rest h.rest

  -- and its numbers come in their order
  order_is : HasRestrictedGrowthFrom (length bounds + 1) (step ∷ drop (i + 1) steps)
  order_is = subst (λ (xs : List Step). HasRestrictedGrowthFrom (length bounds + 1) xs) next_rest h.order

  -- before the step the numbers stay
  kept : (c : ℕ) → c < step.start → number_at (take (i + 1) steps) c ≡ number_at (take i steps) c
  kept c m = ap (λ (xs : List Step). number_at xs c) (sym next_done) ∙ number-kept 0 1 (take i steps) h.at step c h.done rest_is.0 m

  -- from the step on its number is that of each code point
  pushed : (c : ℕ) → step.start ≤ c → number_at (take (i + 1) steps) c ≡ step.number
  pushed c m = ap (λ (xs : List Step). number_at xs c) (sym next_done) ∙ number-pushed 0 1 (take i steps) h.at step c h.done rest_is.0 m

  -- what is done rises up to the step
  done_is : AreStepsTo 1 (take (i + 1) steps) (step.start + 1)
  done_is = subst (λ (xs : List Step). AreStepsTo 1 xs (step.start + 1)) next_done (steps-push 1 (take i steps) h.at step h.done rest_is.0 rest_is.1)

  -- a number that came before adds no bound
  same : step.number ≤ length bounds → AreFirsts steps (i + 1) bounds
  same few = record {
    at = step.start + 1;
    last = h.last;
    done = done_is;
    rest = rest_is.2;
    order =
        subst (λ (n : ℕ). HasRestrictedGrowthFrom n (drop (i + 1) steps))
        (ap (λ b. cond b (step.number + 1) (length bounds + 1)) (lt-leb (length bounds + 1) step.number (omega arith))) order_is.1;
    form = h.form;
    before = omega (arith, h.before, rest_is.0);
    within = λ c. elim (cases_lt c step.start) [
      | inl early ↦ omega (arith, kept c early, h.within c)
      | inr from ↦ omega (arith, pushed c from)
    ];
    first = λ k m.
        let old = h.first k m in
        let early : first_of bounds k < step.start = omega (arith, old.0, rest_is.0) in
        (omega arith, kept (first_of bounds k) early ∙ old.1);
    least = λ c. elim (cases_lt c step.start) [
      | inl early ↦ omega (arith, ap (λ n. first_of bounds n) (kept c early), h.least c)
      | inr from ↦ omega (arith, ap (λ n. first_of bounds n) (pushed c from), (h.first step.number few).0, rest_is.0)
    ];
  }

  -- a number that comes for the first time adds a bound
  more : length bounds < step.number → AreFirsts steps (i + 1) (bounds ++ step.start ∷ [])
  more many =
      let new : step.number ≡ length bounds + 1 = omega (arith, order_is.0) in
      let long : length (bounds ++ step.start ∷ []) ≡ length bounds + 1 = omega (arith, length-append bounds (step.start ∷ [])) in
      let at_end : first_of (bounds ++ step.start ∷ []) (length bounds + 1) ≡ step.start =
      let n : length bounds + 1 ≡ length (0 ∷ bounds) = omega arith in
      ap (λ n. first_of (bounds ++ step.start ∷ []) n) n ∙ get_or-append_seam (0 ∷ bounds) step.start [] 0 in
      record {
        at = step.start + 1;
        last = step.start;
        done = done_is;
        rest = rest_is.2;
        order =
            subst (λ (n : ℕ). HasRestrictedGrowthFrom n (drop (i + 1) steps))
            (ap (λ b. cond b (step.number + 1) (length bounds + 1)) (le-leb (length bounds + 1) step.number (omega arith))
            ∙ ap (λ n. n + 1) (new ∙ sym long)) order_is.1;
        form = bounds-push 0 bounds h.last step.start h.form (omega (arith, h.before, rest_is.0)) rest_is.1;
        before = omega arith;
        within = λ c. elim (cases_lt c step.start) [
          | inl early ↦ omega (arith, kept c early, h.within c)
          | inr from ↦ omega (arith, pushed c from)
        ];
        first = λ k m. elim (cases_lt (length bounds) k) [
          | inl past ↦
              let end : length bounds + 1 ≡ k = omega arith in
              let IsFirst : ℕ → Type 0 = λ k.
              (first_of (bounds ++ step.start ∷ []) k < step.start + 1) × (number_at (take (i + 1) steps) (first_of (bounds ++ step.start ∷ []) k) ≡ k) in
              subst IsFirst end
              (omega (arith, at_end), pushed (first_of (bounds ++ step.start ∷ []) (length bounds + 1)) (omega (arith, at_end)) ∙ new)
          | inr within ↦
              let old = h.first k within in
              let early : first_of bounds k < step.start = omega (arith, old.0, rest_is.0) in
              let stays : first_of (bounds ++ step.start ∷ []) k ≡ first_of bounds k = get_or_append_left (0 ∷ bounds) (step.start ∷ []) 0 k (omega arith) in
              (omega (arith, stays), ap (λ c. number_at (take (i + 1) steps) c) stays ∙ kept (first_of bounds k) early ∙ old.1)
        ];
        least = λ c. elim (cases_lt c step.start) [
          | inl early ↦
              let number : ℕ = number_at (take i steps) c in
              let stays : first_of (bounds ++ step.start ∷ []) number ≡ first_of bounds number =
              get_or_append_left (0 ∷ bounds) (step.start ∷ []) 0 number (omega (arith, h.within c)) in
              omega (arith, ap (λ n. first_of (bounds ++ step.start ∷ []) n) (kept c early), stays, h.least c)
          | inr from ↦ omega (arith, ap (λ n. first_of (bounds ++ step.start ∷ []) n) (pushed c from ∙ new), at_end)
        ];
      }

  -- the next step brings a number that comes for the first time, or one that came before
  pub firsts-step : (new : List ℕ) →
      ((length bounds < step.number) × (new ≡ bounds ++ step.start ∷ [])) ⊎ ((step.number ≤ length bounds) × (new ≡ bounds)) →
      AreFirsts steps (i + 1) new
  firsts-step new either =
      elim either [
        | inl some ↦ subst (λ (xs : List ℕ). AreFirsts steps (i + 1) xs) (sym some.1) (more some.0)
        | inr none ↦ subst (λ (xs : List ℕ). AreFirsts steps (i + 1) xs) (sym none.1) (same none.0)
      ]
