-- Steps that number the pairs of numbers of two lists of steps.
use Rattle.std.proofs.Common.{◌≡◌, ◌≢◌, ℕ, ◌+◌, ◌-◌, ◌<◌, ◌≤◌, zero, suc, List, [], ◌∷◌, ◌++◌, ◌⊎◌, Some, length, get_or, take, drop, cond, leb}
use Rattle.std.proofs.Common.{slice_get, refl, ap, sym, ◌∙◌, inl, inr, arith, subst}
use Rattle.std.proofs.lemmas.Bool.{cases_lt, cases_eq, le-leb, lt-leb}
use Rattle.std.proofs.lemmas.List.{take_more, take_all, drop_all, drop_more, get_or_default}
use Rattle.std.proofs.lemmas.Option.{slice_get_within}
use Rattle.std.proofs.Math.ListN.{length-append}
use Rattle.rbbi_classes.specs.Steps.{number_at, AreStepsFrom, AreSteps}
use Rattle.rbbi_classes.specs.inner.Steps.{HasRestrictedGrowthFrom, IsStepAt}
use Rattle.rbbi_classes.specs.inner.Numbering.{IsNamed, AreIndexed}
use Rattle.rbbi_classes.specs.declared.steps.Step.{Step}
use Rattle.rbbi_classes.specs.declared.steps.Walk.{Walk}
use Rattle.rbbi_classes.specs.declared.pairs.Pair.{Pair}
use Rattle.rbbi_classes.specs.declared.pairs.Pairs.{Pairs}
use Rattle.rbbi_classes.proofs.Stepping.{AreStepsTo, steps-weaker, steps-push, number-kept, number-pushed}

-- what one option has, an equal one has
some_same : {x y : Pair} → Some x ≡ Some y → x ≡ y
some_same e = cc

number_same : {x y : ℕ} → Some x ≡ Some y → x ≡ y
number_same e = cc

-- what an item of a list is, it is of the list with more at its end
get-append : (xs ys : List Pair) (k : ℕ) (x : Pair) → slice_get xs k ≡ Some x → slice_get (xs ++ ys) k ≡ Some x
get-append [] ys k x h = absurd (omega (arith, slice_get_within [] k x h))
get-append (y ∷ xs) ys zero x h = h
get-append (y ∷ xs) ys (suc k) x h = get-append xs ys k x h

-- numbers come for the first time in their order, and then those less than `last` have come
abbrev pub HasRestrictedGrowthTo : ℕ → List Step → ℕ → Type 0
HasRestrictedGrowthTo next [] last = next ≡ last
HasRestrictedGrowthTo next (step ∷ steps) last = (step.number ≤ next) × HasRestrictedGrowthTo (cond (leb next step.number) (step.number + 1) next) steps last

-- such numbers come in their order
pub order-form : (next : ℕ) (steps : List Step) (last : ℕ) → HasRestrictedGrowthTo next steps last → HasRestrictedGrowthFrom next steps
order-form next [] last h = tt
order-form next (step ∷ steps) last h = (h.0, order-form (cond (leb next step.number) (step.number + 1) next) steps last h.1)

-- a number that came before may follow
order-old : (next : ℕ) (steps : List Step) (last : ℕ) (step : Step) → HasRestrictedGrowthTo next steps last → step.number < last →
    HasRestrictedGrowthTo next (steps ++ step ∷ []) last
order-old next [] last step h l =
    (omega (arith, h), ap (λ b. cond b (step.number + 1) next) (lt-leb next step.number (omega (arith, h))) ∙ h)
order-old next (first ∷ steps) last step h l = (h.0, order-old (cond (leb next first.number) (first.number + 1) next) steps last step h.1 l)

-- the least number that didn't come may follow
order-new : (next : ℕ) (steps : List Step) (last : ℕ) (step : Step) → HasRestrictedGrowthTo next steps last → step.number ≡ last →
    HasRestrictedGrowthTo next (steps ++ step ∷ []) (last + 1)
order-new next [] last step h e =
    (omega (arith, h), ap (λ b. cond b (step.number + 1) next) (le-leb next step.number (omega (arith, h))) ∙ ap (λ n. n + 1) e)
order-new next (first ∷ steps) last step h e = (h.0, order-new (cond (leb next first.number) (first.number + 1) next) steps last step h.1 e)

-- the walk has passed the steps before a code point, and those alone
pub record IsWalk (steps : List Step) (walk : Walk) (at : ℕ) : Type 0 where
  pub within : walk.passed ≤ length steps
  pub done : AreStepsTo 1 (take walk.passed steps) at
  pub rest : AreStepsFrom at (drop walk.passed steps)
  pub number : (c : ℕ) → at ≤ c → number_at (take walk.passed steps) c ≡ walk.number

-- a walk passes a step that begins at a code point
abbrev pub Meets : List Step → Walk → Walk → ℕ → Type 0
Meets steps before after start =
    IsStepAt steps before.passed start → (after.passed ≡ before.passed + 1) × ((d : Step) → after.number ≡ (get_or steps before.passed d).number)

-- the walk went on past the step that begins at a code point, if there is one
pub record HasWalked (steps : List Step) (before after : Walk) (start : ℕ) : Type 0 where
  pub walk : IsWalk steps after (start + 1)
  pub kept : (c : ℕ) → c < start → number_at (take after.passed steps) c ≡ number_at (take before.passed steps) c
  pub new : (c : ℕ) → start ≤ c → number_at (take after.passed steps) c ≡ after.number
  pub forward : before.passed ≤ after.passed
  pub met : IsStepAt steps before.passed start → after.passed ≡ before.passed + 1

-- a walk begins before all steps
pub walk-none : (steps : List Step) → AreSteps steps → IsWalk steps (record { passed = 0; number = 0 }) 1
walk-none steps h = record { within = omega arith; done = omega arith; rest = h; number = λ c l. refl }

-- a step that comes next begins at a code point, past those that were passed
pub walk-next : (steps : List Step) (walk : Walk) (at : ℕ) (d : Step) → IsWalk steps walk at → walk.passed < length steps →
    (at ≤ (get_or steps walk.passed d).start) × ((get_or steps walk.passed d).start ≤ 0x10FFFF)
walk-next steps walk at d h l =
    let rest = subst (λ (xs : List Step). AreStepsFrom at xs) (drop_more steps walk.passed d l) h.rest in
    (rest.0, rest.1)

module _ (steps : List Step) (before after : Walk) (at start : ℕ) (h : IsWalk steps before at) (past : at ≤ start)
    (least : (d : Step) → before.passed < length steps → start ≤ (get_or steps before.passed d).start)
    (met : Meets steps before after start)
    (not_met : (IsStepAt steps before.passed start → ⊥) → after ≡ before) where
  -- a step for where there is none
  abbrev none : Step
  none = record { start = 0; number = 0 }

  -- the walk passes a step that begins there
  passing : IsStepAt steps before.passed start → HasWalked steps before after start
  passing begins =
      let i = before.passed in
      let step = get_or steps i none in
      let next = met begins in
      let begin : step.start ≡ start = begins.1 none in
      let rest : AreStepsFrom at (step ∷ drop (i + 1) steps) = subst (λ (xs : List Step). AreStepsFrom at xs) (drop_more steps i none begins.0) h.rest in
      let more : take after.passed steps ≡ take i steps ++ step ∷ [] = ap (λ n. take n steps) next.0 ∙ take_more steps i none begins.0 in
      let new : (c : ℕ) → start ≤ c → number_at (take after.passed steps) c ≡ after.number =
      λ c l. ap (λ (xs : List Step). number_at xs c) more ∙ number-pushed 0 1 (take i steps) at step c h.done rest.0 (omega arith) ∙ sym (next.1 none) in
      record {
        walk = record {
          within = omega (arith, next.0, begins.0);
          done =
              subst (λ (xs : List Step). AreStepsTo 1 xs (start + 1)) (sym more)
              (subst (λ n. AreStepsTo 1 (take i steps ++ step ∷ []) (n + 1)) begin (steps-push 1 (take i steps) at step h.done rest.0 rest.1));
          rest =
              subst (λ n. AreStepsFrom (start + 1) (drop n steps)) (sym next.0) (subst (λ n. AreStepsFrom (n + 1) (drop (i + 1) steps)) begin rest.2);
          number = λ c l. new c (omega arith);
        };
        kept = λ c l. ap (λ (xs : List Step). number_at xs c) more ∙ number-kept 0 1 (take i steps) at step c h.done rest.0 (omega arith);
        new = new;
        forward = omega (arith, next.0);
        met = λ b. next.0;
      }

  -- the walk stays where no step begins there
  staying : (IsStepAt steps before.passed start → ⊥) → HasWalked steps before before start
  staying away =
      let i = before.passed in
      let rest : AreStepsFrom (start + 1) (drop i steps) =
      elim (cases_lt i (length steps)) [
        | inl within ↦
            let step = get_or steps i none in
            let split = drop_more steps i none within in
            let old : AreStepsFrom at (step ∷ drop (i + 1) steps) = subst (λ (xs : List Step). AreStepsFrom at xs) split h.rest in
            let apart : step.start ≢ start =
            λ e. away (within, λ d. ap (λ (s : Step). s.start) (get_or_default steps i d none within) ∙ e) in
            subst (λ (xs : List Step). AreStepsFrom (start + 1) xs) (sym split) (omega (arith, least none within), old.1, old.2)
        | inr end ↦ subst (λ (xs : List Step). AreStepsFrom (start + 1) xs) (sym (drop_all i steps end)) tt
      ] in
      record {
        walk = record {
          within = h.within;
          done = steps-weaker 1 (take i steps) at (start + 1) h.done (omega arith);
          rest = rest;
          number = λ c l. h.number c (omega arith);
        };
        kept = λ c l. refl;
        new = λ c l. h.number c (omega arith);
        forward = omega arith;
        met = λ b. absurd (away b);
      }

  -- a walk that goes on at the least code point at which a step may begin
  pub walk-on : HasWalked steps before after start
  walk-on =
      elim (cases_lt before.passed (length steps)) [
        | inl within ↦
            elim (cases_eq (get_or steps before.passed none).start start) [
              | inl same ↦
                  passing (within, λ d. ap (λ (s : Step). s.start) (get_or_default steps before.passed d none within) ∙ same)
              | inr other ↦ let away : IsStepAt steps before.passed start → ⊥ = λ b. other (b.1 none) in
                  subst (λ (walk : Walk). HasWalked steps before walk start) (sym (not_met away)) (staying away)
            ]
        | inr end ↦ let away : IsStepAt steps before.passed start → ⊥ = λ b. absurd (omega (arith, b.0)) in
            subst (λ (walk : Walk). HasWalked steps before walk start) (sym (not_met away)) (staying away)
      ]

-- a pair of two numbers
abbrev record_pair : ℕ → ℕ → Pair
record_pair a b = record { left = a; right = b }

-- pairs of the same numbers are the same
same_pair : {a b c d : ℕ} → a ≡ c → b ≡ d → record_pair a b ≡ record_pair c d
same_pair e f = cc

-- The steps so far number the pairs of the numbers of both lists, as far as these were walked, in the order in which the pairs come.
pub record IsMerging (left right steps : List Step) (of_left of_right : Walk) (pairs : List Pair) (now : ℕ) : Type 0 where
  pub at : ℕ
  pub left_walk : IsWalk left of_left at
  pub right_walk : IsWalk right of_right at
  pub done : AreStepsTo 1 steps at
  pub order : HasRestrictedGrowthTo 1 steps (length pairs)
  pub few : length pairs ≤ at
  pub within : at ≤ 0x110000
  pub number : (c : ℕ) → at ≤ c → number_at steps c ≡ now
  pub pair : (c : ℕ) → slice_get pairs (number_at steps c) ≡ Some (record {
    left = number_at (take of_left.passed left) c;
    right = number_at (take of_right.passed right) c;
  })

-- before all steps there is one pair
none_merged : (left right : List Step) → AreSteps left → AreSteps right →
    IsMerging left right [] (record { passed = 0; number = 0 }) (record { passed = 0; number = 0 }) ((record { left = 0; right = 0 }) ∷ []) 0
none_merged left right l r = record {
  at = 1;
  left_walk = walk-none left l;
  right_walk = walk-none right r;
  done = omega arith;
  order = refl;
  few = omega arith;
  within = omega arith;
  number = λ c m. refl;
  pair = λ c. refl;
}

-- and so there is for an empty list of steps and a list of that pair
pub merging-none : (left right steps : List Step) (pairs : List Pair) → AreSteps left → AreSteps right → steps ≡ [] →
    pairs ≡ (record { left = 0; right = 0 }) ∷ [] →
    IsMerging left right steps (record { passed = 0; number = 0 }) (record { passed = 0; number = 0 }) pairs 0
merging-none left right steps pairs l r e f =
    let start : Walk = record { passed = 0; number = 0 } in
    subst (λ (xs : List Step). IsMerging left right xs start start pairs 0) (sym e)
    (subst (λ (ps : List Pair). IsMerging left right [] start start ps 0) (sym f) (none_merged left right l r))

-- once both lists were walked, code points of one number have one number by both
pub merging-all : (left right steps : List Step) (of_left of_right : Walk) (pairs : List Pair) (number : ℕ) →
    IsMerging left right steps of_left of_right pairs number → length left ≤ of_left.passed → length right ≤ of_right.passed → (c d : ℕ) →
    number_at steps c ≡ number_at steps d → (number_at left c ≡ number_at left d) × (number_at right c ≡ number_at right d)
merging-all left right steps of_left of_right pairs number h l r c d same =
    let Are : List Step → List Step → Type 0 = λ xs ys.
    (c : ℕ) → slice_get pairs (number_at steps c) ≡ Some (record { left = number_at xs c; right = number_at ys c }) in
    let half = subst (λ (xs : List Step). Are xs (take of_right.passed right)) (take_all of_left.passed left l) h.pair in
    let whole = subst (λ (ys : List Step). Are left ys) (take_all of_right.passed right r) half in
    let both = sym (whole c) ∙ ap (λ n. slice_get pairs n) same ∙ whole d in
    (ap (λ (p : Pair). p.left) (some_same both), ap (λ (p : Pair). p.right) (some_same both))

-- and code points that have one number by both have one number
pub merging-joint : (left right steps : List Step) (of_left of_right : Walk) (pairs : Pairs) (number : ℕ) →
    IsMerging left right steps of_left of_right pairs.items.items number → AreIndexed pairs → length left ≤ of_left.passed →
    length right ≤ of_right.passed → (c d : ℕ) → number_at left c ≡ number_at left d → number_at right c ≡ number_at right d →
    number_at steps c ≡ number_at steps d
merging-joint left right steps of_left of_right pairs number h numbered l r c d e f =
    let Are : List Step → List Step → Type 0 = λ xs ys.
    (c : ℕ) → slice_get pairs.items.items (number_at steps c) ≡ Some (record { left = number_at xs c; right = number_at ys c }) in
    let half = subst (λ (xs : List Step). Are xs (take of_right.passed right)) (take_all of_left.passed left l) h.pair in
    let whole = subst (λ (ys : List Step). Are left ys) (take_all of_right.passed right r) half in
    let pair = record_pair (number_at left d) (number_at right d) in
    let one = numbered.found (number_at steps c) pair (whole c ∙ ap Some (same_pair e f)) in
    let other = numbered.found (number_at steps d) pair (whole d) in
    number_same (sym one ∙ other)

module _ (left right old new : List Step) (of_left of_right to_left to_right : Walk) (pairs named : List Pair) (number next last start : ℕ)
    (h : IsMerging left right old of_left of_right pairs number) (small : start ≤ 0x10FFFF) (past : h.at ≤ start)
    (left_on : HasWalked left of_left to_left start) (right_on : HasWalked right of_right to_right start)
    (is : slice_get named next ≡ Some (record { left = to_left.number; right = to_right.number }))
    (came : IsNamed pairs named (record { left = to_left.number; right = to_right.number }) next)
    (pushed : ((next ≢ number) × (new ≡ old ++ (record { start = start; number = next }) ∷ []) × (last ≡ next))
    ⊎ ((next ≡ number) × (new ≡ old) × (last ≡ number))) where
  -- the step that may be added
  abbrev step : Step
  step = record { start = start; number = next }

  -- the pair that has a number now
  abbrev pair : Pair
  pair = record { left = to_left.number; right = to_right.number }

  -- before the step the numbers stay
  kept : (c : ℕ) → c < start → number_at new c ≡ number_at old c
  kept c l =
      elim pushed [
        | inl some ↦ ap (λ (xs : List Step). number_at xs c) some.1 ∙ number-kept 0 1 old h.at step c h.done past l
        | inr none ↦ ap (λ (xs : List Step). number_at xs c) none.1
      ]

  -- from the step on the number is that of the pair
  from : (c : ℕ) → start ≤ c → number_at new c ≡ next
  from c l =
      elim pushed [
        | inl some ↦ ap (λ (xs : List Step). number_at xs c) some.1 ∙ number-pushed 0 1 old h.at step c h.done past l
        | inr none ↦ ap (λ (xs : List Step). number_at xs c) none.1 ∙ h.number c (omega arith) ∙ sym none.0
      ]

  -- the last number is that of the pair
  last_is : last ≡ next
  last_is = elim pushed [ inl some ↦ some.2 | inr none ↦ none.2 ∙ sym none.0 ]

  -- pairs keep their numbers
  named_still : (k : ℕ) (p : Pair) → slice_get pairs k ≡ Some p → slice_get named k ≡ Some p
  named_still k p g =
      elim came [
        | inl old ↦ ap (λ (ps : List Pair). slice_get ps k) old.1 ∙ g
        | inr new ↦ ap (λ (ps : List Pair). slice_get ps k) new.1 ∙ get-append pairs (pair ∷ []) k p g
      ]

  -- the steps rise
  done : AreStepsTo 1 new (start + 1)
  done =
      elim pushed [
        | inl some ↦ subst (λ (xs : List Step). AreStepsTo 1 xs (start + 1)) (sym some.1) (steps-push 1 old h.at step h.done past small)
        | inr none ↦ subst (λ (xs : List Step). AreStepsTo 1 xs (start + 1)) (sym none.1) (steps-weaker 1 old h.at (start + 1) h.done (omega arith))
      ]

  -- their numbers come in their order
  order : HasRestrictedGrowthTo 1 new (length named)
  order =
      let had : number < length pairs = slice_get_within pairs number _ (ap (λ n. slice_get pairs n) (sym (h.number h.at (omega arith))) ∙ h.pair h.at) in
      elim came [
        | inl before ↦
            let e = ap length before.1 in
            subst (λ n. HasRestrictedGrowthTo 1 new n) (sym e) (elim pushed [
              | inl some ↦ subst (λ (xs : List Step). HasRestrictedGrowthTo 1 xs (length pairs)) (sym some.1)
                  (order-old 1 old (length pairs) step h.order before.0)
              | inr none ↦ subst (λ (xs : List Step). HasRestrictedGrowthTo 1 xs (length pairs)) (sym none.1) h.order
            ])
        | inr after ↦
            let e : length named ≡ length pairs + 1 = omega (arith, ap length after.1, length-append pairs (pair ∷ [])) in
            subst (λ n. HasRestrictedGrowthTo 1 new n) (sym e) (elim pushed [
              | inl some ↦ subst (λ (xs : List Step). HasRestrictedGrowthTo 1 xs (length pairs + 1)) (sym some.1)
                  (order-new 1 old (length pairs) step h.order after.0)
              | inr none ↦ absurd (omega (arith, none.0, after.0))
            ])
      ]

  -- the next step of the one or the other, or of both
  merging-step : IsMerging left right new to_left to_right named last
  merging-step = record {
    at = start + 1;
    left_walk = left_on.walk;
    right_walk = right_on.walk;
    done = done;
    order = order;
    few = elim came [
      | inl before ↦ omega (arith, ap length before.1, h.few)
      | inr after ↦ omega (arith, ap length after.1, length-append pairs (pair ∷ []), h.few)
    ];
    within = omega arith;
    number = λ c l. from c (omega arith) ∙ sym last_is;
    pair = λ c. elim (cases_lt c start) [
      | inl early ↦
          ap (λ n. slice_get named n) (kept c early)
          ∙ named_still (number_at old c) _ (h.pair c)
          ∙ ap Some (same_pair (sym (left_on.kept c early)) (sym (right_on.kept c early)))
      | inr late ↦
          ap (λ n. slice_get named n) (from c late) ∙ is ∙ ap Some (same_pair (sym (left_on.new c late)) (sym (right_on.new c late)))
    ];
  }

module _ (left right old : List Step) (of_left of_right to_left to_right : Walk) (pairs : List Pair) (number start : ℕ)
    (h : IsMerging left right old of_left of_right pairs number)
    (least_left : (d : Step) → of_left.passed < length left → start ≤ (get_or left of_left.passed d).start)
    (least_right : (d : Step) → of_right.passed < length right → start ≤ (get_or right of_right.passed d).start)
    (one : IsStepAt left of_left.passed start ⊎ IsStepAt right of_right.passed start)
    (met_left : Meets left of_left to_left start)
    (not_met_left : (IsStepAt left of_left.passed start → ⊥) → to_left ≡ of_left)
    (met_right : Meets right of_right to_right start)
    (not_met_right : (IsStepAt right of_right.passed start → ⊥) → to_right ≡ of_right) where
  -- a step begins past those that were passed
  range : (h.at ≤ start) × (start ≤ 0x10FFFF)
  range =
      let none : Step = record { start = 0; number = 0 } in
      elim one [
        | inl b ↦ let next = walk-next left of_left h.at none h.left_walk b.0 in (omega (arith, next.0, b.1 none), omega (arith, next.1, b.1 none))
        | inr b ↦ let next = walk-next right of_right h.at none h.right_walk b.0 in (omega (arith, next.0, b.1 none), omega (arith, next.1, b.1 none))
      ]

  -- the walk along the left steps goes on
  left_on : HasWalked left of_left to_left start
  left_on = walk-on left of_left to_left h.at start h.left_walk range.0 least_left met_left not_met_left

  -- and that along the right ones
  right_on : HasWalked right of_right to_right start
  right_on = walk-on right of_right to_right h.at start h.right_walk range.0 least_right met_right not_met_right

  -- what is left of the lists gets shorter
  pub merging-smaller : (length left - to_left.passed) + (length right - to_right.passed) < (length left - of_left.passed) + (length right - of_right.passed)
  merging-smaller =
      elim one [
        | inl b ↦ omega (arith, left_on.met b, b.0, right_on.forward)
        | inr b ↦ omega (arith, right_on.met b, b.0, left_on.forward)
      ]

  -- the next turn keeps the form
  pub merging-turn : (new : List Step) (named : List Pair) (next last : ℕ) →
      slice_get named next ≡ Some (record { left = to_left.number; right = to_right.number }) →
      IsNamed pairs named (record { left = to_left.number; right = to_right.number }) next →
      ((next ≢ number) × (new ≡ old ++ (record { start = start; number = next }) ∷ []) × (last ≡ next)) ⊎ ((next ≡ number) × (new ≡ old) × (last ≡ number)) →
      IsMerging left right new to_left to_right named last
  merging-turn new named next last is came pushed =
      merging-step left right old new of_left of_right to_left to_right pairs named number next last start h range.1 range.0 left_on right_on is came pushed
