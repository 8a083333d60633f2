-- Steps at which one begins and ceases to be in a set.
use Rattle.std.proofs.Common.{◌≡◌, ◌↔◌, ℕ, ◌+◌, ◌-◌, ◌<◌, ◌≤◌, List, [], ◌∷◌, ◌++◌, ◌⊎◌, length, get_or, take, drop, cond, leb, refl, ap, sym, ◌∙◌, inl}
use Rattle.std.proofs.Common.{inr, arith, subst, Bool, true, false}
use Rattle.std.proofs.lemmas.Bool.{cases_lt, cases_eq}
use Rattle.std.proofs.lemmas.List.{take_more, take_all, drop_more, take-append-drop}
use Rattle.rbbi_model.specs.Ranges.{Range, InRange, Has}
use Rattle.rbbi_sets.specs.Rising.{AreRisingFrom, AreRising}
use Rattle.rbbi_classes.specs.Steps.{number_at}
use Rattle.rbbi_classes.specs.inner.Steps.{HasRestrictedGrowthFrom, Separate, DontSeparateMore}
use Rattle.rbbi_classes.specs.declared.steps.Step.{Step}
use Rattle.rbbi_sets.proofs.Coverage.{has-append}
use Rattle.rbbi_classes.proofs.Stepping.{AreStepsTo, steps-weaker, steps-push, number-kept, number-pushed}

-- a number that came before may follow
order-push : (next : ℕ) (steps : List Step) (step : Step) → HasRestrictedGrowthFrom next steps → 1 ≤ next → step.number ≤ 1 →
    HasRestrictedGrowthFrom next (steps ++ step ∷ [])
order-push next [] step h l m = (omega arith, tt)
order-push next (first ∷ steps) step h l m =
    (h.0, order-push (cond (leb next first.number) (first.number + 1) next) steps step h.1 (more (leb next first.number)) m) where
      more : (b : Bool) → 1 ≤ cond b (first.number + 1) next
      more true = omega arith
      more false = l

-- members are from the least one on
rising-least : (least : ℕ) (ranges : List Range) (c : ℕ) → AreRisingFrom least ranges → Has ranges c → least ≤ c
rising-least least [] c h m = absurd m
rising-least least (range ∷ ranges) c h m =
    elim m [
      | inl here ↦ omega (arith, h.0, here.0)
      | inr later ↦ omega (arith, h.0, h.1, rising-least (range.high + 2) ranges c h.3 later)
    ]

-- a list of no ranges has no members
has-some : (ranges : List Range) (c : ℕ) → Has ranges c → 0 < length ranges
has-some [] c m = absurd m
has-some (range ∷ ranges) c m = omega arith

-- the number of members is 0 where 0 is one of them, and else 1
abbrev pub IsInside : List Range → ℕ → Type 0
IsInside set inside = (Has set 0 × (inside ≡ 0)) ⊎ ((Has set 0 → ⊥) × (inside ≡ 1))

-- the steps tell apart the members of the first ranges and other code points
pub record AreOfRanges (set : List Range) (k inside : ℕ) (steps : List Step) : Type 0 where
  pub at : ℕ
  pub rest : AreRisingFrom at (drop k set)
  pub done : (start : ℕ) → at ≤ start → 0 < start → AreStepsTo 1 steps start
  pub order : HasRestrictedGrowthFrom 1 steps
  pub below : (c : ℕ) → Has (take k set) c → c + 2 ≤ at
  pub into : (c : ℕ) → Has (take k set) c → number_at steps c ≡ inside
  pub out : (c : ℕ) → c ≤ 0x10FFFF → number_at steps c ≡ inside → Has (take k set) c ⊎ ((k ≡ 0) × Has set 0)
  pub first : ((k ≡ 0) × (steps ≡ [])) ⊎ (2 ≤ at)
  pub few : (c : ℕ) → c ≤ 0x10FFFF → number_at steps c ≤ 1

-- no step is needed for no range
none : (set : List Range) (inside : ℕ) → AreRising set → IsInside set inside → AreOfRanges set 0 inside []
none set inside rising is = record {
  at = 0;
  rest = rising;
  done = λ start l m. omega arith;
  order = tt;
  below = λ c m. absurd m;
  into = λ c m. absurd m;
  out = λ c l e. elim is [ inl both ↦ inr (refl, both.0) | inr other ↦ absurd (omega (arith, e, other.1)) ];
  first = inl (refl, refl);
  few = λ c l. omega arith;
}

-- and so it is for an empty list of steps
pub ranges-none : (set : List Range) (inside : ℕ) (steps : List Step) → AreRising set → IsInside set inside → steps ≡ [] → AreOfRanges set 0 inside steps
ranges-none set inside steps rising is e = subst (λ (xs : List Step). AreOfRanges set 0 inside xs) (sym e) (none set inside rising is)

-- at the end the set is told apart from other code points
pub ranges-separate : (set : List Range) (k inside : ℕ) (steps : List Step) → AreRising set → length set ≤ k → AreOfRanges set k inside steps →
    Separate steps (set ∷ [])
ranges-separate set k inside steps rising l h c d small few same other contains has =
    let whole = take_all k set l in
    let one : contains.0 ≡ 0 = omega (arith, contains.1) in
    let is : other ≡ set = sym contains.2 ∙ ap (λ i. get_or (set ∷ []) i other) one in
    let member : Has (take k set) c = subst (λ (xs : List Range). Has xs c) (is ∙ sym whole) has in
    let number : number_at steps d ≡ inside = sym same ∙ h.into c member in
    subst (λ (xs : List Range). Has xs d) (sym is)
    (elim (h.out d few number) [
      | inl had ↦ subst (λ (xs : List Range). Has xs d) whole had
      | inr empty ↦ absurd (omega (arith, has-some set 0 empty.1, empty.0))
    ])

-- and code points that are both members, or both not, have one number
pub ranges-joint : (set : List Range) (k inside : ℕ) (steps : List Step) → inside ≤ 1 → length set ≤ k → AreOfRanges set k inside steps →
    DontSeparateMore steps (set ∷ [])
ranges-joint set k inside steps small l h c d low few alike =
    let whole = take_all k set l in
    let same : Has set c ↔ Has set d = alike set (0, omega arith, refl) in
    let member : (code : ℕ) → code ≤ 0x10FFFF → number_at steps code ≡ inside → Has set code =
    λ code le e. elim (h.out code le e) [
      | inl had ↦ subst (λ (xs : List Range). Has xs code) whole had
      | inr empty ↦ absurd (omega (arith, has-some set 0 empty.1, empty.0))
    ] in
    let number : (code : ℕ) → Has set code → number_at steps code ≡ inside =
    λ code m. h.into code (subst (λ (xs : List Range). Has xs code) (sym whole) m) in
    elim (cases_eq (number_at steps c) inside) [
      | inl in_c ↦ in_c ∙ sym (number d (same.0 (member c low in_c)))
      | inr out_c ↦ elim (cases_eq (number_at steps d) inside) [
        | inl in_d ↦ absurd (out_c (number c (same.1 (member d few in_d))))
        | inr out_d ↦ omega (arith, out_c, out_d, small, h.few c low, h.few d few)
      ]
    ]

module _ (set : List Range) (k inside outside : ℕ) (old begun new : List Step) (range : Range) (rising : AreRising set) (l : k < length set)
    (range_is : range ≡ get_or set k range) (is : IsInside set inside) (other : outside ≡ 1 - inside) (h : AreOfRanges set k inside old)
    (begins : ((0 < range.low) × (begun ≡ old ++ (record { start = range.low; number = inside }) ∷ [])) ⊎ ((range.low ≡ 0) × (begun ≡ old)))
    (ends : ((range.high < 0x10FFFF) × (new ≡ begun ++ (record { start = range.high + 1; number = outside }) ∷ []))
    ⊎ ((0x10FFFF ≤ range.high) × (new ≡ begun))) where
  -- the step at which the range begins
  abbrev first_step : Step
  first_step = record { start = range.low; number = inside }

  -- the step behind its end
  abbrev last_step : Step
  last_step = record { start = range.high + 1; number = outside }

  -- numbers are 0 and 1
  small : inside ≤ 1
  small = elim is [ inl zero ↦ omega (arith, zero.1) | inr one ↦ omega (arith, one.1) ]

  -- the ranges that are left begin with the next one
  rest : AreRisingFrom h.at (range ∷ drop (k + 1) set)
  rest =
      subst (λ (xs : List Range). AreRisingFrom h.at xs)
      (drop_more set k range l ∙ ap (λ (r : Range). r ∷ drop (k + 1) set) (sym range_is)) h.rest

  -- those that are done end with it then
  more : take (k + 1) set ≡ take k set ++ range ∷ []
  more = take_more set k range l ∙ ap (λ (r : Range). take k set ++ r ∷ []) (sym range_is)

  -- the steps rise up to the beginning of the range
  begun_done : AreStepsTo 1 begun (range.low + 1)
  begun_done =
      elim begins [
        | inl some ↦
            subst (λ (xs : List Step). AreStepsTo 1 xs (range.low + 1)) (sym some.1)
            (steps-push 1 old range.low first_step (h.done range.low rest.0 some.0) (omega arith) (omega (arith, rest.1, rest.2)))
        | inr none ↦ subst (λ (xs : List Step). AreStepsTo 1 xs (range.low + 1)) (sym none.1) (h.done (range.low + 1) (omega (arith, rest.0)) (omega arith))
      ]

  -- the range's code points are members
  has_here : (c : ℕ) → InRange range c → Has (take (k + 1) set) c
  has_here c m = subst (λ (xs : List Range). Has xs c) (sym more) ((has-append (take k set) (range ∷ []) c).1 (inr (inl m)))

  -- where nothing is done, 0 can only be in what is left
  has_first : k ≡ 0 → Has set 0 → Has (range ∷ drop (k + 1) set) 0
  has_first e m =
      elim ((has-append (take k set) (drop k set) 0).0 (subst (λ (xs : List Range). Has xs 0) (sym (take-append-drop k set)) m)) [
        | inl old ↦ absurd (subst (λ n. Has (take n set) 0) e old)
        | inr new ↦
            subst (λ (xs : List Range). Has xs 0) (drop_more set k range l ∙ ap (λ (r : Range). r ∷ drop (k + 1) set) (sym range_is)) new
      ]

  -- a range that begins at 0 has it
  has_zero : range.low ≡ 0 → Has set 0
  has_zero e =
      subst (λ (xs : List Range). Has xs 0) (take-append-drop (k + 1) set)
      ((has-append (take (k + 1) set) (drop (k + 1) set) 0).1 (inl (has_here 0 (omega (arith, e), omega arith))))

  -- and then 0 is the number of members
  zero_is : range.low ≡ 0 → 0 ≡ inside
  zero_is e = elim is [ inl zero ↦ sym zero.1 | inr one ↦ absurd (one.0 (has_zero e)) ]

  -- from the range on the number is that of members
  begun_into : (c : ℕ) → range.low ≤ c → number_at begun c ≡ inside
  begun_into c m =
      elim begins [
        | inl some ↦
            ap (λ (xs : List Step). number_at xs c) some.1 ∙ number-pushed 0 1 old range.low first_step c (h.done range.low rest.0 some.0) (omega arith) m
        | inr none ↦
            ap (λ (xs : List Step). number_at xs c) none.1 ∙ elim h.first [
              | inl start ↦ ap (λ (xs : List Step). number_at xs c) start.1 ∙ zero_is (none.0)
              | inr past ↦ absurd (omega (arith, past, rest.0, none.0))
            ]
      ]

  -- before the range the numbers stay
  begun_kept : (c : ℕ) → c < range.low → number_at begun c ≡ number_at old c
  begun_kept c m =
      elim begins [
        | inl some ↦
            ap (λ (xs : List Step). number_at xs c) some.1 ∙ number-kept 0 1 old range.low first_step c (h.done range.low rest.0 some.0) (omega arith) m
        | inr none ↦ absurd (omega (arith, none.0))
      ]

  -- up to the range's end they stay again
  new_kept : (c : ℕ) → c ≤ range.high → number_at new c ≡ number_at begun c
  new_kept c m =
      elim ends [
        | inl some ↦
            ap (λ (xs : List Step). number_at xs c) some.1
            ∙ number-kept 0 1 begun (range.low + 1) last_step c begun_done (omega (arith, rest.1)) (omega arith)
        | inr none ↦ ap (λ (xs : List Step). number_at xs c) none.1
      ]

  -- behind the range the number is that of others
  new_past : (c : ℕ) → c ≤ 0x10FFFF → range.high < c → number_at new c ≡ outside
  new_past c few m =
      elim ends [
        | inl some ↦
            ap (λ (xs : List Step). number_at xs c) some.1
            ∙ number-pushed 0 1 begun (range.low + 1) last_step c begun_done (omega (arith, rest.1)) (omega arith)
        | inr none ↦ absurd (omega (arith, none.0))
      ]

  -- the steps rise up to what is behind the range
  new_done : AreStepsTo 1 new (range.high + 2)
  new_done =
      elim ends [
        | inl some ↦
            let next : range.high + 1 + 1 ≡ range.high + 2 = omega arith in
            subst (λ (xs : List Step). AreStepsTo 1 xs (range.high + 2)) (sym some.1)
            (subst (λ n. AreStepsTo 1 (begun ++ last_step ∷ []) n) next
            (steps-push 1 begun (range.low + 1) last_step begun_done (omega (arith, rest.1)) (omega (arith, some.0))))
        | inr none ↦
            subst (λ (xs : List Step). AreStepsTo 1 xs (range.high + 2)) (sym none.1)
            (steps-weaker 1 begun (range.low + 1) (range.high + 2) begun_done (omega (arith, rest.1)))
      ]

  -- their numbers come in their order
  new_order : HasRestrictedGrowthFrom 1 new
  new_order =
      let first : HasRestrictedGrowthFrom 1 begun =
      elim begins [
        | inl some ↦ subst (λ (xs : List Step). HasRestrictedGrowthFrom 1 xs) (sym some.1) (order-push 1 old first_step h.order (omega arith) small)
        | inr none ↦ subst (λ (xs : List Step). HasRestrictedGrowthFrom 1 xs) (sym none.1) h.order
      ] in
      elim ends [
        | inl some ↦
            subst (λ (xs : List Step). HasRestrictedGrowthFrom 1 xs) (sym some.1) (order-push 1 begun last_step first (omega arith) (omega (arith, other)))
        | inr none ↦ subst (λ (xs : List Step). HasRestrictedGrowthFrom 1 xs) (sym none.1) first
      ]

  -- a member is of the ranges before, or of this one
  has_cases : (c : ℕ) → Has (take (k + 1) set) c → Has (take k set) c ⊎ InRange range c
  has_cases c m =
      elim ((has-append (take k set) (range ∷ []) c).0 (subst (λ (xs : List Range). Has xs c) more m)) [
        | inl old ↦ inl old
        | inr new ↦ elim new [ inl here ↦ inr here | inr none ↦ absurd none ]
      ]

  -- members stay members
  has_still : (c : ℕ) → Has (take k set) c → Has (take (k + 1) set) c
  has_still c m = subst (λ (xs : List Range). Has xs c) (sym more) ((has-append (take k set) (range ∷ []) c).1 (inl m))

  -- where 0 is in what is left, the range begins there
  begins_zero : Has (range ∷ drop (k + 1) set) 0 → range.low ≡ 0
  begins_zero m =
      elim m [
        | inl here ↦ omega (arith, here.0)
        | inr later ↦ absurd (omega (arith, rising-least (range.high + 2) (drop (k + 1) set) 0 rest.3 later))
      ]

  -- with the next range
  pub ranges-more : AreOfRanges set (k + 1) inside new
  ranges-more = record {
    at = range.high + 2;
    rest = rest.3;
    done = λ start m n. steps-weaker 1 new (range.high + 2) start new_done m;
    order = new_order;
    below = λ c m. elim (has_cases c m) [
      | inl old ↦ omega (arith, h.below c old, rest.0, rest.1)
      | inr here ↦ omega (arith, here.1)
    ];
    into = λ c m. elim (has_cases c m) [
      | inl old ↦
          let early : c < range.low = omega (arith, h.below c old, rest.0) in
          new_kept c (omega (arith, rest.1)) ∙ begun_kept c early ∙ h.into c old
      | inr here ↦ new_kept c here.1 ∙ begun_into c here.0
    ];
    out = λ c few e. inl (elim (cases_lt range.high c) [
      | inl past ↦ absurd (omega (arith, new_past c few past, other, e, small))
      | inr upto ↦ elim (cases_lt c range.low) [
        | inl early ↦ elim (h.out c few (sym (begun_kept c early) ∙ sym (new_kept c upto) ∙ e)) [
          | inl had ↦ has_still c had
          | inr start ↦ absurd (omega (arith, begins_zero (has_first start.0 start.1), early))
        ]
        | inr from ↦ has_here c (from, upto)
      ]
    ]);
    first = inr (omega arith);
    few = λ c few. elim (cases_lt range.high c) [
      | inl past ↦ omega (arith, new_past c few past, other)
      | inr upto ↦ elim (cases_lt c range.low) [
        | inl early ↦ omega (arith, new_kept c upto, begun_kept c early, h.few c few)
        | inr from ↦ omega (arith, new_kept c upto, begun_into c from, small)
      ]
    ];
  }
