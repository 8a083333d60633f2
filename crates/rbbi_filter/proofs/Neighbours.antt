-- The first boundary past a place and the last one before it, and how a list falls apart there.
use Rattle.std.proofs.Common.{◌≡◌, ℕ, ◌<◌, ◌≤◌, Bool, true, false, cond, ltb, ◌&&◌, List, [], ◌∷◌, ◌++◌, Option, Some, None, filter, sym, refl, ap, ◌∙◌, subst}
use Rattle.std.proofs.Common.{◌⊎◌, ⊎_elim, inl, inr, append-nil, arith}
use Rattle.std.specs.List.{AllByRecursion}
use Rattle.std.proofs.lemmas.Bool.{cases_Bool, cond-true, cond-false, ltb-true, ltb-false, lt-ltb, le-ltb, and_from, and_left, and_right}
use Rattle.std.proofs.lemmas.List.Elements.{filter-append}
use Rattle.rbbi_model.specs.Lists.{IsRising}
use Rattle.rbbi_model.specs.Boundaries.{Boundary}
use Rattle.rbbi_model.specs.Cover.{places}
use Rattle.rbbi_model.specs.Answers.{first_place, last_place, first_after, last_before}
use Rattle.rbbi_model.proofs.Rising.{rising_tail}
use Rattle.rbbi_model.proofs.Found.{some_same, none_some}
use Rattle.rbbi_cache.proofs.Lists.{all_filter, filter_none}
use Rattle.rbbi_cache.proofs.Reached.{rises_before, rises_after}
use Rattle.rbbi_session.proofs.Places.{all_through, first_skips, first_takes, last_skips}
use Rattle.rbbi_filter.specs.FilterCosts.{between}
use Rattle.rbbi_filter.proofs.Sifting.{sift, sift_takes, sift_drops}

-- p is the first boundary past o: those in front of it aren't past o, and those behind it are past it
pub record NextAt (bs : List Boundary) (o p : ℕ) : Type 0 where
  pub front : List Boundary
  pub here : Boundary
  pub later : List Boundary
  pub whole : bs ≡ front ++ here ∷ later
  pub at : here.at ≡ p
  pub past : o < p
  pub up_to : AllByRecursion (λ b. b.at ≤ o) front
  pub behind : AllByRecursion (λ b. p < b.at) later

pub next_at : (bs : List Boundary) (o p : ℕ) → IsRising (places bs) → first_after bs o ≡ Some p → NextAt bs o p
next_at [] o p rising is = absurd (none_some p is)
next_at (b ∷ bs) o p rising is =
    ⊎_elim
    (λ holds.
    let same : b.at ≡ p = some_same b.at p (sym (cond-true (ltb o b.at) (Some b.at) (first_after bs o) holds) ∙ is) in
    record {
      front = [];
      here = b;
      later = bs;
      whole = refl;
      at = same;
      past = subst (λ n. o < n) same (ltb-true o b.at holds);
      up_to = tt;
      behind = subst (λ n. AllByRecursion (λ c. n < c.at) bs) same (rises_after b bs rising);
    })
    (λ fails.
    let next : NextAt bs o p = next_at bs o p (rising_tail b.at (places bs) rising) (sym (cond-false (ltb o b.at) (Some b.at) (first_after bs o) fails) ∙ is) in
    record {
      front = b ∷ next.front;
      here = next.here;
      later = next.later;
      whole = ap (λ cs. b ∷ cs) next.whole;
      at = next.at;
      past = next.past;
      up_to = (ltb-false o b.at fails, next.up_to);
      behind = next.behind;
    })
    (cases_Bool (ltb o b.at))

-- p is the last boundary before o: those in front of it lie before it, and those behind it aren't before o
pub record PriorAt (bs : List Boundary) (o p : ℕ) : Type 0 where
  pub front : List Boundary
  pub here : Boundary
  pub later : List Boundary
  pub whole : bs ≡ front ++ here ∷ later
  pub at : here.at ≡ p
  pub short : p < o
  pub from : AllByRecursion (λ b. o ≤ b.at) later
  pub before : AllByRecursion (λ b. b.at < p) front

-- the same, but for what lies in front
record EndsWithPrior (bs : List Boundary) (o p : ℕ) : Type 0 where
  front : List Boundary
  here : Boundary
  later : List Boundary
  whole : bs ≡ front ++ here ∷ later
  at : here.at ≡ p
  short : p < o
  from : AllByRecursion (λ b. o ≤ b.at) later

prior_from : (before : Option ℕ) (bs : List Boundary) (o p : ℕ) → IsRising (places bs) → last_place (λ n. ltb n o) before bs ≡ Some p →
    ((before ≡ Some p) × AllByRecursion (λ b. o ≤ b.at) bs) ⊎ EndsWithPrior bs o p
prior_from before [] o p rising is = inl (is, tt)
prior_from before (b ∷ bs) o p rising is =
    let rest : IsRising (places bs) = rising_tail b.at (places bs) rising in
    ⊎_elim
    (λ holds.
    ⊎_elim
    (λ found.
    let same : b.at ≡ p = some_same b.at p found.0 in
    inr (record {
      front = [];
      here = b;
      later = bs;
      whole = refl;
      at = same;
      short = subst (λ n. n < o) same (ltb-true b.at o holds);
      from = found.1;
    }))
    (λ prior. inr (record {
      front = b ∷ prior.front;
      here = prior.here;
      later = prior.later;
      whole = ap (λ cs. b ∷ cs) prior.whole;
      at = prior.at;
      short = prior.short;
      from = prior.from;
    }))
    (prior_from (Some b.at) bs o p rest (sym (ap (λ m. last_place (λ n. ltb n o) m bs) (cond-true (ltb b.at o) (Some b.at) before holds)) ∙ is)))
    (λ fails.
    let high : o ≤ b.at = ltb-false b.at o fails in
    let later : AllByRecursion (λ c. o ≤ c.at) bs = all_through (λ c. b.at < c.at) (λ c. o ≤ c.at) (λ c less. omega (arith, less, high)) bs
    (rises_after b bs rising) in
    inl (
      sym
          (ap (λ m. last_place (λ n. ltb n o) m bs) (cond-false (ltb b.at o) (Some b.at) before fails)
          ∙ last_skips (λ n. ltb n o) before bs (all_through (λ c. o ≤ c.at) (λ c. ltb c.at o ≡ false) (λ c low. le-ltb c.at o low) bs later))
          ∙ is,
      (high, later),
    ))
    (cases_Bool (ltb b.at o))

pub prior_at : (bs : List Boundary) (o p : ℕ) → IsRising (places bs) → last_before bs o ≡ Some p → PriorAt bs o p
prior_at bs o p rising is =
    ⊎_elim
    (λ none. absurd (none_some p none.0))
    (λ prior. record {
      front = prior.front;
      here = prior.here;
      later = prior.later;
      whole = prior.whole;
      at = prior.at;
      short = prior.short;
      from = prior.from;
      before = subst (λ n. AllByRecursion (λ b. b.at < n) prior.front) prior.at
          (rises_before prior.front prior.here prior.later (subst (λ cs. IsRising (places cs)) prior.whole rising));
    })
    (prior_from None bs o p rising is)

-- tests that agree on all of the boundaries
first_agree : (test other : ℕ → Bool) (bs : List Boundary) → AllByRecursion (λ b. test b.at ≡ other b.at) bs → first_place test bs ≡ first_place other bs
first_agree test other [] agree = refl
first_agree test other (b ∷ bs) agree =
    ap (λ t. cond t (Some b.at) (first_place test bs)) agree.0 ∙ ap (λ m. cond (other b.at) (Some b.at) m) (first_agree test other bs agree.1)

last_agree : (test other : ℕ → Bool) (before : Option ℕ) (bs : List Boundary) → AllByRecursion (λ b. test b.at ≡ other b.at) bs →
    last_place test before bs ≡ last_place other before bs
last_agree test other before [] agree = refl
last_agree test other before (b ∷ bs) agree =
    last_agree test other (cond (test b.at) (Some b.at) before) bs agree.1 ∙ ap (λ t. last_place other (cond t (Some b.at) before) bs) agree.0

filter_agree : (test other : Boundary → Bool) (bs : List Boundary) → AllByRecursion (λ b. test b ≡ other b) bs → filter test bs ≡ filter other bs
filter_agree test other [] agree = refl
filter_agree test other (b ∷ bs) agree =
    ap (λ t. cond t (b ∷ filter test bs) (filter test bs)) agree.0
    ∙ ap (λ cs. cond (other b) (b ∷ cs) cs) (filter_agree test other bs agree.1)

pub last_append : (test : ℕ → Bool) (before : Option ℕ) (xs ys : List Boundary) → last_place test before (xs ++ ys) ≡ last_place test (last_place test before xs) ys
last_append test before [] ys = refl
last_append test before (b ∷ xs) ys = last_append test (cond (test b.at) (Some b.at) before) xs ys

-- the first boundary past a place lies past it
pub first_lies : (bs : List Boundary) (o p : ℕ) → first_after bs o ≡ Some p → o < p
first_lies [] o p is = absurd (none_some p is)
first_lies (b ∷ bs) o p is =
    ⊎_elim
    (λ holds.
    subst (λ n. o < n) (some_same b.at p (sym (cond-true (ltb o b.at) (Some b.at) (first_after bs o) holds) ∙ is)) (ltb-true o b.at holds))
    (λ fails. first_lies bs o p (sym (cond-false (ltb o b.at) (Some b.at) (first_after bs o) fails) ∙ is))
    (cases_Bool (ltb o b.at))

module _ (test : ℕ → Bool) (bs : List Boundary) (o p : ℕ) (next : NextAt bs o p) where
  sift_front : AllByRecursion (λ b. b.at ≤ o) (sift test next.front)
  sift_front = all_filter (λ (b : Boundary). b.at ≤ o) (λ b. test b.at) next.front next.up_to

  -- it passes, and so is the first past the place among those that do
  pub sifted_first : test p ≡ true → first_after (sift test bs) o ≡ Some p
  sifted_first holds =
      ap (λ cs. first_after (sift test cs) o) next.whole
      ∙ ap (λ cs. first_after cs o) (filter-append (λ (b : Boundary). test b.at) next.front (next.here ∷ next.later))
      ∙ ap (λ cs. first_after (sift test next.front ++ cs) o) (sift_takes test next.here next.later (ap test next.at ∙ holds))
      ∙ first_skips (λ n. ltb o n) (sift test next.front) (next.here ∷ sift test next.later)
      (all_through (λ b. b.at ≤ o) (λ b. ltb o b.at ≡ false) (λ b low. le-ltb o b.at low) (sift test next.front) sift_front)
      ∙ first_takes (λ n. ltb o n) next.here (sift test next.later) (lt-ltb o next.here.at (subst (λ n. o < n) (sym next.at) next.past))
      ∙ ap Some next.at

  parts_without : test p ≡ false → sift test bs ≡ sift test next.front ++ sift test next.later
  parts_without fails =
      ap (sift test) next.whole
      ∙ filter-append (λ (b : Boundary). test b.at) next.front (next.here ∷ next.later)
      ∙ ap (λ cs. sift test next.front ++ cs) (sift_drops test next.here next.later (ap test next.at ∙ fails))

  sift_later : AllByRecursion (λ b. p < b.at) (sift test next.later)
  sift_later = all_filter (λ (b : Boundary). p < b.at) (λ b. test b.at) next.later next.behind

  -- it doesn't pass: past the place and past it the same one is first
  pub sifted_skip : test p ≡ false → first_after (sift test bs) o ≡ first_after (sift test bs) p
  sifted_skip fails =
      let past : o < p = next.past in
      ap (λ cs. first_after cs o) (parts_without fails)
      ∙ first_skips (λ n. ltb o n) (sift test next.front) (sift test next.later)
      (all_through (λ b. b.at ≤ o) (λ b. ltb o b.at ≡ false) (λ b low. le-ltb o b.at low) (sift test next.front) sift_front)
      ∙ first_agree (λ n. ltb o n) (λ n. ltb p n) (sift test next.later)
      (all_through (λ b. p < b.at) (λ b. ltb o b.at ≡ ltb p b.at) (λ b less. lt-ltb o b.at (omega (arith, less, past)) ∙ sym (lt-ltb p b.at less))
      (sift test next.later) sift_later)
      ∙ sym
      (first_skips (λ n. ltb p n) (sift test next.front) (sift test next.later)
      (all_through (λ b. b.at ≤ o) (λ b. ltb p b.at ≡ false) (λ b low. le-ltb p b.at (omega (arith, low, past))) (sift test next.front) sift_front))
      ∙ sym (ap (λ cs. first_after cs p) (parts_without fails))

  -- nothing lies between the place and it
  pub none_between : between bs o p ≡ []
  none_between =
      ap (λ cs. between cs o p) next.whole
      ∙ filter_none (λ (b : Boundary). ltb o b.at && ltb b.at p) (next.front ++ next.here ∷ next.later)
      (all_of (λ (b : Boundary). (ltb o b.at && ltb b.at p) ≡ false) next.front next.here next.later
      (all_through (λ b. b.at ≤ o) (λ b. (ltb o b.at && ltb b.at p) ≡ false) (λ b low. and_left (ltb o b.at) (ltb b.at p) (le-ltb o b.at low)) next.front
      next.up_to)
      (and_right (ltb o next.here.at) (ltb next.here.at p) (le-ltb next.here.at p (omega (arith, next.at))))
      (all_through (λ b. p < b.at) (λ b. (ltb o b.at && ltb b.at p) ≡ false)
      (λ b less. and_right (ltb o b.at) (ltb b.at p) (le-ltb b.at p (omega (arith, less)))) next.later next.behind))
    where
      all_of : (P : Boundary → Type 0) (front : List Boundary) (here : Boundary) (later : List Boundary) → AllByRecursion P front → P here →
          AllByRecursion P later → AllByRecursion P (front ++ here ∷ later)
      all_of P [] here later all one rest = (one, rest)
      all_of P (b ∷ front) here later all one rest = (all.0, all_of P front here later all.1 one rest)

  -- up to a place further on it comes before what lies between it and that place
  pub one_between : (a : ℕ) → p < a → between bs o a ≡ next.here ∷ between bs p a
  one_between a short =
      let past : o < p = next.past in
      let same : next.here.at ≡ p = next.at in
      let lows : AllByRecursion (λ b. (ltb o b.at && ltb b.at a) ≡ false) next.front = all_through (λ b. b.at ≤ o) (λ b. (ltb o b.at && ltb b.at a) ≡ false)
      (λ b low. and_left (ltb o b.at) (ltb b.at a) (le-ltb o b.at low)) next.front next.up_to in
      let lows' : AllByRecursion (λ b. (ltb p b.at && ltb b.at a) ≡ false) next.front = all_through (λ b. b.at ≤ o) (λ b. (ltb p b.at && ltb b.at a) ≡ false)
      (λ b low. and_left (ltb p b.at) (ltb b.at a) (le-ltb p b.at (omega (arith, low, past)))) next.front next.up_to in
      ap (λ cs. between cs o a) next.whole
      ∙ filter-append (λ (b : Boundary). ltb o b.at && ltb b.at a) next.front (next.here ∷ next.later)
      ∙ ap (λ cs. cs ++ between (next.here ∷ next.later) o a) (filter_none (λ (b : Boundary). ltb o b.at && ltb b.at a) next.front lows)
      ∙ cond-true (ltb o next.here.at && ltb next.here.at a) (next.here ∷ between next.later o a) (between next.later o a)
      (and_from (ltb o next.here.at) (ltb next.here.at a) (lt-ltb o next.here.at (omega arith)) (lt-ltb next.here.at a (omega arith)))
      ∙ ap (λ cs. next.here ∷ cs)
      (filter_agree (λ b. ltb o b.at && ltb b.at a) (λ b. ltb p b.at && ltb b.at a) next.later
      (all_through (λ b. p < b.at) (λ b. (ltb o b.at && ltb b.at a) ≡ (ltb p b.at && ltb b.at a))
      (λ b less. ap (λ t. t && ltb b.at a) (lt-ltb o b.at (omega (arith, less, past)) ∙ sym (lt-ltb p b.at less))) next.later next.behind)
      ∙ sym
      (ap (λ cs. between cs p a) next.whole
      ∙ filter-append (λ (b : Boundary). ltb p b.at && ltb b.at a) next.front (next.here ∷ next.later)
      ∙ ap (λ cs. cs ++ between (next.here ∷ next.later) p a) (filter_none (λ (b : Boundary). ltb p b.at && ltb b.at a) next.front lows')
      ∙ cond-false (ltb p next.here.at && ltb next.here.at a) (next.here ∷ between next.later p a) (between next.later p a)
      (and_left (ltb p next.here.at) (ltb next.here.at a) (le-ltb p next.here.at (omega arith)))))

module _ (test : ℕ → Bool) (bs : List Boundary) (o p : ℕ) (prior : PriorAt bs o p) where
  late : (n : ℕ) → n ≤ o → AllByRecursion (λ b. ltb b.at n ≡ false) (sift test prior.later)
  late n low =
      all_through (λ b. o ≤ b.at) (λ b. ltb b.at n ≡ false) (λ b high. le-ltb b.at n (omega (arith, high, low))) (sift test prior.later)
      (all_filter (λ (b : Boundary). o ≤ b.at) (λ b. test b.at) prior.later prior.from)

  -- it passes, and so is the last before the place among those that do
  pub sifted_last : test p ≡ true → last_before (sift test bs) o ≡ Some p
  sifted_last holds =
      let early : last_place (λ n. ltb n o) None (sift test prior.front ++ prior.here ∷ sift test prior.later) ≡ last_place (λ n. ltb n o)
      (last_place (λ n. ltb n o) None (sift test prior.front)) (prior.here ∷ sift test prior.later) =
      last_append (λ n. ltb n o) None (sift test prior.front) (prior.here ∷ sift test prior.later) in
      ap (λ cs. last_before (sift test cs) o) prior.whole
      ∙ ap (λ cs. last_before cs o) (filter-append (λ (b : Boundary). test b.at) prior.front (prior.here ∷ prior.later))
      ∙ ap (λ cs. last_before (sift test prior.front ++ cs) o) (sift_takes test prior.here prior.later (ap test prior.at ∙ holds))
      ∙ early
      ∙ ap (λ m. last_place (λ n. ltb n o) m (sift test prior.later))
      (cond-true (ltb prior.here.at o) (Some prior.here.at) (last_place (λ n. ltb n o) None (sift test prior.front))
      (lt-ltb prior.here.at o (subst (λ n. n < o) (sym prior.at) prior.short)))
      ∙ last_skips (λ n. ltb n o) (Some prior.here.at) (sift test prior.later) (late o (omega arith))
      ∙ ap Some prior.at

  back_parts : test p ≡ false → sift test bs ≡ sift test prior.front ++ sift test prior.later
  back_parts fails =
      ap (sift test) prior.whole
      ∙ filter-append (λ (b : Boundary). test b.at) prior.front (prior.here ∷ prior.later)
      ∙ ap (λ cs. sift test prior.front ++ cs) (sift_drops test prior.here prior.later (ap test prior.at ∙ fails))

  -- it doesn't pass: before the place and before it the same one is last
  pub sifted_back : test p ≡ false → last_before (sift test bs) o ≡ last_before (sift test bs) p
  sifted_back fails =
      let short : p < o = prior.short in
      let fronts : AllByRecursion (λ b. b.at < p) (sift test prior.front) = all_filter (λ (b : Boundary). b.at < p) (λ b. test b.at) prior.front prior.before in
      ap (λ cs. last_before cs o) (back_parts fails)
      ∙ last_append (λ n. ltb n o) None (sift test prior.front) (sift test prior.later)
      ∙ last_skips (λ n. ltb n o) (last_place (λ n. ltb n o) None (sift test prior.front)) (sift test prior.later) (late o (omega arith))
      ∙ last_agree (λ n. ltb n o) (λ n. ltb n p) None (sift test prior.front)
      (all_through (λ b. b.at < p) (λ b. ltb b.at o ≡ ltb b.at p) (λ b less. lt-ltb b.at o (omega (arith, less, short)) ∙ sym (lt-ltb b.at p less))
      (sift test prior.front) fronts)
      ∙ sym (last_skips (λ n. ltb n p) (last_place (λ n. ltb n p) None (sift test prior.front)) (sift test prior.later) (late p (omega arith)))
      ∙ sym (last_append (λ n. ltb n p) None (sift test prior.front) (sift test prior.later))
      ∙ sym (ap (λ cs. last_before cs p) (back_parts fails))

  pub none_between_back : between bs p o ≡ []
  none_between_back =
      let same : prior.here.at ≡ p = prior.at in
      ap (λ cs. between cs p o) prior.whole
      ∙ filter-append (λ (b : Boundary). ltb p b.at && ltb b.at o) prior.front (prior.here ∷ prior.later)
      ∙ ap (λ cs. cs ++ between (prior.here ∷ prior.later) p o)
      (filter_none (λ (b : Boundary). ltb p b.at && ltb b.at o) prior.front
      (all_through (λ b. b.at < p) (λ b. (ltb p b.at && ltb b.at o) ≡ false)
      (λ b less. and_left (ltb p b.at) (ltb b.at o) (le-ltb p b.at (omega (arith, less))))
      prior.front prior.before))
      ∙ filter_none (λ (b : Boundary). ltb p b.at && ltb b.at o) (prior.here ∷ prior.later) (
        and_left (ltb p prior.here.at) (ltb prior.here.at o) (le-ltb p prior.here.at (omega arith)),
        all_through (λ b. o ≤ b.at) (λ b. (ltb p b.at && ltb b.at o) ≡ false) (λ b high. and_right (ltb p b.at) (ltb b.at o) (le-ltb b.at o high)) prior.later
            prior.from,
      )

  -- down to a place further back it comes behind what lies between that place and it
  pub one_between_back : (a : ℕ) → a < p → between bs a o ≡ between bs a p ++ prior.here ∷ []
  one_between_back a high =
      let short : p < o = prior.short in
      let same : prior.here.at ≡ p = prior.at in
      let tops : AllByRecursion (λ b. (ltb a b.at && ltb b.at o) ≡ false) prior.later = all_through (λ b. o ≤ b.at)
      (λ b. (ltb a b.at && ltb b.at o) ≡ false) (λ b far. and_right (ltb a b.at) (ltb b.at o) (le-ltb b.at o far)) prior.later prior.from in
      let tops' : AllByRecursion (λ b. (ltb a b.at && ltb b.at p) ≡ false) prior.later = all_through (λ b. o ≤ b.at)
      (λ b. (ltb a b.at && ltb b.at p) ≡ false) (λ b far. and_right (ltb a b.at) (ltb b.at p) (le-ltb b.at p (omega (arith, far, short)))) prior.later
      prior.from in
      ap (λ cs. between cs a o) prior.whole
      ∙ filter-append (λ (b : Boundary). ltb a b.at && ltb b.at o) prior.front (prior.here ∷ prior.later)
      ∙ ap (λ cs. between prior.front a o ++ cs)
      (cond-true (ltb a prior.here.at && ltb prior.here.at o) (prior.here ∷ between prior.later a o) (between prior.later a o)
      (and_from (ltb a prior.here.at) (ltb prior.here.at o) (lt-ltb a prior.here.at (omega arith)) (lt-ltb prior.here.at o (omega arith)))
      ∙ ap (λ cs. prior.here ∷ cs) (filter_none (λ (b : Boundary). ltb a b.at && ltb b.at o) prior.later tops))
      ∙ ap (λ cs. cs ++ prior.here ∷ [])
      (filter_agree (λ b. ltb a b.at && ltb b.at o) (λ b. ltb a b.at && ltb b.at p) prior.front
      (all_through (λ b. b.at < p) (λ b. (ltb a b.at && ltb b.at o) ≡ (ltb a b.at && ltb b.at p))
      (λ b less. ap (λ t. ltb a b.at && t) (lt-ltb b.at o (omega (arith, less, short)) ∙ sym (lt-ltb b.at p less))) prior.front prior.before)
      ∙ sym
      (ap (λ cs. between cs a p) prior.whole
      ∙ filter-append (λ (b : Boundary). ltb a b.at && ltb b.at p) prior.front (prior.here ∷ prior.later)
      ∙ ap (λ cs. between prior.front a p ++ cs)
      (cond-false (ltb a prior.here.at && ltb prior.here.at p) (prior.here ∷ between prior.later a p) (between prior.later a p)
      (and_right (ltb a prior.here.at) (ltb prior.here.at p) (le-ltb prior.here.at p (omega arith)))
      ∙ filter_none (λ (b : Boundary). ltb a b.at && ltb b.at p) prior.later tops')
      ∙ append-nil (between prior.front a p)))
