-- The classes of steps, and the code points that stand for them.
use Rattle.std.proofs.Common.{◌≡◌, ℕ, ◌≤◌, zero, suc, List, [], ◌∷◌, ◌⊎◌, ◌↔◌, length, ap, refl, sym, subst, ◌∙◌, inl, inr, arith}
use Rattle.std.specs.List.{Contains}
use Rattle.std.proofs.lemmas.Bool.{cases_lt}
use Rattle.rbbi_model.specs.Words.{IsSurrogate}
use Rattle.rbbi_model.specs.Ranges.{Range, Has}
use Rattle.rbbi_sets.specs.Partitions.{IsPartitionBy, surrogates}
use Rattle.rbbi_classes.specs.Classes.{AreBounds}
use Rattle.rbbi_classes.specs.Steps.{number_at, AreSteps}
use Rattle.rbbi_classes.specs.inner.Steps.{Separate, DontSeparateMore}
use Rattle.rbbi_classes.specs.Divisions.{ClassDivision, first_of, stand_in, IsRespected, IsDivision}
use Rattle.rbbi_classes.specs.declared.steps.Step.{Step}
use Rattle.rbbi_classes.proofs.ClassBounds.{bounds-range}
use Rattle.rbbi_classes.proofs.Stepping.{number-from, number-before}

-- the steps of the set of surrogates
abbrev pub surrogate_steps : List Step
surrogate_steps = (record { start = 0xD800; number = 1 }) ∷ (record { start = 0xE000; number = 0 }) ∷ []

-- surrogates have the number 1, and others 0
surrogate-number : (c : ℕ) → (IsSurrogate c × (number_at surrogate_steps c ≡ 1)) ⊎ ((IsSurrogate c → ⊥) × (number_at surrogate_steps c ≡ 0))
surrogate-number c =
    let first : Step = record { start = 0xD800; number = 1 } in
    let second : Step = record { start = 0xE000; number = 0 } in
    elim (cases_lt c 0xD800) [
      | inl before ↦ inr (λ s. absurd (omega (arith, s.0)), number-before 0 first (second ∷ []) c before)
      | inr from ↦ elim (cases_lt c 0xE000) [
        | inl within ↦ inl ((from, omega arith), number-from 0 first (second ∷ []) c from ∙ number-before 1 second [] c within)
        | inr past ↦ inr (λ s. absurd (omega (arith, s.1)), number-from 0 first (second ∷ []) c from ∙ number-from 1 second [] c past)
      ]
    ]

-- code points of one number are surrogates, or none is
same_surrogates : (c d : ℕ) → number_at surrogate_steps c ≡ number_at surrogate_steps d → IsSurrogate c → IsSurrogate d
same_surrogates c d same is =
    elim (surrogate-number c) [
      | inl one ↦ elim (surrogate-number d) [
        | inl also ↦ also.0
        | inr other ↦ absurd (omega (arith, same, one.1, other.1))
      ]
      | inr none ↦ absurd (none.0 is)
    ]

-- and code points that are both surrogates, or both not, have one number
surrogates-same : (c d : ℕ) → IsSurrogate c ↔ IsSurrogate d → number_at surrogate_steps c ≡ number_at surrogate_steps d
surrogates-same c d same =
    elim (surrogate-number c) [
      | inl one ↦ elim (surrogate-number d) [ inl also ↦ omega (arith, one.1, also.1) | inr other ↦ absurd (other.0 (same.0 one.0)) ]
      | inr none ↦ elim (surrogate-number d) [ inl one ↦ absurd (none.0 (same.1 one.0)) | inr also ↦ omega (arith, none.1, also.1) ]
    ]

-- the members of the set of surrogates are these
has-surrogates : (c : ℕ) → Has surrogates c ↔ IsSurrogate c
has-surrogates c = (λ h. elim h [ inl is ↦ is | inr none ↦ absurd none ], λ s. inl s)

-- a set of a list with one more is that one, or of the list
contains-cases : (first : List Range) (sets : List (List Range)) (set : List Range) → Contains (first ∷ sets) set → (set ≡ first) ⊎ Contains sets set
contains-cases first sets set (zero, within, is) = inl (sym is)
contains-cases first sets set (suc k, within, is) = inr (k, omega arith, is)

-- and those of the list are of that with one more
contains-more : (first : List Range) (sets : List (List Range)) (set : List Range) → Contains sets set → Contains (first ∷ sets) set
contains-more first sets set h = (suc h.0, omega (arith, h.1), h.2)

-- the first code point of a class is a code point
first-small : (bounds : List ℕ) (k : ℕ) → AreBounds bounds → k ≤ length bounds → first_of bounds k ≤ 0x10FFFF
first-small bounds zero h l = omega arith
first-small bounds (suc k) h l = (bounds-range 0 bounds h k (omega arith)).1

module _ (own steps : List Step) (bounds : List ℕ) (form : AreBounds bounds) (within : (c : ℕ) → number_at steps c ≤ length bounds)
    (first : (k : ℕ) → k ≤ length bounds → number_at steps (first_of bounds k) ≡ k)
    (left : (c d : ℕ) → c ≤ 0x10FFFF → d ≤ 0x10FFFF → number_at steps c ≡ number_at steps d → number_at own c ≡ number_at own d)
    (right : (c d : ℕ) → c ≤ 0x10FFFF → d ≤ 0x10FFFF → number_at steps c ≡ number_at steps d → number_at surrogate_steps c ≡ number_at surrogate_steps d) where
  -- the division by these
  abbrev division : ClassDivision
  division = record { bounds = bounds; steps = steps }

  -- what stands for a class is a code point
  small : (c : ℕ) → stand_in division c ≤ 0x10FFFF
  small c = first-small bounds (number_at steps c) form (within c)

  -- and has the number of the class
  stands : (c : ℕ) → number_at steps (stand_in division c) ≡ number_at steps c
  stands c = first (number_at steps c) (within c)

  -- a set that the steps separate has all of a class or nothing of it
  pub respects : (sets : List (List Range)) → Separate own sets → (set : List Range) → Contains sets set → IsRespected division set
  respects sets separate set contains c few = (
    separate c (stand_in division c) few (small c) (left c (stand_in division c) few (small c) (sym (stands c))) set contains,
    separate (stand_in division c) c (small c) few (left (stand_in division c) c (small c) few (stands c)) set contains,
  )

  -- the classes are those of code points that none of the sets tells apart, nor that of surrogates
  pub is_exact : (sets : List (List Range)) → Separate own sets → DontSeparateMore own sets →
      ((c d : ℕ) → number_at own c ≡ number_at own d → number_at surrogate_steps c ≡ number_at surrogate_steps d → number_at steps c ≡ number_at steps d) →
      ((c : ℕ) → first_of bounds (number_at steps c) ≤ c) → IsPartitionBy (surrogates ∷ sets) (stand_in division)
  is_exact sets separate joint both least = record {
    exact = λ c d low few. (
      λ same set contains.
          let one : number_at steps c ≡ number_at steps d =
          sym (stands c) ∙ ap (λ n. number_at steps n) same ∙ stands d in
          elim (contains-cases surrogates sets set contains) [
            | inl is ↦
                let of : (e f : ℕ) → e ≤ 0x10FFFF → f ≤ 0x10FFFF → number_at steps e ≡ number_at steps f → Has surrogates e → Has surrogates f =
                λ e f m n eq has. (has-surrogates f).1 (same_surrogates e f (right e f m n eq) ((has-surrogates e).0 has)) in
                subst (λ (xs : List Range). Has xs c ↔ Has xs d) (sym is) (of c d low few one, of d c few low (sym one))
            | inr inside ↦ (
              separate c d low few (left c d low few one) set inside,
              separate d c few low (left d c few low (sym one)) set inside,
            )
          ],
      λ together.
          let own_same = joint c d low few (λ set inside. together set (contains-more surrogates sets set inside)) in
          let of_surrogates = together surrogates (0, omega arith, refl) in
          let alike : IsSurrogate c ↔ IsSurrogate d =
          (λ s. (has-surrogates d).0 (of_surrogates.0 ((has-surrogates c).1 s)), λ s. (has-surrogates c).0 (of_surrogates.1 ((has-surrogates d).1 s))) in
          ap (λ n. first_of bounds n) (both c d own_same (surrogates-same c d alike)),
    );
    least = λ c few. least c;
    member = λ c few. ap (λ n. first_of bounds n) (stands c);
  }

  -- the classes are a division
  pub divides : AreSteps steps → ((c : ℕ) → first_of bounds (number_at steps c) ≤ c) → IsDivision division
  divides rise least = record {
    bounds = form;
    steps = rise;
    within = λ c few. within c;
    first = first;
    least = λ c few. least c;
    surrogates = λ c few. (
      same_surrogates c (stand_in division c) (right c (stand_in division c) few (small c) (sym (stands c))),
      same_surrogates (stand_in division c) c (right (stand_in division c) c (small c) few (stands c)),
    );
  }
