-- What one more set tells apart, and code points that sets tell apart.
use Rattle.std.proofs.Common.{◌≡◌, ◌≢◌, ℕ, zero, suc, ◌+◌, ◌≤◌, ◌<◌, ◌⊎◌, ◌↔◌, List, [], ◌∷◌, ◌++◌, length, get_or, refl, ap, sym, ◌∙◌, subst, inl, inr}
use Rattle.std.proofs.Common.{arith}
use Rattle.std.specs.Prelude.{AllPairs}
use Rattle.std.specs.List.{AllByRecursion, All}
use Rattle.std.proofs.lemmas.List.Kept.{AllPairs-cons}
use Rattle.std.proofs.lemmas.List.Elements.{All-from_recursion, recursion_from_All, Contains-append_left, Contains-push, Contains-push_cases}
use Rattle.std.proofs.lemmas.List.Quantifiers.{Any-push}
use Rattle.rbbi_model.specs.Ranges.{Range, Has}
use Rattle.rbbi_sets.specs.Partitions.{AreTogether}
use Rattle.rbbi_classes.specs.Classes.{ClassBits, HasClass}
use Rattle.rbbi_classes.specs.Steps.{number_at}
use Rattle.rbbi_classes.specs.declared.steps.Step.{Step}
use Rattle.rbbi_cats.specs.inner.Refinements.{AreNumbered, Refines}
use Rattle.rbbi_cats.specs.inner.Categories.{IsHeld, category_by, AreCategories, HasTold}

together_push : (sets : List (List Range)) (set : List Range) (c d : ℕ) → AreTogether (sets ++ set ∷ []) c d ↔ (AreTogether sets c d × (Has set c ↔ Has set d))
together_push sets set c d = (
  λ h. (λ other inside. h other (Contains-append_left sets (set ∷ []) other inside), h set (Contains-push sets set)),
  λ both other inside. elim (Contains-push_cases sets set other inside) [
    | inl old ↦ both.0 other old
    | inr same ↦ subst (λ (x : List Range). Has x c ↔ Has x d) same both.1
  ],
)

-- a member of some sets is one of more
held_more : (sets rest : List (List Range)) (c : ℕ) → IsHeld sets c → IsHeld (sets ++ rest) c
held_more sets rest c (k, set, below, is, has) =
    let (j, inside, is') = Contains-append_left sets rest set (k, below, is) in
    (j, set, inside, is', has)

held_push : (sets : List (List Range)) (set : List Range) (c : ℕ) → IsHeld (sets ++ set ∷ []) c ↔ (IsHeld sets c ⊎ Has set c)
held_push sets set c = (
  λ (k, other, below, is, has). elim (Contains-push_cases sets set other (k, below, is)) [
    | inl (j, inside, is') ↦ inl (j, other, inside, is', has)
    | inr same ↦ inr (subst (λ (x : List Range). Has x c) (sym same) has)
  ],
  λ h. elim h [ inl old ↦ held_more sets (set ∷ []) c old | inr new ↦ Any-push (λ x. Has x c) sets set new ],
)

-- The categories by one more set.
pub told_more : (steps : List Step) (sets : List (List Range)) (set : List Range) (row : ClassBits) (before after : List ℕ) →
    ((c : ℕ) → c ≤ 0x10FFFF → number_at steps c < length before) →
    ((c : ℕ) → c ≤ 0x10FFFF → HasClass row (number_at steps c) ↔ Has set c) → Refines row before after → AreCategories steps sets before →
    AreCategories steps (sets ++ set ∷ []) after
told_more steps sets set row before after within has r h = record {
  alike = λ c d small small'.
      let step = r.alike (number_at steps c) (number_at steps d) (within c small) (within d small') in
      let push = together_push sets set c d in
      let of = has c small in
      let of' = has d small' in (
        λ e. let both = step.0 e in push.1 (
          (h.alike c d small small').0 both.0,
          (λ m. of'.0 (both.1.0 (of.1 m)), λ m. of.0 (both.1.1 (of'.1 m))),
        ),
        λ t. let both = push.0 t in step.1 (
          (h.alike c d small small').1 both.0,
          (λ m. of'.1 (both.1.0 (of.0 m)), λ m. of.1 (both.1.1 (of'.0 m))),
        ),
      );
  some = λ c small.
      let step = r.some (number_at steps c) (within c small) in
      let push = held_push sets set c in (
        λ n. push.1 (elim (step.0 n) [ inl old ↦ inl ((h.some c small).0 old) | inr new ↦ inr ((has c small).0 new) ]),
        λ held. step.1 (elim (push.0 held) [ inl old ↦ inl ((h.some c small).1 old) | inr new ↦ inr ((has c small).1 new) ]),
      );
}

-- so many code points with different values from 1 on
record Distinct (value : ℕ → ℕ) (count : ℕ) : Type 0 where
  codes : List ℕ
  many : length codes ≡ count
  each : AllByRecursion (λ c. (c ≤ 0x10FFFF) × (1 ≤ value c) × (value c ≤ count)) codes
  apart : AllPairs (λ c d. value c ≢ value d) codes

distinct : (value : ℕ → ℕ) (count : ℕ) → ((n : ℕ) → 1 ≤ n → n ≤ count → (c : ℕ) × (c ≤ 0x10FFFF) × (value c ≡ n)) → Distinct value count
distinct value zero found = record { codes = []; many = refl; each = tt; apart = λ i j d less inside. absurd (omega (arith, inside)) }
distinct value (suc count) found =
    let old = distinct value count (λ n one few. found n one (omega (arith, few))) in
    let (c, small, is) = found (suc count) (omega arith) (omega arith) in
    record {
      codes = c ∷ old.codes;
      many = ap (λ n. suc n) old.many;
      each = ((small, omega (arith, is), omega (arith, is)), wider old.codes old.each);
      apart = AllPairs-cons (λ c d. value c ≢ value d) c old.codes
          (All-from_recursion (λ d. value c ≢ value d) old.codes (other c is old.codes old.each)) old.apart;
    }
  where
    wider : (codes : List ℕ) → AllByRecursion (λ c. (c ≤ 0x10FFFF) × (1 ≤ value c) × (value c ≤ count)) codes →
        AllByRecursion (λ c. (c ≤ 0x10FFFF) × (1 ≤ value c) × (value c ≤ suc count)) codes
    wider [] h = tt
    wider (d ∷ codes) (this, h) = ((this.0, this.1, omega (arith, this.2)), wider codes h)

    other : (c : ℕ) → value c ≡ suc count → (codes : List ℕ) → AllByRecursion (λ c. (c ≤ 0x10FFFF) × (1 ≤ value c) × (value c ≤ count)) codes →
        AllByRecursion (λ d. value c ≢ value d) codes
    other c is [] h = tt
    other c is (d ∷ codes) (this, h) = (λ e. absurd (omega (arith, is, e, this.2)), other c is codes h)

-- where there are more categories by some sets, there are so many code points that all sets tell apart
pub has_told : (steps : List Step) (bounds : List ℕ) (sets rest : List (List Range)) (categories : List ℕ) (count all : ℕ) → AreNumbered categories all →
    count < all → ((k : ℕ) → k < length categories → (c : ℕ) × (c ≤ 0x10FFFF) × (number_at steps c ≡ k)) → AreCategories steps sets categories →
    HasTold (sets ++ rest) count
has_told steps bounds sets rest categories count all numbered more found h =
    let value = category_by steps categories in
    let codes = distinct value count (λ n one few.
    let (k, below, is) = numbered.used n one (omega (arith, few, more)) in
    let (c, small, at) = found k below in
    (c, small, ap (λ k. get_or categories k 0) at ∙ is)) in
    let small : All (λ c. (c ≤ 0x10FFFF) × (1 ≤ value c) × (value c ≤ count)) codes.codes = All-from_recursion _ codes.codes codes.each in
    record {
      codes = codes.codes;
      many = codes.many;
      each = recursion_from_All (λ c. (c ≤ 0x10FFFF) × IsHeld (sets ++ rest) c) codes.codes (λ k d below.
          let (point, one, few) = small k d below in
          (point, held_more sets rest (get_or codes.codes k d) ((h.some (get_or codes.codes k d) point).0 (λ z. absurd (omega (arith, z, one))))));
      apart = λ i j d less below together. codes.apart i j d less below
          ((h.alike (get_or codes.codes i d) (get_or codes.codes j d) (small i d (omega (arith, less, below))).0 (small j d below).0).1
          (λ set inside. together set (Contains-append_left sets rest set inside)));
    }
