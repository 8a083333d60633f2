-- Sets in two halves.
use Rattle.std.proofs.Common.{◌≡◌, ℕ, ◌≤◌, List, [], ◌∷◌, ◌++◌, length, get_or, sym, subst, ap, inl, inr, arith}
use Rattle.std.specs.List.{Contains}
use Rattle.std.proofs.lemmas.List.Elements.{Contains-append_left, Contains-append_right, Contains-append_cases}
use Rattle.rbbi_model.specs.Ranges.{Range}
use Rattle.rbbi_classes.specs.Steps.{number_at}
use Rattle.rbbi_classes.specs.inner.Steps.{Separate, DontSeparateMore}
use Rattle.rbbi_classes.specs.declared.steps.Step.{Step}

-- a list of one set has the first set alone
pub one_set : (sets : List (List Range)) (set : List Range) → length sets ≡ 1 → set ≡ get_or sets 0 set → set ∷ [] ≡ sets
one_set [] set e is = absurd (omega arith)
one_set (first ∷ []) set e is = ap (λ (xs : List Range). xs ∷ []) is
one_set (first ∷ second ∷ more) set e is = absurd (omega arith)

module _ (front back sets : List (List Range)) (left right steps : List Step) (split : front ++ back ≡ sets) where
  -- what separates both halves separates the sets
  pub separate-halves : Separate left front → Separate right back →
      ((c d : ℕ) → c ≤ 0x10FFFF → d ≤ 0x10FFFF → number_at steps c ≡ number_at steps d → number_at left c ≡ number_at left d) →
      ((c d : ℕ) → c ≤ 0x10FFFF → d ≤ 0x10FFFF → number_at steps c ≡ number_at steps d → number_at right c ≡ number_at right d) →
      Separate steps sets
  separate-halves of_front of_back to_left to_right c d low few same set inside =
      elim (Contains-append_cases front back set (subst (λ (xs : List (List Range)). Contains xs set) (sym split) inside)) [
        | inl first ↦ of_front c d low few (to_left c d low few same) set first
        | inr second ↦ of_back c d low few (to_right c d low few same) set second
      ]

  -- and what separates no more than each half separates no more than the sets
  pub joint-halves : DontSeparateMore left front → DontSeparateMore right back →
      ((c d : ℕ) → number_at left c ≡ number_at left d → number_at right c ≡ number_at right d → number_at steps c ≡ number_at steps d) →
      DontSeparateMore steps sets
  joint-halves of_front of_back both c d low few alike =
      both c d
      (of_front c d low few
      (λ set inside. alike set (subst (λ (xs : List (List Range)). Contains xs set) split (Contains-append_left front back set inside))))
      (of_back c d low few
      (λ set inside. alike set (subst (λ (xs : List (List Range)). Contains xs set) split (Contains-append_right front back set inside))))
