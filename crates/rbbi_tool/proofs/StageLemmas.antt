-- Stages in a row: how they pass and refuse, and that they are determined where each of them is.
use Rattle.std.proofs.Common.{◌≡◌, ◌⊎◌, inl, inr, ⊎_elim, sym, ◌∙◌, subst}
use Rattle.std.specs.Prelude.{Result, Ok, Err}
use Rattle.rbbi_command.specs.declared.refusal.Refusal.{Refusal}
use Rattle.rbbi_command.specs.declared.refusal.Refusal.TheVariants.{Memory}
use Rattle.rbbi_command.specs.Stages.{Stage, followed_by, passing, gives}
use Rattle.rbbi_tool.specs.inner.Stages.{Meets, Serves, IsDeterministic}

-- the stage doesn't both pass and refuse, it refuses in one way alone, and values that it passes with are so related
pub record IsSettled (A : Type 0) (R : A → A → Type 0) (stage : Stage A) : Type 0 where
  pub value : (a b : A) → stage.passes a → stage.passes b → R a b
  pub refusal : (r s : Refusal) → stage.refuses r → stage.refuses s → r ≡ s
  pub apart : (a : A) (r : Refusal) → stage.passes a → stage.refuses r → ⊥

-- a determined stage is settled
pub settled : {A : Type 0} (R : A → A → Type 0) (stage : Stage A) → ((a b : A) → a ≡ b → R a b) → IsDeterministic A stage → IsSettled A R stage
settled R stage same is = record { value = λ a b p q. same a b (is.value a b p q); refusal = is.refusal; apart = is.apart }

-- a stage that never refuses is determined if it passes with one value alone
pub passing_determined : {A : Type 0} (P : A → Type 0) → ((a b : A) → P a → P b → a ≡ b) → IsDeterministic A (passing P)
passing_determined P one = record { value = one; refusal = λ r s is is'. absurd is; apart = λ a r is is'. is' }

-- a stage that gives one value is determined
pub gives_determined : {A : Type 0} (a : A) → IsDeterministic A (gives a)
gives_determined a = passing_determined (λ b. b ≡ a) (λ b c is is'. is ∙ sym is')

module _ {A B : Type 0} (first : Stage A) (next : A → Stage B) where
  -- the first stage refuses
  pub stops_first : (refusal : Refusal) → (refusal ≡ Memory) ⊎ first.refuses refusal → (refusal ≡ Memory) ⊎ (followed_by first next).refuses refusal
  stops_first refusal = ⊎_elim inl (λ is. inr (inl is))

  -- the first stage passes, and the next refuses
  pub stops_next : (a : A) (refusal : Refusal) → first.passes a → (refusal ≡ Memory) ⊎ (next a).refuses refusal
      → (refusal ≡ Memory) ⊎ (followed_by first next).refuses refusal
  stops_next a refusal passed = ⊎_elim inl (λ is. inr (inr (a, passed, is)))

  -- the first stage passes, and the next does what it does
  pub goes_on : {V : Type 0} (view : V → B) (a : A) (result : Result V Refusal) → first.passes a → Meets view (next a) result → Meets view
      (followed_by first next) result
  goes_on view a (Ok v) passed met = (a, passed, met)
  goes_on view a (Err refusal) passed met = stops_next a refusal passed met

  -- the first stage passes, and the next serves
  pub serves_on : {V : Type 0} (related : V → B → Type 0) (a : A) (result : Result V Refusal) → first.passes a → Serves related (next a) result
      → Serves related (followed_by first next) result
  serves_on related a (Ok v) passed (b, is, so) = (b, (a, passed, is), so)
  serves_on related a (Err refusal) passed met = stops_next a refusal passed met

  -- of a determined stage and a settled one the row is settled
  pub settled_both : (R : B → B → Type 0) → IsDeterministic A first → ((a : A) → first.passes a → IsSettled B R (next a)) → IsSettled B R
      (followed_by first next)
  settled_both R one each = record {
    value = λ b c (a, passed, is) (a', passed', is').
        (each a' passed').value b c (subst (λ v. (next v).passes b) (one.value a a' passed passed') is) is';
    refusal = λ r s either other.
        ⊎_elim
        (λ is. ⊎_elim (λ is'. one.refusal r s is is') (λ (a', passed', is'). absurd (one.apart a' r passed' is)) other)
        (λ (a, passed, is).
        ⊎_elim
        (λ is'. absurd (one.apart a s passed is'))
        (λ (a', passed', is'). (each a' passed').refusal r s (subst (λ v. (next v).refuses r) (one.value a a' passed passed') is) is')
        other)
        either;
    apart = λ b r (a, passed, is) either.
        ⊎_elim
        (λ is'. one.apart a r passed is')
        (λ (a', passed', is'). (each a' passed').apart b r (subst (λ v. (next v).passes b) (one.value a a' passed passed') is) is')
        either;
  }

  -- two determined stages in a row are determined
  pub determined_both : IsDeterministic A first → ((a : A) → IsDeterministic B (next a)) → IsDeterministic B (followed_by first next)
  determined_both one each =
      let both = settled_both (λ b c. b ≡ c) one (λ a _. settled (λ b c. b ≡ c) (next a) (λ b c same. same) (each a)) in
      record { value = both.value; refusal = both.refusal; apart = both.apart }
