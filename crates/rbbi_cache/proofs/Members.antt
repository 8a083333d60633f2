-- Members of lists of boundaries, and what stands round them.
use Rattle.std.proofs.Common.{◌≡◌, ℕ, ◌≤◌, ◌⊎◌, List, [], ◌∷◌, ◌++◌, sym, refl, ap, subst, inl, inr, ⊎_elim}
use Rattle.std.proofs.lemmas.Bool.{cases_lt}
use Rattle.rbbi_model.specs.Boundaries.{Boundary}
use Rattle.rbbi_model.specs.Cover.{IsPlaceOf}
use Rattle.rbbi_model.specs.Runs.{from_place}
use Rattle.rbbi_model.proofs.FreshTrue.{kept, dropped}

-- some member is such a one
abbrev pub SomeMember : (Boundary → Type 0) → List Boundary → Type 0
SomeMember Such [] = ⊥
SomeMember Such (b ∷ bs) = Such b ⊎ SomeMember Such bs

-- a member that is such a one, and what stands before and after it
pub record Stands (Such : Boundary → Type 0) (bs : List Boundary) : Type 0 where
  pub before : List Boundary
  pub member : Boundary
  pub after : List Boundary
  pub whole : bs ≡ before ++ member ∷ after
  pub such : Such member

module _ (Such : Boundary → Type 0) where
  pub member_stands : (bs : List Boundary) → SomeMember Such bs → Stands Such bs
  member_stands [] some = absurd some
  member_stands (b ∷ bs) some =
      ⊎_elim
      (λ here. record { before = []; member = b; after = bs; whole = refl; such = here })
      (λ later.
      let rest = member_stands bs later in
      record { before = b ∷ rest.before; member = rest.member; after = rest.after; whole = ap (λ l. b ∷ l) rest.whole; such = rest.such })
      some

  pub standing : (before : List Boundary) (b : Boundary) (after : List Boundary) → Such b → SomeMember Such (before ++ b ∷ after)
  standing [] b after such = inl such
  standing (c ∷ before) b after such = inr (standing before b after such)

  -- a member from a place on is kept there
  pub member_kept : (place : ℕ) → ((b : Boundary) → Such b → place ≤ b.at) → (bs : List Boundary) → SomeMember Such bs → SomeMember Such (from_place place bs)
  member_kept place from [] some = some
  member_kept place from (b ∷ bs) some =
      ⊎_elim
      (λ here. subst (SomeMember Such) (sym (kept place b bs (from b here))) (inl here))
      (λ later.
      ⊎_elim
      (λ less. subst (SomeMember Such) (sym (dropped place b bs less)) (member_kept place from bs later))
      (λ more. subst (SomeMember Such) (sym (kept place b bs more)) (inr (member_kept place from bs later)))
      (cases_lt b.at place))
      some

  -- what is kept from a place on was a member
  pub member_of_kept : (place : ℕ) (bs : List Boundary) → SomeMember Such (from_place place bs) → SomeMember Such bs
  member_of_kept place [] some = some
  member_of_kept place (b ∷ bs) some =
      ⊎_elim
      (λ less. inr (member_of_kept place bs (subst (SomeMember Such) (dropped place b bs less) some)))
      (λ more. ⊎_elim (λ here. inl here) (λ later. inr (member_of_kept place bs later)) (subst (SomeMember Such) (kept place b bs more) some))
      (cases_lt b.at place)

-- members by their places
pub by_place : (k : ℕ) (bs : List Boundary) → IsPlaceOf bs k → SomeMember (λ b. b.at ≡ k) bs
by_place k [] some = some
by_place k (b ∷ bs) some = ⊎_elim (λ here. inl here) (λ later. inr (by_place k bs later)) some

pub place_of : (k : ℕ) (bs : List Boundary) → SomeMember (λ b. b.at ≡ k) bs → IsPlaceOf bs k
place_of k [] some = some
place_of k (b ∷ bs) some = ⊎_elim (λ here. inl here) (λ later. inr (place_of k bs later)) some
