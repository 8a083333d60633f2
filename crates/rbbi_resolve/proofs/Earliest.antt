-- Of faults that are noted one after another the earliest is kept.
use Rattle.std.proofs.Common.{◌≡◌, suc, Bool, true, false, cond, if◌then◌else◌, ◌⊎◌, inl, inr, Option, Some, None, List, [], ◌∷◌}
use Rattle.std.proofs.Common.{sym, refl, ap, ◌∙◌, subst, slice_get, arith}
use Rattle.std.specs.List.{AllByRecursion, Contains}
use Rattle.std.proofs.lemmas.Bool.Decides.{nat_tests}
use Rattle.rbbi_resolve.specs.declared.fault.Fault.{Fault}
use Rattle.rbbi_resolve.specs.declared.fault.FaultKind.{FaultKind}
use Rattle.rbbi_resolve.specs.declared.fault.FaultKind.TheVariants as kinds
use Rattle.rbbi_resolve.specs.Faults.{rank, comes_before, noted, noted_one}
use Rattle.rbbi_resolve.specs.Refusals.{IsEarliest}
use Rattle.rbbi_resolve.proofs.Noting.{other_way}

-- the kinds in their order
in_order : List FaultKind
in_order =
    kinds.UnknownControl ∷ kinds.UnsupportedControl ∷ kinds.Dictionary ∷ kinds.Redefined ∷ kinds.Undefined ∷ kinds.NotASet ∷
    kinds.UnknownProperty ∷ kinds.BadRange ∷ kinds.EmptySet ∷ kinds.BareLiteral ∷ kinds.EmptyFront ∷ kinds.EmptyRest ∷
    kinds.NoRules ∷ kinds.TooManyRules ∷ kinds.TooManyLeaves ∷ kinds.TooManySlashes ∷ kinds.TooTall ∷ []

ranked : (kind : FaultKind) → slice_get in_order (rank kind) ≡ Some kind
unfolding in_order
ranked kinds.UnknownControl = refl
ranked kinds.UnsupportedControl = refl
ranked kinds.Dictionary = refl
ranked kinds.Redefined = refl
ranked kinds.Undefined = refl
ranked kinds.NotASet = refl
ranked kinds.UnknownProperty = refl
ranked kinds.BadRange = refl
ranked kinds.EmptySet = refl
ranked kinds.BareLiteral = refl
ranked kinds.EmptyFront = refl
ranked kinds.EmptyRest = refl
ranked kinds.NoRules = refl
ranked kinds.TooManyRules = refl
ranked kinds.TooManyLeaves = refl
ranked kinds.TooManySlashes = refl
ranked kinds.TooTall = refl

-- kinds of one rank are one kind
pub one_kind : (kind other : FaultKind) → rank kind ≡ rank other → kind ≡ other
one_kind kind other e = let same : Some kind ≡ Some other = sym (ranked kind) ∙ ap (slice_get in_order) e ∙ ranked other in cc

not_itself : (f : Fault) → comes_before f f ≡ false
not_itself f = grind (arith, nat_tests)

not_through : (f g h : Fault) → comes_before f g ≡ false → comes_before g h ≡ false → comes_before f h ≡ false
not_through f g h e d = grind (arith, nat_tests)

abbrev StartsNot : Option Fault → Fault → Type 0
StartsNot None f = Unit {0}
StartsNot (Some g) f = comes_before g f ≡ false

record IsLeastFrom (start : Option Fault) (faults : List Fault) (f : Fault) : Type 0 where
  pub one_of : (start ≡ Some f) ⊎ Contains faults f
  pub least : AllByRecursion (λ other. comes_before other f ≡ false) faults
  pub first : StartsNot start f

contains_head : (x f : Fault) (xs : List Fault) → x ≡ f → Contains (x ∷ xs) f
contains_head x f xs e = (0, omega arith, e)

contains_tail : (x f : Fault) (xs : List Fault) → Contains xs f → Contains (x ∷ xs) f
contains_tail x f xs w = (suc w.0, (let lt = w.1 in omega arith), w.2)

some_is : (x f : Fault) → Some x ≡ Some f → x ≡ f
some_is x f e = cc

from_none : (x f : Fault) (xs : List Fault) → IsLeastFrom (Some x) xs f → IsLeastFrom None (x ∷ xs) f
from_none x f xs i =
    record {
      one_of = elim i.one_of [ inl e ↦ inr (contains_head x f xs (some_is x f e)) | inr w ↦ inr (contains_tail x f xs w) ];
      least = (i.first, i.least);
      first = tt;
    }

from_some : (g x f : Fault) (xs : List Fault) (b : Bool) → comes_before x g ≡ b → IsLeastFrom (cond b (Some x) (Some g)) xs f → IsLeastFrom (Some g) (x ∷ xs) f
from_some g x f xs true is i =
    record {
      one_of = elim i.one_of [ inl e ↦ inr (contains_head x f xs (some_is x f e)) | inr w ↦ inr (contains_tail x f xs w) ];
      least = (i.first, i.least);
      first = not_through g x f (other_way x g is) i.first;
    }
from_some g x f xs false is i =
    record {
      one_of = elim i.one_of [ inl e ↦ inl e | inr w ↦ inr (contains_tail x f xs w) ];
      least = (not_through x g f is i.first, i.least);
      first = i.first;
    }

least_from : (start : Option Fault) (faults : List Fault) (f : Fault) → noted start faults ≡ Some f → IsLeastFrom start faults f
least_from None [] f e = absurd cc
least_from (Some g) [] f e =
    record { one_of = inl e; least = tt; first = subst (λ x. comes_before x f ≡ false) (sym (some_is g f e)) (not_itself f) }
least_from None (x ∷ xs) f e = from_none x f xs (least_from (Some x) xs f e)
least_from (Some g) (x ∷ xs) f e = from_some g x f xs (comes_before x g) refl (least_from (noted_one (Some g) x) xs f e)

pub least_noted : (faults : List Fault) (f : Fault) → noted None faults ≡ Some f → IsEarliest faults f
least_noted faults f e =
    let i = least_from None faults f e in
    record { one_of = elim i.one_of [ inl n ↦ absurd cc | inr w ↦ w ]; least = i.least }

stays_some : (f : Fault) (faults : List Fault) → noted (Some f) faults ≡ None → ⊥
stays_some f [] e = cc
stays_some f (x ∷ xs) e =
    let on : (b : Bool) → noted (if b then Some x else Some f) xs ≡ None → ⊥ =
    λ b. elim b as (λ c. noted (if c then Some x else Some f) xs ≡ None → ⊥) [ true ↦ stays_some x xs | false ↦ stays_some f xs ] in
    on (comes_before x f) e

pub none_noted : (faults : List Fault) → noted None faults ≡ None → faults ≡ []
none_noted [] e = refl
none_noted (x ∷ xs) e = absurd (stays_some x xs e)
