-- A rule file has one least fault at most, and none where it has a meaning.
use Rattle.std.proofs.Common.{◌≡◌, inl, inr, ⊎_elim, ℕ, Bool, true, false, ltb, eqb, ◌||◌, ◌&&◌, List, [], Option, Some}
use Rattle.std.proofs.Common.{None}
use Rattle.std.specs.Prelude.{IsSome}
use Rattle.std.proofs.Common.{length, refl, sym, ap, ◌∙◌, subst, arith}
use Rattle.std.proofs.lemmas.Bool.{cases_lt, lt-ltb, eq-eqb, false≢true}
use Rattle.rbbi_model.specs.Rules.{Rule}
use Rattle.rbbi_model.proofs.Lists.{all_at}
use Rattle.rbbi_props.specs.Rows.{File}
use Rattle.rbbi_tree.specs.Trees.{StatementTree}
use Rattle.rbbi_resolve.specs.declared.fault.Fault.{Fault}
use Rattle.rbbi_resolve.specs.declared.fault.FaultKind.{FaultKind}
use Rattle.rbbi_resolve.specs.declared.fault.FaultKind.TheVariants as kinds
use Rattle.rbbi_resolve.specs.declared.error.ResolveErr.{ResolveErr}
use Rattle.rbbi_resolve.specs.declared.error.ResolveErr.TheVariants as error
use Rattle.rbbi_resolve.specs.Faults.{rank, comes_before}
use Rattle.rbbi_resolve.specs.Outcomes.{Means}
use Rattle.rbbi_resolve.proofs.Earliest.{one_kind}
use Rattle.rbbi_resolve.specs.Refusals.{fault_of, place_of, place_of_fault, IsEarliest, IsReportedFault, IsReason, IsRefusedFor}

either_false : (x y : Bool) → x || y ≡ false → (x ≡ false) × (y ≡ false)
either_false true y unlike = absurd (false≢true (sym unlike))
either_false false y unlike = (refl, unlike)

-- numbers of which neither comes before the other are the same
neither_before : (a b c d : ℕ) → ltb a b || (eqb a b && ltb c d) ≡ false → ltb b a || (eqb b a && ltb d c) ≡ false → (a ≡ b) × (c ≡ d)
neither_before a b c d one other =
    let one' = either_false (ltb a b) (eqb a b && ltb c d) one in
    let other' = either_false (ltb b a) (eqb b a && ltb d c) other in
    let same : a ≡ b = equal a b one'.0 other'.0 in
    let less : ltb c d ≡ false = sym (ap (λ t. t && ltb c d) (eq-eqb a b same)) ∙ one'.1 in
    let less' : ltb d c ≡ false = sym (ap (λ t. t && ltb d c) (eq-eqb b a (sym same))) ∙ other'.1 in
    (same, equal c d less less')
  where
    equal : (m n : ℕ) → ltb m n ≡ false → ltb n m ≡ false → m ≡ n
    equal m n unlike unlike' =
        ⊎_elim (λ less. absurd (false≢true (sym unlike ∙ lt-ltb m n less)))
        (λ le. ⊎_elim (λ less. absurd (false≢true (sym unlike' ∙ lt-ltb n m less))) (λ ge. omega arith) (cases_lt n m)) (cases_lt m n)

-- there is one least fault
same_least : (faults : List Fault) (f g : Fault) → IsEarliest faults f → IsEarliest faults g → f ≡ g
same_least faults f g is is' =
    let P : Fault → Type 0 = λ h. comes_before h g ≡ false in
    let Q : Fault → Type 0 = λ h. comes_before h f ≡ false in
    let one : comes_before f g ≡ false = subst P is.one_of.2 (all_at P faults is.one_of.0 f is.one_of.1 is'.least) in
    let other : comes_before g f ≡ false = subst Q is'.one_of.2 (all_at Q faults is'.one_of.0 g is'.one_of.1 is.least) in
    let same = neither_before f.place g.place (rank f.kind) (rank g.kind) one other in
    let same_kind = one_kind f.kind g.kind same.1 in
    λ i. record { place = same.0 i; kind = same_kind i }

not_none : (faults : List Fault) (f : Fault) → faults ≡ [] → IsEarliest faults f → ⊥
not_none faults f none is =
    let k = is.one_of.1 in
    let long = ap length none in
    omega arith

-- there is one fault that a file is refused for
same_cause : (faults : List Fault) (count : Option Fault) (f g : Fault) → IsReportedFault faults count f → IsReportedFault faults count g → f ≡ g
same_cause faults count f g (inl is) (inl is') = same_least faults f g is is'
same_cause faults count f g (inl is) (inr (none, counted)) = absurd (not_none faults f none is)
same_cause faults count f g (inr (none, counted)) (inl is') = absurd (not_none faults g none is')
same_cause faults count f g (inr (none, counted)) (inr (none', counted')) = let both = sym counted ∙ counted' in cc

-- what a refusal with a place is for
record IsFor (faults : List Fault) (count noted : Option Fault) : Type 0 where
  fault : Fault
  noted_is : noted ≡ Some fault
  cause : IsReportedFault faults count fault

is_for : (faults : List Fault) (count noted : Option Fault) → IsSome (place_of_fault noted) → IsReason faults count noted → IsFor faults count noted
is_for faults count None placed is = absurd cc
is_for faults count (Some fault) placed is = record { fault = fault; noted_is = refl; cause = is }

-- the refusal that tells a fault, and want of memory where there is none
error_of : FaultKind → ℕ → ResolveErr
error_of kinds.UnknownControl place = error.UnknownControl place
error_of kinds.UnsupportedControl place = error.UnsupportedControl place
error_of kinds.Dictionary place = error.Dictionary place
error_of kinds.Redefined place = error.Redefined place
error_of kinds.Undefined place = error.Undefined place
error_of kinds.NotASet place = error.NotASet place
error_of kinds.UnknownProperty place = error.UnknownProperty place
error_of kinds.BadRange place = error.BadRange place
error_of kinds.EmptySet place = error.EmptySet place
error_of kinds.BareLiteral place = error.BareLiteral place
error_of kinds.EmptyFront place = error.EmptyFront place
error_of kinds.EmptyRest place = error.EmptyRest place
error_of kinds.NoRules place = error.NoRules place
error_of kinds.TooManyRules place = error.TooManyRules place
error_of kinds.TooManyLeaves place = error.TooManyLeaves place
error_of kinds.TooManySlashes place = error.TooManySlashes place
error_of kinds.TooTall place = error.TooTall place

error_for : Option Fault → ResolveErr
error_for None = error.Memory
error_for (Some fault) = error_of fault.kind fault.place

told : (e : ResolveErr) → e ≡ error_for (fault_of e)
unfolding error_of error_for
told (error.UnknownControl place) = refl
told (error.UnsupportedControl place) = refl
told (error.Dictionary place) = refl
told (error.Redefined place) = refl
told (error.Undefined place) = refl
told (error.NotASet place) = refl
told (error.UnknownProperty place) = refl
told (error.BadRange place) = refl
told (error.EmptySet place) = refl
told (error.BareLiteral place) = refl
told (error.EmptyFront place) = refl
told (error.EmptyRest place) = refl
told (error.NoRules place) = refl
told (error.TooManyRules place) = refl
told (error.TooManyLeaves place) = refl
told (error.TooManySlashes place) = refl
told (error.TooTall place) = refl
told error.Memory = refl

-- there is one refusal
pub same_fault : (faults : List Fault) (count : Option Fault) (e f : ResolveErr) → IsReason faults count (fault_of e) → IsSome (place_of e)
    → IsReason faults count (fault_of f) → IsSome (place_of f) → e ≡ f
same_fault faults count e f is placed is' placed' =
    let one = is_for faults count (fault_of e) placed is in
    let other = is_for faults count (fault_of f) placed' is' in
    told e ∙ ap error_for (one.noted_is ∙ ap Some (same_cause faults count one.fault other.fault one.cause other.cause) ∙ sym other.noted_is)
    ∙ sym (told f)

-- a file with a meaning isn't refused
pub meaning_excludes : (files : List File) (ignored : Bool) (statements : List StatementTree) (rules : List Rule) (end : ℕ) (e : ResolveErr)
    → Means files ignored statements rules → IsRefusedFor files ignored statements end e → IsSome (place_of e) → ⊥
meaning_excludes files ignored statements rules end e means is placed =
    let one = is_for _ _ (fault_of e) placed is in
    ⊎_elim (λ least. not_none _ one.fault means.faultless least) (λ (none, counted). let both = sym (means.within end) ∙ counted in absurd cc) one.cause
