-- What is noted of parts, one list after another.
use Rattle.std.proofs.Common.{◌≡◌, List, [], ◌∷◌, ◌++◌, Option, true, false, sym, ◌∙◌, ap, refl, arith}
use Rattle.std.proofs.lemmas.Bool.Decides.{nat_tests}
use Rattle.std.proofs.lemmas.List.{append_assoc}
use Rattle.std.proofs.lemmas.List.Sums.{fold-append}
use Rattle.rbbi_resolve.specs.declared.fault.Fault.{Fault}
use Rattle.rbbi_resolve.specs.Contexts.{Context}
use Rattle.rbbi_resolve.specs.Parts.{Part}
use Rattle.rbbi_resolve.specs.Faults.{comes_before, noted, noted_one, faults_of_parts, faults_of_part}
use Rattle.rbbi_resolve.specs.inner.Faults.{noted_parts}

pub noted_of_append : (least : Option Fault) (xs ys : List Fault) → noted least (xs ++ ys) ≡ noted (noted least xs) ys
noted_of_append least xs ys = fold-append noted_one least xs ys

pub faults_of_append : (context : Context) (a b : List Part) → faults_of_parts context (a ++ b) ≡ faults_of_parts context a ++ faults_of_parts context b
faults_of_append context [] b = refl
faults_of_append context (p ∷ a) b = ap (λ fs. faults_of_part context p ++ fs) (faults_of_append context a b)
    ∙ sym (append_assoc (faults_of_part context p) (faults_of_parts context a) (faults_of_parts context b))

pub noted_parts_of_append : (context : Context) (least : Option Fault) (a b : List Part) →
    noted_parts context least (a ++ b) ≡ noted_parts context (noted_parts context least a) b
noted_parts_of_append context least a b = ap (noted least) (faults_of_append context a b)
    ∙ noted_of_append least (faults_of_parts context a) (faults_of_parts context b)

pub other_way : (f g : Fault) → comes_before f g ≡ true → comes_before g f ≡ false
other_way f g e = grind (arith, nat_tests)
