-- What holds of each value of a map; and answers by classes.
use Rattle.std.proofs.Common.{◌≡◌, ℕ, zero, suc, Bool, true, false, List, [], ◌∷◌, Option, Some, None, option_map, if◌then◌else◌, slice_get, chars}
use Rattle.std.proofs.Common.{string_bytes, sym, subst}
use Rattle.std.specs.List.{AllByRecursion}
use Rattle.std.specs.Map.{values_of}
use Rattle.std.specs.Rc.{rc_value}
use Rattle.indexmap.specs.IndexMap.{insert_entry}
use Rattle.rbbi_model.specs.Ranges.{Range}
use Rattle.rbbi_model.specs.SetTrees as model
use Rattle.rbbi_classes.specs.Classes.{ClassBits}
use Rattle.rbbi_props.specs.Rows.{File}
use Rattle.rbbi_resolve.specs.declared.classes.PropertyClasses.{PropertyClasses}
use Rattle.rbbi_resolve.specs.declared.properties.Answer.{Answer}
use Rattle.rbbi_resolve.specs.inner.SetValues.{IsValue}
use Rattle.rbbi_resolve.specs.SetValues.{value_of_property}
use Rattle.rbbi_resolve.specs.inner.ClassValues.{AreSame, IsClassValue, IsKnown}
use Rattle.rbbi_resolve.specs.inner.Questions.{IsRightAnswer}

-- each does so after an insertion
pub values_insert : {K V : Type 0} (eq : K → K → Bool) (P : V → Type 0) (entries : List (K × V)) (k : K) (v : V) →
    AllByRecursion P (values_of entries) → P v → AllByRecursion P (values_of (insert_entry eq entries k v))
values_insert eq P [] k v all holds = (holds, tt)
values_insert eq P (e ∷ entries) k v all holds =
    let rest = values_insert eq P entries k v all.1 holds in
    elim (eq k e.0) as (λ b. AllByRecursion P (values_of (if b then (e.0, v) ∷ entries else e ∷ insert_entry eq entries k v)))
    [ true ↦ (holds, all.1) | false ↦ (all.0, rest) ]

-- what holds of each value holds of that of each entry
pub value_at : {K V : Type 0} (P : V → Type 0) (entries : List (K × V)) (i : ℕ) (e : K × V) → AllByRecursion P (values_of entries) →
    slice_get entries i ≡ Some e → P e.1
value_at P [] i e all is = absurd cc
value_at P (first ∷ entries) zero e all is = let same : first ≡ e = cc in subst (λ f. P f.1) same all.0
value_at P (first ∷ entries) (suc i) e all is = value_at P entries i e all.1 is

-- where ranges are the value, so are the same by classes
classes_of_value : (files : List File) (bounds : List ℕ) (tree : Option model.SetTree) (set : Option (List Range)) (classes : Option ClassBits) →
    IsValue files tree set → AreSame bounds set classes → IsClassValue files bounds tree classes
classes_of_value files bounds None None None is same = tt
classes_of_value files bounds None None (Some classes) is same = absurd same
classes_of_value files bounds None (Some set) classes is same = absurd is
classes_of_value files bounds (Some tree) None classes is same = absurd is
classes_of_value files bounds (Some tree) (Some set) None is same = absurd same
classes_of_value files bounds (Some tree) (Some set) (Some classes) is same =
    λ c first. (λ h. (is.members c).0 ((same c first).0 h), λ m. (same c first).1 ((is.members c).1 m))

-- an answer is known by classes
pub answer_known : (files : List File) (bounds : List ℕ) (answer : Answer) (known : PropertyClasses) → IsRightAnswer files answer →
    rc_value known.question ≡ rc_value answer.question → AreSame bounds (rc_value answer.set) (rc_value known.set) → IsKnown files bounds known
answer_known files bounds answer known right same sets =
    subst (λ q. IsClassValue files bounds
    (value_of_property files q.negated (chars (string_bytes q.name)) (option_map (λ text. chars (string_bytes text)) q.value)) (rc_value known.set)) (sym same)
    (classes_of_value files bounds _ (rc_value answer.set) (rc_value known.set) right sets)
