-- What a variable of the code says of that of the specification.
use Rattle.std.proofs.Common.{◌≡◌, ℕ, ◌+◌, Bool, true, false, Option, Some, None, List, is_none, is_some, if◌then◌else◌, [], ◌∷◌, ◌++◌, sym, refl, ap, ◌∙◌}
use Rattle.std.proofs.Common.{subst}
use Rattle.rbbi_classes.specs.Classes.{ClassBits}
use Rattle.rbbi_model.specs.SetTrees as model
use Rattle.rbbi_props.specs.Rows.{File}
use Rattle.rbbi_tree.specs.Trees as trees
use Rattle.rbbi_tree.specs.Trees.{SetSyntax, StatementTree, joined, set_property, set_within}
use Rattle.rbbi_tree.specs.declared.syntax.Join.{Join}
use Rattle.rbbi_resolve.specs.declared.fault.Fault.{Fault}
use Rattle.rbbi_resolve.specs.declared.fault.FaultKind.{FaultKind}
use Rattle.rbbi_resolve.specs.declared.fault.FaultKind.TheVariants as kinds
use Rattle.rbbi_resolve.specs.declared.variables.Summary.{Summary}
use Rattle.rbbi_resolve.specs.declared.variables.Kind.{Kind}
use Rattle.rbbi_resolve.specs.declared.variables.Kind.TheVariants as kind
use Rattle.rbbi_resolve.specs.Contexts as contexts
use Rattle.rbbi_resolve.specs.Contexts.{value_of_name}
use Rattle.rbbi_resolve.specs.Expressions.{meaning_of_variable, height_of_variable}
use Rattle.rbbi_resolve.specs.inner.Contexts.{IsKindOf}
use Rattle.rbbi_resolve.specs.SetValues.{property_test, value_of_set, value_of_property}
use Rattle.rbbi_resolve.specs.inner.ClassValues.{IsClassValue}
use Rattle.rbbi_resolve.specs.Parts.{Outside, Within, parts_of_part, parts_of_set}
use Rattle.rbbi_resolve.specs.Faults.{is_empty_value, noted, faults_where}
use Rattle.rbbi_resolve.specs.inner.Faults.{noted_parts}
use Rattle.rbbi_resolve.proofs.Noting.{noted_parts_of_append}
use Rattle.rbbi_resolve.specs.inner.Summaries.{Sums, Summarizes}

-- the counts of a variable that is no set
pub counts_of_expression : (files : List File) (bounds : List ℕ) (statements : List StatementTree) (here : Kind) (summary higher : Summary) (there : contexts.Variable) →
    here ≡ kind.Expression summary →
    ((a h : ℕ) (e : Bool) → Sums summary a h e → Sums higher a (h + 1) e) → IsKindOf files bounds statements here there →
    Summarizes higher (meaning_of_variable (Some there)) (height_of_variable (Some there))
counts_of_expression files bounds statements here summary higher (contexts.Set value) is raises same = absurd (subst (λ k. IsKindOf files bounds statements k
    (contexts.Set value)) is same)
counts_of_expression files bounds statements here summary higher (contexts.Expression meaning height) is raises same =
    let sums : Summarizes summary meaning height = subst (λ k. IsKindOf files bounds statements k (contexts.Expression meaning height)) is same in
    raises _ _ _ sums

-- a property is known where classes were found for it
known_where : (files : List File) (bounds : List ℕ) (t : Option (ℕ → Bool)) (tree : model.SetTree) (set : Option ClassBits) →
    IsClassValue files bounds (if is_some t then Some tree else None) set → is_none set ≡ is_none t
known_where files bounds None tree None is = refl
known_where files bounds None tree (Some set) is = absurd is
known_where files bounds (Some test) tree None is = absurd is
known_where files bounds (Some test) tree (Some set) is = refl

pub known_classes : (files : List File) (bounds : List ℕ) (negated : Bool) (word : List ℕ) (value : Option (List ℕ)) (set : Option ClassBits) →
    IsClassValue files bounds (value_of_property files negated word value) set → is_none set ≡ is_none (property_test files word value)
known_classes files bounds negated word value set is =
    known_where files bounds (property_test files word value) (model.Property negated word value) set is

one_fault : (least : Option Fault) (b : Bool) (place : ℕ) (kind : FaultKind) → noted least (faults_where b place kind) ≡ noted least
    ((faults_where b place kind ++ []) ++ [])
one_fault least true place kind = refl
one_fault least false place kind = refl

-- what is noted of a property in a set
pub property_noted : (context : contexts.Context) (files : List File) (least : Option Fault) (place : ℕ) (negated : Bool) (word : List ℕ)
    (value : Option (List ℕ)) (unknown : Bool) → context.files ≡ files → unknown ≡ is_none (property_test files word value) →
    noted least (faults_where unknown place kinds.UnknownProperty) ≡ noted_parts context least (Within place (set_property negated word value) ∷ [])
property_noted context files least place negated word value unknown same is =
    ap (λ b. noted least (faults_where b place kinds.UnknownProperty)) (is ∙ ap (λ f. is_none (property_test f word value)) (sym same))
    ∙ one_fault least (is_none (property_test context.files word value)) place kinds.UnknownProperty

-- what is noted of a property outside of sets
two_faults : (least : Option Fault) (a b : Bool) (place : ℕ) (kind other : FaultKind) →
    noted (noted least (faults_where a place kind)) (faults_where b place other) ≡ noted least
    ((faults_where a place kind ++ (faults_where b place other ++ [])) ++ [])
two_faults least true true place kind other = refl
two_faults least true false place kind other = refl
two_faults least false true place kind other = refl
two_faults least false false place kind other = refl

pub property_outside : (context : contexts.Context) (files : List File) (least : Option Fault) (place : ℕ) (negated : Bool) (word : List ℕ)
    (value : Option (List ℕ)) (unknown empty : Bool) → context.files ≡ files → unknown ≡ is_none (property_test files word value) →
    empty ≡ is_empty_value files (value_of_property files negated word value) →
    noted (noted least (faults_where unknown place kinds.UnknownProperty)) (faults_where empty place kinds.EmptySet) ≡ noted_parts context least
    (Outside place (trees.property negated word value) ∷ [])
property_outside context files least place negated word value unknown empty same known filled =
    let is_unknown = is_none (property_test context.files word value) in
    let is_empty = is_empty_value context.files (value_of_property context.files negated word value) in
    ap (λ a. noted (noted least (faults_where a place kinds.UnknownProperty)) (faults_where empty place kinds.EmptySet))
    (known ∙ ap (λ f. is_none (property_test f word value)) (sym same))
    ∙ ap (λ b. noted (noted least (faults_where is_unknown place kinds.UnknownProperty)) (faults_where b place kinds.EmptySet))
    (subst (λ f. empty ≡ is_empty_value f (value_of_property f negated word value)) (sym same) filled)
    ∙ two_faults least is_unknown is_empty place kinds.UnknownProperty kinds.EmptySet

-- what is noted of a set in a set
pub within_noted : (context : contexts.Context) (least : Option Fault) (place : ℕ) (join : Join) (inner : SetSyntax) →
    noted_parts context least (parts_of_set inner) ≡ noted_parts context least (parts_of_part (joined place join (set_within inner)))
within_noted context least place join inner = sym (noted_parts_of_append context least (parts_of_set inner) (Within place (set_within inner) ∷ []))

-- what is noted of a set outside of sets
pub set_noted : (context : contexts.Context) (files : List File) (least : Option Fault) (place : ℕ) (s : SetSyntax) (empty : Bool) →
    context.files ≡ files → empty ≡ is_empty_value files (value_of_set files (value_of_name context) s) →
    noted (noted_parts context least (parts_of_set s)) (faults_where empty place kinds.EmptySet) ≡ noted_parts context least
    (parts_of_set s ++ Outside place (trees.set s) ∷ [])
set_noted context files least place s empty same is =
    let e : empty ≡ is_empty_value context.files (value_of_set context.files (value_of_name context) s) =
    subst (λ f. empty ≡ is_empty_value f (value_of_set f (value_of_name context) s)) (sym same) is in
    let m = noted_parts context least (parts_of_set s) in
    ap (λ b. noted m (faults_where b place kinds.EmptySet)) e
    ∙ one_fault m (is_empty_value context.files (value_of_set context.files (value_of_name context) s)) place kinds.EmptySet
    ∙ sym (noted_parts_of_append context least (parts_of_set s) (Outside place (trees.set s) ∷ []))
