-- Atoms that are one leaf, and those that are a set or a property.
use Rattle.std.proofs.Common.{◌≡◌, ℕ, ◌⊎◌, inl, inr, Bool, Option, Some, List, [], ◌∷◌, ◌++◌, length, get_or, refl, sym, ap, ◌∙◌, subst}
use Rattle.std.specs.List.{AllZip}
use Rattle.std.proofs.Math.Seq.{get_or-append_seam}
use Rattle.rbbi_model.specs.SetTrees as model
use Rattle.rbbi_tree.specs.Trees.{AtomTree}
use Rattle.rbbi_tree.specs.Values.{atom_tree}
use Rattle.rbbi_tree.specs.declared.syntax.Atom.{Atom}
use Rattle.rbbi_tree.specs.declared.syntax.Atom.TheVariants as atoms
use Rattle.rbbi_tree.specs.declared.syntax.SetExpr.{SetExpr}
use Rattle.rbbi_classes.specs.Classes.{ClassBits}
use Rattle.rbbi_resolve.specs.declared.context.Context as code
use Rattle.rbbi_resolve.specs.Contexts.{Context}
use Rattle.rbbi_resolve.specs.Expressions.{leaf_of, meaning_of_atom, set_of_atom}
use Rattle.rbbi_resolve.specs.inner.ClassValues.{IsClassValue}
use Rattle.rbbi_resolve.specs.inner.Contexts.{files_of, division_of, bounds_of, AddsRows}
use Rattle.rbbi_resolve.specs.inner.OwnLeaves.{IsLeafRow, leaves_of_atom}
use Rattle.rbbi_resolve.proofs.ItemTrees.{atom_of_character, atom_of_any, atom_of_property, atom_of_set}

-- the atom is one leaf, and means it
abbrev IsOneLeaf : Context → AtomTree → Type 0
IsOneLeaf k a = (value : Option model.SetTree) × (leaves_of_atom k a ≡ value ∷ []) × (meaning_of_atom k a ≡ leaf_of value)

-- a property or a set
abbrev IsPropertyOrSet : Atom → Type 0
IsPropertyOrSet a =
    ((negated : Bool) × (word : List ℕ) × (value : Option (List ℕ)) × (a ≡ atoms.Prop negated word value)) ⊎ ((s : SetExpr) × (a ≡ atoms.Set s))

pub leaf_atom : (k : Context) (a : Atom) → ((c : ℕ) × (bare : Bool) × (a ≡ atoms.Char c bare)) ⊎ ((a ≡ atoms.Any) ⊎ IsPropertyOrSet a) →
    IsOneLeaf k (atom_tree a)
leaf_atom k a is =
    elim is [
      | inl c ↦ subst (IsOneLeaf k) (sym (ap atom_tree c.2 ∙ atom_of_character c.0 c.1)) (Some (model.Character c.0), refl, refl)
      | inr others ↦ elim others [
        | inl e ↦ subst (IsOneLeaf k) (sym (ap atom_tree e ∙ atom_of_any)) (Some (model.Others model.Nothing), refl, refl)
        | inr rest ↦ elim rest [
          | inl p ↦ subst (IsOneLeaf k) (sym (ap atom_tree p.3 ∙ atom_of_property p.0 p.1 p.2)) (_, refl, refl)
          | inr s ↦ subst (IsOneLeaf k) (sym (ap atom_tree s.1 ∙ atom_of_set s.0)) (_, refl, refl)
        ]
      ]
    ]

-- the atom is one leaf, with the value of the set that it is
abbrev IsSetLeaf : Context → AtomTree → Type 0
IsSetLeaf k a = (value : Option model.SetTree) × (leaves_of_atom k a ≡ value ∷ []) × (set_of_atom k a ≡ Some value)

pub set_atom : (k : Context) (a : Atom) → IsPropertyOrSet a → IsSetLeaf k (atom_tree a)
set_atom k a is =
    elim is [
      | inl p ↦ subst (IsSetLeaf k) (sym (ap atom_tree p.3 ∙ atom_of_property p.0 p.1 p.2)) (_, refl, refl)
      | inr s ↦ subst (IsSetLeaf k) (sym (ap atom_tree s.1 ∙ atom_of_set s.0)) (_, refl, refl)
    ]

-- the row of a leaf that was added alone is its value
pub own_row : (context : code.Context) (value : Option model.SetTree) (before rows : List (Option ClassBits)) (first : ℕ) (row : Option ClassBits) →
    first ≡ length before → AddsRows context (value ∷ []) before rows → row ≡ get_or rows first row →
    IsClassValue (files_of context) (bounds_of context) value row
own_row context value before rows first row at adds is = one adds.more adds.each adds.is
  where
    one : (more : List (Option ClassBits)) → AllZip (IsLeafRow (files_of context) (division_of context)) (value ∷ []) more → rows ≡ before ++ more →
        IsClassValue (files_of context) (bounds_of context) value row
    one [] z e = absurd z
    one (x ∷ []) z e =
        let same : row ≡ x = is ∙ ap (λ n. get_or rows n row) at ∙ ap (λ xs. get_or xs (length before) row) e ∙ get_or-append_seam before x [] row in
        subst (IsClassValue (files_of context) (bounds_of context) value) (sym same) z.0.own
    one (x ∷ y ∷ more) z e = absurd z.1
