-- The rows of leaves, one after another, and their sets.
use Rattle.std.proofs.Common.{◌≡◌, ℕ, ◌<◌, ◌≤◌, ⊎_elim, Bool, true, false, List, [], ◌∷◌, ◌++◌, Option, None, Some, IfSome, is_some, sym, ap, ◌∙◌, arith}
use Rattle.std.proofs.Common.{if◌then◌else◌}
use Rattle.std.specs.Option.{option_map}
use Rattle.std.specs.List.{AllZip}
use Rattle.std.proofs.lemmas.List.{append-nil, append_assoc}
use Rattle.std.proofs.Math.Utf8.{scalar, scalar_cases}
use Rattle.rbbi_model.specs.Words.{IsCharacter}
use Rattle.rbbi_model.specs.SetTrees as model
use Rattle.rbbi_props.specs.Rows.{File}
use Rattle.rbbi_tree.specs.Trees.{SetSyntax, PartsTree, set_of, no_parts, part, joined}
use Rattle.rbbi_tree.specs.declared.syntax.Join.{Join}
use Rattle.rbbi_classes.specs.Classes.{ClassBits}
use Rattle.rbbi_classes.specs.Divisions.{ClassDivision, IsDivision, stand_in}
use Rattle.rbbi_classes.proofs.FirstCodePoints.{stand-in_is_point}
use Rattle.rbbi_resolve.specs.declared.context.Context.{Context}
use Rattle.rbbi_resolve.specs.inner.Contexts.{files_of, division_of, AddsRows}
use Rattle.rbbi_resolve.specs.inner.Covered.{Respects}
use Rattle.rbbi_resolve.specs.SetValues.{property_test, joined_to, signed, value_of_set, value_of_parts, value_of_item, value_of_property}
use Rattle.rbbi_resolve.specs.inner.OwnLeaves.{IsLetter, IsLeafRow}
use Rattle.rbbi_resolve.proofs.Covering.{nothing_respects, signed_respects}

-- none
pub no_rows : (context : Context) (rows : List (Option ClassBits)) → AddsRows context [] rows rows
no_rows context rows = record { more = []; is = sym (append-nil rows); each = tt }

-- one more
pub one_row : (context : Context) (value : Option model.SetTree) (row : Option ClassBits) (before after : List (Option ClassBits)) →
    after ≡ before ++ row ∷ [] → IsLeafRow (files_of context) (division_of context) value row → AddsRows context (value ∷ []) before after
one_row context value row before after is of = record { more = row ∷ []; is = is; each = (of, tt) }

both_zip : {A B : Type 0} (P : A → B → Type 0) (xs : List A) (ys : List B) (us : List A) (vs : List B) → AllZip P xs ys → AllZip P us vs →
    AllZip P (xs ++ us) (ys ++ vs)
both_zip P [] [] us vs a b = b
both_zip P [] (y ∷ ys) us vs a b = absurd a
both_zip P (x ∷ xs) [] us vs a b = absurd a
both_zip P (x ∷ xs) (y ∷ ys) us vs a b = (a.0, both_zip P xs ys us vs a.1 b)

-- some, and then others
pub more_rows : (context : Context) (a b : List (Option model.SetTree)) (before mid after : List (Option ClassBits)) → AddsRows context a before mid →
    AddsRows context b mid after → AddsRows context (a ++ b) before after
more_rows context a b before mid after x y =
    record {
      more = x.more ++ y.more;
      is = y.is ∙ ap (λ s. s ++ y.more) x.is ∙ append_assoc before x.more y.more;
      each = both_zip (IsLeafRow (files_of context) (division_of context)) a x.more b y.more x.each y.each;
    }

-- with the rows of the leaves that are left those of the whole will have been added
pub record IsAdding (context : Context) (start : List (Option ClassBits)) (whole : List (Option model.SetTree)) (rows : List (Option ClassBits))
    (left : List (Option model.SetTree)) : Type 0 where
  pub adds : (after : List (Option ClassBits)) → AddsRows context left rows after → AddsRows context whole start after

pub adding_turn : (context : Context) (start : List (Option ClassBits)) (whole : List (Option model.SetTree)) (rows rows' : List (Option ClassBits))
    (own left : List (Option model.SetTree)) → IsAdding context start whole rows (own ++ left) → AddsRows context own rows rows' →
    IsAdding context start whole rows' left
adding_turn context start whole rows rows' own left adding step =
    record { adds = λ after x. adding.adds after (more_rows context own left rows rows' after step x) }

-- what is a scalar value is a character
pub is_character : (c : ℕ) → scalar c ≡ true → IsCharacter c
is_character c e =
    ⊎_elim
    (λ (h : c < 55296). (omega arith, λ s. omega (arith, s.0)))
    (λ (h : (57344 ≤ c) × (c < 1114112)). (omega (arith, h.1), λ s. omega (arith, s.1, h.0)))
    (scalar_cases c e)

-- all code points
pub any_respects : (files : List File) (division : ClassDivision) → IsDivision division → Respects files (stand_in division) (model.Others model.Nothing)
any_respects files division divides =
    signed_respects files (stand_in division) (stand-in_is_point division divides) true (Some model.Nothing) (nothing_respects files (stand_in division))

-- no value of a property or a set in brackets is a letter alone
pub property_letter : (files : List File) (negated : Bool) (word : List ℕ) (value : Option (List ℕ)) →
    IfSome (value_of_property files negated word value) IsLetter
property_letter files negated word value =
    elim (is_some (property_test files word value)) as (λ b. IfSome (if b then Some (model.Property negated word value) else None) IsLetter)
    [ true ↦ tt | false ↦ tt ]

joined_letter : (join : Join) (own left : Option model.SetTree) → IfSome (joined_to join own left) IsLetter
joined_letter join None left = tt
joined_letter join (Some own) None = tt
joined_letter join (Some own) (Some left) = tt

signed_letter : (negated : Bool) (value : Option model.SetTree) → IfSome value IsLetter → IfSome (option_map (signed negated) value) IsLetter
signed_letter negated None is = tt
signed_letter false (Some tree) is = is
signed_letter true (Some tree) is = tt

module _ (files : List File) (named : List ℕ → Option model.SetTree) where
  parts_letter : (left : Option model.SetTree) → IfSome left IsLetter → (parts : PartsTree) → IfSome (value_of_parts files named left parts) IsLetter
  parts_letter left is no_parts = is
  parts_letter left is (part (joined place join member) more) =
      parts_letter (joined_to join (value_of_item files named member) left) (joined_letter join (value_of_item files named member) left) more

  pub set_letter : (s : SetSyntax) → IfSome (value_of_set files named s) IsLetter
  set_letter (set_of place negated parts) =
      signed_letter negated (value_of_parts files named (Some model.Nothing) parts) (parts_letter (Some model.Nothing) tt parts)
