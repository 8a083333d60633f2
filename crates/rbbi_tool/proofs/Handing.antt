-- Property files, checked one after another.
use Rattle.std.proofs.Common.{◌≡◌, ◌⊎◌, ◌<◌, ◌≤◌, ◌+◌, ℕ, List, [], ◌∷◌, ◌++◌, length, drop, get_or, sym, ap, ◌∙◌, subst}
use Rattle.std.proofs.Common.{refl, inl, inr, ⊎_elim, append_assoc, arith}
use Rattle.std.specs.Prelude.{min}
use Rattle.std.proofs.lemmas.Bool.{cases_lt}
use Rattle.std.proofs.lemmas.List.{drop_more, drop_all, append-nil}
use Rattle.rbbi_props.specs.Rows as rows
use Rattle.rbbi_props.specs.Files.{named_file}
use Rattle.rbbi_command.specs.declared.words.setting.Property.{Property}
use Rattle.rbbi_command.specs.declared.refusal.Refusal.{Refusal}
use Rattle.rbbi_command.specs.Stages.{Stage}
use Rattle.rbbi_tool.specs.Properties.{property_stage, properties_stage, property_files}

-- what is left of the property files
abbrev left : List Property → List (List ℕ) → ℕ → Stage (Unit {0})
left properties handed i = properties_stage (drop i properties) (drop i handed)

-- so many property files pass, and these are they
pub record AreHandedTo (properties : List Property) (handed : List (List ℕ)) (files : List rows.File) (i : ℕ) : Type 0 where
  pub files_are : files ++ property_files (drop i properties) (drop i handed) ≡ property_files properties handed
  pub refuses : (r : Refusal) → (properties_stage (drop i properties) (drop i handed)).refuses r → (properties_stage properties handed).refuses r
  pub passes : (properties_stage (drop i properties) (drop i handed)).passes tt → (properties_stage properties handed).passes tt

module _ {properties : List Property} {handed : List (List ℕ)} {files : List rows.File} {i : ℕ} (so_far : AreHandedTo properties handed files i)
    (property : Property) (bytes : List ℕ) (inside : i < length properties) (inside' : i < length handed)
    (is : property ≡ get_or properties i property) (is' : bytes ≡ get_or handed i bytes) where
  first_left : drop i properties ≡ property ∷ drop (i + 1) properties
  first_left = drop_more properties i property inside ∙ ap (λ p. p ∷ drop (i + 1) properties) (sym is)

  first_bytes : drop i handed ≡ bytes ∷ drop (i + 1) handed
  first_bytes = drop_more handed i bytes inside' ∙ ap (λ b. b ∷ drop (i + 1) handed) (sym is')

  -- this one is refused
  pub handing_ends : (r : Refusal) → (property_stage property.file bytes).refuses r → (properties_stage properties handed).refuses r
  handing_ends r refused =
      so_far.refuses r
      (subst (λ ps. (properties_stage ps (drop i handed)).refuses r) (sym first_left)
      (subst (λ bs. (properties_stage (property ∷ drop (i + 1) properties) bs).refuses r) (sym first_bytes) (inl refused)))

  -- this one passes
  pub handing_more : (files' : List rows.File) → (property_stage property.file bytes).passes tt → files' ≡ files ++ named_file property.name bytes ∷ []
      → AreHandedTo properties handed files' (i + 1)
  handing_more files' passed pushed = record {
    files_are =
        ap (λ fs. fs ++ property_files (drop (i + 1) properties) (drop (i + 1) handed)) pushed
        ∙ append_assoc files (named_file property.name bytes ∷ []) (property_files (drop (i + 1) properties) (drop (i + 1) handed))
        ∙ ap (λ bs. files ++ property_files (property ∷ drop (i + 1) properties) bs) (sym first_bytes)
        ∙ ap (λ ps. files ++ property_files ps (drop i handed)) (sym first_left) ∙ so_far.files_are;
    refuses = λ r refused.
        so_far.refuses r
        (subst (λ ps. (properties_stage ps (drop i handed)).refuses r) (sym first_left)
        (subst (λ bs. (properties_stage (property ∷ drop (i + 1) properties) bs).refuses r) (sym first_bytes) (inr (tt, passed, refused))));
    passes = λ passes.
        so_far.passes
        (subst (λ ps. (properties_stage ps (drop i handed)).passes tt) (sym first_left)
        (subst (λ bs. (properties_stage (property ∷ drop (i + 1) properties) bs).passes tt) (sym first_bytes) (tt, passed, passes)));
  }

-- before the first
pub handed_none : (properties : List Property) (handed : List (List ℕ)) (files : List rows.File) → files ≡ [] → AreHandedTo properties handed files 0
handed_none properties handed files none = record {
  files_are = ap (λ fs. fs ++ property_files properties handed) none;
  refuses = λ r refused. refused;
  passes = λ passes. passes;
}

-- nothing is left where either list ends
none_left : (properties : List Property) (handed : List (List ℕ)) → (properties ≡ []) ⊎ (handed ≡ [])
    → (properties_stage properties handed).passes tt × (property_files properties handed ≡ [])
none_left [] handed either = (tt, refl)
none_left (p ∷ properties) [] either = (tt, refl)
none_left (p ∷ properties) (b ∷ handed) either = absurd (⊎_elim (λ none. cc) (λ none. cc) either)

module _ {properties : List Property} {handed : List (List ℕ)} {files : List rows.File} {i : ℕ} (so_far : AreHandedTo properties handed files i)
    (whole : min (length properties) (length handed) ≤ i) where
  none : (properties_stage (drop i properties) (drop i handed)).passes tt × (property_files (drop i properties) (drop i handed) ≡ [])
  none =
      none_left (drop i properties) (drop i handed)
      (⊎_elim (λ less. inr (drop_all i handed (omega (arith, whole)))) (λ more. inl (drop_all i properties (omega (arith, whole))))
      (cases_lt (length handed) (length properties)))

  -- all pass
  pub all_handed : (properties_stage properties handed).passes tt
  all_handed = so_far.passes none.0

  pub all_files : files ≡ property_files properties handed
  all_files = sym (append-nil files) ∙ ap (λ more. files ++ more) (sym none.1) ∙ so_far.files_are
