-- Counts of the calls that failed, by name.
use Rattle.std.proofs.Common.{◌≡◌, ◌≢◌, ℕ, ◌+◌, Bool, cond, List, [], ◌∷◌, ◌++◌, refl, sym, ap, ◌∙◌, zero-add, add-zero}
use Rattle.std.specs.Prelude.{count_by, bytes_eq}
use Rattle.std.proofs.lemmas.List.Sums.{sum_by-append}
use Rattle.rbbi_io.proofs.NamedFiles.{same_name, other_name}

-- one more call counts where it is of the name
counted : (failed : List (List ℕ)) (call name : List ℕ) (same : Bool) → bytes_eq call name ≡ same →
    count_by (λ other. bytes_eq other name) (failed ++ call ∷ []) ≡ count_by (λ other. bytes_eq other name) failed + cond same 1 0
counted failed call name same is =
    sum_by-append (λ (other : List ℕ). cond (bytes_eq other name) 1 0) failed (call ∷ [])
    ∙ ap (λ n. count_by (λ other. bytes_eq other name) failed + n) (zero-add (cond (bytes_eq call name) 1 0) ∙ ap (λ b. cond b 1 0) is)

-- a call that failed counts for its name
pub failed_again : (failed : List (List ℕ)) (name : List ℕ) →
    count_by (λ other. bytes_eq other name) (failed ++ name ∷ []) ≡ count_by (λ other. bytes_eq other name) failed + 1
failed_again failed name = counted failed name name _ (same_name name name refl)

-- it counts for no other name
pub failed_other : (failed : List (List ℕ)) (call name : List ℕ) → name ≢ call →
    count_by (λ other. bytes_eq other name) (failed ++ call ∷ []) ≡ count_by (λ other. bytes_eq other name) failed
failed_other failed call name differ =
    counted failed call name _ (other_name call name (λ same. differ (sym same)))
    ∙ add-zero (count_by (λ other. bytes_eq other name) failed)
