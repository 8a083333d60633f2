-- Whether a call is among those that are to fail.
use Rattle.std.proofs.Common.{◌≡◌, ◌↔◌, ℕ, Bool, List, eqb, sym, subst}
use Rattle.std.specs.Prelude.{IsTrue}
use Rattle.std.specs.List.{IsAnyAnswer}
use Rattle.std.proofs.lemmas.Bool.Decides.{Decides-eqb}
use Rattle.std.proofs.lemmas.List.{get_or_read}
use Rattle.std.proofs.lemmas.List.Elements.{contains_decides}
use Rattle.rbbi_io.specs.Counts.{one_more}
use Rattle.rbbi_io.specs.Memory.{IsToFail}

-- what a search for the call's number tells
IsToFail-at : (failing : List ℕ) (calls : ℕ) (found : Bool) → IsAnyAnswer (λ y b. eqb y (one_more calls) ≡ b) failing found →
    IsTrue found ↔ IsToFail failing calls
IsToFail-at failing calls found cases =
    let d = contains_decides eqb Decides-eqb failing (one_more calls) found cases in (
      λ e. let h = d.0 e in (h.0, h.1, h.2 (one_more calls)),
      λ h. d.1 (h.0, h.1, λ other. sym (get_or_read failing h.0 (one_more calls) h.1 (sym h.2) other)),
    )

pub IsToFail-found : (failing searched : List ℕ) (calls call : ℕ) (found : Bool) → searched ≡ failing → call ≡ one_more calls →
    IsAnyAnswer (λ y b. eqb y call ≡ b) searched found → IsTrue found ↔ IsToFail failing calls
IsToFail-found failing searched calls call found same numbered cases =
    IsToFail-at failing calls found
    (subst (λ (xs : List ℕ). IsAnyAnswer (λ y b. eqb y (one_more calls) ≡ b) xs found) same
    (subst (λ (n : ℕ). IsAnyAnswer (λ y b. eqb y n ≡ b) searched found) numbered cases))
