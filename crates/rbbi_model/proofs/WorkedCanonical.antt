-- The table of the rules `a;` is its own canonical table.
use Rattle.std.proofs.Common.{◌≡◌, ℕ, zero, suc, ◌<◌, get_or, sym, refl, ap, ◌∙◌, ⊎_elim, arith}
use Rattle.std.proofs.lemmas.Bool.{cases_eq}
use Rattle.rbbi_model.specs.Words.{IsCodePoint}
use Rattle.rbbi_model.specs.Tables.{fronts_of, step, category_of}
use Rattle.rbbi_model.specs.Canonical.{LeadAlike, IsCanonical}
use Rattle.rbbi_model.proofs.Categories.{category_within}
use Rattle.rbbi_model.proofs.Worked.{table_a}
use Rattle.rbbi_model.proofs.WorkedRules.{ranges_valid, table_valid, least, small_accept, other_category, category_a}

-- cells are numbers of the three rows
cells_small : (place : ℕ) → get_or table_a.cells place 0 < 3
cells_small zero = omega arith
cells_small (suc zero) = omega arith
cells_small (suc (suc zero)) = omega arith
cells_small (suc (suc (suc zero))) = omega arith
cells_small (suc (suc (suc (suc zero)))) = omega arith
cells_small (suc (suc (suc (suc (suc zero))))) = omega arith
cells_small (suc (suc (suc (suc (suc (suc place)))))) = omega arith

no_fronts : (row : ℕ) → fronts_of table_a row < 1
no_fronts zero = omega arith
no_fronts (suc zero) = omega arith
no_fronts (suc (suc zero)) = omega arith
no_fronts (suc (suc (suc row))) = omega arith

-- row 1 leads to different rows after an `a` and after another code point
told_apart : (c d : ℕ) → IsCodePoint d → c ≡ 97 → (d ≡ 97 → ⊥) → step table_a 1 (category_of table_a.ranges c) ≡ step table_a 1 (category_of table_a.ranges d) →
    ⊥
told_apart c d small is other same =
    omega (arith, sym (ap (λ k. step table_a 1 k) (category_a c is)) ∙ same ∙ ap (λ k. step table_a 1 k) (other_category d small other))

same_category : (c d : ℕ) → IsCodePoint c → IsCodePoint d → LeadAlike table_a c d → category_of table_a.ranges c ≡ category_of table_a.ranges d
same_category c d small small' alike =
    ⊎_elim
    (λ is. ⊎_elim (λ is'. category_a c is ∙ sym (category_a d is')) (λ other'. absurd (told_apart c d small' is other' (alike 1 (omega arith))))
    (cases_eq d 97))
    (λ other. ⊎_elim (λ is'. absurd (told_apart d c small is' other (sym (alike 1 (omega arith)))))
    (λ other'. other_category c small other ∙ sym (other_category d small' other')) (cases_eq d 97))
    (cases_eq c 97)

canonical_a : IsCanonical table_a table_a
canonical_a =
    record {
      valid = table_valid;
      same = λ w is. refl;
      least = least;
      categories = λ c d small small'. (λ same row short. ap (λ k. step table_a row k) same, same_category c d small small');
      surrogates = λ c is. other_category c (omega (arith, is.1)) (λ same. omega (arith, is.0, same));
      used = used_a;
      numbered = λ category later d some less small is. absurd (omega (arith, category_within 2 table_a.ranges d ranges_valid, is, some, less));
      rows = λ row later place two less low high is. absurd (omega (arith, cells_small place, is, two, less));
      slashes = λ row short. (small_accept row, no_fronts row);
      few_slashes = λ k allowed. omega arith;
      two_rows = λ same. absurd (omega (arith, same));
    }
  where
    used_a : (category : ℕ) → category < 2 → (c : ℕ) × IsCodePoint c × (category_of table_a.ranges c ≡ category)
    used_a zero short = (0, omega arith, refl)
    used_a (suc zero) short = (97, omega arith, refl)
    used_a (suc (suc category)) short = absurd (omega (arith, short))
