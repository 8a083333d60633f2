-- The rows that the first open rows lead to, and the rows that are gathered.
use Rattle.std.proofs.Common.{◌≡◌, ℕ, ◌+◌, ◌<◌, Bool, true, false, cond, List, [], ◌∷◌, ◌++◌, length, get_or, set}
use Rattle.std.proofs.Common.{slice_index, sym, refl, ap, ◌∙◌, ⊎_elim, arith}
use Rattle.std.proofs.lemmas.Bool.{cases_eq}
use Rattle.std.proofs.lemmas.List.{get_or-set_other, get_or_append_left, get_or_push, length_push, length-set}
use Rattle.std.proofs.lemmas.List.Sums.{sum_by-set}
use Rattle.rbbi_model.specs.Tables.{Table, step}
use Rattle.rbbi_model.specs.SafePairs.{IsOpen}
use Rattle.rbbi_table.specs.inner.Targets.{IsGathered, AddsTarget}

-- these are the rows that open rows below a row lead to by the category
pub record AreTargetsBelow (table : Table) (category : ℕ) (targets : List ℕ) (count : ℕ) : Type 0 where
  pub all : (row : ℕ) → row < count → IsOpen table row → (i : ℕ) × (i < length targets) × (slice_index targets i ≡ step table row category)
  pub only : (i : ℕ) → i < length targets → (row : ℕ) × (row < length table.rows) × IsOpen table row × (step table row category ≡ slice_index targets i)

-- row 0 isn't open
pub none_below : (table : Table) (category : ℕ) (targets : List ℕ) → targets ≡ [] → AreTargetsBelow table category targets 1
none_below table category targets none = record {
  all = λ row short opened. absurd (opened.0 (omega arith));
  only = λ i short. absurd (omega (arith, short, ap length none));
}

pub add_open : (table : Table) (category : ℕ) (old new : List ℕ) (row : ℕ) → AreTargetsBelow table category old row → row < length table.rows →
    IsOpen table row → AddsTarget old (step table row category) new → AreTargetsBelow table category new (row + 1)
add_open table category old new row below within opened adds = record {
  all = λ r short open_row.
      ⊎_elim
      (λ same. (adds.has.0, adds.has.1, adds.has.2 ∙ ap (λ n. step table n category) (sym same)))
      (λ other.
      let was = below.all r (omega arith) open_row in
      let kept = adds.keeps was.0 was.1 in
      (was.0, kept.0, kept.1 ∙ was.2))
      (cases_eq r row);
  only = λ i short.
      ⊎_elim
      (λ old_one.
      let was = below.only i old_one.0 in
      (was.0, was.1, was.2, was.3 ∙ sym old_one.1))
      (λ new_one. (row, within, opened, sym new_one))
      (adds.only i short);
}

pub gathers_one : (seen : List Bool) (targets : List ℕ) (target : ℕ) → target < length seen → IsGathered seen targets → get_or seen target false ≡ false →
    IsGathered (set seen target true) (targets ++ target ∷ [])
gathers_one seen targets target short gathered isnt = record {
  each = λ t within is.
      ⊎_elim
      (λ same. (length targets, omega (arith, length_push targets target), get_or_push targets target 0 (length targets) refl ∙ sym same))
      (λ other.
      let was = gathered.each t (omega (arith, within, length-set seen target true)) (sym (get_or-set_other seen target t true false other) ∙ is) in
      (was.0, omega (arith, was.1, length_push targets target), get_or_append_left targets (target ∷ []) 0 was.0 was.1 ∙ was.2))
      (cases_eq t target);
  count =
      let weight : Bool → ℕ = λ is. cond is 1 0 in
      let isnt_zero : weight (get_or seen target false) ≡ 0 = ap weight isnt in
      let more = sum_by-set weight seen target true false short in
      omega (arith, more, gathered.count, length_push targets target, isnt_zero);
}
