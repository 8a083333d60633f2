-- Columns that are filled one after the other.
use Rattle.std.proofs.Common.{◌≡◌, ◌≢◌, ℕ, ◌+◌, ◌-◌, List, [], ◌∷◌, ◌++◌, length, get_or, set, refl, sym, ap, ◌∙◌, inl, inr, ⊎_elim, arith, length-append}
use Rattle.std.proofs.Common.{length-set}
use Rattle.std.proofs.lemmas.Bool.{cases_lt}
use Rattle.std.proofs.lemmas.List.{get_or-set_other, get_or_append_left, get_or-append_right}
use Rattle.std.proofs.lemmas.Grind.{get_or-set_at}
use Rattle.rbbi_scan.specs.Columns.{IsFilled}

-- nothing is written
pub filled_none : (old : List ℕ) (from : ℕ) → IsFilled old old from []
filled_none old from = record { same_room = refl; written = λ k few room. absurd (omega (arith, few)); others = λ k outside. refl }

-- one number is written
pub filled_one : (old new : List ℕ) (from number : ℕ) → new ≡ set old from number → IsFilled old new from (number ∷ [])
filled_one old new from number is = record {
  same_room = ap length is ∙ length-set old from number;
  written = λ k few room.
      let first : k ≡ 0 = omega (arith, few) in
      let there : from + k ≡ from = omega (arith, first) in
      ap (λ l. get_or l (from + k) 0) is
      ∙ get_or-set_at old from (from + k) number 0 there (omega (arith, room, there))
      ∙ ap (λ n. get_or (number ∷ []) n 0) (sym first);
  others = λ k outside.
      let other : k ≢ from = λ same. ⊎_elim (λ less. omega (arith, less, same)) (λ more. omega (arith, more, same)) outside in
      ap (λ l. get_or l k 0) is ∙ get_or-set_other old from k number 0 other;
}

-- numbers are written after those that were
pub filled_append : (old mid new : List ℕ) (from next : ℕ) (these those : List ℕ) → IsFilled old mid from these → next ≡ from + length these →
    IsFilled mid new next those → IsFilled old new from (these ++ those)
filled_append old mid new from next these those first next_is second = record {
  same_room = second.same_room ∙ first.same_room;
  written = λ k few room.
      ⊎_elim
      (λ low.
      second.others (from + k) (inl (omega (arith, low, next_is)))
      ∙ first.written k low room
      ∙ sym (get_or_append_left these those 0 k low))
      (λ high.
      let here : next + (k - length these) ≡ from + k = omega (arith, high, next_is) in
      ap (λ n. get_or new n 0) (sym here)
      ∙ second.written (k - length these) (omega (arith, high, few, length-append these those)) (omega (arith, here, room, first.same_room))
      ∙ sym (get_or-append_right these those (length these) k 0 refl high))
      (cases_lt k (length these));
  others = λ k outside.
      ⊎_elim
      (λ low. second.others k (inl (omega (arith, low, next_is))) ∙ first.others k (inl low))
      (λ high.
      second.others k (inr (omega (arith, high, next_is, length-append these those)))
      ∙ first.others k (inr (omega (arith, high, length-append these those))))
      outside;
}
