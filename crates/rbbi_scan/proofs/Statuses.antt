-- The greatest of a list's numbers so far, and that what a search finds has statuses.
use Rattle.std.proofs.Common.{◌≡◌, ℕ, ◌+◌, ◌-◌, ◌<◌, max, List, [], ◌∷◌, ◌++◌, Option, Some, None, length, take, get_or, ap, ◌∙◌, ⊎_elim, arith}
use Rattle.std.proofs.lemmas.Bool.{cond_both, cases_lt}
use Rattle.std.proofs.lemmas.List.{take_more, get_or_past}
use Rattle.rbbi_model.specs.Places.{largest}
use Rattle.rbbi_model.specs.Tables.{Table, accept_of, empty_head, list_of, completes}
use Rattle.rbbi_model.specs.ValidTables.{IsValidTable}
use Rattle.rbbi_model.specs.Searches.{row_at, search_end, cut_place, longest_place, found_longest, found}

largest_join : (ms : List ℕ) (n : ℕ) → largest (ms ++ n ∷ []) ≡ max (largest ms) n
largest_join [] n = omega arith
largest_join (m ∷ ms) n = omega (arith, largest_join ms n)

pub largest_more : (ns : List ℕ) (i : ℕ) → i < length ns → largest (take (i + 1) ns) ≡ max (largest (take i ns)) (get_or ns i 0)
largest_more ns i within = ap largest (take_more ns i 0 within) ∙ largest_join (take i ns) (get_or ns i 0)

module _ (table : Table) (valid : IsValidTable table) where
  list_within : (row : ℕ) → list_of table row < length table.lists
  list_within row =
      ⊎_elim
      (λ is. (valid.rows.each row is).list)
      (λ past. omega (arith, valid.lists.some, ap (λ head. head.list) (get_or_past table.rows row empty_head past)))
      (cases_lt row (length table.rows))

  longest_within : (x : List ℕ) (s : ℕ) (place : Option ℕ) → (found_longest table x s place).list < length table.lists
  longest_within x s None = omega (arith, valid.lists.some)
  longest_within x s (Some q) = list_within (row_at table x s q)

  -- what a search finds has one of the status lists
  pub found_within : (x : List ℕ) (s : ℕ) → (found table x s).list < length table.lists
  found_within x s =
      let z : ℕ = search_end table x s in
      let last : ℕ = row_at table x s z in
      cond_both (completes table last) (record { at = cut_place table x s z (accept_of table last - 2); list = list_of table last })
      (found_longest table x s (longest_place table x s z)) (λ f. f.list < length table.lists)
      (λ _. list_within last)
      (λ _. longest_within x s (longest_place table x s z))
