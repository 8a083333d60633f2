-- The costs of going on from boundaries, one after another.
use Rattle.std.proofs.Common.{◌≡◌, ℕ, ◌+◌, ltb, List, [], ◌∷◌, ◌++◌, length, sym, ap, ◌∙◌, ⊎_elim, arith}
use Rattle.std.specs.Prelude.{sum_by, filter}
use Rattle.std.proofs.lemmas.Bool.{cases_Bool, cond-true, cond-false}
use Rattle.std.proofs.lemmas.List.Sums.{sum_by-append}
use Rattle.std.proofs.lemmas.List.Elements.{filter-append}
use Rattle.rbbi_model.specs.Boundaries.{Boundary}
use Rattle.rbbi_model.specs.Tables.{Table}
use Rattle.rbbi_model.specs.Answers.{Next}
use Rattle.rbbi_model.specs.Costs.{forward_cost, listing_cost, question_cost}

module _ (table : Table) (x : List ℕ) where
  -- the costs of boundaries one after another
  pub listing_parts : (done rest : List Boundary) → listing_cost table x (done ++ rest) ≡ listing_cost table x done + listing_cost table x rest
  listing_parts done rest =
      ap (sum_by (λ (b : Boundary). forward_cost table x b.at)) (filter-append (λ (b : Boundary). ltb b.at (length x)) done rest)
      ∙ sum_by-append (λ (b : Boundary). forward_cost table x b.at) (filter (λ (b : Boundary). ltb b.at (length x)) done)
      (filter (λ (b : Boundary). ltb b.at (length x)) rest)

  sum_of_one : (b : Boundary) → sum_by (λ (c : Boundary). forward_cost table x c.at) (b ∷ []) ≡ forward_cost table x b.at
  sum_of_one b = omega arith

  -- going on from a boundary costs as much as the question for the next one
  pub listing_one : (b : Boundary) → listing_cost table x (b ∷ []) ≡ question_cost table x b.at Next
  listing_one b =
      ⊎_elim
      (λ within.
      ap (sum_by (λ (c : Boundary). forward_cost table x c.at)) (cond-true (ltb b.at (length x)) (b ∷ []) [] within)
      ∙ sum_of_one b
      ∙ sym (cond-true (ltb b.at (length x)) (forward_cost table x b.at) 0 within))
      (λ past.
      ap (sum_by (λ (c : Boundary). forward_cost table x c.at)) (cond-false (ltb b.at (length x)) (b ∷ []) [] past)
      ∙ sym (cond-false (ltb b.at (length x)) (forward_cost table x b.at) 0 past))
      (cases_Bool (ltb b.at (length x)))
