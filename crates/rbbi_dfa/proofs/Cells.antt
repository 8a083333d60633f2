-- The cells of all rows.
use Rattle.std.proofs.Common.{◌≡◌, ℕ, ◌+◌, ◌*◌, ◌<◌, ◌≤◌, List, [], ◌∷◌, ◌++◌, length, get_or, refl, sym, ap, ◌∙◌, subst, inl, inr, ⊎_elim, arith}
use Rattle.std.proofs.lemmas.Bool.{cases_lt, cases_eq}
use Rattle.std.proofs.lemmas.List.{get_or_append_left, get_or_push, get_or_past, length_push}
use Rattle.std.proofs.lemmas.Nat.{mul-add-lt}
use Rattle.rbbi_bits.specs.NumberedRows.{listed_row}
use Rattle.rbbi_dfa.specs.inner.PositionRows.{PositionRows}
use Rattle.rbbi_dfa.specs.inner.Determinizing.{AreFollowers, Completes, IsCell, LeadsOn, cell_at, AreReachedSets, AreCellsUpTo, Begin, AddsCells, AddsZeros}
use Rattle.rbbi_dfa.proofs.Lead.{cell_kept}

pub no_zeros : (cells : List ℕ) → AddsZeros cells cells 0
no_zeros cells = record { many = omega arith; kept = λ k short. refl; zeros = λ k past. get_or_past cells k 0 past }

pub zeros_more : (old cells : List ℕ) (count cell : ℕ) → cell ≡ 0 → AddsZeros old cells count → AddsZeros old (cells ++ cell ∷ []) (count + 1)
zeros_more old cells count cell none adds =
    let long = length_push cells cell in
    record {
      many = omega (arith, long, adds.many);
      kept = λ k short. get_or_append_left cells (cell ∷ []) 0 k (omega (arith, short, adds.many)) ∙ adds.kept k short;
      zeros = λ k past.
          ⊎_elim
          (λ short. get_or_append_left cells (cell ∷ []) 0 k short ∙ adds.zeros k past)
          (λ rest.
          ⊎_elim
          (λ here. get_or_push cells cell 0 k (sym here) ∙ none)
          (λ other. get_or_past (cells ++ cell ∷ []) k 0 (omega (arith, long, rest, other)))
          (cases_eq k (length cells)))
          (cases_lt k (length cells));
    }

module _ (rows : PositionRows) where
  pub lead_kept : (sets new : List (List ℕ)) (set : List ℕ) (next next' : ℕ → ℕ) → Begin sets new →
      ((category : ℕ) → category < rows.categories → next' category ≡ next category) → LeadsOn rows sets set next → LeadsOn rows new set next'
  lead_kept sets new set next next' begin same =
      ⊎_elim
      (λ stops. inl (stops.0, λ category within. same category within ∙ stops.1 category within))
      (λ goes. inr (
        goes.0,
        (
          goes.1.0,
          goes.1.1,
          λ category within.
              subst (IsCell rows new goes.1.0 category) (sym (same category within))
              (cell_kept rows sets new goes.1.0 category (next category) begin (goes.1.2 category within)),
        ),
      ))

  -- cells of earlier rows
  earlier : (cells new : List ℕ) (count row category : ℕ) → length cells ≡ (count + 2) * rows.categories →
      ((k : ℕ) → k < length cells → get_or new k 0 ≡ get_or cells k 0) → row < count + 2 → category < rows.categories →
      cell_at rows new row category ≡ cell_at rows cells row category
  earlier cells new count row category many kept before within =
      kept (row * rows.categories + category) (omega (arith, many, mul-add-lt row rows.categories category (count + 2) before within))

  pub cells_start : (sets : List (List ℕ)) (first cells : List ℕ) → AddsZeros [] first rows.categories →
      AddsCells rows sets rows.first first cells rows.categories → AreCellsUpTo rows sets cells 0
  cells_start sets first cells zeros adds = record {
    many = omega (arith, zeros.many, adds.many);
    stop = λ category within. adds.kept (0 * rows.categories + category) (omega (arith, within, zeros.many))
        ∙ zeros.zeros (0 * rows.categories + category) (omega arith);
    start = λ category within. subst (IsCell rows sets rows.first category) (let e : length first + category ≡ 1 * rows.categories + category =
        omega (arith, zeros.many) in ap (λ k. get_or cells k 0) e) (adds.each category within);
    each = λ i short. absurd (omega (arith, short));
  }

  pub cells_stop : (sets : List (List ℕ)) (cells new : List ℕ) (i : ℕ) → AreCellsUpTo rows sets cells i → AddsZeros cells new rows.categories →
      Completes rows (listed_row sets i) → Begin sets sets → AreCellsUpTo rows sets new (i + 1)
  cells_stop sets cells new i are adds completes begin =
      let same = λ (row category : ℕ) (before : row < i + 2) (within : category < rows.categories). earlier cells new i row category are.many adds.kept
      before within in
      record {
        many = omega (arith, adds.many, are.many);
        stop = λ category within. same 0 category (omega arith) within ∙ are.stop category within;
        start = λ category within. subst (IsCell rows sets rows.first category) (sym (same 1 category (omega arith) within)) (are.start category within);
        each = λ j short.
            ⊎_elim
            (λ here.
            subst (λ n. LeadsOn rows sets (listed_row sets n) (cell_at rows new (n + 2))) (sym here)
            (inl (completes, λ category within. adds.zeros ((i + 2) * rows.categories + category) (omega (arith, are.many)))))
            (λ other.
            let before : j < i = omega (arith, short, other) in
            lead_kept sets sets (listed_row sets j) (cell_at rows cells (j + 2)) (cell_at rows new (j + 2)) begin
            (λ category within. same (j + 2) category (omega (arith, before)) within) (are.each j before))
            (cases_eq j i);
      }

  pub cells_go : (sets sets' : List (List ℕ)) (candidates cells new : List ℕ) (i : ℕ) → i < length sets → AreCellsUpTo rows sets cells i → Begin sets sets' →
      AddsCells rows sets' candidates cells new rows.categories → ¬ Completes rows (listed_row sets i) → AreFollowers rows (listed_row sets i) candidates →
      AreCellsUpTo rows sets' new (i + 1)
  cells_go sets sets' candidates cells new i within are begin adds unfinished followers =
      let same = λ (row category : ℕ) (before : row < i + 2) (small : category < rows.categories). earlier cells new i row category are.many adds.kept before
      small in
      let set_is = begin.1 i within in
      record {
        many = omega (arith, adds.many, are.many);
        stop = λ category small. same 0 category (omega arith) small ∙ are.stop category small;
        start = λ category small. subst (IsCell rows sets' rows.first category) (sym (same 1 category (omega arith) small))
            (cell_kept rows sets sets' rows.first category (cell_at rows cells 1 category) begin (are.start category small));
        each = λ j short.
            ⊎_elim
            (λ here.
            subst (λ n. LeadsOn rows sets' (listed_row sets' n) (cell_at rows new (n + 2))) (sym here)
            (subst (λ l. LeadsOn rows sets' l (cell_at rows new (i + 2))) (sym set_is)
            (inr (
              unfinished,
              (
                candidates,
                followers,
                λ category small.
                    subst (IsCell rows sets' candidates category) (let e : length cells + category ≡ (i + 2) * rows.categories + category =
                    omega (arith, are.many) in ap (λ k. get_or new k 0) e) (adds.each category small),
              ),
            ))))
            (λ other.
            let before : j < i = omega (arith, short, other) in
            subst (λ l. LeadsOn rows sets' l (cell_at rows new (j + 2))) (sym (begin.1 j (omega (arith, before, within))))
            (lead_kept sets sets' (listed_row sets j) (cell_at rows cells (j + 2)) (cell_at rows new (j + 2)) begin
            (λ category small. same (j + 2) category (omega (arith, before)) small) (are.each j before)))
            (cases_eq j i);
      }
