-- Rows that are numbered as they are met, cell by cell.
use Rattle.std.proofs.Common.{◌≡◌, ℕ, zero, suc, ◌+◌, ◌*◌, ◌/◌, ◌%◌, ◌<◌, ◌≤◌, List, [], ◌∷◌, ◌++◌, length, get_or, refl, ap, sym, ◌∙◌, subst}
use Rattle.std.proofs.Common.{⊎_elim, arith}
use Rattle.std.proofs.lemmas.Bool.{cases_lt, cases_eq}
use Rattle.std.proofs.lemmas.List.{get_or_append_left, get_or_push, length_push}
use Rattle.std.proofs.lemmas.Nat.{div-mul-add, mod-mul-add}
use Rattle.rbbi_model.specs.Tables.{row_along}
use Rattle.rbbi_model.specs.ValidTables.{IsWay}
use Rattle.rbbi_model.specs.Canonical.{AreNumberedAsMet}
use Rattle.rbbi_table.proofs.MoveLemmas.{row_end}
use Rattle.rbbi_canon.specs.declared.grid.Grid.{Grid}
use Rattle.rbbi_canon.specs.inner.Grids.{table_of_cells, table_of_grid, cell_of}
use Rattle.rbbi_canon.specs.inner.Numberings.{KeepsOrAdds}
use Rattle.rbbi_canon.specs.inner.Walks.{CanBeWalked, AreSteps, AreWalked}
use Rattle.rbbi_canon.proofs.Orders.{AreOnce, few_once, long_with_all, Grows, grows}

-- The cells so far lead to the rows that are met there, and rows from 2 on are numbered as they are met.
pub record IsWalkedSoFar (grid : Grid) (firsts order cells : List ℕ) : Type 0 where
  pub some : 2 ≤ length order
  pub stop : get_or order 0 0 ≡ 0
  pub start : get_or order 1 0 ≡ 1
  pub steps : AreSteps grid firsts order cells (length cells)
  pub met : AreNumberedAsMet (table_of_cells (length firsts) cells)
  pub found : (row : ℕ) → 2 ≤ row → row < length order → (place : ℕ) × (length firsts ≤ place) × (place < length cells) × (get_or cells place 0 ≡ row)

-- rows 0 and 1 are put into an order
pub first_two : (none one two : List ℕ) (p q : ℕ) → none ≡ [] → KeepsOrAdds none 0 one → p < length one → get_or one p 0 ≡ 0 →
    KeepsOrAdds one 1 two → q < length two → get_or two q 0 ≡ 1 → two ≡ 0 ∷ 1 ∷ []
first_two none one two p q empty keeps p_low p_is keeps' q_low q_is =
    let first : one ≡ 0 ∷ [] =
    ⊎_elim (λ same. absurd (omega (arith, ap length same, ap length empty, p_low))) (λ added. added ∙ ap (λ (l : List ℕ). l ++ 0 ∷ []) empty) keeps in
    ⊎_elim
    (λ same. absurd (let only = same ∙ first in
    omega (arith, sym q_is ∙ ap (λ (l : List ℕ). get_or l q 0) only ∙ alone q)))
    (λ added. added ∙ ap (λ (l : List ℕ). l ++ 1 ∷ []) first)
    keeps'
  where
    alone : (q : ℕ) → let only : List ℕ = 0 ∷ [] in get_or only q 0 ≡ 0
    alone zero = refl
    alone (suc q) = refl

module _ (grid : Grid) (firsts : List ℕ) (can : CanBeWalked grid firsts) where
  abbrev Width : ℕ
  Width = length firsts

  -- rows 0 and 1 are met, and the cells of row 0
  pub walk_begins : (order cells : List ℕ) → length order ≡ 2 → get_or order 0 0 ≡ 0 → get_or order 1 0 ≡ 1 → length cells ≡ length firsts →
      ((i : ℕ) → get_or cells i 0 ≡ 0) → IsWalkedSoFar grid firsts order cells
  walk_begins order cells two stop start all zeros = record {
    some = omega (arith, two);
    stop = stop;
    start = start;
    steps = λ k number low place.
        let first : k ≡ 0 =
        ⊎_elim (λ is. is) (λ other. absurd (omega (arith, place, all, row_end 0 k (length firsts) (let e : 0 < k = omega (arith, other) in e))))
        (cases_eq k 0) in
        let cell = zeros (k * length firsts + number) in (
          omega (arith, cell, two),
          ap (λ n. get_or order n 0) cell ∙ stop ∙ sym (ap (λ row. cell_of grid row (get_or firsts number 0)) (ap (λ n. get_or order n 0) first ∙ stop)
              ∙ can.stop (get_or firsts number 0) (can.sources number low)),
        );
    met = λ row later place two' less low high is. absurd (omega (arith, low, high, all));
    found = λ row some short. absurd (omega (arith, some, short, two));
  }

  module _ (order cells : List ℕ) (h : IsWalkedSoFar grid firsts order cells) (next i : ℕ) (at : length cells ≡ next * length firsts + i)
      (i_low : i < length firsts)
      (one : 1 ≤ next) (next_low : next < length order) (more : List ℕ) (number place : ℕ) (keeps : KeepsOrAdds order number more) (once : AreOnce more)
      (place_low : place < length more) (place_is : get_or more place 0 ≡ number)
      (target : number ≡ cell_of grid (get_or order next 0) (get_or firsts i 0)) where
    grown : Grows order more place
    grown = grows order more number place keeps once place_low place_is

    abbrev Cells : List ℕ
    Cells = cells ++ place ∷ []

    long : length Cells ≡ length cells + 1
    long = length_push cells place

    old : (p : ℕ) → p < length cells → get_or Cells p 0 ≡ get_or cells p 0
    old p less = get_or_append_left cells (place ∷ []) 0 p less

    last : get_or Cells (length cells) 0 ≡ place
    last = get_or_push cells place 0 (length cells) refl

    beyond_row_zero : length firsts ≤ length cells
    beyond_row_zero = omega (arith, at, row_end 0 next (length firsts) one)

    found_before : (row : ℕ) → 2 ≤ row → row < length order → (p : ℕ) × (length firsts ≤ p) × (p < length cells) × (get_or Cells p 0 ≡ row)
    found_before row two short = let p = h.found row two short in (p.0, p.1, p.2, old p.0 p.2 ∙ p.3)

    steps : AreSteps grid firsts more Cells (length Cells)
    steps k n low short =
        let p : ℕ = k * length firsts + n in
        ⊎_elim
        (λ less.
        let was = h.steps k n low less in
        let k_low : k < length order =
        ⊎_elim (λ is. omega (arith, is, next_low))
        (λ past. absurd (omega (arith, less, at, i_low, row_end next k (length firsts) (let e : next < k = omega (arith, past) in e))))
        (cases_lt k (next + 1)) in (
          omega (arith, old p less, was.0, grown.more),
          ap (λ m. get_or more m 0) (old p less) ∙ grown.old_at (get_or cells p 0) was.0 ∙ was.1
              ∙ ap (λ row. cell_of grid row (get_or firsts n 0)) (sym (grown.old_at k k_low)),
        ))
        (λ most.
        let here : p ≡ next * length firsts + i = omega (arith, most, short, long, at) in
        let k_is : k ≡ next = sym (div-mul-add k (length firsts) n low) ∙ ap (λ m. m / length firsts) here ∙ div-mul-add next (length firsts) i i_low in
        let n_is : n ≡ i = sym (mod-mul-add k (length firsts) n low) ∙ ap (λ m. m % length firsts) here ∙ mod-mul-add next (length firsts) i i_low in
        let cell : get_or Cells p 0 ≡ place = ap (λ m. get_or Cells m 0) (let e : p ≡ length cells = omega (arith, here, at) in e) ∙ last in (
          omega (arith, cell, place_low),
          ap (λ m. get_or more m 0) cell ∙ place_is ∙ target
              ∙ ap (λ row. cell_of grid row (get_or firsts i 0)) (sym (grown.old_at next next_low) ∙ ap (λ m. get_or more m 0) (sym k_is))
              ∙ ap (λ m. cell_of grid (get_or more k 0) (get_or firsts m 0)) (sym n_is),
        ))
        (cases_lt p (length cells))

    -- one more cell
    pub walk_goes_on : IsWalkedSoFar grid firsts more Cells
    walk_goes_on = record {
      some = omega (arith, h.some, grown.more);
      stop = grown.old_at 0 (omega (arith, h.some)) ∙ h.stop;
      start = grown.old_at 1 (omega (arith, h.some)) ∙ h.start;
      steps = steps;
      met = λ row later p two less low high is.
          ⊎_elim
          (λ before.
          let earlier = h.met row later p two less low before (sym (old p before) ∙ is) in
          (earlier.0, earlier.1, earlier.2, old earlier.0 (omega (arith, earlier.2, before)) ∙ earlier.3))
          (λ most.
          let end : p ≡ length cells = omega (arith, most, high, long) in
          let later_is : later ≡ place = sym is ∙ ap (λ m. get_or Cells m 0) end ∙ last in
          let q = found_before row two (omega (arith, less, later_is, grown.up_to)) in
          (q.0, q.1, omega (arith, q.2, end), q.3))
          (cases_lt p (length cells));
      found = λ row two short.
          ⊎_elim
          (λ was. let p = found_before row two was in (p.0, p.1, omega (arith, p.2, long), p.3))
          (λ new. (length cells, beyond_row_zero, omega (arith, long), last ∙ sym new))
          (grown.only row short);
    }

  -- all rows that are met have their cells
  module _ (order cells : List ℕ) (h : IsWalkedSoFar grid firsts order cells) (once : AreOnce order)
      (below : (k : ℕ) → k < length order → get_or order k 0 < grid.rows)
      (full : length cells ≡ length order * length firsts) where
    abbrev Has : ℕ → Type 0
    Has row = (k : ℕ) × (k < length order) × (get_or order k 0 ≡ row)

    -- from a row that is met, rows that are met
    has_along : (row : ℕ) (way : List ℕ) → Has row → IsWay (table_of_grid grid) way → Has (row_along (table_of_grid grid) row way)
    has_along row [] has is = has
    has_along row (category ∷ way) has is =
        let k : ℕ = has.0 in
        let j = can.stand category is.0 in
        let place : k * length firsts + j.0 < length cells = omega (arith, full, row_end k (length order) (length firsts) has.1, j.1) in
        let step = h.steps k j.0 j.1 place in
        has_along (cell_of grid row category) way (
          get_or cells (k * length firsts + j.0) 0,
          step.0,
          step.1 ∙ ap (λ r. cell_of grid r (get_or firsts j.0 0)) has.2 ∙ j.2 row (subst (λ r. r < grid.rows) has.2 (below k has.1)),
        ) is.1

    has_each : (row : ℕ) → row < grid.rows → Has row
    has_each row short =
        ⊎_elim
        (λ zero'. (0, omega (arith, h.some), h.stop ∙ sym zero'))
        (λ some.
        let way = can.reached row some short in
        subst Has way.2 (has_along 1 way.0 (1, omega (arith, h.some), h.start) way.1))
        (cases_eq row 0)

    pub walk_ends : AreWalked grid firsts order cells
    walk_ends = record {
      many = both (few_once order grid.rows once below) (long_with_all order grid.rows has_each);
      stop = h.stop;
      start = h.start;
      within = below;
      once = once;
      all = has_each;
      full = full;
      steps = h.steps;
      met = h.met;
    }
      where
        both : length order ≤ grid.rows → grid.rows ≤ length order → length order ≡ grid.rows
        both less most = omega arith
