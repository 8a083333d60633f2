-- Cells and marks make the determinised automaton.
use Rattle.std.proofs.Common.{◌≡◌, ℕ, ◌+◌, ◌*◌, List, [], length, get_or, ◌-◌, sym, ap, ◌∙◌, subst, ⊎_elim, arith, ◌<◌}
use Rattle.std.proofs.lemmas.Bool.{cases_eq}
use Rattle.rbbi_model.specs.Tables.{Table, RowHead, empty_head, step}
use Rattle.rbbi_model.specs.Marks.{Marks, no_marks}
use Rattle.rbbi_bits.specs.NumberedRows.{listed_row}
use Rattle.rbbi_dfa.specs.inner.PositionRows.{PositionRows}
use Rattle.rbbi_dfa.specs.inner.Determinizing.{AreReachedSets, IsCell, cell_at, AreCellsUpTo, AreMarked, IsDeterminized}
use Rattle.rbbi_dfa.proofs.Lead.{begin_refl}
use Rattle.rbbi_dfa.proofs.Cells.{lead_kept}

-- the automaton of these parts
abbrev pub automaton_of : ℕ → ℕ → List RowHead → List (List ℕ) → List ℕ → Table
automaton_of categories slashes heads lists cells =
    record { categories = categories; slashes = slashes; ranges = []; lists = lists; rows = heads; cells = cells; safe = [] }

pub is_determinized : (rows : PositionRows) (sets : List (List ℕ)) (categories slashes : ℕ) (heads : List RowHead) (lists : List (List ℕ)) (cells : List ℕ) →
    categories ≡ rows.categories → slashes ≡ rows.slashes → AreReachedSets rows sets →
    AreCellsUpTo rows sets cells (length sets) → AreMarked rows sets heads lists (length sets) →
    IsDeterminized rows sets (automaton_of categories slashes heads lists cells)
is_determinized rows sets categories slashes heads lists cells same same_slashes reached led marked =
    let automaton : Table = automaton_of categories slashes heads lists cells in
    let at : (row category : ℕ) → step automaton row category ≡ cell_at rows cells row category =
    λ row category. ap (λ n. get_or cells (row * n + category) 0) same in
    let plain : (head : RowHead) → head ≡ empty_head →
    (let m : Marks = record { accept = head.accept; fronts = head.fronts; statuses = get_or lists head.list [] } in m ≡ no_marks) =
    λ head is. ap (λ (h : RowHead). let m : Marks = record { accept = h.accept; fronts = h.fronts; statuses = get_or lists h.list [] } in m) is
    ∙ ap (λ l. let m : Marks = record { accept = 0; fronts = 0; statuses = l } in m) marked.first_list in
    record {
      reached = reached;
      categories = same;
      slashes = same_slashes;
      many = marked.many;
      cells = led.many ∙ ap (λ n. (length sets + 2) * n) (sym same) ∙ ap (λ n. n * categories) (sym marked.many);
      stop = λ category within. at 0 category ∙ led.stop category within;
      start = λ category within. subst (IsCell rows sets rows.first category) (sym (at 1 category)) (led.start category within);
      each = λ i short. lead_kept rows sets sets (listed_row sets i) (cell_at rows cells (i + 2)) (step automaton (i + 2)) (begin_refl rows sets)
          (λ category within. at (i + 2) category) (led.each i short);
      lists_within = λ row short. omega (arith, marked.lists_within row (omega (arith, short, marked.many)), marked.many_lists);
      named = λ list short.
          ⊎_elim
          (λ first. (0, omega (arith, marked.many), ap (λ (h : RowHead). h.list) marked.stop ∙ sym first))
          (λ other.
          let i : ℕ = list - 1 in
          let before : i < length sets = omega (arith, short, other, marked.many_lists) in
          (i + 2, omega (arith, before, marked.many), marked.numbered i before ∙ (let e : i + 1 ≡ list = omega (arith, other) in e)))
          (cases_eq list 0);
      plain_stop = plain (get_or heads 0 empty_head) marked.stop;
      plain_start = plain (get_or heads 1 empty_head) marked.start;
      marks = marked.each;
    }
