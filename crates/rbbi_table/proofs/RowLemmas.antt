-- What is checked of each row, and what it says of all.
use Rattle.std.proofs.Common.{◌≡◌, ℕ, ◌+◌, ◌*◌, ◌/◌, ◌%◌, ◌<◌, ◌≤◌, ◌⊎◌, ◌↔◌, List, [], ◌∷◌, length, get_or, sym, refl, ap, ◌∙◌}
use Rattle.std.proofs.Common.{subst, inl, inr, ⊎_elim, arith}
use Rattle.std.proofs.lemmas.Bool.{cases_eq}
use Rattle.std.proofs.Math.Nat.{div-lt_iff_lt-mul}
use Rattle.rbbi_model.specs.Tables.{Table, RowHead, empty_head, head_of, accept_of, step, row_along}
use Rattle.rbbi_model.specs.ValidTables.{IsValidRow, LeadsToZero, AreValidRows, IsPlain, IsWay, AreFronted}
use Rattle.rbbi_table.specs.Parts.{rows_of, AreNextRows}
use Rattle.rbbi_table.specs.inner.Rows.{IsValidEntry}
use Rattle.rbbi_table.specs.inner.Fronts.{IsFronted}
use Rattle.rbbi_table.proofs.MoveLemmas.{steps_of, steps_long, steps_are}

-- what is checked of the row
abbrev pub IsEntry : Table → ℕ → Type 0
IsEntry table row = IsValidEntry table.slashes (length table.lists) (length table.rows) row (head_of table row) (steps_of table.categories table.cells row)

module _ (table : Table) (all : length table.cells ≡ length table.rows * table.categories) where
  step_is : (row category : ℕ) → category < table.categories → get_or (steps_of table.categories table.cells row) category 0 ≡ step table row category
  step_is row category low = steps_are table.categories table.cells row category low

  inside : (row category : ℕ) → row < length table.rows → category < table.categories → category < length (steps_of table.categories table.cells row)
  inside row category short low = omega (arith, steps_long table.categories table.cells row (length table.rows) all short, low)

  leads_to_zero : (row : ℕ) → row < length table.rows → IsEntry table row → (row ≡ 0) ⊎ (2 ≤ accept_of table row) → LeadsToZero table row
  leads_to_zero row short entry stops category low = sym (step_is row category low) ∙ entry.stops stops category (inside row category short low)

  valid_row : (row : ℕ) → row < length table.rows → IsEntry table row → IsValidRow table row
  valid_row row short entry = record {
    accept = entry.head_is.accept;
    fronts = entry.head_is.fronts;
    list = entry.head_is.list;
    next = λ category low. subst (λ n. n < length table.rows) (step_is row category low) (entry.below category (inside row category short low));
    unended = entry.head_is.unended;
    completed = λ much. (entry.head_is.completed much, leads_to_zero row short entry (inr much));
  }

  -- the rows are valid where each is, and the first two are plain
  pub all_valid : 2 ≤ length table.rows → length table.rows ≤ 4095 → table.slashes ≤ 32 → IsPlain (head_of table 0) → IsPlain (head_of table 1) →
      ((row : ℕ) → row < length table.rows → IsEntry table row) → AreValidRows table
  all_valid some few slashes stop start each = record {
    some = some;
    few = few;
    few_slashes = slashes;
    each = λ row short. valid_row row short (each row short);
    stop = stop;
    start = start;
    stop_leads = leads_to_zero 0 (omega arith) (each 0 (omega arith)) (inl refl);
  }

  -- and each is where they are
  pub is_entry : AreValidRows table → (row : ℕ) → row < length table.rows → IsEntry table row
  is_entry valid row short =
      let own = valid.each row short in
      let low = λ (k : ℕ) (within : k < length (steps_of table.categories table.cells row)).
      (let e : k < table.categories = omega (arith, within, steps_long table.categories table.cells row (length table.rows) all short) in e) in
      record {
        head_is = record {
          accept = own.accept;
          fronts = own.fronts;
          list = own.list;
          unended = own.unended;
          completed = λ much. (own.completed much).0;
        };
        below = λ k within. subst (λ n. n < length table.rows) (sym (step_is row k (low k within))) (own.next k (low k within));
        stops = λ stops k within.
            step_is row k (low k within)
            ∙ ⊎_elim
            (λ none. ap (λ r. step table r k) none ∙ valid.stop_leads k (low k within))
            (λ much. (own.completed much).1 k (low k within))
            stops;
      }

-- what is checked of a row, over lists that are the table's
pub entry_of : (table : Table) (rows : List RowHead) (cells : List ℕ) (lists row : ℕ) → rows ≡ table.rows → cells ≡ table.cells → lists ≡ length table.lists →
    IsValidEntry table.slashes lists (length rows) row (get_or rows row empty_head) (steps_of table.categories cells row) ↔ IsEntry table row
entry_of table rows cells lists row same_rows same_cells same_lists =
    let P : List RowHead → List ℕ → ℕ → Type 0 = λ rs cs ls. IsValidEntry table.slashes ls (length rs) row (get_or rs row empty_head)
    (steps_of table.categories cs row) in
    subst (λ (rs : List RowHead). P rs cells lists ↔ IsEntry table row) (sym same_rows)
    (subst (λ (cs : List ℕ). P table.rows cs lists ↔ IsEntry table row) (sym same_cells)
    (subst (λ (ls : ℕ). P table.rows table.cells ls ↔ IsEntry table row) (sym same_lists) (λ h. h, λ h. h)))

some_of_product : (count width i : ℕ) → i < count * width → 0 < width
some_of_product count width i short = ⊎_elim (λ none. absurd (omega (arith, short, ap (λ n. count * n) none))) (λ other. omega arith) (cases_eq width 0)

-- the next rows of valid rows are rows, over lists that are the table's
pub steps_within : (table : Table) (rows : List RowHead) (cells : List ℕ) → rows ≡ table.rows → cells ≡ table.cells →
    length table.cells ≡ length table.rows * table.categories → AreValidRows table → AreNextRows table.categories rows cells
steps_within table rows cells same_rows same_cells all valid =
    let width : ℕ = table.categories in
    let steps : AreNextRows width table.rows table.cells = record {
      all = all;
      within = λ i short.
          let place : i < length table.rows * width = omega (arith, short, all) in
          let some : 0 < width = some_of_product (length table.rows) width i place in
          let split : i / width * width + i % width ≡ i = omega arith in
          let inside : i / width < length table.rows = (div-lt_iff_lt-mul some).1 place in
          subst (λ n. get_or table.cells n 0 < length table.rows) split ((valid.each (i / width) inside).next (i % width) (omega arith));
    } in
    subst (λ (rs : List RowHead). AreNextRows width rs cells) (sym same_rows)
    (subst (λ (cs : List ℕ). AreNextRows width table.rows cs) (sym same_cells) steps)

-- the front of one look-ahead rule, over lists that are the table's
pub front_of : (table : Table) (rows : List RowHead) (cells : List ℕ) (slash : ℕ) → rows ≡ table.rows → cells ≡ table.cells →
    IsFronted (rows_of table.categories rows cells []) slash ↔ IsFronted table slash
front_of table rows cells slash same_rows same_cells =
    subst (λ (rs : List RowHead). IsFronted (rows_of table.categories rs cells []) slash ↔ IsFronted table slash) (sym same_rows)
    (subst (λ (cs : List ℕ). IsFronted (rows_of table.categories table.rows cs []) slash ↔ IsFronted table slash) (sym same_cells) (λ h. h, λ h. h))

way_within : (table : Table) → AreValidRows table → (row : ℕ) (way : List ℕ) → row < length table.rows → IsWay table way →
    row_along table row way < length table.rows
way_within table valid row [] short is = short
way_within table valid row (category ∷ way) short is = way_within table valid (step table row category) way ((valid.each row short).next category is.0) is.1

-- the fronts of all look-ahead rules
pub all_fronted : (table : Table) → AreValidRows table → ((slash : ℕ) → slash < table.slashes → IsFronted table slash) → AreFronted table
all_fronted table valid each way k is completed =
    let row : ℕ = row_along table 1 way in
    let within : row < length table.rows = way_within table valid 1 way (omega (arith, valid.some)) is in
    each k (omega (arith, completed, (valid.each row within).accept)) way is completed
