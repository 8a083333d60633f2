-- The parts that are made of a table are those of its canonical table.
use Rattle.std.proofs.Common.{◌≡◌, ◌≢◌, ℕ, zero, suc, ◌+◌, ◌*◌, ◌/◌, ◌%◌, ◌<◌, ◌≤◌, List, [], ◌∷◌, length, map, take, get_or, refl, ap, sym, ◌∙◌, subst}
use Rattle.std.proofs.Common.{⊎_elim, arith}
use Rattle.std.specs.List.{AllByRecursion}
use Rattle.std.proofs.lemmas.Bool.{cases_lt, cases_eq, cases_order}
use Rattle.std.proofs.lemmas.List.{length-map, take-map, get_or-map}
use Rattle.std.proofs.lemmas.Nat.{mod_below, div-add-mod'}
use Rattle.rbbi_model.specs.Words.{IsCodePoint}
use Rattle.rbbi_model.specs.Places.{has_bit}
use Rattle.rbbi_model.specs.Tables.{Table, CategoryRange, RowHead, category_of, empty_head, head_of, accept_of, fronts_of, list_of, step, row_along}
use Rattle.rbbi_model.specs.ValidTables.{IsWay, IsValidRow, AreValidRows, AreFronted, IsValidTable}
use Rattle.rbbi_model.specs.Marks.{Marks, marks_of}
use Rattle.rbbi_model.specs.Compiled.{IsLeast}
use Rattle.rbbi_model.specs.Canonical.{LeadAlike, HasCanonical}
use Rattle.rbbi_model.proofs.Categories.{category_within}
use Rattle.rbbi_table.specs.Pairs.{ArePairsOf}
use Rattle.rbbi_table.specs.Parts.{rows_of, AreNextRows}
use Rattle.rbbi_table.proofs.MoveLemmas.{row_end}
use Rattle.rbbi_canon.specs.declared.grid.Grid.{Grid}
use Rattle.rbbi_canon.specs.inner.Grids.{table_of_grid, cell_of, IsGridOf, LeadOnAlike, AreJoined}
use Rattle.rbbi_canon.specs.inner.Walks.{CanBeWalked, AreWalked}
use Rattle.rbbi_canon.specs.inner.Slashes.{AllowsAll}
use Rattle.rbbi_canon.specs.inner.Made.{ArePartsOf}
use Rattle.rbbi_canon.proofs.Rows.{WordOf, next_row, along_within, few_marks, word_of, word_way}

module _ (table : Table) (valid : IsValidTable table) (has : HasCanonical table) (grid : Grid) (is : IsGridOf table grid) where
  abbrev G : Table
  G = table_of_grid grid

  -- but in a table of two rows, the cells are the table's
  cell_same : length table.rows ≢ 2 → (row category : ℕ) → cell_of grid row category ≡ step table row category
  cell_same many row category =
      ap (λ (l : List ℕ). get_or l (row * grid.width + category) 0) (is.same many) ∙ ap (λ n. get_or table.cells (row * n + category) 0) is.width

  cell_zero : length table.rows ≡ 2 → (row category : ℕ) → row < grid.rows → category < grid.width → cell_of grid row category ≡ 0
  cell_zero two row category low low' = is.zero two (row * grid.width + category) (omega (arith, is.all, row_end row grid.rows grid.width low, low'))

  along_same : length table.rows ≢ 2 → (row : ℕ) (way : List ℕ) → row_along G row way ≡ row_along table row way
  along_same many row [] = refl
  along_same many row (category ∷ way) =
      ap (λ r. row_along G r way) (cell_same many row category) ∙ along_same many (step table row category) way

  way_in : (way : List ℕ) → IsWay table way → IsWay G way
  way_in way h = subst (λ n. AllByRecursion (λ category. category < n) way) (sym is.width) h

  cell_within : (row category : ℕ) → row < grid.rows → category < grid.width → cell_of grid row category < grid.rows
  cell_within row category low low' =
      ⊎_elim
      (λ two. omega (arith, cell_zero two row category low low', low))
      (λ many. omega (
        arith,
        cell_same many row category,
        next_row table valid row category (omega (arith, low, is.rows)) (omega (arith, low', is.width)),
        is.rows,
      ))
      (cases_eq (length table.rows) 2)

  cell_stop : (category : ℕ) → category < grid.width → cell_of grid 0 category ≡ 0
  cell_stop category low =
      ⊎_elim
      (λ two. cell_zero two 0 category (omega (arith, is.rows, valid.rows.some)) low)
      (λ many. cell_same many 0 category ∙ valid.rows.stop_leads category (omega (arith, low, is.width)))
      (cases_eq (length table.rows) 2)

  reached : (row : ℕ) → row ≢ 0 → row < grid.rows → (way : List ℕ) × IsWay G way × (row_along G 1 way ≡ row)
  reached row some low =
      ⊎_elim
      (λ two. ([], tt, (let e : 1 ≡ row = omega (arith, low, is.rows, two, some) in e)))
      (λ many.
      let way = has.least.reached row some (omega (arith, low, is.rows)) in
      (way.0, way_in way.0 way.1, along_same many 1 way.0 ∙ way.2))
      (cases_eq (length table.rows) 2)

  -- rows of one table along a way, and what is marked there
  along_in : (row : ℕ) (way : List ℕ) → row < grid.rows → IsWay G way → row_along G row way < grid.rows
  along_in row [] h k = h
  along_in row (category ∷ way) h k = along_in (cell_of grid row category) way (cell_within row category h k.0) k.1

  marks_along : (row : ℕ) (way : List ℕ) → row < length table.rows → IsWay table way →
      marks_of table (row_along G row way) ≡ marks_of table (row_along table row way)
  marks_along row way low h =
      ⊎_elim
      (λ two.
      few_marks table valid two (row_along G row way)
      (omega (arith, along_in row way (let e : row < grid.rows = omega (arith, low, is.rows) in e) (way_in way h), is.rows))
      ∙ sym (few_marks table valid two (row_along table row way) (along_within table valid row way low h)))
      (λ many. ap (λ r. marks_of table r) (along_same many row way))
      (cases_eq (length table.rows) 2)

  module _ (firsts : List ℕ) (ranges : List CategoryRange) (joined : AreJoined grid table.ranges firsts ranges) where
    stand : (category : ℕ) → category < grid.width → (k : ℕ) × (k < length firsts) × LeadOnAlike grid (get_or firsts k 0) category
    stand category low =
        let c = has.used category (omega (arith, low, is.width)) in (
          category_of ranges c.0,
          category_within (length firsts) ranges c.0 joined.valid,
          subst (λ n. LeadOnAlike grid (get_or firsts (category_of ranges c.0) 0) n) c.2 (joined.alike c.0),
        )

    pub can_be_walked : CanBeWalked grid firsts
    can_be_walked = record {
      some = omega (arith, is.rows, valid.rows.some);
      few = omega (arith, is.rows, valid.rows.few);
      next = cell_within;
      stop = cell_stop;
      reached = reached;
      sources = joined.within;
      stand = stand;
    }

    -- the next rows are rows
    pub next_rows : (order cells : List ℕ) (heads : List RowHead) → AreWalked grid firsts order cells → length heads ≡ length order →
        AreNextRows (length firsts) heads cells
    next_rows order cells heads walked many =
        let some : 0 < length firsts = joined.valid.some_categories in
        record {
          all = walked.full ∙ ap (λ n. n * length firsts) (sym many);
          within = λ i short.
              let whole : i / length firsts * length firsts + i % length firsts ≡ i = div-add-mod' i (length firsts) in
              let step = walked.steps (i / length firsts) (i % length firsts) (mod_below i (length firsts) some) (omega (arith, whole, short)) in
              omega (arith, step.0, many, ap (λ n. get_or cells n 0) whole);
        }

    module _ (order cells : List ℕ) (walked : AreWalked grid firsts order cells) (slashes : ℕ) (safe : List ℕ) where
      abbrev pub Made : Table
      Made = record {
        categories = length firsts;
        slashes = slashes;
        ranges = ranges;
        lists = table.lists;
        rows = map (head_of table) order;
        cells = cells;
        safe = safe;
      }

      many_rows : length Made.rows ≡ length order
      many_rows = length-map order (head_of table)

      -- the row of the table that a row was
      abbrev Was : ℕ → ℕ
      Was row = get_or order row 0

      was_low : (row : ℕ) → row < length order → Was row < length table.rows
      was_low row low = omega (arith, walked.within row low, is.rows)

      head_same : (row : ℕ) → row < length order → head_of Made row ≡ head_of table (Was row)
      head_same row low = get_or-map (head_of table) order row 0 empty_head low

      marks_same : (row : ℕ) → row < length order → marks_of Made row ≡ marks_of table (Was row)
      marks_same row low =
          let marks : RowHead → Marks = λ head. record { accept = head.accept; fronts = head.fronts; statuses = get_or table.lists head.list [] } in
          ap marks (head_same row low)

      -- a cell leads to the row that was led to
      step_low : (row category : ℕ) → row < length order → category < length firsts → step Made row category < length order
      step_low row category low low' =
          (walked.steps row category low' (omega (arith, walked.full, row_end row (length order) (length firsts) low, low'))).0

      step_was : (row category : ℕ) → row < length order → category < length firsts → Was (step Made row category) ≡ cell_of grid (Was row)
          (get_or firsts category 0)
      step_was row category low low' =
          (walked.steps row category low' (omega (arith, walked.full, row_end row (length order) (length firsts) low, low'))).1

      zero_was : (row : ℕ) → row < length order → Was row ≡ 0 → row ≡ 0
      zero_was row low zero' = walked.once row 0 low (omega (arith, low)) (zero' ∙ sym walked.stop)

      some_order : 2 ≤ length order
      some_order = omega (arith, walked.many, is.rows, valid.rows.some)

      -- along categories of the new table
      along_low : (row : ℕ) (way : List ℕ) → row < length order → IsWay Made way → row_along Made row way < length order
      along_low row [] low h = low
      along_low row (category ∷ way) low h = along_low (step Made row category) way (step_low row category low h.0) h.1

      along_was : (row : ℕ) (way : List ℕ) → row < length order → IsWay Made way →
          Was (row_along Made row way) ≡ row_along G (Was row) (map (λ k. get_or firsts k 0) way)
      along_was row [] low h = refl
      along_was row (category ∷ way) low h =
          along_was (step Made row category) way (step_low row category low h.0) h.1
          ∙ ap (λ r. row_along G r (map (λ k. get_or firsts k 0) way)) (step_was row category low h.0)

      new_way : (way : List ℕ) → IsWay Made way → IsWay table (map (λ k. get_or firsts k 0) way)
      new_way [] h = tt
      new_way (category ∷ way) h = (omega (arith, joined.within category h.0, is.width), new_way way h.1)

      -- along words
      word_in : (w : List ℕ) → IsWay Made (map (category_of ranges) w)
      word_in [] = tt
      word_in (c ∷ w) = (category_within (length firsts) ranges c joined.valid, word_in w)

      word_was : (row : ℕ) (w : List ℕ) → row < length order →
          Was (row_along Made row (map (category_of ranges) w)) ≡ row_along G (Was row) (map (category_of table.ranges) w)
      word_was row [] low = refl
      word_was row (c ∷ w) low =
          let k : ℕ = category_of ranges c in
          let k_low = category_within (length firsts) ranges c joined.valid in
          word_was (step Made row k) w (step_low row k low k_low)
          ∙ ap (λ r. row_along G r (map (category_of table.ranges) w)) (step_was row k low k_low ∙ joined.alike c (Was row) (walked.within row low))

      marks_word : (row : ℕ) (w : List ℕ) → row < length order →
          marks_of Made (row_along Made row (map (category_of ranges) w)) ≡ marks_of table (row_along table (Was row) (map (category_of table.ranges) w))
      marks_word row w low =
          marks_same (row_along Made row (map (category_of ranges) w)) (along_low row (map (category_of ranges) w) low (word_in w))
          ∙ ap (λ r. marks_of table r) (word_was row w low)
          ∙ marks_along (Was row) (map (category_of table.ranges) w) (was_low row low) (word_way table valid w)

      module _ (allowed : AllowsAll slashes Made.rows) (least : (k : ℕ) → AllowsAll k Made.rows → slashes ≤ k) where
        few_slashes : slashes ≤ table.slashes
        few_slashes =
            least table.slashes (λ row short.
            let low : row < length order = omega (arith, short, many_rows) in
            let own = valid.rows.each (Was row) (was_low row low) in
            let same = head_same row low in
            (omega (arith, own.accept, ap (λ (h : RowHead). h.accept) same), omega (arith, own.fronts, ap (λ (h : RowHead). h.fronts) same)))

        leads_to_zero : (row : ℕ) → row < length order → ((category : ℕ) → category < grid.width → cell_of grid (Was row) category ≡ 0) →
            (category : ℕ) → category < length firsts → step Made row category ≡ 0
        leads_to_zero row low zeros category low' =
            zero_was (step Made row category) (step_low row category low low')
            (step_was row category low low' ∙ zeros (get_or firsts category 0) (joined.within category low'))

        valid_row : (row : ℕ) → row < length Made.rows → IsValidRow Made row
        valid_row row short =
            let low : row < length order = omega (arith, short, many_rows) in
            let own = valid.rows.each (Was row) (was_low row low) in
            let same = head_same row low in
            let accept = ap (λ (h : RowHead). h.accept) same in
            let fronts = ap (λ (h : RowHead). h.fronts) same in
            let list = ap (λ (h : RowHead). h.list) same in
            record {
              accept = (allowed row short).0;
              fronts = (allowed row short).1;
              list = omega (arith, own.list, list);
              next = λ category low'. omega (arith, step_low row category low low', many_rows);
              unended = λ none. list ∙ own.unended (sym accept ∙ none);
              completed = λ two.
                  let done = own.completed (omega (arith, two, accept)) in (
                    fronts ∙ done.0,
                    leads_to_zero row low (λ category low'.
                        ⊎_elim
                        (λ few. cell_zero few (Was row) category (walked.within row low) low')
                        (λ many. cell_same many (Was row) category ∙ done.1 category (omega (arith, low', is.width)))
                        (cases_eq (length table.rows) 2)),
                  );
            }

        valid_rows : AreValidRows Made
        valid_rows =
            let first = head_same 0 (omega (arith, some_order)) ∙ ap (λ r. head_of table r) walked.stop in
            let second = head_same 1 (omega (arith, some_order)) ∙ ap (λ r. head_of table r) walked.start in
            let stop = valid.rows.stop in
            let start = valid.rows.start in
            record {
              some = omega (arith, some_order, many_rows);
              few = omega (arith, many_rows, walked.many, is.rows, valid.rows.few);
              few_slashes = omega (arith, few_slashes, valid.rows.few_slashes);
              each = valid_row;
              stop = (
                ap (λ (h : RowHead). h.accept) first ∙ stop.0,
                ap (λ (h : RowHead). h.fronts) first ∙ stop.1,
                ap (λ (h : RowHead). h.list) first ∙ stop.2,
              );
              start = (
                ap (λ (h : RowHead). h.accept) second ∙ start.0,
                ap (λ (h : RowHead). h.fronts) second ∙ start.1,
                ap (λ (h : RowHead). h.list) second ∙ start.2,
              );
              stop_leads = leads_to_zero 0 (omega (arith, some_order))
                  (λ category low'. ap (λ r. cell_of grid r category) walked.stop ∙ cell_stop category low');
            }

        fronted : AreFronted Made
        fronted way k h completed =
            let old : List ℕ = map (λ n. get_or firsts n 0) way in
            let one : 1 < length order = omega (arith, some_order) in
            let end : ℕ = row_along Made 1 way in
            let accept : accept_of table (row_along G 1 old) ≡ k + 2 =
            sym (ap (λ r. accept_of table r) (along_was 1 way one h ∙ ap (λ r. row_along G r old) walked.start))
            ∙ sym (ap (λ (m : RowHead). m.accept) (head_same end (along_low 1 way one h))) ∙ completed in
            let marks = marks_along 1 old (omega (arith, valid.rows.some)) (new_way way h) in
            let found = valid.fronts old k (new_way way h) (sym (ap (λ (m : Marks). m.accept) marks) ∙ accept) in
            let earlier : ℕ = found.0 in
            let front : List ℕ = take earlier way in
            let front_way = take_way earlier way h in
            let there : fronts_of Made (row_along Made 1 front) ≡ fronts_of table (row_along table 1 (take earlier old)) =
            ap (λ (m : RowHead). m.fronts) (head_same (row_along Made 1 front) (along_low 1 front one front_way))
            ∙ ap (λ r. fronts_of table r) (along_was 1 front one front_way ∙ ap (λ r. row_along G r (map (λ n. get_or firsts n 0) front)) walked.start)
            ∙ ap (λ (m : Marks). m.fronts) (marks_along 1 (map (λ n. get_or firsts n 0) front) (omega (arith, valid.rows.some)) (new_way front front_way))
            ∙ ap (λ l. fronts_of table (row_along table 1 l)) (sym (take-map (λ n. get_or firsts n 0) earlier way)) in (
              earlier,
              omega (arith, found.1, length-map way (λ n. get_or firsts n 0)),
              ap (λ n. has_bit n k) there ∙ found.2,
            )
          where
            take_way : (n : ℕ) (way : List ℕ) → IsWay Made way → IsWay Made (take n way)
            take_way zero way h = tt
            take_way (suc n) [] h = tt
            take_way (suc n) (category ∷ way) h = (h.0, take_way n way h.1)

        -- a way of the table, from any row
        way_of : (way : List ℕ) → IsWay table way → WordOf table way
        way_of way h = word_of table valid has.used way h

        is_least : IsLeast Made
        is_least = record {
          reached = λ row some short.
              let low : row < length order = omega (arith, short, many_rows) in
              let old = reached (Was row) (λ zero'. some (zero_was row low zero')) (walked.within row low) in
              let w = way_of old.0 (subst (λ n. AllByRecursion (λ category. category < n) old.0) is.width old.1) in
              let one : 1 < length order = omega (arith, some_order) in (
                map (category_of ranges) w.0,
                word_in w.0,
                walked.once (row_along Made 1 (map (category_of ranges) w.0)) row (along_low 1 (map (category_of ranges) w.0) one (word_in w.0)) low
                    (word_was 1 w.0 one ∙ ap (λ r. row_along G r (map (category_of table.ranges) w.0)) walked.start ∙ ap (λ l. row_along G 1 l) w.1.1 ∙ old.2),
              );
          apart = λ this that less short other.
              let low' : that < length order = omega (arith, short, many_rows) in
              let low : this < length order = omega (arith, less, low') in
              let tell : (way : List ℕ) → IsWay table way → (marks_of table (row_along table (Was this) way) ≢ marks_of table
              (row_along table (Was that) way)) →
              (way : List ℕ) × IsWay Made way × (marks_of Made (row_along Made this way) ≢ marks_of Made (row_along Made that way)) =
              λ way h differ.
              let w = way_of way h in (
                map (category_of ranges) w.0,
                word_in w.0,
                λ same. differ (ap (λ l. marks_of table (row_along table (Was this) l)) (sym w.1.1) ∙ sym (marks_word this w.0 low) ∙ same
                    ∙ marks_word that w.0 low' ∙ ap (λ l. marks_of table (row_along table (Was that) l)) w.1.1),
              )
              in
              ⊎_elim
              (λ same. absurd (omega (arith, less, walked.once this that low low' same)))
              (⊎_elim
              (λ rises.
              let way = has.least.apart (Was this) (Was that) rises (was_low that low')
              (λ e. other (zero_was this low e.0, walked.once that 1 low' (omega (arith, some_order)) (e.1 ∙ sym walked.start))) in
              tell way.0 way.1 way.2)
              (λ falls.
              let way = has.least.apart (Was that) (Was this) falls (was_low this low) (λ e. omega (arith, less, zero_was that low' e.0)) in
              tell way.0 way.1 (λ same. way.2 (sym same))))
              (cases_order (Was this) (Was that));
          lists = λ list some short.
              let old = has.least.lists list some short in
              let row = walked.all old.0 (omega (arith, old.1, is.rows)) in (
                row.0,
                omega (arith, row.1, many_rows),
                ap (λ (h : RowHead). h.list) (head_same row.0 row.1) ∙ ap (λ r. list_of table r) row.2 ∙ old.2,
              );
        }

        lead_alike : (c d : ℕ) → LeadAlike Made c d → category_of ranges c ≡ category_of ranges d
        lead_alike c d alike =
            let k : ℕ = category_of ranges c in
            let j : ℕ = category_of ranges d in
            let k_low = category_within (length firsts) ranges c joined.valid in
            let j_low = category_within (length firsts) ranges d joined.valid in
            joined.apart k j k_low j_low (λ row short.
            let at = walked.all row short in
            ap (λ r. cell_of grid r (get_or firsts k 0)) (sym at.2) ∙ sym (step_was at.0 k at.1 k_low)
            ∙ ap (λ r. Was r) (alike at.0 (omega (arith, at.1, many_rows)))
            ∙ step_was at.0 j at.1 j_low ∙ ap (λ r. cell_of grid r (get_or firsts j 0)) at.2)

        used : (category : ℕ) → category < length firsts → (c : ℕ) × IsCodePoint c × (category_of ranges c ≡ category)
        used zero low = (0xD800, omega arith, joined.zero 0xD800 (has.surrogates 0xD800 (omega arith, omega arith)))
        used (suc category) low = joined.used (suc category) (omega arith) low

        two : length Made.rows ≡ 2 → (length firsts ≡ 1) × (step Made 1 0 ≡ 0)
        two few =
            let old : length table.rows ≡ 2 = omega (arith, few, many_rows, walked.many, is.rows) in
            let some = joined.valid.some_categories in
            let one : 1 < length order = omega (arith, some_order) in (
              ⊎_elim
                  (λ more.
                  let none = joined.apart 0 1 (omega (arith, more)) more (λ row short.
                  cell_zero old row (get_or firsts 0 0) short (joined.within 0 (omega (arith, more)))
                  ∙ sym (cell_zero old row (get_or firsts 1 0) short (joined.within 1 more))) in
                  absurd (omega (arith, none)))
                  (λ few. omega (arith, few, some))
                  (cases_lt 1 (length firsts)),
              zero_was (step Made 1 0) (step_low 1 0 one some)
                  (step_was 1 0 one some ∙ cell_zero old (Was 1) (get_or firsts 0 0) (walked.within 1 one) (joined.within 0 some)),
            )

        pub are_parts : ArePairsOf (rows_of (length firsts) Made.rows cells safe) → ArePartsOf table Made
        are_parts pairs = record {
          valid = record {
            fitting = record { cells = walked.full ∙ ap (λ n. n * length firsts) (sym many_rows); safe = pairs.all };
            ranges = joined.valid;
            lists = valid.lists;
            rows = valid_rows;
            fronts = fronted;
            safe = record { exactly = pairs.pairs.exactly; filling = pairs.pairs.filling };
          };
          canonical = λ made_valid. record {
            valid = made_valid;
            same = λ w word.
                marks_word 1 w (omega (arith, some_order)) ∙ ap (λ r. marks_of table (row_along table r (map (category_of table.ranges) w))) walked.start;
            least = is_least;
            categories = λ c d code code'. (λ same row short. ap (λ k. step Made row k) same, lead_alike c d);
            surrogates = λ c surrogate. joined.zero c (has.surrogates c surrogate);
            used = used;
            numbered = joined.numbered;
            rows = walked.met;
            slashes = allowed;
            few_slashes = least;
            two_rows = two;
          };
        }
