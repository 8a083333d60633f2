-- What the loop of a search reads: categories, moves, and the heads after them.
use Rattle.std.proofs.Common.{◌≡◌, ◌≢◌, ℕ, suc, zero, ◌+◌, ◌-◌, ◌*◌, ◌/◌, ◌%◌, ◌<◌, ◌≤◌, Bool, true, false, cond, ltb, eqb, List, [], ◌∷◌, length}
use Rattle.std.proofs.Common.{get_or, sym, refl, ap, ◌∙◌, subst, ⊎_elim, arith}
use Rattle.std.proofs.lemmas.Bool.{cond-true, cond-false, ltb-true, le-leb, lt-leb, eqb-true, eq-eqb, or_parts}
use Rattle.std.proofs.Math.Nat.{mul-le-mul_right}
use Rattle.rbbi_model.specs.Words.{IsText, last_code_point}
use Rattle.rbbi_model.specs.Places.{has_bit}
use Rattle.rbbi_model.specs.Tables.{Table, accept_of, fronts_of, list_of, category_of, step, completes, stops}
use Rattle.rbbi_model.specs.Searches.{row_at, look_end, found}
use Rattle.rbbi_model.proofs.Categories.{category_within}
use Rattle.rbbi_model.proofs.FoundCases.{row_goes_on, row_within}
use Rattle.rbbi_table.specs.Blocks.{in_block}
use Rattle.rbbi_table.specs.Kept.{IsKept, stride, move_to}
use Rattle.rbbi_table.proofs.MoveLemmas.{row_end}
use Rattle.rbbi_table.proofs.FrontLemmas.{no_bit_is}
use Rattle.rbbi_table.proofs.SearchLemmas.{IsSearch, IsEnd, IsDecoded, Noted, decoded, ended_here, ended_before, search_on, stops_first, stops_last}
use Rattle.rbbi_table.proofs.SearchLemmas.{finds_longest, finds_cut, looks_to_stop, looks_past, one_means, not_one_means, one_means_not}
use Rattle.rbbi_model.specs.ValidTables.{IsValidRow}

-- the characters of a text are code points
pub text_at : (x : List ℕ) (i : ℕ) → IsText x → i < length x → get_or x i 0 ≤ last_code_point
text_at [] i text short = absurd (omega (arith, short))
text_at (c ∷ x) zero text short = text.0.0
text_at (c ∷ x) (suc i) text short = text_at x i text.1 (omega (arith, short))

-- what stands after the moves of a row
pub record IsHead (table : Table) (moves : List ℕ) (r row : ℕ) : Type 0 where
  pub few : length moves ≤ 4095 * 1003
  pub inside : row + table.categories + 2 < length moves
  pub fronts : get_or moves (row + table.categories + 0) 0 ≡ fronts_of table r
  pub list : get_or moves (row + table.categories + 1) 0 ≡ list_of table r
  pub small : get_or moves (row + table.categories + 1) 0 < 65536
  pub accept : get_or moves (row + table.categories + 2) 0 ≡ accept_of table r

-- what one step of a search reads
pub record IsStep (table : Table) (moves x : List ℕ) (s at row category : ℕ) : Type 0 where
  pub short : at < length x
  pub inside : row + category < length moves
  pub valid : IsValidRow table (row_at table x s (suc at))
  pub reads : IsDecoded (get_or moves (row + category) 0) (row_at table x s (suc at) * stride table) (eqb (accept_of table (row_at table x s (suc at))) 1)
      (eqb (fronts_of table (row_at table x s (suc at))) 0) (stops table (row_at table x s (suc at)))
  pub head : IsHead table moves (row_at table x s (suc at)) (get_or moves (row + category) 0 / 8)

-- the last place at which a rule ended, with what stands after its row's moves
pub record IsEndRead (table : Table) (moves x : List ℕ) (s at end end_row : ℕ) : Type 0 where
  pub ended : IsEnd table x s at end end_row
  pub row : ℕ
  pub head : IsHead table moves row end_row
  pub list : cond (ltb s end) (get_or moves (end_row + table.categories + 1) 0) 0 ≡ cond (ltb s end) (list_of table (row_at table x s end)) 0

-- what is found, the status list as it is read
pub record IsFound (table : Table) (x : List ℕ) (s at list look : ℕ) : Type 0 where
  pub at_is : at ≡ (found table x s).at
  pub list_is : list ≡ (found table x s).list
  pub look_is : look_end table x s ≡ look

-- the choice of a status list
same_choice : (table : Table) (b : Bool) (r r' : ℕ) → (b ≡ true → r ≡ r') → cond b (list_of table r) 0 ≡ cond b (list_of table r') 0
same_choice table true r r' same = ap (λ n. list_of table n) (same refl)
same_choice table false r r' same = refl

module _ {table : Table} {numbers kept moves : List ℕ} (keeps : IsKept table numbers kept moves) where
  head_read : (r row : ℕ) → r < length table.rows → row ≡ r * stride table → IsHead table moves r row
  head_read r row within is =
      let has = keeps.in_moves.rows r within in
      let list = ap (λ n. get_or moves (n + table.categories + 1) 0) is ∙ has.list in
      let most : length table.rows * stride table ≤ 4095 * stride table = mul-le-mul_right (stride table) keeps.valid.rows.few in
      record {
        few = omega (arith, most, keeps.in_moves.all, keeps.valid.ranges.few_categories);
        inside = omega (arith, is, row_end r (length table.rows) (stride table) within, keeps.in_moves.all);
        fronts = ap (λ n. get_or moves n 0) (let e : row + table.categories + 0 ≡ r * stride table + table.categories = omega arith in e) ∙ has.fronts;
        list = list;
        small = omega (arith, list, (keeps.valid.rows.each r within).list, keeps.valid.lists.few);
        accept = ap (λ n. get_or moves (n + table.categories + 2) 0) is ∙ has.accept;
      }

  pub step_reads : {x : List ℕ} {s at row end end_row : ℕ} {places : List ℕ} (category : ℕ) → IsText x → IsSearch table x s at row end end_row places →
      at < length x → category ≡ in_block numbers kept (get_or x at 0) → IsStep table moves x s at row category
  step_reads {x} {s} {at} {row} category text searched short is =
      let r : ℕ = row_at table x s at in
      let c : ℕ = get_or x at 0 in
      let code : c ≤ last_code_point = text_at x at text short in
      let own : category ≡ category_of table.ranges c = is ∙ keeps.in_blocks.same c (omega (arith, code)) in
      let low : category_of table.ranges c < table.categories = category_within table.categories table.ranges c keeps.valid.ranges in
      let within : r < length table.rows = row_within table keeps.valid x s at in
      let room = row_end r (length table.rows) (stride table) within in
      let place : row + category ≡ r * stride table + category_of table.ranges c = omega (arith, searched.row_is, own) in
      let next : ℕ = row_at table x s (suc at) in
      let goes : next ≡ step table r (category_of table.ranges c) =
      ap (λ q. row_at table x s q) (let e : suc at ≡ at + 1 = omega arith in e) ∙ row_goes_on table x s at searched.from short in
      let cell : get_or moves (row + category) 0 ≡ move_to table next =
      ap (λ n. get_or moves n 0) place ∙ (keeps.in_moves.rows r within).each (category_of table.ranges c) low ∙ ap (λ n. move_to table n) (sym goes) in
      let reads = decoded (get_or moves (row + category) 0) (next * stride table) (eqb (accept_of table next) 1) (eqb (fronts_of table next) 0)
      (stops table next) cell in
      let next_within : next < length table.rows = row_within table keeps.valid x s (suc at) in
      record {
        short = short;
        inside = omega (arith, place, room, low, keeps.in_moves.all);
        valid = keeps.valid.rows.each next next_within;
        reads = reads;
        head = head_read next (get_or moves (row + category) 0 / 8) next_within reads.place_is;
      }

  pub end_read : {x : List ℕ} {s at end end_row : ℕ} → IsEnd table x s at end end_row → IsEndRead table moves x s at end end_row
  end_read {x} {s} {at} {end} {end_row} ended =
      let row : (r : ℕ) × (r < length table.rows) × (end_row ≡ r * stride table) × (ltb s end ≡ true → r ≡ row_at table x s end) =
      ⊎_elim
      (λ none. (0, omega (arith, keeps.valid.rows.some), omega (arith, none.1), λ past. absurd (omega (arith, none.0, ltb-true s end past))))
      (λ some. (row_at table x s end, row_within table keeps.valid x s end, some.1, λ _. refl))
      ended in
      let head = head_read row.0 end_row row.1 row.2 in
      record {
        ended = ended;
        row = row.0;
        head = head;
        list = ap (λ n. cond (ltb s end) n 0) head.list ∙ same_choice table (ltb s end) row.0 (row_at table x s end) row.3;
      }

-- a search that reads to the text's end
pub matches_last : {table : Table} {moves x : List ℕ} {s at row end end_row : ℕ} {places : List ℕ} → IsSearch table x s at row end end_row places →
    IsEndRead table moves x s at end end_row → s < length x → at ≡ length x →
    IsFound table x s (cond (ltb s end) end (s + 1)) (cond (ltb s end) (get_or moves (end_row + table.categories + 1) 0) 0) (length x + 1)
matches_last {table} {moves} {x} {s} {at} {row} {end} {end_row} {places} searched last inside whole =
    let at_end = stops_last table x s at row end end_row places searched inside whole in
    let going : stops table (row_at table x s at) ≡ false = searched.going at (omega (arith, inside, whole)) (omega arith) in
    let parts = or_parts (eqb (row_at table x s at) 0) (completes table (row_at table x s at)) going in
    let finds = finds_longest table x s at end end_row at_end parts.1 searched.ended in
    record { at_is = sym finds.0; list_is = last.list ∙ sym finds.1; look_is = looks_past table x s at at_end going }

module _ {table : Table} {numbers kept moves x : List ℕ} {s at row end end_row category : ℕ} {places : List ℕ} (keeps : IsKept table numbers kept moves)
    (searched : IsSearch table x s at row end end_row places) (one : IsStep table moves x s at row category) where
  -- a rule ends at the place after the character
  pub ends_here : {end' end_row' : ℕ} → get_or moves (row + category) 0 % 2 ≡ 1 → end' ≡ at + 1 → end_row' ≡ get_or moves (row + category) 0 / 8 →
      IsEndRead table moves x s (suc at) end' end_row'
  ends_here {end'} {end_row'} is end_is row_is =
      end_read keeps (ended_here table x s at end' end_row' searched.from (one_means _ _ one.reads.ends_is is) (omega (arith, end_is))
      (row_is ∙ one.reads.place_is))

  -- none does
  pub ends_before : {end' end_row' : ℕ} → get_or moves (row + category) 0 % 2 ≢ 1 → end' ≡ end → end_row' ≡ end_row →
      IsEndRead table moves x s (suc at) end' end_row'
  ends_before {end'} {end_row'} isnt end_is row_is =
      end_read keeps (ended_before table x s at end' end_row' (not_one_means _ _ one.reads.ends_is isnt)
      (subst (λ e. IsEnd table x s at e end_row') (sym end_is) (subst (λ r. IsEnd table x s at end r) (sym row_is) searched.ended)))

  no_fronts : get_or moves (row + category) 0 / 2 % 2 ≢ 1 → fronts_of table (row_at table x s (suc at)) ≡ 0
  no_fronts isnt = eqb-true (fronts_of table (row_at table x s (suc at))) 0 (one_means_not _ _ one.reads.fronts_is isnt)

  -- the places of the fronts that end there are noted
  pub noted_yes : (places' after : List ℕ) → ((k : ℕ) → k < length places' →
      get_or places' k 0 ≡ cond (has_bit (get_or moves (get_or moves (row + category) 0 / 8 + table.categories + 0) 0) k) (at + 1) (get_or places k 0)) →
      table.slashes ≤ length places' → after ≡ places' → Noted table (row_at table x s (suc at)) at places after
  noted_yes places' after each long same k low =
      ap (λ (l : List ℕ). get_or l k 0) same
      ∙ each k (omega (arith, low, long))
      ∙ ap (λ n. cond (has_bit n k) (at + 1) (get_or places k 0)) one.head.fronts
      ∙ ap (λ n. cond (has_bit (fronts_of table (row_at table x s (suc at))) k) n (get_or places k 0)) (let e : at + 1 ≡ suc at = omega arith in e)

  -- none ends there
  pub noted_no : (after : List ℕ) → get_or moves (row + category) 0 / 2 % 2 ≢ 1 → after ≡ places → Noted table (row_at table x s (suc at)) at places after
  noted_no after isnt same k low =
      ap (λ (l : List ℕ). get_or l k 0) same ∙ sym (cond-false (has_bit (fronts_of table (row_at table x s (suc at))) k) (suc at) (get_or places k 0)
      (no_bit_is (fronts_of table (row_at table x s (suc at))) k (no_fronts isnt)))

  pub goes_on : {end' end_row' : ℕ} {places' : List ℕ} → get_or moves (row + category) 0 / 4 % 2 ≢ 1 → IsEndRead table moves x s (suc at) end' end_row' →
      Noted table (row_at table x s (suc at)) at places places' → IsSearch table x s (at + 1) (get_or moves (row + category) 0 / 8) end' end_row' places'
  goes_on {end'} {end_row'} {places'} isnt last noted =
      subst (λ n. IsSearch table x s n (get_or moves (row + category) 0 / 8) end' end_row' places') (let e : suc at ≡ at + 1 = omega arith in e)
      (search_on table x s at row (get_or moves (row + category) 0 / 8) end end' end_row end_row' places places' searched one.short one.reads.place_is
      (not_one_means _ _ one.reads.stop_is isnt) last.ended noted)

  stopped : get_or moves (row + category) 0 / 4 % 2 ≡ 1 → stops table (row_at table x s (suc at)) ≡ true
  stopped is = one_means _ _ one.reads.stop_is is

  -- a look-ahead rule is completed
  pub cuts : (places' : List ℕ) → s < length x → get_or moves (row + category) 0 / 4 % 2 ≡ 1 →
      2 ≤ get_or moves (get_or moves (row + category) 0 / 8 + table.categories + 2) 0 → (get_or moves (row + category) 0 / 2 % 2 ≢ 1 → places' ≡ places) →
      IsFound table x s (get_or places' (get_or moves (get_or moves (row + category) 0 / 8 + table.categories + 2) 0 - 2) 0)
      (get_or moves (get_or moves (row + category) 0 / 8 + table.categories + 1) 0) (suc at)
  cuts places' inside is much same =
      let next : ℕ = row_at table x s (suc at) in
      let accept : ℕ = get_or moves (get_or moves (row + category) 0 / 8 + table.categories + 2) 0 in
      let more : 2 ≤ accept_of table next = omega (arith, one.head.accept, much) in
      let none : fronts_of table next ≡ 0 = (one.valid.completed more).0 in
      let plain = one.reads.fronts_is ∙ cond-true (eqb (fronts_of table next) 0) 0 1 (eq-eqb (fronts_of table next) 0 none) in
      let places_same : places' ≡ places = same (λ set. omega (arith, plain, set)) in
      let at_end = stops_first table x s at row end end_row places searched one.short (stopped is) in
      let finds = finds_cut table x s keeps.valid inside at row end end_row places searched one.short (le-leb 2 (accept_of table next) more) at_end
      (omega (arith, one.valid.accept, more)) in
      record {
        at_is = ap (λ (l : List ℕ). get_or l (accept - 2) 0) places_same ∙ ap (λ n. get_or places (n - 2) 0) one.head.accept ∙ sym finds.0;
        list_is = one.head.list ∙ sym finds.1;
        look_is = looks_to_stop table x s (suc at) at_end (stopped is);
      }

  -- none is, and the search ends
  pub matches : {end' end_row' : ℕ} → get_or moves (row + category) 0 / 4 % 2 ≡ 1 →
      get_or moves (get_or moves (row + category) 0 / 8 + table.categories + 2) 0 < 2 → IsEndRead table moves x s (suc at) end' end_row' →
      IsFound table x s (cond (ltb s end') end' (s + 1)) (cond (ltb s end') (get_or moves (end_row' + table.categories + 1) 0) 0) (suc at)
  matches {end'} {end_row'} is few last =
      let at_end = stops_first table x s at row end end_row places searched one.short (stopped is) in
      let next : ℕ = row_at table x s (suc at) in
      let finds = finds_longest table x s (suc at) end' end_row' at_end (lt-leb 2 (accept_of table next) (omega (arith, one.head.accept, few))) last.ended in
      record { at_is = sym finds.0; list_is = last.list ∙ sym finds.1; look_is = looks_to_stop table x s (suc at) at_end (stopped is) }
