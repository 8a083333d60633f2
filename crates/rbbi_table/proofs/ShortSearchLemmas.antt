-- One search over the short moves.
use Rattle.std.proofs.Common.{◌≡◌, ◌≢◌, ℕ, suc, zero, ◌+◌, ◌-◌, ◌*◌, ◌/◌, ◌%◌, ◌<◌, ◌≤◌, ◌⊎◌, Bool, true, false, ◌&&◌, ◌||◌, cond, ltb, leb, eqb, List, []}
use Rattle.std.proofs.Common.{length, get_or, map, take, drop, sym, refl, ap, ◌∙◌, subst, inl, inr, ⊎_elim, arith, Some, None}
use Rattle.std.proofs.lemmas.Bool.{cases_Bool, cases_eq, cond-true, cond-false, and_from, lt-ltb, ltb-true, eqb-true, eq-eqb, ne_eqb, or_parts, false≢true}
use Rattle.rbbi_model.specs.Words.{IsText, last_code_point}
use Rattle.rbbi_model.specs.Places.{greatest_below}
use Rattle.rbbi_model.specs.Tables.{Table, accept_of, list_of, category_of, step, completes, stops, row_along}
use Rattle.rbbi_model.specs.ValidTables.{IsValidTable}
use Rattle.rbbi_model.specs.Searches.{row_at}
use Rattle.rbbi_model.proofs.Categories.{category_within}
use Rattle.rbbi_model.proofs.FoundCases.{row_goes_on, row_within}
use Rattle.rbbi_table.specs.Blocks.{in_block}
use Rattle.rbbi_table.specs.Kept.{stride}
use Rattle.rbbi_table.specs.Kinds.{IsLike}
use Rattle.rbbi_table.specs.Short.{IsShortKept, short_stride, short_move}
use Rattle.rbbi_table.specs.inner.Searching.{IsOnward, IsMoveTo, IsShortEnd, IsGoing, ends_at}
use Rattle.rbbi_table.proofs.MoveLemmas.{row_end}
use Rattle.rbbi_table.proofs.ShortLemmas.{stride_above, split_move}
use Rattle.rbbi_table.proofs.SearchLemmas.{IsSearch, IsEnd, ended_before, stops_first, stops_last, finds_longest, looks_to_stop, looks_past}
use Rattle.rbbi_table.proofs.StepLemmas.{IsFound, text_at}

-- a rule ends at the row, so the search goes on there
accept_goes : (table : Table) → IsValidTable table → (row : ℕ) → eqb (accept_of table row) 1 ≡ true → stops table row ≡ false
accept_goes table valid row is =
    let one : accept_of table row ≡ 1 = eqb-true (accept_of table row) 1 is in
    let some : eqb row 0 ≡ false = ne_eqb row 0 (λ none. omega (arith, one, ap (λ n. accept_of table n) none, valid.rows.stop.0)) in
    ap (λ b. b || completes table row) some ∙ ap (λ n. leb 2 n) one

-- none does, but it isn't row 0, and there are no look-ahead rules
plain_goes : (table : Table) → IsValidTable table → table.slashes ≡ 0 → (row : ℕ) → row < length table.rows → row ≢ 0 →
    eqb (accept_of table row) 1 ≡ false → stops table row ≡ false
plain_goes table valid none row within some isnt =
    let few : accept_of table row ≤ 1 = omega (arith, (valid.rows.each row within).accept, none) in
    let other : accept_of table row ≢ 1 = λ one. false≢true (sym isnt ∙ eq-eqb (accept_of table row) 1 one) in
    let zero_is : accept_of table row ≡ 0 = omega (arith, few, other) in
    ap (λ b. b || completes table row) (ne_eqb row 0 some) ∙ ap (λ n. leb 2 n) zero_is

goes_uncompleted : (table : Table) (row : ℕ) → stops table row ≡ false → completes table row ≡ false
goes_uncompleted table row going = (or_parts (eqb row 0) (completes table row) going).1

-- what is known where a search has moved on by a character
pub record IsTurn (table : Table) (x : List ℕ) (s last next end end_row : ℕ) : Type 0 where
  pub from : s ≤ last
  pub to : last < length x
  pub going : (z : ℕ) → s < z → z ≤ last → stops table (row_at table x s z) ≡ false
  pub move : IsMoveTo table x s (suc last) next
  pub ended : IsShortEnd table x s last end end_row

-- the same, told by the place after the character
abbrev pub IsTurnAt : Table → List ℕ → ℕ → ℕ → ℕ → ℕ → ℕ → Type 0
IsTurnAt table x s at next end end_row = (last : ℕ) × (at ≡ suc last) × IsTurn table x s last next end end_row

-- a stretch of rows that are like the first
pub record IsStretch (table : Table) (moves x : List ℕ) (s first at row : ℕ) : Type 0 where
  pub onward : IsOnward table x s at
  pub row_is : row ≡ row_at table x s at * short_stride table
  pub like : IsLike table.categories table.cells (λ k. short_move table moves (row_at table x s first) k % 4) (row_at table x s first)
      (row_at table x s at)
  pub further : first ≤ at

none_at : (s : ℕ) (test : ℕ → Bool) (n : ℕ) → n ≤ suc s → greatest_below (λ q. ltb s q && test q) n ≡ None
none_at s test zero up_to = refl
none_at s test (suc n) up_to =
    let fails : (ltb s n && test n) ≡ false =
    ⊎_elim
    (λ is. absurd (omega (arith, up_to, ltb-true s n is)))
    (λ isnt. ap (λ b. b && test n) isnt)
    (cases_Bool (ltb s n)) in
    cond-false (ltb s n && test n) (Some n) (greatest_below (λ q. ltb s q && test q) n) fails ∙ none_at s test n (omega (arith, up_to))

-- before the first character nothing has ended
pub nothing_ended : (table : Table) (x : List ℕ) (s : ℕ) → IsShortEnd table x s s s 0
nothing_ended table x s = inl (refl, refl, none_at s (λ q. eqb (accept_of table (row_at table x s q)) 1) (suc s) (omega arith))

-- what ended last, by the place of its row in the other list
other_end : (table : Table) (x : List ℕ) (s at end end_row : ℕ) → IsShortEnd table x s at end end_row → (row : ℕ) × IsEnd table x s at end row
other_end table x s at end end_row ended =
    ⊎_elim
    (λ none. (0, inl (none.0, refl, none.2)))
    (λ some. (row_at table x s end * stride table, inr (some.0, refl, some.2)))
    ended

-- a rule ends where the search is
pub ends_now : (table : Table) (x : List ℕ) (s at : ℕ) → IsOnward table x s at → IsShortEnd table x s at at (row_at table x s at * short_stride table)
ends_now table x s at onward =
    let holds : ends_at table x s at ≡ true = and_from (ltb s at) (eqb (accept_of table (row_at table x s at)) 1) (lt-ltb s at onward.from) onward.ends in
    inr (onward.from, refl, cond-true (ends_at table x s at) (Some at) (greatest_below (ends_at table x s) at) holds)

-- the list after what ended last
end_list : (table : Table) (moves x : List ℕ) (s at end end_row : ℕ) →
    ((r : ℕ) → r < length table.rows → get_or moves (r * short_stride table) 0 ≡ list_of table r) →
    ((z : ℕ) → row_at table x s z < length table.rows) → IsShortEnd table x s at end end_row →
    cond (ltb s end) (get_or moves end_row 0) 0 ≡ cond (ltb s end) (list_of table (row_at table x s end)) 0
end_list table moves x s at end end_row lists within ended =
    ⊎_elim
    (λ none.
    let isnt : ltb s end ≡ false =
    ⊎_elim (λ is. absurd (omega (arith, none.0, ltb-true s end is))) (λ isnt. isnt) (cases_Bool (ltb s end)) in
    cond-false (ltb s end) (get_or moves end_row 0) 0 isnt ∙ sym (cond-false (ltb s end) (list_of table (row_at table x s end)) 0 isnt))
    (λ some. ap (λ n. cond (ltb s end) (get_or moves n 0) 0) some.1 ∙ ap (λ n. cond (ltb s end) n 0) (lists (row_at table x s end) (within end)))
    ended

module _ {table : Table} {numbers kept moves near : List ℕ} (keeps : IsShortKept table numbers kept moves near) (x : List ℕ) (s : ℕ) (text : IsText x) where
  pub within_rows : (z : ℕ) → row_at table x s z < length table.rows
  within_rows z = row_within table keeps.valid x s z

  lists : (r : ℕ) → r < length table.rows → get_or moves (r * short_stride table) 0 ≡ list_of table r
  lists r low = (keeps.in_moves.rows r low).list

  -- the character's category, and that the place of its move lies in the row
  pub category_is : (at place : ℕ) → at < length x → place ≡ in_block numbers kept (get_or x at 0) + 1 →
      (place ≡ category_of table.ranges (get_or x at 0) + 1) × (category_of table.ranges (get_or x at 0) < table.categories)
  category_is at place short is =
      let c : ℕ = get_or x at 0 in
      let code : c ≤ last_code_point = text_at x at text short in (
        is ∙ ap (λ n. n + 1) (keeps.in_blocks.same c (omega (arith, code))),
        category_within table.categories table.ranges c keeps.valid.ranges,
      )

  pub inside_row : (r row place at : ℕ) → r < length table.rows → row ≡ r * short_stride table → at < length x →
      place ≡ in_block numbers kept (get_or x at 0) + 1 → row + place < length moves
  inside_row r row place at low is short place_is =
      let cat = category_is at place short place_is in
      omega (arith, is, cat.0, cat.1, row_end r (length table.rows) (short_stride table) low, stride_above table.categories, keeps.in_moves.all)

  pub inside_list : (at end end_row : ℕ) → IsShortEnd table x s at end end_row → end_row < length moves
  inside_list at end end_row ended =
      let wide = stride_above table.categories in
      ⊎_elim
      (λ none. omega (arith, none.1, row_end 0 (length table.rows) (short_stride table) (omega (arith, keeps.valid.rows.some)), wide, keeps.in_moves.all))
      (λ some.
      omega (arith, some.1, row_end (row_at table x s end) (length table.rows) (short_stride table) (within_rows end), wide, keeps.in_moves.all))
      ended

  pub inside_start : (at row : ℕ) → row ≡ row_at table x s at * short_stride table → row < length moves
  inside_start at row is =
      omega (
        arith,
        is,
        row_end (row_at table x s at) (length table.rows) (short_stride table) (within_rows at),
        stride_above table.categories,
        keeps.in_moves.all,
      )

  -- the move that is read
  pub move_read : (at row place : ℕ) → s ≤ at → at < length x → row ≡ row_at table x s at * short_stride table →
      place ≡ in_block numbers kept (get_or x at 0) + 1 → IsMoveTo table x s (suc at) (get_or moves (row + place) 0)
  move_read at row place from short row_is place_is =
      let r : ℕ = row_at table x s at in
      let k : ℕ = category_of table.ranges (get_or x at 0) in
      let cat = category_is at place short place_is in
      let has = keeps.in_moves.rows r (within_rows at) in
      let goes : row_at table x s (suc at) ≡ step table r k =
      ap (λ q. row_at table x s q) (let e : suc at ≡ at + 1 = omega arith in e) ∙ row_goes_on table x s at from short in
      let read : get_or moves (row + place) 0 ≡ short_move table moves r k =
      ap (λ n. get_or moves n 0) (let e : row + place ≡ r * short_stride table + k + 1 = omega (arith, row_is, cat.0) in e) in
      record {
        place = read ∙ has.each k cat.1 ∙ ap (λ n. n * short_stride table + short_move table moves r k % 4) (sym goes) ∙
            ap (λ n. row_at table x s (suc at) * short_stride table + n % 4) (sym read);
        ends = ap (λ n. ltb (n % 4) 3) read ∙ (has.kinds k cat.1).ends ∙ ap (λ n. eqb (accept_of table n) 1) (sym goes);
      }

  -- the row at which a move's place is
  pub move_place : (at next : ℕ) → IsMoveTo table x s at next → next / 4 * 4 ≡ row_at table x s at * short_stride table
  move_place at next move =
      (split_move (row_at table x s at) ((table.categories + 4) / 4) (next % 4) next (omega arith) move.place).1

  -- a search that has moved on to a row at which a rule ends
  pub turn_onward : (last next end end_row : ℕ) → IsTurn table x s last next end end_row → next % 4 ≢ 3 → IsOnward table x s (suc last)
  turn_onward last next end end_row turn isnt =
      let ends : eqb (accept_of table (row_at table x s (suc last))) 1 ≡ true =
      sym turn.move.ends ∙ lt-ltb (next % 4) 3 (omega (arith, isnt)) in
      record {
        from = omega (arith, turn.from);
        to = omega (arith, turn.to);
        going = λ z past up_to.
            ⊎_elim
            (λ same. ap (λ q. stops table (row_at table x s q)) same ∙ accept_goes table keeps.valid (row_at table x s (suc last)) ends)
            (λ other. turn.going z past (omega (arith, up_to, other)))
            (cases_eq z (suc last));
        ends = ends;
      }

  pub stretch_begins : (at row : ℕ) → IsOnward table x s at → row ≡ row_at table x s at * short_stride table → IsStretch table moves x s at at row
  stretch_begins at row onward is = record {
    onward = onward;
    row_is = is;
    like = λ k low. record {
      forgets = λ zero. refl;
      stays = λ one. ((keeps.in_moves.rows (row_at table x s at) (within_rows at)).kinds k low).stays one;
    };
    further = omega arith;
  }

  -- one more character of a stretch
  pub stretch_on : (first at row row' base place : ℕ) → IsStretch table moves x s first at row → at < length x →
      base ≡ row_at table x s first * short_stride table → place ≡ in_block numbers kept (get_or x at 0) + 1 → get_or moves (base + place) 0 / 2 % 2 ≢ 1 →
      ((get_or moves (base + place) 0 % 2 ≡ 1) × (row' ≡ row)) ⊎ ((get_or moves (base + place) 0 % 2 ≢ 1) × (row' ≡ get_or moves (base + place) 0)) →
      IsStretch table moves x s first (suc at) row'
  stretch_on first at row row' base place over short base_is place_is goes cases =
      let b : ℕ = row_at table x s first in
      let r : ℕ = row_at table x s at in
      let k : ℕ = category_of table.ranges (get_or x at 0) in
      let cat = category_is at place short place_is in
      let has = keeps.in_moves.rows b (within_rows first) in
      let move : ℕ = short_move table moves b k in
      let read : get_or moves (base + place) 0 ≡ move =
      ap (λ n. get_or moves n 0) (let e : base + place ≡ b * short_stride table + k + 1 = omega (arith, base_is, cat.0) in e) in
      let next : ℕ = row_at table x s (suc at) in
      let steps : next ≡ step table r k =
      ap (λ q. row_at table x s q) (let e : suc at ≡ at + 1 = omega arith in e)
      ∙ row_goes_on table x s at (let e : s ≤ at = omega (arith, over.onward.from) in e) short in
      ⊎_elim
      (λ stay.
      let one : move % 4 ≡ 1 = omega (arith, read, goes, stay.0) in
      let same : next ≡ r = steps ∙ (over.like k cat.1).stays one in
      record {
        onward = onward_on at over.onward short (ap (λ n. eqb (accept_of table n) 1) same ∙ over.onward.ends);
        row_is = stay.1 ∙ over.row_is ∙ ap (λ n. n * short_stride table) (sym same);
        like = subst (λ n. IsLike table.categories table.cells (λ c. short_move table moves b c % 4) b n) (sym same) over.like;
        further = omega (arith, over.further);
      })
      (λ leave.
      let zero_is : move % 4 ≡ 0 = omega (arith, read, goes, leave.0) in
      let same : next ≡ step table b k = steps ∙ (over.like k cat.1).forgets zero_is in
      let ends : eqb (accept_of table next) 1 ≡ true =
      ap (λ n. eqb (accept_of table n) 1) same ∙ sym (has.kinds k cat.1).ends ∙ ap (λ n. ltb n 3) zero_is in
      record {
        onward = onward_on at over.onward short ends;
        row_is = leave.1 ∙ read ∙ has.each k cat.1 ∙
            (let e : step table b k * short_stride table + move % 4 ≡ step table b k * short_stride table = omega (arith, zero_is) in e) ∙
            ap (λ n. n * short_stride table) (sym same);
        like = subst (λ n. IsLike table.categories table.cells (λ c. short_move table moves b c % 4) b n) (sym same) ((has.kinds k cat.1).forgets zero_is);
        further = omega (arith, over.further);
      })
      cases
    where
      onward_on : (q : ℕ) → IsOnward table x s q → q < length x → eqb (accept_of table (row_at table x s (suc q))) 1 ≡ true → IsOnward table x s (suc q)
      onward_on q onward low ends = record {
        from = omega (arith, onward.from);
        to = omega (arith, low);
        going = λ z past up_to.
            ⊎_elim
            (λ same. ap (λ p. stops table (row_at table x s p)) same ∙ accept_goes table keeps.valid (row_at table x s (suc q)) ends)
            (λ other. onward.going z past (omega (arith, up_to, other)))
            (cases_eq z (suc q));
        ends = ends;
      }

  -- a search as the other lemmas have it
  searched : (at end row : ℕ) → s ≤ at → at ≤ length x → ((z : ℕ) → s < z → z ≤ at → stops table (row_at table x s z) ≡ false) →
      IsEnd table x s at end row → IsSearch table x s at (row_at table x s at * stride table) end row []
  searched at end row from to going ended = record {
    from = from;
    to = to;
    row_is = refl;
    going = going;
    ended = ended;
    fronts = λ k low. absurd (omega (arith, low, keeps.in_moves.none));
  }

  -- the text ends where a rule ends
  pub ends_last : (end : ℕ) → IsOnward table x s end → s < length x → end ≡ length x →
      IsFound table x s end (get_or moves (row_at table x s end * short_stride table) 0) (length x + 1)
  ends_last end onward inside whole =
      let short_end = ends_now table x s end onward in
      let other = other_end table x s end end (row_at table x s end * short_stride table) short_end in
      let all = searched end end other.0 (omega (arith, onward.from)) onward.to onward.going other.1 in
      let at_end = stops_last table x s end (row_at table x s end * stride table) end other.0 [] all inside whole in
      let going : stops table (row_at table x s end) ≡ false = onward.going end onward.from (omega arith) in
      let finds = finds_longest table x s end end other.0 at_end (goes_uncompleted table (row_at table x s end) going) other.1 in
      let past : ltb s end ≡ true = lt-ltb s end onward.from in
      record {
        at_is = sym (finds.0 ∙ cond-true (ltb s end) end (s + 1) past);
        list_is = lists (row_at table x s end) (within_rows end) ∙ sym (finds.1 ∙ cond-true (ltb s end) (list_of table (row_at table x s end)) 0 past);
        look_is = looks_past table x s end at_end going;
      }

  -- no rule ends where a move of kind 3 leads
  unended : (last next : ℕ) → IsMoveTo table x s (suc last) next → next % 4 ≡ 3 → eqb (accept_of table (row_at table x s (suc last))) 1 ≡ false
  unended last next move is = sym move.ends ∙ ap (λ n. ltb n 3) is

  ended_on : (last next end row : ℕ) → IsMoveTo table x s (suc last) next → next % 4 ≡ 3 → IsEnd table x s last end row → IsEnd table x s (suc last) end row
  ended_on last next end row move is ended = ended_before table x s last end row (unended last next move is) ended

  -- a move to row 0
  pub stops_here : (last next end end_row : ℕ) → IsTurn table x s last next end end_row → next ≡ 3 →
      IsFound table x s (cond (ltb s end) end (s + 1)) (cond (ltb s end) (get_or moves end_row 0) 0) (suc last)
  stops_here last next end end_row turn three =
      let r : ℕ = row_at table x s (suc last) in
      let kind : next % 4 ≡ 3 = ap (λ n. n % 4) three in
      let none : r * short_stride table ≡ 0 = omega (arith, turn.move.place, three, kind) in
      let zero_is : r ≡ 0 =
      ⊎_elim (λ is. is) (λ some. absurd (omega (arith, none, stride_above table.categories, row_end 0 r (short_stride table) (omega (arith, some)))))
      (cases_eq r 0) in
      let stopped : stops table r ≡ true = ap (λ b. b || completes table r) (eq-eqb r 0 zero_is) in
      let other = other_end table x s last end end_row turn.ended in
      let all = searched last end other.0 turn.from (omega (arith, turn.to)) turn.going other.1 in
      let at_end = stops_first table x s last (row_at table x s last * stride table) end other.0 [] all turn.to stopped in
      let uncompleted : completes table r ≡ false = ap (λ n. leb 2 n) (ap (λ n. accept_of table n) zero_is ∙ keeps.valid.rows.stop.0) in
      let finds = finds_longest table x s (suc last) end other.0 at_end uncompleted (ended_on last next end other.0 turn.move kind other.1) in
      record {
        at_is = sym finds.0;
        list_is = end_list table moves x s last end end_row lists within_rows turn.ended ∙ sym finds.1;
        look_is = looks_to_stop table x s (suc last) at_end stopped;
      }

  -- no rule ends at the row, and the search goes on
  plain_on : (last next end end_row : ℕ) → IsTurn table x s last next end end_row → next % 4 ≡ 3 → next ≢ 3 →
      stops table (row_at table x s (suc last)) ≡ false
  plain_on last next end end_row turn kind other =
      let r : ℕ = row_at table x s (suc last) in
      let some : r ≢ 0 = λ none. other (turn.move.place ∙ ap (λ n. n * short_stride table + next % 4) none ∙
      (let e : 0 * short_stride table + next % 4 ≡ 3 = omega (arith, kind) in e)) in
      plain_goes table keeps.valid keeps.in_moves.none r (within_rows (suc last)) some (unended last next turn.move kind)

  going_on : (last next end end_row : ℕ) → IsTurn table x s last next end end_row → next % 4 ≡ 3 → next ≢ 3 →
      (z : ℕ) → s < z → z ≤ suc last → stops table (row_at table x s z) ≡ false
  going_on last next end end_row turn kind other z past up_to =
      ⊎_elim
      (λ same. ap (λ q. stops table (row_at table x s q)) same ∙ plain_on last next end end_row turn kind other)
      (λ less. turn.going z past (omega (arith, up_to, less)))
      (cases_eq z (suc last))

  -- the text ends where the search goes on
  pub goes_last : (at row end end_row : ℕ) → IsGoing table x s at row end end_row → s < length x → at ≡ length x →
      IsFound table x s (cond (ltb s end) end (s + 1)) (cond (ltb s end) (get_or moves end_row 0) 0) (length x + 1)
  goes_last at row end end_row here inside whole =
      let r : ℕ = row_at table x s at in
      let other = other_end table x s at end end_row here.ended in
      let all = searched at end other.0 here.from here.to here.going other.1 in
      let at_end = stops_last table x s at (r * stride table) end other.0 [] all inside whole in
      let goes : stops table r ≡ false = here.going at (omega (arith, inside, whole)) (omega arith) in
      let finds = finds_longest table x s at end other.0 at_end (goes_uncompleted table r goes) other.1 in
      record {
        at_is = sym finds.0;
        list_is = end_list table moves x s at end end_row lists within_rows here.ended ∙ sym finds.1;
        look_is = looks_past table x s at at_end goes;
      }

  -- the turn after a stretch
  pub turn_behind : (end next : ℕ) → IsOnward table x s end → end < length x → IsMoveTo table x s (suc end) next →
      IsTurn table x s end next end (row_at table x s end * short_stride table)
  turn_behind end next onward short move = record {
    from = omega (arith, onward.from);
    to = short;
    going = onward.going;
    move = move;
    ended = ends_now table x s end onward;
  }

  -- what ended last, after a character at which no rule ends
  plain_ended : (last next end end_row : ℕ) → IsMoveTo table x s (suc last) next → next % 4 ≡ 3 → IsShortEnd table x s last end end_row →
      IsShortEnd table x s (suc last) end end_row
  plain_ended last next end end_row move kind ended =
      let fails : ends_at table x s (suc last) ≡ false = and_not (ltb s (suc last)) (eqb (accept_of table (row_at table x s (suc last))) 1)
      (unended last next move kind) in
      let same : greatest_below (ends_at table x s) (suc (suc last)) ≡ greatest_below (ends_at table x s) (suc last) =
      cond-false (ends_at table x s (suc last)) (Some (suc last)) (greatest_below (ends_at table x s) (suc last)) fails in
      ⊎_elim (λ none. inl (none.0, none.1, same ∙ none.2)) (λ some. inr (some.0, some.1, same ∙ some.2)) ended
    where
      and_not : (a b : Bool) → b ≡ false → (a && b) ≡ false
      and_not true b is = is
      and_not false b is = refl

  -- the search goes on after a character at which a rule ends
  pub goes_ended : (last next end end_row : ℕ) → IsTurn table x s last next end end_row → next % 4 ≢ 3 →
      IsGoing table x s (suc last) (next / 4 * 4) (suc last) (next / 4 * 4)
  goes_ended last next end end_row turn isnt =
      let onward = turn_onward last next end end_row turn isnt in
      let row_is = move_place (suc last) next turn.move in
      record {
        from = omega (arith, turn.from);
        to = onward.to;
        row_is = row_is;
        going = onward.going;
        ended = subst (λ n. IsShortEnd table x s (suc last) (suc last) n) (sym row_is) (ends_now table x s (suc last) onward);
      }

  -- and after one at which none does
  pub goes_plain : (last next end end_row : ℕ) → IsTurn table x s last next end end_row → next % 4 ≡ 3 → next ≢ 3 →
      IsGoing table x s (suc last) (next / 4 * 4) end end_row
  goes_plain last next end end_row turn kind other = record {
    from = omega (arith, turn.from);
    to = turn.to;
    row_is = move_place (suc last) next turn.move;
    going = going_on last next end end_row turn kind other;
    ended = plain_ended last next end end_row turn.move kind turn.ended;
  }

  -- the text ends where no rule ends
  pub text_ends : (last next end end_row : ℕ) → IsTurn table x s last next end end_row → next % 4 ≡ 3 → next ≢ 3 → suc last ≡ length x →
      IsFound table x s (cond (ltb s end) end (s + 1)) (cond (ltb s end) (get_or moves end_row 0) 0) (length x + 1)
  text_ends last next end end_row turn kind other whole =
      goes_last (suc last) (next / 4 * 4) end end_row (goes_plain last next end end_row turn kind other) (omega (arith, turn.from, turn.to)) whole

  -- a search that goes on reads the next character
  pub goes_to : (at row place end end_row : ℕ) → IsGoing table x s at row end end_row → at < length x →
      place ≡ in_block numbers kept (get_or x at 0) + 1 → IsTurn table x s at (get_or moves (row + place) 0) end end_row
  goes_to at row place end end_row here short place_is = record {
    from = here.from;
    to = short;
    going = here.going;
    move = move_read at row place here.from short here.row_is place_is;
    ended = here.ended;
  }

  -- the turn after a character at which no rule ends
  pub turn_on : (last next next' end end_row : ℕ) → IsTurn table x s last next end end_row → next % 4 ≡ 3 → next ≢ 3 → suc last < length x →
      IsMoveTo table x s (suc (suc last)) next' → IsTurn table x s (suc last) next' end end_row
  turn_on last next next' end end_row turn kind other short move = record {
    from = omega (arith, turn.from);
    to = short;
    going = going_on last next end end_row turn kind other;
    move = move;
    ended = plain_ended last next end end_row turn.move kind turn.ended;
  }

  pub begins_at : row_at table x s s ≡ 1
  begins_at = ap (λ n. row_along table 1 (map (category_of table.ranges) (take n (drop s x)))) (let e : s - s ≡ 0 = omega arith in e)

  -- the first character's turn
  pub turn_begins : (next : ℕ) → s < length x → IsMoveTo table x s (suc s) next → IsTurn table x s s next s 0
  turn_begins next short move = record {
    from = omega arith;
    to = short;
    going = λ z past up_to. absurd (omega arith);
    move = move;
    ended = nothing_ended table x s;
  }

  -- a search goes on at its start
  pub goes_first : (row : ℕ) → s ≤ length x → row ≡ short_stride table → IsGoing table x s s row s 0
  goes_first row inside start = record {
    from = omega arith;
    to = inside;
    row_is = start ∙ (let e : short_stride table ≡ 1 * short_stride table = omega arith in e) ∙ ap (λ n. n * short_stride table) (sym begins_at);
    going = λ z past up_to. absurd (omega (arith, past, up_to));
    ended = nothing_ended table x s;
  }
