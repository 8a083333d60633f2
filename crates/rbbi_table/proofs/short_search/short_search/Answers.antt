use Rattle.std.proofs.Common.{◌≡◌, ℕ, suc, ◌+◌, ◌*◌, ◌/◌, ◌<◌, List, length, get_or, sym, ap, ◌∙◌, subst, arith}
use Rattle.std.proofs.Common.{ltb}
use Rattle.std.proofs.lemmas.Bool.{lt-ltb, cond-true}
use Rattle.rbbi_model.specs.Searches.{row_at}
use Rattle.rbbi_table.specs.Parts.{table_of}
use Rattle.rbbi_table.specs.Blocks.{in_block}
use Rattle.rbbi_table.specs.Short.{short_stride}
use Rattle.rbbi_table.specs.inner.Searching.{IsOnward, IsMoveTo}
use Rattle.rbbi_table.proofs.ShortSearchLemmas.{IsTurn, inside_row, inside_list, inside_start, within_rows, move_read, move_place, turn_onward, ends_last}
use Rattle.rbbi_table.proofs.ShortSearchLemmas.{stops_here, text_ends, turn_behind, turn_on, begins_at, turn_begins}
use Rattle.rbbi_table.proofs.short_search.short_search.Given.{Over}
use Rattle.rbbi_table.proofs.short_search.short_search.Goals as goal
use Rattle.rbbi_table.proofs.short_search.short_search.Goals.{After-place_of, After-place_of-else-next-ne-OTHER, After-stretch_from-over}

-- the place of the first character's move
placed : (g : Over) (c : After-place_of g) →
    c.place_of.result ≡ in_block c.args.numbers.now c.args.kept.now (get_or (g.T.Chars.characters c.args.text.now) c.args.s 0) + 1
placed g c = c.place_of.ensures ∙ ap (λ n. in_block c.args.numbers.now c.args.kept.now n + 1) c.char_at.ensures.character

-- row 1 begins at the start
starts : (g : Over) (c : After-place_of g) →
    c.args.start ≡ row_at (table_of c.args.parts.now) (g.T.Chars.characters c.args.text.now) c.args.s c.args.s * short_stride (table_of c.args.parts.now)
starts g c =
    let one = begins_at c.requires.kept (g.T.Chars.characters c.args.text.now) c.args.s c.len-len.ensures.text in
    c.requires.start ∙ (let e : short_stride (table_of c.args.parts.now) ≡ 1 * short_stride (table_of c.args.parts.now) = omega arith in e)
    ∙ ap (λ n. n * short_stride (table_of c.args.parts.now)) (sym one)

inside_first : (g : Over) (c : After-place_of g) → c.args.start + c.place_of.result < length c.args.moves.now
inside_first g c =
    inside_row c.requires.kept (g.T.Chars.characters c.args.text.now) c.args.s c.len-len.ensures.text
    (row_at (table_of c.args.parts.now) (g.T.Chars.characters c.args.text.now) c.args.s c.args.s) c.args.start c.place_of.result c.args.s
    (within_rows c.requires.kept (g.T.Chars.characters c.args.text.now) c.args.s c.len-len.ensures.text c.args.s)
    (starts g c) c.requires.within (placed g c)

pub overflow_add-next : goal.overflow_add-next
overflow_add-next g c =
    let inside = inside_first g (goal.at.overflow_add-next g c).After-place_of in
    let small = c.requires.kept.in_moves.small in
    omega arith

pub offset_bounds-moves-start : goal.offset_bounds-moves-start
offset_bounds-moves-start g c =
    let inside = inside_first g (goal.at.offset_bounds-moves-start g c).After-place_of in
    let small = c.requires.kept.in_moves.small in
    omega arith

pub bounds-moves-start : goal.bounds-moves-start
bounds-moves-start g c = inside_first g (goal.at.bounds-moves-start g c).After-place_of

pub reading-init : goal.reading-init
reading-init g c =
    let h = (goal.at.reading-init g c).After-place_of in
    let move = move_read c.requires.kept (g.T.Chars.characters c.args.text.now) c.args.s c.len-len.ensures.text c.args.s c.args.start c.place_of.result
    (omega arith) c.requires.within (starts g h) (placed g h) in
    record {
      turn = (
        c.args.s,
        omega arith,
        turn_begins c.requires.kept (g.T.Chars.characters c.args.text.now) c.args.s c.len-len.ensures.text
            (get_or c.args.moves.now (c.args.start + c.place_of.result) 0) c.requires.within move,
      );
      read = omega (arith, c.char_at.ensures.step);
    }

pub stretch_from-over-requires : goal.stretch_from-over-requires
stretch_from-over-requires g c =
    let turn = c.reading.invariant.turn in
    let x : List ℕ = g.T.Chars.characters c.args.text.now in
    record {
      kept = c.requires.kept;
      onward = subst (λ n. IsOnward (table_of c.args.parts.now) x c.args.s n) (sym turn.1)
          (turn_onward c.requires.kept x c.args.s c.len-len.ensures.text turn.0 c.reading.next c.reading.end c.reading.end_row turn.2 c.if-next-ne-OTHER.true);
      base = move_place c.requires.kept x c.args.s c.len-len.ensures.text c.reading.at c.reading.next
          (subst (λ n. IsMoveTo (table_of c.args.parts.now) x c.args.s n c.reading.next) (sym turn.1) turn.2.move);
    }

pub bounds-moves-end_row : goal.bounds-moves-end_row
bounds-moves-end_row g c =
    inside_start c.requires.kept (g.T.Chars.characters c.args.text.now) c.args.s c.len-len.ensures.text c.stretch_from-over.result.end
    c.stretch_from-over.result.row c.stretch_from-over.ensures.row

pub returns-then-end-len : goal.returns-then-end-len
returns-then-end-len g c =
    let turn = c.reading.invariant.turn in
    let over = c.stretch_from-over.ensures in
    let whole : c.stretch_from-over.result.end ≡ length (g.T.Chars.characters c.args.text.now) = omega (arith, c.if-end-len.true, c.len-len.ensures.exact) in
    let finds = ends_last c.requires.kept (g.T.Chars.characters c.args.text.now) c.args.s c.len-len.ensures.text c.stretch_from-over.result.end over.onward
    c.requires.within whole in
    record {
      at = finds.at_is;
      status = ap (λ n. get_or c.args.moves.now n 0) over.row ∙ finds.list_is;
      look = omega (arith, finds.look_is, c.len-len.ensures.exact);
      read = omega (arith, finds.look_is, over.read, over.further, c.reading.invariant.read, turn.1, turn.2.from, turn.2.to, whole);
    }

-- the turn after a stretch
behind : (g : Over) (c : After-stretch_from-over g) → c.stretch_from-over.result.end < length (g.T.Chars.characters c.args.text.now) →
    IsTurn (table_of c.args.parts.now) (g.T.Chars.characters c.args.text.now) c.args.s c.stretch_from-over.result.end c.stretch_from-over.result.next
    c.stretch_from-over.result.end c.stretch_from-over.result.row
behind g c short =
    let over = c.stretch_from-over.ensures in
    let x : List ℕ = g.T.Chars.characters c.args.text.now in
    let end : ℕ = c.stretch_from-over.result.end in
    let move = subst (λ n. IsMoveTo (table_of c.args.parts.now) x c.args.s n c.stretch_from-over.result.next) (let e : end + 1 ≡ suc end = omega arith in e)
    (over.next short) in
    subst (λ n. IsTurn (table_of c.args.parts.now) x c.args.s end c.stretch_from-over.result.next end n) (sym over.row)
    (turn_behind c.requires.kept x c.args.s c.len-len.ensures.text end c.stretch_from-over.result.next over.onward short move)

pub returns-then-next-eq-STOP : goal.returns-then-next-eq-STOP
returns-then-next-eq-STOP g c =
    let turn = c.reading.invariant.turn in
    let over = c.stretch_from-over.ensures in
    let x : List ℕ = g.T.Chars.characters c.args.text.now in
    let end : ℕ = c.stretch_from-over.result.end in
    let short : end < length x = omega (arith, over.onward.to, c.if-end-len.false, c.len-len.ensures.exact) in
    let finds = stops_here c.requires.kept x c.args.s c.len-len.ensures.text end c.stretch_from-over.result.next end c.stretch_from-over.result.row
    (behind g (goal.at.returns-then-next-eq-STOP g c).After-stretch_from-over short) c.if-next-eq-STOP.true in
    let past = lt-ltb c.args.s end over.onward.from in
    record {
      at = sym (cond-true (ltb c.args.s end) end (c.args.s + 1) past) ∙ finds.at_is;
      status = sym (cond-true (ltb c.args.s end) (get_or c.args.moves.now c.stretch_from-over.result.row 0) 0 past) ∙ finds.list_is;
      look = omega (arith, finds.look_is);
      read = omega (arith, finds.look_is, over.read, over.further, c.reading.invariant.read, turn.1, turn.2.from, short);
    }

pub offset_bounds-moves-end_row-then-next-eq-STOP : goal.offset_bounds-moves-end_row-then-next-eq-STOP
offset_bounds-moves-end_row-then-next-eq-STOP g c =
    let inside = inside_start c.requires.kept (g.T.Chars.characters c.args.text.now) c.args.s c.len-len.ensures.text c.stretch_from-over.result.end
    c.stretch_from-over.result.row c.stretch_from-over.ensures.row in
    let small = c.requires.kept.in_moves.small in
    omega arith

pub bounds-moves-end_row-then-next-eq-STOP : goal.bounds-moves-end_row-then-next-eq-STOP
bounds-moves-end_row-then-next-eq-STOP g c =
    inside_start c.requires.kept (g.T.Chars.characters c.args.text.now) c.args.s c.len-len.ensures.text c.stretch_from-over.result.end
    c.stretch_from-over.result.row c.stretch_from-over.ensures.row

pub reading-preserved-else-next-eq-STOP : goal.reading-preserved-else-next-eq-STOP
reading-preserved-else-next-eq-STOP g c =
    let turn = c.reading.invariant.turn in
    let over = c.stretch_from-over.ensures in
    let end : ℕ = c.stretch_from-over.result.end in
    let short : end < length (g.T.Chars.characters c.args.text.now) = omega (arith, over.onward.to, c.if-end-len.false, c.len-len.ensures.exact) in
    record {
      turn = (end, omega arith, behind g (goal.at.reading-preserved-else-next-eq-STOP g c).After-stretch_from-over short);
      read = omega (arith, over.read, over.further, c.reading.invariant.read, turn.1, turn.2.from, short);
    }

pub offset_bounds-moves-end_row-then-next-eq-STOP-2 : goal.offset_bounds-moves-end_row-then-next-eq-STOP-2
offset_bounds-moves-end_row-then-next-eq-STOP-2 g c =
    let turn = c.reading.invariant.turn in
    let inside = inside_list c.requires.kept (g.T.Chars.characters c.args.text.now) c.args.s c.len-len.ensures.text turn.0 c.reading.end c.reading.end_row
    turn.2.ended in
    let small = c.requires.kept.in_moves.small in
    omega arith

pub bounds-moves-end_row-then-next-eq-STOP-2 : goal.bounds-moves-end_row-then-next-eq-STOP-2
bounds-moves-end_row-then-next-eq-STOP-2 g c =
    let turn = c.reading.invariant.turn in
    inside_list c.requires.kept (g.T.Chars.characters c.args.text.now) c.args.s c.len-len.ensures.text turn.0 c.reading.end c.reading.end_row turn.2.ended

pub returns-then-next-eq-STOP-2 : goal.returns-then-next-eq-STOP-2
returns-then-next-eq-STOP-2 g c =
    let turn = c.reading.invariant.turn in
    let finds = stops_here c.requires.kept (g.T.Chars.characters c.args.text.now) c.args.s c.len-len.ensures.text turn.0 c.reading.next c.reading.end
    c.reading.end_row turn.2 c.if-next-eq-STOP-2.true in
    record {
      at = c.longest.ensures.at ∙ finds.at_is;
      status = c.longest.ensures.status ∙ finds.list_is;
      look = omega (arith, c.longest.ensures.look, finds.look_is, turn.1);
      read = omega (arith, finds.look_is, c.reading.invariant.read, turn.1, turn.2.from, turn.2.to);
    }

pub offset_bounds-moves-end_row-then-at-len : goal.offset_bounds-moves-end_row-then-at-len
offset_bounds-moves-end_row-then-at-len g c =
    let turn = c.reading.invariant.turn in
    let inside = inside_list c.requires.kept (g.T.Chars.characters c.args.text.now) c.args.s c.len-len.ensures.text turn.0 c.reading.end c.reading.end_row
    turn.2.ended in
    let small = c.requires.kept.in_moves.small in
    omega arith

pub bounds-moves-end_row-then-at-len : goal.bounds-moves-end_row-then-at-len
bounds-moves-end_row-then-at-len g c =
    let turn = c.reading.invariant.turn in
    inside_list c.requires.kept (g.T.Chars.characters c.args.text.now) c.args.s c.len-len.ensures.text turn.0 c.reading.end c.reading.end_row turn.2.ended

pub returns-then-at-len : goal.returns-then-at-len
returns-then-at-len g c =
    let turn = c.reading.invariant.turn in
    let kind = c.if-next-ne-OTHER.false in
    let finds = text_ends c.requires.kept (g.T.Chars.characters c.args.text.now) c.args.s c.len-len.ensures.text turn.0 c.reading.next c.reading.end
    c.reading.end_row turn.2 c.if-next-ne-OTHER.false c.if-next-eq-STOP-2.false (omega (arith, turn.1, c.if-at-len.true, c.len-len.ensures.exact)) in
    record {
      at = c.longest-then-at-len.ensures.at ∙ finds.at_is;
      status = c.longest-then-at-len.ensures.status ∙ finds.list_is;
      look = omega (arith, c.longest-then-at-len.ensures.look, finds.look_is, c.len-len.ensures.exact);
      read = omega (arith, finds.look_is, c.reading.invariant.read, turn.1, turn.2.from, turn.2.to, c.if-at-len.true, c.len-len.ensures.exact);
    }

-- the place of a later character's move, where the row begins, and that both lie in the list
placed_on : (g : Over) (c : After-place_of-else-next-ne-OTHER g) →
    c.place_of-else-next-ne-OTHER.result ≡ in_block c.args.numbers.now c.args.kept.now (get_or (g.T.Chars.characters c.args.text.now) c.reading.at 0) + 1
placed_on g c = c.place_of-else-next-ne-OTHER.ensures ∙ ap (λ n. in_block c.args.numbers.now c.args.kept.now n + 1) c.char_at-else-next-ne-OTHER.ensures.character

low_on : (g : Over) (c : After-place_of-else-next-ne-OTHER g) → c.reading.at < length (g.T.Chars.characters c.args.text.now)
low_on g c =
    let turn = c.reading.invariant.turn in
    omega (arith, c.if-at-len.false, c.len-len.ensures.exact, turn.1, turn.2.to)

row_on : (g : Over) (c : After-place_of-else-next-ne-OTHER g) →
    c.reading.next / 4 * 4 ≡ row_at (table_of c.args.parts.now) (g.T.Chars.characters c.args.text.now) c.args.s c.reading.at * short_stride
    (table_of c.args.parts.now)
row_on g c =
    let turn = c.reading.invariant.turn in
    let x : List ℕ = g.T.Chars.characters c.args.text.now in
    move_place c.requires.kept x c.args.s c.len-len.ensures.text c.reading.at c.reading.next
    (subst (λ n. IsMoveTo (table_of c.args.parts.now) x c.args.s n c.reading.next) (sym turn.1) turn.2.move)

inside_on : (g : Over) (c : After-place_of-else-next-ne-OTHER g) → c.reading.next / 4 * 4 + c.place_of-else-next-ne-OTHER.result < length c.args.moves.now
inside_on g c =
    let x : List ℕ = g.T.Chars.characters c.args.text.now in
    inside_row c.requires.kept x c.args.s c.len-len.ensures.text (row_at (table_of c.args.parts.now) x c.args.s c.reading.at) (c.reading.next / 4 * 4)
    c.place_of-else-next-ne-OTHER.result c.reading.at (within_rows c.requires.kept x c.args.s c.len-len.ensures.text c.reading.at) (row_on g c) (low_on g c)
    (placed_on g c)

pub overflow_add-next-else-next-ne-OTHER : goal.overflow_add-next-else-next-ne-OTHER
overflow_add-next-else-next-ne-OTHER g c =
    let inside = inside_on g (goal.at.overflow_add-next-else-next-ne-OTHER g c).After-place_of-else-next-ne-OTHER in
    let small = c.requires.kept.in_moves.small in
    omega arith

pub offset_bounds-moves-row : goal.offset_bounds-moves-row
offset_bounds-moves-row g c =
    let inside = inside_on g (goal.at.offset_bounds-moves-row g c).After-place_of-else-next-ne-OTHER in
    let small = c.requires.kept.in_moves.small in
    omega arith

pub bounds-moves-row : goal.bounds-moves-row
bounds-moves-row g c = inside_on g (goal.at.bounds-moves-row g c).After-place_of-else-next-ne-OTHER

pub reading-preserved : goal.reading-preserved
reading-preserved g c =
    let h = (goal.at.reading-preserved g c).After-place_of-else-next-ne-OTHER in
    let turn = c.reading.invariant.turn in
    let x : List ℕ = g.T.Chars.characters c.args.text.now in
    let next : ℕ = get_or c.args.moves.now (c.reading.next / 4 * 4 + c.place_of-else-next-ne-OTHER.result) 0 in
    let move = move_read c.requires.kept x c.args.s c.len-len.ensures.text c.reading.at (c.reading.next / 4 * 4) c.place_of-else-next-ne-OTHER.result
    (omega (arith, turn.1, turn.2.from)) (low_on g h) (row_on g h) (placed_on g h) in
    record {
      turn = (
        c.reading.at,
        omega arith,
        subst (λ n. IsTurn (table_of c.args.parts.now) x c.args.s n next c.reading.end c.reading.end_row) (sym turn.1)
            (turn_on c.requires.kept x c.args.s c.len-len.ensures.text turn.0 c.reading.next next c.reading.end c.reading.end_row turn.2
            c.if-next-ne-OTHER.false c.if-next-eq-STOP-2.false (omega (arith, turn.1, low_on g h))
            (subst (λ n. IsMoveTo (table_of c.args.parts.now) x c.args.s (suc n) next) turn.1 move)),
      );
      read = omega (arith, c.char_at-else-next-ne-OTHER.ensures.step, c.reading.invariant.read, turn.1, turn.2.from);
    }
