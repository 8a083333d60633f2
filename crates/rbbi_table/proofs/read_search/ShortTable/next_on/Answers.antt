use Rattle.std.proofs.Common.{◌+◌, ◌<◌, length, get_or, ap, ◌∙◌, arith}
use Rattle.rbbi_model.specs.Tables.{Table}
use Rattle.rbbi_table.specs.Short.{IsShortKept, short_stride}
use Rattle.rbbi_table.proofs.ShortSearchLemmas.{IsTurn, inside_list, stops_here}
use Rattle.rbbi_table.proofs.ReadLemmas.{short_kept, reading_begins, inside_reading, turn_read, reading_ends, reading_on}
use Rattle.rbbi_table.proofs.read_search.ShortTable.next_on.Given.{Over}
use Rattle.rbbi_table.proofs.read_search.ShortTable.next_on.Goals as goal
use Rattle.rbbi_table.proofs.read_search.ShortTable.next_on.Goals.{In-loop-at}

keeps : (g : Over) (c : In-loop-at g) →
    IsShortKept c.args.self.now c.self.inside.numbers.now c.self.inside.kept.now c.self.inside.moves.now c.self.inside.near.now
keeps g c =
    short_kept c.self.view_is c.self.invariant.0

-- the place of the move that is read lies in the list
inside : (g : Over) (c : In-loop-at g) → c.loop-at.row + (get_or c.args.categories.now c.loop-at.at 0 + 1) < length c.self.inside.moves.now
inside g c =
    inside_reading (keeps g c) (g.T.Chars.characters c.args.text.now) c.args.from c.args.s c.len-len.ensures.text c.requires.read
    c.loop-at.at c.loop-at.row c.loop-at.end c.loop-at.end_row c.loop-at-test.true c.loop-at.invariant

-- the search moves on by a character
turn : (g : Over) (c : In-loop-at g) →
    IsTurn c.args.self.now (g.T.Chars.characters c.args.text.now) c.args.s (c.args.from + c.loop-at.at)
    (get_or c.self.inside.moves.now (c.loop-at.row + (get_or c.args.categories.now c.loop-at.at 0 + 1)) 0) (c.args.from + c.loop-at.end)
    c.loop-at.end_row
turn g c =
    turn_read (keeps g c) (g.T.Chars.characters c.args.text.now) c.args.from c.args.s c.len-len.ensures.text c.requires.read
    c.loop-at.at c.loop-at.row c.loop-at.end c.loop-at.end_row c.loop-at-test.true c.loop-at.invariant

-- the place of the row at which a rule ended last lies in the list too
inside_end : (g : Over) (c : In-loop-at g) → c.loop-at.end_row < length c.self.inside.moves.now
inside_end g c =
    inside_list (keeps g c) (g.T.Chars.characters c.args.text.now) c.args.s c.len-len.ensures.text (c.args.from + c.loop-at.at)
    (c.args.from + c.loop-at.end) c.loop-at.end_row c.loop-at.invariant.going.ended

pub loop-at-init : goal.loop-at-init
loop-at-init g c =
    let kept = short_kept c.self.view_is c.self.invariant.0 in
    reading_begins kept (g.T.Chars.characters c.args.text.now) c.args.from c.args.s c.len-len.ensures.text c.self.inside.start c.requires.behind
    c.requires.within (c.self.invariant.1 ∙ ap (λ (t : Table). short_stride t) c.self.view_is)

pub overflow_add-next-in-loop-at : goal.overflow_add-next-in-loop-at
overflow_add-next-in-loop-at g c =
    let h = (goal.at.overflow_add-next-in-loop-at g c).In-loop-at in
    let low = inside g h in
    let small = (keeps g h).in_moves.small in
    omega arith

pub offset_bounds-moves-row : goal.offset_bounds-moves-row
offset_bounds-moves-row g c =
    let h = (goal.at.offset_bounds-moves-row g c).In-loop-at in
    let low = inside g h in
    let small = (keeps g h).in_moves.small in
    omega arith

pub bounds-moves-row : goal.bounds-moves-row
bounds-moves-row g c = inside g (goal.at.bounds-moves-row g c).In-loop-at

pub offset_bounds-moves-end_row : goal.offset_bounds-moves-end_row
offset_bounds-moves-end_row g c =
    let h = (goal.at.offset_bounds-moves-end_row g c).In-loop-at in
    let low = inside_end g h in
    let small = (keeps g h).in_moves.small in
    omega arith

pub bounds-moves-end_row : goal.bounds-moves-end_row
bounds-moves-end_row g c = inside_end g (goal.at.bounds-moves-end_row g c).In-loop-at

pub returns-then-next-eq-STOP-clause-found : goal.returns-then-next-eq-STOP-clause-found
returns-then-next-eq-STOP-clause-found g c =
    let h = (goal.at.returns-then-next-eq-STOP-clause-found g c).In-loop-at in
    let finds = stops_here (keeps g h) (g.T.Chars.characters c.args.text.now) c.args.s c.len-len.ensures.text (c.args.from + c.loop-at.at)
    (get_or c.self.inside.moves.now (c.loop-at.row + (get_or c.args.categories.now c.loop-at.at 0 + 1)) 0) (c.args.from + c.loop-at.end)
    c.loop-at.end_row (turn g h) c.if-next-eq-STOP.true in
    record {
      at_is = c.longest.ensures.at ∙ finds.at_is;
      status_is = c.longest.ensures.status ∙ finds.list_is;
      look_is = omega (arith, c.longest.ensures.look, finds.look_is);
    }

pub loop-at-preserved-then-next-ne-OTHER : goal.loop-at-preserved-then-next-ne-OTHER
loop-at-preserved-then-next-ne-OTHER g c =
    let h = (goal.at.loop-at-preserved-then-next-ne-OTHER g c).In-loop-at in
    reading_ends (keeps g h) (g.T.Chars.characters c.args.text.now) c.args.from c.args.s c.len-len.ensures.text c.loop-at.at
    (get_or c.self.inside.moves.now (c.loop-at.row + (get_or c.args.categories.now c.loop-at.at 0 + 1)) 0) c.loop-at.end c.loop-at.end_row
    (turn g h) c.if-next-ne-OTHER.true

pub loop-at-preserved : goal.loop-at-preserved
loop-at-preserved g c =
    let h = (goal.at.loop-at-preserved g c).In-loop-at in
    reading_on (keeps g h) (g.T.Chars.characters c.args.text.now) c.args.from c.args.s c.len-len.ensures.text c.loop-at.at
    (get_or c.self.inside.moves.now (c.loop-at.row + (get_or c.args.categories.now c.loop-at.at 0 + 1)) 0) c.loop-at.end c.loop-at.end_row
    (turn g h) c.if-next-ne-OTHER.false c.if-next-eq-STOP.false c.loop-at.invariant.low
