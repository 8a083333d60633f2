use Rattle.std.proofs.Common.{◌≡◌, ℕ, suc, ◌+◌, ◌*◌, ◌/◌, ◌<◌, length, get_or, ap, ◌∙◌, subst, arith, cond, ltb}
use Rattle.rbbi_model.specs.Searches.{row_at}
use Rattle.rbbi_table.specs.Blocks.{in_block}
use Rattle.rbbi_table.specs.Short.{IsShortKept}
use Rattle.rbbi_table.specs.inner.Searching.{IsGoing}
use Rattle.rbbi_table.proofs.StepLemmas.{IsFound}
use Rattle.rbbi_table.proofs.ShortSearchLemmas.{IsTurn, inside_row, inside_list, within_rows, stops_here, goes_to, goes_ended, goes_plain, goes_last}
use Rattle.rbbi_table.proofs.ReadLemmas.{short_kept}
use Rattle.rbbi_table.proofs.read_search.ShortTable.read_on.Given.{Over}
use Rattle.rbbi_table.proofs.read_search.ShortTable.read_on.Goals as goal
use Rattle.rbbi_table.proofs.read_search.ShortTable.read_on.Goals.{After-loop-at, After-place_of-place}

keeps : (g : Over) (c : After-place_of-place g) →
    IsShortKept c.args.self.now c.self.inside.numbers.now c.self.inside.kept.now c.self.inside.moves.now c.self.inside.near.now
keeps g c =
    short_kept c.self.view_is c.self.invariant.0

-- the place of the character's move
placed : (g : Over) (c : After-place_of-place g) →
    c.place_of-place.result ≡ in_block c.self.inside.numbers.now c.self.inside.kept.now (get_or (g.T.Chars.characters c.args.text.now) c.loop-at.at 0) + 1
placed g c = c.place_of-place.ensures ∙ ap (λ n. in_block c.self.inside.numbers.now c.self.inside.kept.now n + 1) c.char_at.ensures.character

short : (g : Over) (c : After-place_of-place g) → c.loop-at.at < length (g.T.Chars.characters c.args.text.now)
short g c = omega (arith, c.loop-at-test.true, c.len-len.ensures.exact)

-- it lies in the list
inside : (g : Over) (c : After-place_of-place g) → c.loop-at.row + c.place_of-place.result < length c.self.inside.moves.now
inside g c =
    inside_row (keeps g c) (g.T.Chars.characters c.args.text.now) c.args.s c.len-len.ensures.text
    (row_at c.args.self.now (g.T.Chars.characters c.args.text.now) c.args.s c.loop-at.at) c.loop-at.row c.place_of-place.result c.loop-at.at
    (within_rows (keeps g c) (g.T.Chars.characters c.args.text.now) c.args.s c.len-len.ensures.text c.loop-at.at)
    c.loop-at.invariant.going.row_is (short g c) (placed g c)

-- the search moves on by a character
turn : (g : Over) (c : After-place_of-place g) →
    IsTurn c.args.self.now (g.T.Chars.characters c.args.text.now) c.args.s c.loop-at.at
    (get_or c.self.inside.moves.now (c.loop-at.row + c.place_of-place.result) 0) c.loop-at.end c.loop-at.end_row
turn g c =
    goes_to (keeps g c) (g.T.Chars.characters c.args.text.now) c.args.s c.len-len.ensures.text c.loop-at.at c.loop-at.row c.place_of-place.result
    c.loop-at.end c.loop-at.end_row c.loop-at.invariant.going (short g c) (placed g c)

-- the place of the row at which a rule ended last lies in the list too
inside_end : (g : Over) (c : After-place_of-place g) → c.loop-at.end_row < length c.self.inside.moves.now
inside_end g c =
    inside_list (keeps g c) (g.T.Chars.characters c.args.text.now) c.args.s c.len-len.ensures.text c.loop-at.at c.loop-at.end c.loop-at.end_row
    c.loop-at.invariant.going.ended

pub overflow_add-next : goal.overflow_add-next
overflow_add-next g c =
    let h = (goal.at.overflow_add-next g c).After-place_of-place in
    let low = inside g h in
    let small = (keeps g h).in_moves.small in
    omega arith

pub offset_bounds-moves-row : goal.offset_bounds-moves-row
offset_bounds-moves-row g c =
    let h = (goal.at.offset_bounds-moves-row g c).After-place_of-place in
    let low = inside g h in
    let small = (keeps g h).in_moves.small in
    omega arith

pub bounds-moves-row : goal.bounds-moves-row
bounds-moves-row g c = inside g (goal.at.bounds-moves-row g c).After-place_of-place

pub offset_bounds-moves-end_row : goal.offset_bounds-moves-end_row
offset_bounds-moves-end_row g c =
    let h = (goal.at.offset_bounds-moves-end_row g c).After-place_of-place in
    let low = inside_end g h in
    let small = (keeps g h).in_moves.small in
    omega arith

pub bounds-moves-end_row : goal.bounds-moves-end_row
bounds-moves-end_row g c = inside_end g (goal.at.bounds-moves-end_row g c).After-place_of-place

-- what is found where the search is over
stopped : (g : Over) (c : After-place_of-place g) → get_or c.self.inside.moves.now (c.loop-at.row + c.place_of-place.result) 0 ≡ 3 →
    IsFound c.args.self.now (g.T.Chars.characters c.args.text.now) c.args.s
    (cond (ltb c.args.s c.loop-at.end) c.loop-at.end (c.args.s + 1))
    (cond (ltb c.args.s c.loop-at.end) (get_or c.self.inside.moves.now c.loop-at.end_row 0) 0) (suc c.loop-at.at)
stopped g c is =
    stops_here (keeps g c) (g.T.Chars.characters c.args.text.now) c.args.s c.len-len.ensures.text c.loop-at.at
    (get_or c.self.inside.moves.now (c.loop-at.row + c.place_of-place.result) 0) c.loop-at.end c.loop-at.end_row (turn g c) is

pub returns-then-next-eq-STOP-clause-found : goal.returns-then-next-eq-STOP-clause-found
returns-then-next-eq-STOP-clause-found g c =
    let finds = stopped g (goal.at.returns-then-next-eq-STOP-clause-found g c).After-place_of-place c.if-next-eq-STOP.true in
    record {
      at_is = c.longest.ensures.at ∙ finds.at_is;
      status_is = c.longest.ensures.status ∙ finds.list_is;
      look_is = omega (arith, c.longest.ensures.look, finds.look_is);
    }

pub returns-then-next-eq-STOP-clause-read : goal.returns-then-next-eq-STOP-clause-read
returns-then-next-eq-STOP-clause-read g c =
    let h = (goal.at.returns-then-next-eq-STOP-clause-read g c).After-place_of-place in
    let finds = stopped g h c.if-next-eq-STOP.true in
    omega (arith, finds.look_is, c.char_at.ensures.step, c.loop-at.invariant.read, c.loop-at.invariant.further, short g h)

pub loop-at-preserved-then-next-ne-OTHER : goal.loop-at-preserved-then-next-ne-OTHER
loop-at-preserved-then-next-ne-OTHER g c =
    let h = (goal.at.loop-at-preserved-then-next-ne-OTHER g c).After-place_of-place in
    let next : ℕ = get_or c.self.inside.moves.now (c.loop-at.row + c.place_of-place.result) 0 in
    record {
      going = subst (λ n. IsGoing c.args.self.now (g.T.Chars.characters c.args.text.now) c.args.s n (next / 4 * 4) n (next / 4 * 4))
          (let e : suc c.loop-at.at ≡ c.loop-at.at + 1 = omega arith in e)
          (goes_ended (keeps g h) (g.T.Chars.characters c.args.text.now) c.args.s c.len-len.ensures.text c.loop-at.at next c.loop-at.end c.loop-at.end_row
          (turn g h) c.if-next-ne-OTHER.true);
      further = omega (arith, c.loop-at.invariant.further);
      read = omega (arith, c.char_at.ensures.step, c.loop-at.invariant.read, c.loop-at.invariant.further);
    }

pub loop-at-preserved : goal.loop-at-preserved
loop-at-preserved g c =
    let h = (goal.at.loop-at-preserved g c).After-place_of-place in
    let next : ℕ = get_or c.self.inside.moves.now (c.loop-at.row + c.place_of-place.result) 0 in
    record {
      going = subst (λ n. IsGoing c.args.self.now (g.T.Chars.characters c.args.text.now) c.args.s n (next / 4 * 4) c.loop-at.end c.loop-at.end_row)
          (let e : suc c.loop-at.at ≡ c.loop-at.at + 1 = omega arith in e)
          (goes_plain (keeps g h) (g.T.Chars.characters c.args.text.now) c.args.s c.len-len.ensures.text c.loop-at.at next c.loop-at.end c.loop-at.end_row
          (turn g h) c.if-next-ne-OTHER.false c.if-next-eq-STOP.false);
      further = omega (arith, c.loop-at.invariant.further);
      read = omega (arith, c.char_at.ensures.step, c.loop-at.invariant.read, c.loop-at.invariant.further);
    }

kept_here : (g : Over) (c : After-loop-at g) →
    IsShortKept c.args.self.now c.self.inside.numbers.now c.self.inside.kept.now c.self.inside.moves.now c.self.inside.near.now
kept_here g c =
    short_kept c.self.view_is c.self.invariant.0

inside_last : (g : Over) (c : After-loop-at g) → c.loop-at.end_row < length c.self.inside.moves.now
inside_last g c =
    inside_list (kept_here g c) (g.T.Chars.characters c.args.text.now) c.args.s c.len-len.ensures.text c.loop-at.at c.loop-at.end c.loop-at.end_row
    c.loop-at.invariant.going.ended

pub offset_bounds-moves-end_row-2 : goal.offset_bounds-moves-end_row-2
offset_bounds-moves-end_row-2 g c =
    let h = (goal.at.offset_bounds-moves-end_row-2 g c).After-loop-at in
    let low = inside_last g h in
    let small = (kept_here g h).in_moves.small in
    omega arith

pub bounds-moves-end_row-2 : goal.bounds-moves-end_row-2
bounds-moves-end_row-2 g c = inside_last g (goal.at.bounds-moves-end_row-2 g c).After-loop-at

-- what is found where the text ends
ended : (g : Over) (c : After-loop-at g) →
    IsFound c.args.self.now (g.T.Chars.characters c.args.text.now) c.args.s
    (cond (ltb c.args.s c.loop-at.end) c.loop-at.end (c.args.s + 1))
    (cond (ltb c.args.s c.loop-at.end) (get_or c.self.inside.moves.now c.loop-at.end_row 0) 0) (length (g.T.Chars.characters c.args.text.now) + 1)
ended g c =
    goes_last (kept_here g c) (g.T.Chars.characters c.args.text.now) c.args.s c.len-len.ensures.text c.loop-at.at c.loop-at.row c.loop-at.end
    c.loop-at.end_row c.loop-at.invariant.going c.requires.within
    (omega (arith, c.loop-at-test.false, c.len-len.ensures.exact, c.loop-at.invariant.going.to))

pub returns-clause-found : goal.returns-clause-found
returns-clause-found g c =
    let finds = ended g (goal.at.returns-clause-found g c).After-loop-at in
    record {
      at_is = c.longest-2.ensures.at ∙ finds.at_is;
      status_is = c.longest-2.ensures.status ∙ finds.list_is;
      look_is = omega (arith, c.longest-2.ensures.look, finds.look_is, c.len-len.ensures.exact);
    }

pub returns-clause-read : goal.returns-clause-read
returns-clause-read g c =
    let finds = ended g (goal.at.returns-clause-read g c).After-loop-at in
    omega (
      arith,
      finds.look_is,
      c.loop-at.invariant.read,
      c.loop-at.invariant.further,
      c.loop-at.invariant.going.to,
      c.loop-at-test.false,
      c.len-len.ensures.exact,
    )
