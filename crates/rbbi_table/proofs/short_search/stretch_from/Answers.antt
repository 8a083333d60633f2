use Rattle.std.proofs.Common.{◌≡◌, ℕ, suc, ◌+◌, ◌<◌, length, get_or, refl, ap, ◌∙◌, subst, inl, inr, arith}
use Rattle.rbbi_model.specs.Searches.{row_at}
use Rattle.rbbi_table.specs.Parts.{table_of}
use Rattle.rbbi_table.specs.Blocks.{in_block}
use Rattle.rbbi_table.specs.inner.Searching.{IsMoveTo}
use Rattle.rbbi_table.proofs.ShortSearchLemmas.{IsStretch, inside_row, move_read, stretch_begins, stretch_on, within_rows}
use Rattle.rbbi_table.proofs.short_search.stretch_from.Given.{Over}
use Rattle.rbbi_table.proofs.short_search.stretch_from.Goals as goal
use Rattle.rbbi_table.proofs.short_search.stretch_from.Goals.{After-place_of-place}

-- the place of the character's move
placed : (g : Over) (c : After-place_of-place g) →
    c.place_of-place.result ≡ in_block c.args.numbers.now c.args.kept.now (get_or (g.T.Chars.characters c.args.text.now) c.loop-end.end 0) + 1
placed g c = c.place_of-place.ensures ∙ ap (λ n. in_block c.args.numbers.now c.args.kept.now n + 1) c.char_at.ensures.character

low_end : (g : Over) (c : After-place_of-place g) → c.loop-end.end < length (g.T.Chars.characters c.args.text.now)
low_end g c = omega (arith, c.loop-end-test.true, c.len-len.ensures.exact)

inside_base : (g : Over) (c : After-place_of-place g) → c.args.base + c.place_of-place.result < length c.args.moves.now
inside_base g c =
    inside_row c.requires.kept (g.T.Chars.characters c.args.text.now) c.args.s c.len-len.ensures.text
    (row_at (table_of c.args.parts.now) (g.T.Chars.characters c.args.text.now) c.args.s c.args.at) c.args.base c.place_of-place.result c.loop-end.end
    (within_rows c.requires.kept (g.T.Chars.characters c.args.text.now) c.args.s c.len-len.ensures.text c.args.at)
    c.requires.base (low_end g c) (placed g c)

inside_own : (g : Over) (c : After-place_of-place g) → c.loop-end.row + c.place_of-place.result < length c.args.moves.now
inside_own g c =
    inside_row c.requires.kept (g.T.Chars.characters c.args.text.now) c.args.s c.len-len.ensures.text
    (row_at (table_of c.args.parts.now) (g.T.Chars.characters c.args.text.now) c.args.s c.loop-end.end) c.loop-end.row c.place_of-place.result c.loop-end.end
    (within_rows c.requires.kept (g.T.Chars.characters c.args.text.now) c.args.s c.len-len.ensures.text c.loop-end.end)
    c.loop-end.invariant.over.row_is (low_end g c) (placed g c)

pub loop-end-init : goal.loop-end-init
loop-end-init g c = record {
  over = stretch_begins c.requires.kept (g.T.Chars.characters c.args.text.now) c.args.s c.len-len.ensures.text c.args.at c.args.base c.requires.onward
      c.requires.base;
  read = omega arith;
}

pub overflow_add-next : goal.overflow_add-next
overflow_add-next g c =
    let inside = inside_base g (goal.at.overflow_add-next g c).After-place_of-place in
    let small = c.requires.kept.in_moves.small in
    omega arith

pub offset_bounds-moves-base : goal.offset_bounds-moves-base
offset_bounds-moves-base g c =
    let inside = inside_base g (goal.at.offset_bounds-moves-base g c).After-place_of-place in
    let small = c.requires.kept.in_moves.small in
    omega arith

pub bounds-moves-base : goal.bounds-moves-base
bounds-moves-base g c = inside_base g (goal.at.bounds-moves-base g c).After-place_of-place

pub overflow_add-next-then-next-eq1 : goal.overflow_add-next-then-next-eq1
overflow_add-next-then-next-eq1 g c =
    let inside = inside_own g (goal.at.overflow_add-next-then-next-eq1 g c).After-place_of-place in
    let small = c.requires.kept.in_moves.small in
    omega arith

pub offset_bounds-moves-row : goal.offset_bounds-moves-row
offset_bounds-moves-row g c =
    let inside = inside_own g (goal.at.offset_bounds-moves-row g c).After-place_of-place in
    let small = c.requires.kept.in_moves.small in
    omega arith

pub bounds-moves-row : goal.bounds-moves-row
bounds-moves-row g c = inside_own g (goal.at.bounds-moves-row g c).After-place_of-place

pub returns-then-next-eq1 : goal.returns-then-next-eq1
returns-then-next-eq1 g c =
    let h = (goal.at.returns-then-next-eq1 g c).After-place_of-place in
    let over = c.loop-end.invariant.over in
    let move = move_read c.requires.kept (g.T.Chars.characters c.args.text.now) c.args.s c.len-len.ensures.text c.loop-end.end c.loop-end.row
    c.place_of-place.result (omega (arith, over.onward.from)) (low_end g h) over.row_is (placed g h) in
    record {
      onward = over.onward;
      row = over.row_is;
      further = over.further;
      next = λ short.
          subst (λ n. IsMoveTo (table_of c.args.parts.now) (g.T.Chars.characters c.args.text.now) c.args.s n
          (get_or c.args.moves.now (c.loop-end.row + c.place_of-place.result) 0)) (let e : suc c.loop-end.end ≡ c.loop-end.end + 1 = omega arith in e) move;
      read = omega (arith, c.char_at.ensures.step, c.loop-end.invariant.read, over.further, low_end g h);
    }

pub loop-end-preserved-then-next-eq1-2 : goal.loop-end-preserved-then-next-eq1-2
loop-end-preserved-then-next-eq1-2 g c =
    let h = (goal.at.loop-end-preserved-then-next-eq1-2 g c).After-place_of-place in
    let over = c.loop-end.invariant.over in
    record {
      over = subst (λ n. IsStretch (table_of c.args.parts.now) c.args.moves.now (g.T.Chars.characters c.args.text.now) c.args.s c.args.at n c.loop-end.row)
          (let e : suc c.loop-end.end ≡ c.loop-end.end + 1 = omega arith in e)
          (stretch_on c.requires.kept (g.T.Chars.characters c.args.text.now) c.args.s c.len-len.ensures.text c.args.at c.loop-end.end c.loop-end.row
          c.loop-end.row
          c.args.base c.place_of-place.result over (low_end g h) c.requires.base (placed g h) c.if-next-eq1.false (inl (c.if-next-eq1-2.true, refl)));
      read = omega (arith, c.char_at.ensures.step, c.loop-end.invariant.read, over.further);
    }

pub loop-end-preserved : goal.loop-end-preserved
loop-end-preserved g c =
    let h = (goal.at.loop-end-preserved g c).After-place_of-place in
    let over = c.loop-end.invariant.over in
    let next : ℕ = get_or c.args.moves.now (c.args.base + c.place_of-place.result) 0 in
    record {
      over = subst (λ n. IsStretch (table_of c.args.parts.now) c.args.moves.now (g.T.Chars.characters c.args.text.now) c.args.s c.args.at n next)
          (let e : suc c.loop-end.end ≡ c.loop-end.end + 1 = omega arith in e)
          (stretch_on c.requires.kept (g.T.Chars.characters c.args.text.now) c.args.s c.len-len.ensures.text c.args.at c.loop-end.end c.loop-end.row next
          c.args.base c.place_of-place.result over (low_end g h) c.requires.base (placed g h) c.if-next-eq1.false (inr (c.if-next-eq1-2.false, refl)));
      read = omega (arith, c.char_at.ensures.step, c.loop-end.invariant.read, over.further);
    }

pub returns : goal.returns
returns g c =
    let over = c.loop-end.invariant.over in
    record {
      onward = over.onward;
      row = over.row_is;
      further = over.further;
      next = λ short. absurd (omega (arith, short, c.loop-end-test.false, c.len-len.ensures.exact));
      read = omega (arith, c.loop-end.invariant.read, over.further, over.onward.to, c.loop-end-test.false, c.len-len.ensures.exact);
    }
