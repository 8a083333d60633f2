use Rattle.std.proofs.Common.{suc, ◌+◌, refl, ◌∙◌, arith}
use Rattle.rbbi_table.specs.Parts.{table_of}
use Rattle.rbbi_table.proofs.SearchLemmas.{search_start}
use Rattle.rbbi_table.proofs.StepLemmas.{IsStep, IsEndRead, step_reads, end_read, ends_here, ends_before, noted_yes, noted_no, goes_on, cuts, matches}
use Rattle.rbbi_table.proofs.StepLemmas.{matches_last}
use Rattle.rbbi_table.proofs.search.search.Given.{Over}
use Rattle.rbbi_table.proofs.search.search.Goals as goal
use Rattle.rbbi_table.proofs.search.search.Goals.{After-look_up-category, Joined-cell-eq1, After-loop-at}
use Rattle.rbbi_table.proofs.search.search.Goals.{then-cell-eq1, else-cell-eq1, then-cell-eq1-2, else-cell-eq1-2}

-- what a turn of the loop reads
turn : (g : Over) (c : After-look_up-category g) →
    IsStep (table_of c.args.parts.now) c.args.moves.now (g.T.Chars.characters c.args.text.now) c.args.s c.loop-at.at c.loop-at.row c.look_up-category.result
turn g c = step_reads c.requires.kept c.look_up-category.result c.len-len.ensures.text c.loop-at.invariant.searched (omega arith) cc

-- the last end after the turn's character
last : (g : Over) (c : Joined-cell-eq1 g) →
    IsStep (table_of c.args.parts.now) c.args.moves.now (g.T.Chars.characters c.args.text.now) c.args.s c.loop-at.at c.loop-at.row c.look_up-category.result →
    IsEndRead (table_of c.args.parts.now) c.args.moves.now (g.T.Chars.characters c.args.text.now) c.args.s (suc c.loop-at.at) c.if-cell-eq1.end
    c.if-cell-eq1.end_row
last g c one = elim c.if-cell-eq1.branch [
  | then-cell-eq1 w ↦ ends_here c.requires.kept c.loop-at.invariant.searched one w.if-cell-eq1.true w.end-is w.end_row-is
  | else-cell-eq1 w ↦ ends_before c.requires.kept c.loop-at.invariant.searched one w.if-cell-eq1.false w.end-is w.end_row-is
]

-- the last end at the text's end
last_of_all : (g : Over) (c : After-loop-at g) →
    IsEndRead (table_of c.args.parts.now) c.args.moves.now (g.T.Chars.characters c.args.text.now) c.args.s c.loop-at.at c.loop-at.end c.loop-at.end_row
last_of_all g c = end_read c.requires.kept c.loop-at.invariant.searched.ended

pub loop-at-init : goal.loop-at-init
loop-at-init g c = record {
  places = c.requires.fit;
  searched = search_start (table_of c.args.parts.now) (g.T.Chars.characters c.args.text.now) c.args.s
      (c.args.parts.now.categories + 3) c.args.places.now c.requires.within refl;
  read = omega arith;
}

pub overflow_add-cell : goal.overflow_add-cell
overflow_add-cell g c = let one = turn g (goal.at.overflow_add-cell g c).After-look_up-category in omega arith

pub offset_bounds-moves-row : goal.offset_bounds-moves-row
offset_bounds-moves-row g c = let one = turn g (goal.at.offset_bounds-moves-row g c).After-look_up-category in omega arith

pub bounds-moves-row : goal.bounds-moves-row
bounds-moves-row g c = (turn g (goal.at.bounds-moves-row g c).After-look_up-category).inside

pub bounds-moves-row-then-cell-eq1-2 : goal.bounds-moves-row-then-cell-eq1-2
bounds-moves-row-then-cell-eq1-2 g c = let one = turn g (goal.at.bounds-moves-row-then-cell-eq1-2 g c).After-look_up-category in omega arith

pub note-requires-clause-fronts : goal.note-requires-clause-fronts
note-requires-clause-fronts g c =
    let one = turn g (goal.at.note-requires-clause-fronts g c).After-look_up-category in
    rw (one.head.fronts, c.loop-at.invariant.places) one.valid.fronts

pub bounds-moves-row-then-cell-eq1-3 : goal.bounds-moves-row-then-cell-eq1-3
bounds-moves-row-then-cell-eq1-3 g c = let one = turn g (goal.at.bounds-moves-row-then-cell-eq1-3 g c).After-look_up-category in omega arith

pub bounds-places-accept : goal.bounds-places-accept
bounds-places-accept g c =
    let one = turn g (goal.at.bounds-places-accept g c).After-look_up-category in
    omega (arith, one.head.accept, one.valid.accept, c.if-cell-eq1-2.auto.places, c.loop-at.invariant.places)

pub overflow_cast-result-then-accept-ge2 : goal.overflow_cast-result-then-accept-ge2
overflow_cast-result-then-accept-ge2 g c =
    let one = turn g (goal.at.overflow_cast-result-then-accept-ge2 g c).After-look_up-category in
    omega arith

pub returns-then-accept-ge2 : goal.returns-then-accept-ge2
returns-then-accept-ge2 g c =
    let searched = c.loop-at.invariant.searched in
    let one = turn g (goal.at.returns-then-accept-ge2 g c).After-look_up-category in
    let cut = cuts c.requires.kept searched one c.if-cell-eq1-2.places c.requires.within c.if-cell-eq1-3.true c.if-accept-ge2.true
    (λ isnt. elim c.if-cell-eq1-2.branch [ then-cell-eq1-2 w ↦ absurd (isnt w.if-cell-eq1-2.true) | else-cell-eq1-2 w ↦ w.places-is ]) in
    record {
      at = cut.at_is;
      status = cut.list_is;
      look = omega (arith, cut.look_is);
      read = omega (arith, cut.look_is, c.char_at.ensures.step, c.loop-at.invariant.read, searched.from, one.short);
    }

pub overflow_add-end_row : goal.overflow_add-end_row
overflow_add-end_row g c =
    let h = goal.at.overflow_add-end_row g c in
    let end = last g h.Joined-cell-eq1 (turn g h.After-look_up-category) in
    omega arith

pub overflow_add-end_row-then-cell-eq1-3 : goal.overflow_add-end_row-then-cell-eq1-3
overflow_add-end_row-then-cell-eq1-3 g c =
    let h = goal.at.overflow_add-end_row-then-cell-eq1-3 g c in
    let end = last g h.Joined-cell-eq1 (turn g h.After-look_up-category) in
    omega arith

pub offset_bounds-moves-end_row : goal.offset_bounds-moves-end_row
offset_bounds-moves-end_row g c =
    let h = goal.at.offset_bounds-moves-end_row g c in
    let end = last g h.Joined-cell-eq1 (turn g h.After-look_up-category) in
    omega arith

pub bounds-moves-end_row : goal.bounds-moves-end_row
bounds-moves-end_row g c =
    let h = goal.at.bounds-moves-end_row g c in
    let end = last g h.Joined-cell-eq1 (turn g h.After-look_up-category) in
    omega arith

pub overflow_cast-moves : goal.overflow_cast-moves
overflow_cast-moves g c =
    let h = goal.at.overflow_cast-moves g c in
    let end = last g h.Joined-cell-eq1 (turn g h.After-look_up-category) in
    omega arith

pub returns-then-cell-eq1-3 : goal.returns-then-cell-eq1-3
returns-then-cell-eq1-3 g c =
    let h = goal.at.returns-then-cell-eq1-3 g c in
    let searched = c.loop-at.invariant.searched in
    let one = turn g h.After-look_up-category in
    let match = matches c.requires.kept searched one c.if-cell-eq1-3.true c.if-accept-ge2.false (last g h.Joined-cell-eq1 one) in
    record {
      at = c.longest.ensures.at ∙ match.at_is;
      status = c.longest.ensures.status ∙ match.list_is;
      look = omega (arith, c.longest.ensures.look, match.look_is);
      read = omega (arith, match.look_is, c.char_at.ensures.step, c.loop-at.invariant.read, searched.from, one.short);
    }

pub loop-at-preserved : goal.loop-at-preserved
loop-at-preserved g c =
    let h = goal.at.loop-at-preserved g c in
    let searched = c.loop-at.invariant.searched in
    let one = turn g h.After-look_up-category in
    record {
      places = omega (arith, c.if-cell-eq1-2.auto.places, c.loop-at.invariant.places);
      searched = goes_on c.requires.kept searched one c.if-cell-eq1-3.false (last g h.Joined-cell-eq1 one) (elim c.if-cell-eq1-2.branch [
        | then-cell-eq1-2 w ↦ noted_yes c.requires.kept searched one w.note.new.places c.if-cell-eq1-2.places w.note.ensures
            (omega (arith, w.note.auto.places, c.loop-at.invariant.places)) w.places-is
        | else-cell-eq1-2 w ↦ noted_no c.requires.kept searched one c.if-cell-eq1-2.places w.if-cell-eq1-2.false w.places-is
      ]);
      read = omega (arith, c.char_at.ensures.step, c.loop-at.invariant.read, searched.from);
    }

pub overflow_add-end_row-2 : goal.overflow_add-end_row-2
overflow_add-end_row-2 g c = let end = last_of_all g (goal.at.overflow_add-end_row-2 g c).After-loop-at in omega arith

pub overflow_add-end_row-3 : goal.overflow_add-end_row-3
overflow_add-end_row-3 g c = let end = last_of_all g (goal.at.overflow_add-end_row-3 g c).After-loop-at in omega arith

pub offset_bounds-moves-end_row-2 : goal.offset_bounds-moves-end_row-2
offset_bounds-moves-end_row-2 g c = let end = last_of_all g (goal.at.offset_bounds-moves-end_row-2 g c).After-loop-at in omega arith

pub bounds-moves-end_row-2 : goal.bounds-moves-end_row-2
bounds-moves-end_row-2 g c = let end = last_of_all g (goal.at.bounds-moves-end_row-2 g c).After-loop-at in omega arith

pub overflow_cast-moves-2 : goal.overflow_cast-moves-2
overflow_cast-moves-2 g c = let end = last_of_all g (goal.at.overflow_cast-moves-2 g c).After-loop-at in omega arith

pub returns : goal.returns
returns g c =
    let searched = c.loop-at.invariant.searched in
    let match = matches_last searched (last_of_all g (goal.at.returns g c).After-loop-at) c.requires.within
    (omega (arith, searched.to, c.loop-at-test.false, c.len-len.ensures.exact)) in
    record {
      at = c.longest-2.ensures.at ∙ match.at_is;
      status = c.longest-2.ensures.status ∙ match.list_is;
      look = omega (arith, c.longest-2.ensures.look, match.look_is, c.len-len.ensures.exact);
      read = omega (arith, match.look_is, c.loop-at.invariant.read, searched.from, searched.to, c.loop-at-test.false, c.len-len.ensures.exact);
    }
