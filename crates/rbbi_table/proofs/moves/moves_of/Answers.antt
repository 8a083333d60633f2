use Rattle.std.proofs.Common.{ℕ, ◌+◌, [], ◌++◌, List, length, sym, subst}
use Rattle.std.proofs.lemmas.List.{get_or_read}
use Rattle.rbbi_model.specs.Tables.{RowHead, empty_head}
use Rattle.rbbi_table.specs.Parts.{rows_of}
use Rattle.rbbi_table.specs.Kept.{AreFirstMoves}
use Rattle.rbbi_table.specs.inner.Moves.{row_moves}
use Rattle.rbbi_table.proofs.MoveLemmas.{push_moves, steps_of}
use Rattle.rbbi_table.proofs.moves.moves_of.Goals as goal

pub loop-row-preserved : goal.loop-row-preserved
loop-row-preserved c =
    let rows : List RowHead = c.args.rows.now in
    let row : ℕ = c.loop-row.row in
    let own : List ℕ = steps_of c.args.categories c.args.cells.now row in
    let read = get_or_read rows row c.index-rows-row.result c.loop-row-test.true c.index-rows-row.is empty_head in
    subst (λ (l : List ℕ). AreFirstMoves (rows_of c.args.categories rows c.args.cells.now []) l (row + 1)) (sym c.in_ok-push_row.ensures)
    (subst (λ (h : RowHead). AreFirstMoves (rows_of c.args.categories rows c.args.cells.now [])
    (c.loop-row.moves.items ++ row_moves (length own + 3) rows own h) (row + 1)) (sym read)
    (push_moves c.args.categories rows c.args.cells.now c.loop-row.moves.items row c.requires.steps c.loop-row-test.true c.loop-row.invariant))
