use Rattle.std.proofs.Common.{◌+◌, ℕ, length, Vec, Global, sym, ap, ◌∙◌, subst}
use Rattle.std.proofs.lemmas.List.{map_push}
use Rattle.rbbi_positions.specs.PositionMarks.{readers_in}
use Rattle.rbbi_bits.specs.NumberedRows.{items_of}
use Rattle.rbbi_dfa.specs.inner.MarkedRows.{AreRowsIn}
use Rattle.rbbi_dfa.proofs.MarkedLists.{rows_more}
use Rattle.rbbi_dfa.proofs.determinize.rows_of.read_rows.Goals as goal

pub loop-category-preserved : goal.loop-category-preserved
loop-category-preserved c =
    let pushed = ap items_of c.in_ok-push.ensures.items ∙ map_push (λ (v : Vec ℕ Global). v.items) c.loop-category.rows.items c.in_ok-words.words in
    let copied = c.in_ok-words.ensures.items_if_clones_equal (λ x y e. e) in
    subst (AreRowsIn c.args.positions.now.words (c.loop-category.category + 1) (readers_in c.args.positions.now)) (sym pushed)
    (rows_more c.args.positions.now.words (readers_in c.args.positions.now) (items_of c.loop-category.rows.items) c.in_ok-words.words.items
    c.loop-category.category
    c.loop-category.invariant (ap length copied ∙ c.readers.ensures.wide) (copied ∙ c.readers.ensures.row))
