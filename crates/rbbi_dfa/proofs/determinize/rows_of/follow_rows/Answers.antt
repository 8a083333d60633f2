use Rattle.std.proofs.Common.{◌+◌, ◌++◌, ◌∷◌, [], ℕ, List, length, sym, ap, ◌∙◌, subst}
use Rattle.rbbi_positions.specs.PositionMarks.{followers_in}
use Rattle.rbbi_dfa.specs.inner.MarkedRows.{AreRowsIn}
use Rattle.rbbi_dfa.proofs.MarkedLists.{rows_more}
use Rattle.rbbi_dfa.proofs.determinize.rows_of.follow_rows.Goals as goal

pub loop-before-preserved : goal.loop-before-preserved
loop-before-preserved c =
    let rows : List (List ℕ) = c.loop-before.rows.items in
    let pushed = c.in_ok-push.ensures.items ∙ ap (λ (row : List ℕ). rows ++ row ∷ []) c.new.ensures in
    let copied = c.in_ok-words.ensures.items_if_clones_equal (λ x y e. e) in
    subst (AreRowsIn c.args.positions.now.words (c.loop-before.before + 1) (followers_in c.args.positions.now)) (sym pushed)
    (rows_more c.args.positions.now.words (followers_in c.args.positions.now) rows c.in_ok-words.words.items c.loop-before.before c.loop-before.invariant
    (ap length copied ∙ c.followers.ensures.wide) (copied ∙ c.followers.ensures.row))
