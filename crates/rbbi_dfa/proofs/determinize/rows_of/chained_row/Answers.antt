use Rattle.std.proofs.Common.{◌+◌, ℕ, List, sym, ◌∙◌, subst, arith}
use Rattle.rbbi_dfa.proofs.MarkedLists.{IsChainedUpTo, chained_takes, chained_stays}
use Rattle.rbbi_dfa.proofs.determinize.rows_of.chained_row.Goals as goal
use Rattle.rbbi_dfa.proofs.determinize.rows_of.chained_row.Goals.{then-is_chained, else-is_chained}

pub insert-requires : goal.insert-requires
insert-requires c = omega (
  arith,
  c.loop-position-test.true,
  c.leaves-position-end.ensures,
  c.loop-position.auto.words,
  c.as_mut_slice-words.ensures.len,
  c.in_ok-row.ensures.len,
  c.words.ensures.value,
  c.words.ensures.few,
)

pub loop-position-preserved : goal.loop-position-preserved
loop-position-preserved c =
    let marks = c.args.positions.now in
    let row : List ℕ = c.loop-position.words in
    let position = c.loop-position.position in
    elim c.if-is_chained.branch [
      | then-is_chained w ↦
          subst (λ (l : List ℕ). IsChainedUpTo marks l (position + 1)) (sym w.words-is)
          (chained_takes marks row w.insert.new.row position c.loop-position.invariant (sym c.is_chained.ensures ∙ w.if-is_chained.true) w.insert.ensures)
      | else-is_chained w ↦
          subst (λ (l : List ℕ). IsChainedUpTo marks l (position + 1)) (sym w.words-is)
          (chained_stays marks row position c.loop-position.invariant (sym c.is_chained.ensures ∙ w.if-is_chained.false))
    ]
