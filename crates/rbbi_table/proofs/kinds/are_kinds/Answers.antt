use Rattle.std.proofs.Common.{◌*◌, ◌+◌, ◌<◌, length, get_or, below_more, subst, sym, ap, ◌∙◌, arith}
use Rattle.rbbi_table.specs.Kinds.{IsLike, ends_plainly}
use Rattle.rbbi_table.proofs.MoveLemmas.{row_end}
use Rattle.rbbi_table.proofs.KindLemmas.{same_answers}
use Rattle.rbbi_table.proofs.kinds.are_kinds.Goals as goal
use Rattle.rbbi_table.proofs.kinds.are_kinds.Goals.{else-kinds-k-eq-FORGETS-via-then-kinds-k-eq-FORGETS+else-not-is_like}
use Rattle.rbbi_table.proofs.kinds.are_kinds.Goals.{else-kinds-k-eq-FORGETS-via-else-kinds-k-eq-FORGETS}
use Rattle.rbbi_table.proofs.kinds.are_kinds.Goals.{else-kinds-k-eq-STAYS-via-then-kinds-k-eq-STAYS+else-next-row}
use Rattle.rbbi_table.proofs.kinds.are_kinds.Goals.{else-kinds-k-eq-STAYS-via-else-kinds-k-eq-STAYS}

pub is_like-requires-clause-row : goal.is_like-requires-clause-row
is_like-requires-clause-row c =
    let here = row_end c.args.row (length c.args.rows.now) c.args.width c.requires.row in
    let low = c.requires.next.within (c.args.row * c.args.width + c.loop-k.k) (omega (arith, here, c.requires.next.all)) in
    omega (
      arith,
      row_end c.next_row-next.result (length c.args.rows.now) c.args.width
          (subst (λ n. n < length c.args.rows.now) (sym c.next_row-next.ensures) low),
      c.requires.next.all,
    )

pub loop-k-preserved : goal.loop-k-preserved
loop-k-preserved c =
    below_more _ _ c.loop-k.invariant record {
      few = omega arith;
      ends = same_answers _ _ c.if-kinds-k.false ∙ c.ends_at-ends.ensures ∙ ap (λ n. ends_plainly c.args.rows.now n) c.next_row-next.ensures;
      forgets = λ is. elim c.else-kinds-k-eq-FORGETS.branch [
        | else-kinds-k-eq-FORGETS-via-then-kinds-k-eq-FORGETS+else-not-is_like w ↦
            subst (λ n. IsLike c.args.width c.args.cells.now (λ k. get_or c.args.kinds.now k 0) c.args.row n) c.next_row-next.ensures
            (w.is_like.ensures w.if-not-is_like.false)
        | else-kinds-k-eq-FORGETS-via-else-kinds-k-eq-FORGETS w ↦ absurd (omega (arith, is))
      ];
      stays = λ is. elim c.else-kinds-k-eq-STAYS.branch [
        | else-kinds-k-eq-STAYS-via-then-kinds-k-eq-STAYS+else-next-row w ↦ omega (arith, is)
        | else-kinds-k-eq-STAYS-via-else-kinds-k-eq-STAYS w ↦ omega (arith, is)
      ];
    }
