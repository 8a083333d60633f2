use Rattle.std.proofs.Common.{below_more, arith}
use Rattle.rbbi_table.proofs.kinds.is_like.Goals as goal
use Rattle.rbbi_table.proofs.kinds.is_like.Goals.{else-kinds-k-eq-FORGETS-via-then-kinds-k-eq-FORGETS+else-next-next_row}
use Rattle.rbbi_table.proofs.kinds.is_like.Goals.{else-kinds-k-eq-FORGETS-via-else-kinds-k-eq-FORGETS}
use Rattle.rbbi_table.proofs.kinds.is_like.Goals.{else-kinds-k-eq-STAYS-via-then-kinds-k-eq-STAYS+else-next-row}
use Rattle.rbbi_table.proofs.kinds.is_like.Goals.{else-kinds-k-eq-STAYS-via-else-kinds-k-eq-STAYS}

pub loop-k-preserved : goal.loop-k-preserved
loop-k-preserved c =
    below_more _ _ c.loop-k.invariant record {
      forgets = λ is. elim c.else-kinds-k-eq-FORGETS.branch [
        | else-kinds-k-eq-FORGETS-via-then-kinds-k-eq-FORGETS+else-next-next_row w ↦ omega (arith, is)
        | else-kinds-k-eq-FORGETS-via-else-kinds-k-eq-FORGETS w ↦ omega (arith, is)
      ];
      stays = λ is. elim c.else-kinds-k-eq-STAYS.branch [
        | else-kinds-k-eq-STAYS-via-then-kinds-k-eq-STAYS+else-next-row w ↦ omega (arith, is)
        | else-kinds-k-eq-STAYS-via-else-kinds-k-eq-STAYS w ↦ omega (arith, is)
      ];
    }

pub returns : goal.returns
returns c = λ _ category short. c.loop-k.invariant category (omega arith)
