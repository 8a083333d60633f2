use Rattle.std.proofs.Common.{Bool, ◌||◌, sym, ap, ◌∙◌}
use Rattle.rbbi_tree.specs.declared.syntax.Quant.{Quant}
use Rattle.rbbi_resolve.specs.RuleTrees.{tree_of}
use Rattle.rbbi_bits.specs.BitRows.{row_bit}
use Rattle.rbbi_positions.specs.inner.Trees.{begins}
use Rattle.rbbi_positions.specs.inner.Rounds.{behind_of}
use Rattle.rbbi_positions.proofs.RowWrites.{all_written}
use Rattle.rbbi_positions.proofs.followers.behind.Goals as goal
use Rattle.rbbi_positions.proofs.followers.behind.Goals.{in-Once, in-Quest, in-Star, in-Plus}

pub returns-clause-bits : goal.returns-clause-bits
returns-clause-bits c = λ sets position.
    let same = c.in_ok-row.ensures.items_if_clones_equal (λ x y e. e) in
    let given : Bool = row_bit c.args.next.now position in
    let quants = λ (quant : Quant). behind_of quant (tree_of sets c.args.part.now) c.args.first position given in
    elim c.match-quant.branch [
      | in-Once w ↦ ap (λ row. row_bit row.items position) w.row-is ∙ ap (λ row. row_bit row position) same ∙ sym (ap quants w.in-Once.is)
      | in-Quest w ↦ ap (λ row. row_bit row.items position) w.row-is ∙ ap (λ row. row_bit row position) same ∙ sym (ap quants w.in-Quest.is)
      | in-Star w ↦
          let written = all_written c.in_ok-row.row _ w.add_firsts.new.row w.deref_mut.ensures.value w.add_firsts.auto.row in
          ap (λ row. row_bit row.items position) w.row-is ∙ ap (λ row. row_bit row position) written ∙ w.add_firsts.ensures sets position
          ∙ ap (λ row. row_bit row position || begins (tree_of sets c.args.part.now) c.args.first position) (w.deref_mut.ensures.value ∙ same)
          ∙ sym (ap quants w.in-Star.is)
      | in-Plus w ↦
          let written = all_written c.in_ok-row.row _ w.add_firsts-in-Plus.new.row w.deref_mut-in-Plus.ensures.value w.add_firsts-in-Plus.auto.row in
          ap (λ row. row_bit row.items position) w.row-is ∙ ap (λ row. row_bit row position) written ∙ w.add_firsts-in-Plus.ensures sets position
          ∙ ap (λ row. row_bit row position || begins (tree_of sets c.args.part.now) c.args.first position) (w.deref_mut-in-Plus.ensures.value ∙ same)
          ∙ sym (ap quants w.in-Plus.is)
    ]
