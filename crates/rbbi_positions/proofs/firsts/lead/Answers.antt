use Rattle.std.proofs.Common.{rules, ◌≡◌, Bool, ◌&&◌, ◌||◌, length, sym, ap, ◌∙◌}
use Rattle.std.proofs.Math.Bool.{or_comm}
use Rattle.rbbi_resolve.specs.RuleTrees.{tree_of}
use Rattle.rbbi_bits.specs.BitRows.{row_bit}
use Rattle.rbbi_positions.specs.inner.Trees.{is_nullable, begins}
use Rattle.rbbi_bits.proofs.Rows.{blank as blank_row}
use Rattle.rbbi_positions.proofs.firsts.lead.Goals as goal
use Rattle.rbbi_positions.proofs.firsts.lead.Goals.{then-not-is_empty, else-not-is_empty}

pub returns : goal.returns
returns c = λ sets position.
    let old : Bool = row_bit c.args.row.now position in
    let empty : Bool = is_nullable (tree_of sets c.args.tree.now) in
    let first : Bool = begins (tree_of sets c.args.tree.now) c.args.first position in
    let kept : row_bit c.if-not-is_empty.row position ≡ (empty && old) =
    elim c.if-not-is_empty.branch [
      | then-not-is_empty w ↦
          ap (λ r. row_bit r position) w.row-is ∙ blank_row w.fill.new.self (length c.args.row.now) position (w.fill.ensures.after (λ y e. search rules))
          ∙ sym (ap (λ x. x && old) (sym (c.is_empty.ensures sets) ∙ w.if-not-is_empty.true))
      | else-not-is_empty w ↦ ap (λ r. row_bit r position) w.row-is ∙ sym (ap (λ x. x && old) (sym (c.is_empty.ensures sets) ∙ w.if-not-is_empty.false))
    ] in
    c.add_firsts.ensures sets position ∙ ap (λ x. x || first) kept ∙ or_comm (empty && old) first
