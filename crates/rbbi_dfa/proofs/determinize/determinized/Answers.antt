use Rattle.std.proofs.Common.{length, ap, arith}
use Rattle.rbbi_dfa.specs.inner.PositionRows.{PositionRows}
use Rattle.rbbi_bits.specs.NumberedRows.{items_of}
use Rattle.rbbi_dfa.proofs.Joined.{is_determinized}
use Rattle.rbbi_dfa.proofs.determinize.determinized.Goals as goal

pub returns-clause-exact : goal.returns-clause-exact
returns-clause-exact c =
    let sets = c.lead_all.new.sets in (
      sets,
      omega (arith, c.sets.invariant.few, ap length c.sets.view_is),
      is_determinized c.args.rows.now sets c.rows.inside.categories c.rows.inside.slashes c.in_ok-heads.heads.items (items_of c.in_ok-heads.lists.items)
          c.in_ok-cells.cells.items
          (ap (λ (r : PositionRows). r.categories) c.rows.view_is) (ap (λ (r : PositionRows). r.slashes) c.rows.view_is) c.in_ok-cells.ensures.reached
          c.in_ok-cells.ensures.cells c.in_ok-heads.ensures,
    )
