-- A row with the value adds its range, and another adds nothing.
use Rattle.std.proofs.Common.{◌≡◌, ◌++◌, ◌∷◌, [], bytes_eq, get_or, take, append_assoc, ap, sym, ◌∙◌}
use Rattle.std.proofs.lemmas.List.Elements.{All-push}
use Rattle.rbbi_sets.specs.Rising.{IsRange}
use Rattle.rbbi_props.specs.Rows.{Row}
use Rattle.rbbi_props.specs.Lookups.{ranges_of}
use Rattle.rbbi_props.proofs.Found.{ranges_of-yes, ranges_of-no}
use Rattle.rbbi_props.proofs.table.push_rows.Goals as goal
use Rattle.rbbi_props.proofs.table.push_rows.Goals.{then-eq+in_ok-push, else-eq}

pub loop-row-preserved : goal.loop-row-preserved
loop-row-preserved c =
    let rows = c.args.rows.now in
    let i = c.loop-row.row-index in
    let d = c.row-item.result in
    let value = c.args.value.now in
    let read = c.row.view_is ∙ c.row-item.is in
    let value_is = c.as_slice.ensures.value ∙ ap (λ (r : Row). r.value) read in
    let test : bytes_eq (get_or rows i d).value value ≡ c.eq.result =
    sym (ap (λ v. bytes_eq v value) value_is) ∙ sym c.eq.ensures in
    elim c.if-eq.branch [
      | then-eq+in_ok-push w ↦
          rw (w.ranges-is, w.in_ok-push.ensures.items) (
            ap (λ rs. rs ++ c.row.inside.range ∷ []) c.loop-row.invariant.0
                ∙ append_assoc c.args.ranges.now.items (ranges_of (take i rows) value) (c.row.inside.range ∷ [])
                ∙ ap (λ rs. c.args.ranges.now.items ++ rs)
                (sym (ranges_of-yes rows i d value c.row.inside.range c.loop-row-test.true (test ∙ w.if-eq.true) (ap (λ (r : Row). r.range) read))),
            All-push IsRange c.loop-row.ranges.items c.row.inside.range c.loop-row.invariant.1 c.row.invariant,
          )
      | else-eq w ↦
          rw w.ranges-is (
            c.loop-row.invariant.0
                ∙ ap (λ rs. c.args.ranges.now.items ++ rs) (sym (ranges_of-no rows i d value c.loop-row-test.true (test ∙ w.if-eq.false))),
            c.loop-row.invariant.1,
          )
    ]
