use Rattle.std.proofs.Common.{◌≡◌, ◌<◌, Some, List, length, subst, ap, sym, ◌∙◌, arith, length-set}
use Rattle.std.specs.Prelude.{slice_get}
use Rattle.rbbi_model.specs.Tables.{CategoryRange}
use Rattle.rbbi_model.specs.ValidTables.{IsWithin}
use Rattle.rbbi_positions.proofs.Codes.{starts_more, starts_are_codes, get_slice, all_get}
use Rattle.rbbi_positions.proofs.readers.codes_of.Goals as goal

pub loop-range-preserved : goal.loop-range-preserved
loop-range-preserved c =
    let range : CategoryRange = record { start = c.range.inside.start; category = c.range.inside.cat } in
    let listed : slice_get c.ranges-range-items.result.now c.loop-range.range-index ≡ Some c.range-item.result =
    get_slice c.ranges-range-items.result.now c.loop-range.range-index c.range-item.result c.loop-range-test.true c.range-item.is in
    let is : slice_get c.args.cats.now.ranges c.loop-range.range-index ≡ Some range =
    subst (λ (l : List CategoryRange). slice_get l c.loop-range.range-index ≡ Some c.range-item.result) c.ranges-range-items.ensures.value listed
    ∙ ap (λ (r : CategoryRange). Some r) (sym c.range.view_is) in
    let few : range.category < c.args.cats.now.count =
    (all_get (IsWithin c.args.cats.now.count) c.args.cats.now.ranges c.loop-range.range-index range is c.count.ensures.form.within).1 in
    record {
      many = omega (arith, c.loop-range.invariant.many, length-set c.loop-range.codes.items range.category range.start);
      starts = starts_more c.args.cats.now.ranges c.loop-range.codes.items c.loop-range.range-index range is (omega (arith, few, c.loop-range.invariant.many))
          c.loop-range.invariant.starts;
    }

pub returns-clause-codes : goal.returns-clause-codes
returns-clause-codes c =
    starts_are_codes c.args.cats.now.count c.args.cats.now.ranges c.loop-range.codes.items c.loop-range.range-index c.count.ensures.form c.requires
    c.loop-range.invariant.many
    (omega (arith, ap length c.ranges-range-items.ensures.value, c.loop-range-test.false)) c.loop-range.invariant.starts
