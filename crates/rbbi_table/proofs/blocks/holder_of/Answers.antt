use Rattle.std.proofs.Common.{◌≡◌, ℕ, ◌+◌, List, ap, ◌∙◌, arith}
use Rattle.std.proofs.lemmas.List.{get_or_read}
use Rattle.rbbi_model.specs.Tables.{CategoryRange}
use Rattle.rbbi_table.specs.inner.Ranges.{start_of}
use Rattle.rbbi_table.proofs.RangeLemmas.{rise_next, no_range}
use Rattle.rbbi_table.proofs.blocks.holder_of.Goals as goal

pub returns-then-next-c : goal.returns-then-next-c
returns-then-next-c c =
    let ranges : List CategoryRange = c.args.ranges.now in
    let next : ℕ = c.args.range + 1 in
    let read = get_or_read ranges next c.index-ranges-range.result c.if-range-ranges.true c.index-ranges-range.is no_range in
    let same : c.next.inside.start ≡ start_of ranges next = ap (λ (r : CategoryRange). r.start) (c.next.view_is ∙ read) in
    record {
      within = c.if-range-ranges.true;
      begins = omega arith;
      ends = λ more.
          let up = rise_next ranges next c.requires.apart more in
          let from = c.requires.from.ends c.if-range-ranges.true in
          omega (arith, up, from);
    }
