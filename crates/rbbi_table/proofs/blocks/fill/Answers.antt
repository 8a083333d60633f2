use Rattle.std.proofs.Common.{◌≡◌, ℕ, ◌+◌, ◌<◌, List, length, get_or, set, ap, sym, ◌∙◌, ⊎_elim, arith}
use Rattle.std.proofs.lemmas.Bool.{cases_eq}
use Rattle.std.proofs.lemmas.List.{get_or_read, get_or-set_same, get_or-set_other}
use Rattle.rbbi_model.specs.Tables.{CategoryRange, category_of}
use Rattle.rbbi_table.proofs.RangeLemmas.{category_held, no_range}
use Rattle.rbbi_table.proofs.blocks.fill.Goals as goal

pub loop-offset-preserved : goal.loop-offset-preserved
loop-offset-preserved c =
    let ranges : List CategoryRange = c.args.ranges.now in
    let offset : ℕ = c.loop-offset.offset in
    let holds = c.holder_of-range.ensures in
    let read = get_or_read ranges c.holder_of-range.result c.index-ranges-range.result holds.within c.index-ranges-range.is no_range in
    let category : c.holder.inside.cat ≡ category_of ranges (c.args.first + offset) =
    ap (λ (r : CategoryRange). r.category) (c.holder.view_is ∙ read) ∙ sym
    (category_held ranges c.holder_of-range.result (c.args.first + offset) c.requires.apart holds) in
    let inside : offset < length c.loop-offset.block = omega (arith, c.loop-offset.auto.block) in
    record {
      filled = λ k less.
          ⊎_elim
          (λ same.
          ap (λ n. get_or (set c.loop-offset.block offset c.holder.inside.cat) n 0) same ∙
          get_or-set_same c.loop-offset.block offset c.holder.inside.cat 0 inside ∙ category ∙ ap (λ n. category_of ranges (c.args.first + n)) (sym same))
          (λ other. get_or-set_other c.loop-offset.block offset k c.holder.inside.cat 0 other ∙ c.loop-offset.invariant.filled k (omega arith))
          (cases_eq k offset);
      up_to = record {
        within = holds.within;
        begins = omega (arith, holds.begins);
        ends = λ more. omega (arith, holds.ends more);
      };
    }
