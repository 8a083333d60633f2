use Rattle.std.proofs.Common.{◌≤◌, ◌<◌, refl, sym, ◌∙◌, arith}
use Rattle.rbbi_model.specs.Rules.{largest_tag}
use Rattle.rbbi_dfa.specs.declared.determinize.rows_of.ListKind.TheVariants.{Completed, Fronts, Tags}
use Rattle.rbbi_dfa.proofs.MarkedLists.{marked_all, marked_permuted}
use Rattle.rbbi_dfa.proofs.determinize.rows_of.rows_of.Goals as goal

pub invariant_of-result : goal.invariant_of-result
invariant_of-result c =
    let marks = c.args.positions.now in
    let tags = marked_permuted marks Tags c.in_ok-list_of.field-0.items c.sorted-tags.result.items c.sorted-tags.ensures.same c.in_ok-list_of.ensures in
    let follow = c.in_ok-follow.ensures in
    let reads = c.in_ok-reads.ensures in
    record {
      some_categories = c.requires.some_categories;
      few_categories = c.requires.few_categories;
      few_slashes = c.requires.readable.few_slashes;
      narrow = omega (arith, c.words-width.ensures.value, c.words-width.ensures.few, c.requires.readable.few);
      first = omega (arith, c.words-width.ensures.value, c.in_ok-first.ensures.len, c.firsts.ensures.wide);
      chained = omega (arith, c.words-width.ensures.value, c.in_ok-chained.ensures.wide);
      last = omega (arith, c.words-width.ensures.value, c.in_ok-last.ensures.len, c.lasts.ensures.wide);
      follow = λ i short. follow.wide i (omega (arith, short, follow.many)) ∙ sym c.words-width.ensures.value;
      many_reads = c.in_ok-reads.ensures.many;
      reads = λ i short. reads.wide i (omega (arith, short, reads.many)) ∙ sym c.words-width.ensures.value;
      completed = marked_all marks Completed c.in_ok-completed.completed.items (λ n. n < c.args.slashes) c.in_ok-completed.ensures
          c.requires.readable.small.completed;
      fronts = marked_all marks Fronts c.in_ok-fronts.fronts.items (λ n. n < c.args.slashes) c.in_ok-fronts.ensures c.requires.readable.small.fronts;
      small_tags = marked_all marks Tags c.sorted-tags.result.items (λ n. n ≤ largest_tag) tags c.requires.readable.small.tags;
      tags = c.sorted-tags.ensures.order;
    }

pub returns : goal.returns
returns c =
    let marks = c.args.positions.now in
    let tags = marked_permuted marks Tags c.in_ok-list_of.field-0.items c.sorted-tags.result.items c.sorted-tags.ensures.same c.in_ok-list_of.ensures in
    record {
      categories_are = refl;
      slashes_are = refl;
      first = c.in_ok-first.ensures.items_if_clones_equal (λ x y e. e) ∙ c.firsts.ensures.row;
      chained = c.in_ok-chained.ensures.holds;
      last = c.in_ok-last.ensures.items_if_clones_equal (λ x y e. e) ∙ c.lasts.ensures.row;
      follow = c.in_ok-follow.ensures;
      reads = c.in_ok-reads.ensures;
      completed = c.in_ok-completed.ensures;
      fronts = c.in_ok-fronts.ensures;
      tags = tags;
    }
