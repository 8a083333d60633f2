use Rattle.rbbi_resolve.proofs.Building.{leaf_stands}
use Rattle.rbbi_resolve.proofs.build.Builder.add_leaf.Goals as goal

pub returns-clause-added : goal.returns-clause-added
returns-clause-added c = λ value stand.
    record {
      tree = c.leaf_of_set.result;
      is = c.in_ok-push.ensures.items;
      built = leaf_stands c.args.context.now c.args.leaves.now c.args.self.now c.number_of.new.self c.args.next.now c.in_ok-number.number value
          c.leaf_of_set.result stand c.in_ok-number.ensures.number c.in_ok-number.ensures.fresh c.leaf_of_set.ensures.tree c.leaf_of_set.ensures.numbers;
    }
