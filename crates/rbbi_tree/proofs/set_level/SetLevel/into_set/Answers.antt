use Rattle.std.proofs.Common.{map, reverse, ap, ◌∙◌}
use Rattle.rbbi_tree.specs.Values.{part_tree}
use Rattle.rbbi_tree.specs.Trees.{set_of}
use Rattle.rbbi_tree.proofs.Backs.{parts_from_reverse}
use Rattle.rbbi_tree.proofs.Rolls.{set_tree_roll, parts_tree_roll}
use Rattle.rbbi_tree.proofs.set_level.SetLevel.into_set.Goals as goal

pub returns : goal.returns
returns c =
    let same = c.in_ok-add_pending.ensures.same in (
      reverse (map part_tree c.add_pending.new.self.parts.items),
      c.in_ok-add_pending.ensures.read,
      rw (same.0, same.1, parts_from_reverse (map part_tree c.add_pending.new.self.parts.items))
          (set_tree_roll _ ∙ ap (set_of c.args.self.place c.args.self.negated) (parts_tree_roll _)),
    )
