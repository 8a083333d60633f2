use Rattle.std.proofs.Common.{◌≤◌, ◌++◌, length, drop, arith}
use Rattle.rbbi_cache.proofs.Slots.{slots_are, moved_is}
use Rattle.rbbi_cache.proofs.run_list.RunList.move_to_front.Goals as goal

pub returns : goal.returns
returns c before after run whole number =
    let short : c.self.inside.count ≤ length c.self.inside.slots = omega (arith, c.self.invariant.0, c.self.invariant.1) in
    let are = slots_are c.self.inside.slots c.self.inside.count short c.args.self.now before run after c.self.view_is whole in
    moved_is c.self.inside.slots c.self.inside.count short c.args.self.now before run after c.self.view_is whole c.to_front.new.runs
    (c.to_front.ensures before (after ++ drop c.self.inside.count c.self.inside.slots) run are number)
