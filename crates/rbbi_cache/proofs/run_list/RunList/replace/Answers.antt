use Rattle.std.proofs.Common.{◌≤◌, ◌∷◌, ◌++◌, length, length-take, ap, ◌∙◌, arith}
use Rattle.rbbi_cache.proofs.Slots.{written_is}
use Rattle.rbbi_cache.proofs.run_list.RunList.replace.Goals as goal

pub bounds-slots-k : goal.bounds-slots-k
bounds-slots-k c =
    omega (
      arith,
      ap length c.self.view_is,
      length-take c.self.inside.count c.self.inside.slots,
      c.self.invariant.0,
      c.self.invariant.1,
      c.requires,
    )

pub returns : goal.returns
returns c before after former whole number =
    let short : c.self.inside.count ≤ length c.self.inside.slots = omega (arith, c.self.invariant.0, c.self.invariant.1) in
    c.move_to_front.ensures before after c.args.run.now
    (written_is c.self.inside.slots c.self.inside.count short c.args.self.now before former after c.self.view_is whole c.args.k number c.swap.new.x
    ∙ ap (λ r. before ++ r ∷ after) c.swap.ensures.x_after)
    number
