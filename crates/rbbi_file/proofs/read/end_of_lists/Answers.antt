use Rattle.std.proofs.Common.{ℕ, ◌+◌, ◌-◌, ◌*◌, ap, sym, ◌∙◌, arith}
use Rattle.rbbi_file.specs.Lengths.{u16_at, lists_end}
use Rattle.rbbi_file.proofs.Ends.{lists_go_on}
use Rattle.rbbi_file.proofs.Stands.{next_list}
use Rattle.rbbi_file.proofs.read.end_of_lists.Goals as goal

pub returns-then-at-bytes-clause-exact : goal.returns-then-at-bytes-clause-exact
returns-then-at-bytes-clause-exact c =
    let next : ℕ = c.args.count - (c.loop-list._list + 1) in
    omega (
      arith,
      c.loop-list.invariant.0,
      next_list c.args.bytes.now c.args.count c.loop-list._list c.loop-list.at c.loop-list-test.true,
      lists_go_on
          c.args.bytes.now next (c.loop-list.at + (2 + 4 * u16_at c.args.bytes.now c.loop-list.at)),
    )

pub loop-list-preserved : goal.loop-list-preserved
loop-list-preserved c =
    let bytes = c.args.bytes.now in
    let left : ℕ = c.args.count - (c.loop-list._list + 1) in (
      ap (λ (n : ℕ). lists_end bytes left (c.loop-list.at + (2 + 4 * n))) c.u16_at.ensures.value
          ∙ sym (next_list bytes c.args.count c.loop-list._list c.loop-list.at c.loop-list-test.true) ∙ c.loop-list.invariant.0,
      omega arith,
    )
