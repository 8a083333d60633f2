use Rattle.std.proofs.lemmas.Result.{IfOk-weaker}
use Rattle.unicode.specs.Sets.{in_set}
use Rattle.rbbi_props.proofs.Found.{valid_pairs, set_members}
use Rattle.rbbi_props.proofs.single.set_of_ranges.Goals as goal

pub from_ranges-requires : goal.from_ranges-requires
from_ranges-requires c =
    rw (c.in_ok-ranges.ensures, c.deref.ensures.value) (valid_pairs c.in_ok-pairs.pairs.items c.in_ok-pairs.ensures.valid)

pub returns-clause-members : goal.returns-clause-members
returns-clause-members c =
    let pairs = c.in_ok-pairs.pairs.items in
    IfOk-weaker c.from_ranges.result _ _
    (λ found same. set_members pairs (in_set c.args.set) c.in_ok-ranges.ranges.items found c.in_ok-pairs.ensures.members
    (rw c.deref.ensures.value at c.in_ok-ranges.ensures) same)
    c.from_ranges.ensures.members
