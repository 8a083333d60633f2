use Rattle.std.proofs.Common.{◌≡◌, ◌↔◌, length}
use Rattle.rbbi_props.specs.LooseForms.{loose}
use Rattle.rbbi_props.proofs.common.have_one_loose_form.Given as goal

abbrev pub invariant-loop-byte : goal.invariant-loop-byte
invariant-loop-byte l = (loose l.text ≡ loose l.other) ↔ (loose l.left ≡ loose l.right)

abbrev pub decreases-loop-byte : goal.decreases-loop-byte
decreases-loop-byte l = length l.left
