use Rattle.std.proofs.Common.{◌<◌, take}
use Rattle.rbbi_model.specs.declared.unit.Unit.TheVariants.{Utf8, Utf16}
use Rattle.rbbi_text.specs.Weighed.{IsSingle}
use Rattle.rbbi_text.proofs.measure.are_single.Given as goal

-- so far each takes one of the unit if all bits are low
abbrev pub invariant-loop-item : goal.invariant-loop-item
invariant-loop-item l = record {
  bytes : l.bits < 0x80 → IsSingle Utf8 (take l.item-index l.items);
  units : l.bits < 0x10000 → IsSingle Utf16 (take l.item-index l.items);
}
