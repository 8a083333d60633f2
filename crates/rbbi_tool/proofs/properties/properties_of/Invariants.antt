use Rattle.std.proofs.Common.{length, take}
use Rattle.std.specs.Prelude.{sum_by}
use Rattle.rbbi_text.specs.Steps.{RisesUpTo}
use Rattle.rbbi_tool.proofs.Handing.{AreHandedTo}
use Rattle.rbbi_tool.proofs.properties.properties_of.Given as goal

-- the property files before this one pass, and their bytes were read
abbrev pub invariant-loop-i : goal.invariant-loop-i
invariant-loop-i g l = record {
  handed : AreHandedTo l.options.properties.items l.inputs.properties.items l.table l.i;
  read : RisesUpTo (sum_by length (take l.i l.inputs.properties.items)) l.fn.steps l.steps;
}
