use Rattle.std.proofs.Common.{◌≡◌, take}
use Rattle.rbbi_segment.specs.Tables.{ArePropertiesOf}
use Rattle.rbbi_segment.proofs.basis.properties_of.Given as goal

-- the files before this one were read and added
abbrev pub invariant-loop-property : goal.invariant-loop-property
invariant-loop-property g l = record {
  rows : ArePropertiesOf (g.F.Files.contents l.initial.files) (g.R.Read.remaining l.initial.input) (take l.property-index l.given) l.properties
      (g.R.Read.remaining l.input);
  same : g.F.Files.contents l.files ≡ g.F.Files.contents l.initial.files;
}
