use Rattle.std.proofs.Common.{◌∙◌, ◌≡◌, [], refl, sym, subst}
use Rattle.std.proofs.lemmas.List.{take_all}
use Rattle.rbbi_segment.specs.Tables.{ArePropertiesOf, NoFile}
use Rattle.rbbi_segment.proofs.Carried.{more_properties}
use Rattle.rbbi_segment.proofs.basis.properties_of.Goals as goal

pub loop-property-init : goal.loop-property-init
loop-property-init g c =
    let input = g.R.Read.remaining c.args.input.now in
    record {
      rows = subst (λ l. ArePropertiesOf (g.F.Files.contents c.args.files.now) input [] l input) (sym c.new-properties.ensures) NoFile;
      same = refl;
    }

pub loop-property-preserved : goal.loop-property-preserved
loop-property-preserved g c = record {
  rows = more_properties (g.F.Files.contents c.args.files.now) (g.F.Files.contents c.loop-property.files) (g.R.Read.remaining c.args.input.now)
      (g.R.Read.remaining c.loop-property.input) (g.R.Read.remaining c.add_property.new.input) c.args.given.now c.loop-property.property-index _
      c.loop-property.properties c.add_property.new.properties c.loop-property.invariant.same c.loop-property-test.true
      c.loop-property.invariant.rows c.in_ok-add_property.ensures.added;
  same = c.add_property.ensures.same ∙ c.loop-property.invariant.same;
}

-- all files were read
pub returns-clause-rows : goal.returns-clause-rows
returns-clause-rows g c =
    subst (λ l. ArePropertiesOf (g.F.Files.contents c.args.files.now) (g.R.Read.remaining c.args.input.now) l c.loop-property.properties
    (g.R.Read.remaining c.loop-property.input)) (take_all c.loop-property.property-index c.args.given.now c.loop-property-test.false)
    c.loop-property.invariant.rows
