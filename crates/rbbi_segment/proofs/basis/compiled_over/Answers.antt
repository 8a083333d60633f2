use Rattle.std.proofs.Common.{subst}
use Rattle.rbbi_segment.specs.Tables.{ArePropertiesOf, IsRulesTable}
use Rattle.rbbi_segment.proofs.Carried.{if_ok}
use Rattle.rbbi_segment.proofs.basis.compiled_over.Goals as goal

pub returns-clause-table : goal.returns-clause-table
returns-clause-table g c =
    let contents = g.F.Files.contents c.args.files.now in
    let between = g.R.Read.remaining c.properties_of.new.input in
    let left = g.R.Read.remaining c.compiled.new.input in
    let files = c.in_ok-properties.properties in
    if_ok c.compiled.result
    (λ table rules. (
      files,
      between,
      subst (λ l. ArePropertiesOf contents (g.R.Read.remaining c.args.input.now) l files between) c.as_slice-given.ensures.value
          c.in_ok-properties.ensures.rows,
      subst (λ t. IsRulesTable t between c.args.name.now files c.args.request.now.ignore_dictionary table left) c.properties_of.ensures.same rules,
    ))
    c.compiled.ensures.table
