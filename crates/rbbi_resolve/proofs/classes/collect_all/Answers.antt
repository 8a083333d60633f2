use Rattle.std.proofs.Common.{◌≡◌, ◌<◌, length, arith}
use Rattle.std.proofs.lemmas.List.{length-map}
use Rattle.std.proofs.lemmas.Option.{slice_get_within}
use Rattle.rbbi_tree.specs.Values.{statement_trees}
use Rattle.rbbi_resolve.proofs.Collecting.{statements_covered}
use Rattle.rbbi_resolve.proofs.classes.collect_all.Goals as goal

pub loop-number-init : goal.loop-number-init
loop-number-init c = record { kept = c.requires; covers = λ stand are number s low. absurd (omega arith) }

pub loop-number-preserved : goal.loop-number-preserved
loop-number-preserved c =
    let files = c.args.table.now in
    let l = c.loop-number in
    let collects = c.in_ok-collect_statement.ensures in
    record {
      kept = collects.kept;
      covers = statements_covered files l.collection c.collect_statement.new.collection c.args.statements.now l.number c.get.result.now c.get.ensures collects
          l.invariant.covers;
    }

pub returns-clause-covers : goal.returns-clause-covers
returns-clause-covers c =
    let l = c.loop-number in
    let statements = statement_trees c.args.statements.now in
    let long : length statements ≡ length c.args.statements.now = simp length-map in
    let test = c.loop-number-test.false in
    λ stand respected.
    record {
      each = λ number s at.
          let inside = slice_get_within statements number s at in
          let before : number < l.number = omega (arith, c.len-number-end.ensures) in
          l.invariant.covers stand respected number s before at;
    }
