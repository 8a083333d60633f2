use Rattle.std.proofs.Common.{◌<◌, ◌+◌, length, arith, inl, inr, ⊎_elim}
use Rattle.std.proofs.lemmas.Result.{err_from_is_err_and}
use Rattle.rbbi_tool.proofs.Handing.{handing_ends, handing_more, handed_none, all_handed, all_files}
use Rattle.rbbi_tool.proofs.Counted.{handed_more, handed_all}
use Rattle.rbbi_tool.proofs.properties.properties_of.Goals as goal

pub loop-i-init : goal.loop-i-init
loop-i-init g c = record {
  handed = handed_none c.args.options.now.properties.items c.args.inputs.now.properties.items c.new-table.result c.new-table.ensures;
  read = record { more = omega arith; cost = omega arith };
}

pub returns-in_err-add-clause-exact : goal.returns-in_err-add-clause-exact
returns-in_err-add-clause-exact g c =
    let p = err_from_is_err_and c.from_residual.result c.from_residual.ensures.1 in
    let inside : c.loop-i.i < length c.args.options.now.properties.items =
    omega (arith, c.loop-i-test.true, c.min-i-end.ensures, c.len.ensures, c.len-2.ensures) in
    let inside' : c.loop-i.i < length c.args.inputs.now.properties.items =
    omega (arith, c.loop-i-test.true, c.min-i-end.ensures, c.len.ensures, c.len-2.ensures) in
    rw (p.1, p.2) (⊎_elim inl
    (λ is. inr (handing_ends c.loop-i.invariant.handed c.index-property.result.now c.index.result.now inside inside' c.index-property.ensures
    c.index.ensures c.in_err-add.field-0.0 is)) c.in_err-add.ensures.exact)

pub loop-i-preserved : goal.loop-i-preserved
loop-i-preserved g c =
    let inside : c.loop-i.i < length c.args.options.now.properties.items =
    omega (arith, c.loop-i-test.true, c.min-i-end.ensures, c.len.ensures, c.len-2.ensures) in
    let inside' : c.loop-i.i < length c.args.inputs.now.properties.items =
    omega (arith, c.loop-i-test.true, c.min-i-end.ensures, c.len.ensures, c.len-2.ensures) in
    record {
      handed =
          handing_more c.loop-i.invariant.handed c.index-property.result.now c.index.result.now inside inside' c.index-property.ensures
          c.index.ensures c.add.new.table c.in_ok-add.ensures.exact c.in_ok-add.ensures.added;
      read =
          handed_more c.args.inputs.now.properties.items c.loop-i.i c.args.steps.now c.loop-i.steps c.add.new.steps c.index.result.now inside'
          c.index.ensures c.loop-i.invariant.read c.add.ensures.steps;
    }

pub returns-clause-exact : goal.returns-clause-exact
returns-clause-exact g c = all_handed c.loop-i.invariant.handed (omega (arith, c.loop-i-test.false, c.min-i-end.ensures, c.len.ensures, c.len-2.ensures))

pub returns-clause-files : goal.returns-clause-files
returns-clause-files g c = all_files c.loop-i.invariant.handed (omega (arith, c.loop-i-test.false, c.min-i-end.ensures, c.len.ensures, c.len-2.ensures))

pub returns-in_err-add-clause-steps : goal.returns-in_err-add-clause-steps
returns-in_err-add-clause-steps g c =
    let inside : c.loop-i.i < length c.args.inputs.now.properties.items =
    omega (arith, c.loop-i-test.true, c.min-i-end.ensures, c.len.ensures, c.len-2.ensures) in
    handed_all c.args.inputs.now.properties.items (c.loop-i.i + 1) c.args.steps.now c.add.new.steps
    (handed_more c.args.inputs.now.properties.items c.loop-i.i c.args.steps.now c.loop-i.steps c.add.new.steps c.index.result.now inside
    c.index.ensures c.loop-i.invariant.read c.add.ensures.steps)

pub returns-clause-steps : goal.returns-clause-steps
returns-clause-steps g c = handed_all c.args.inputs.now.properties.items c.loop-i.i c.args.steps.now c.loop-i.steps c.loop-i.invariant.read
