use Rattle.std.proofs.Common.{◌≡◌, ◌≢◌, ◌<◌, ap, sym, ◌∙◌, ⊎_elim, arith, length-set}
use Rattle.std.proofs.lemmas.Bool.{cases_lt}
use Rattle.std.proofs.lemmas.List.{get_or-set_other}
use Rattle.std.proofs.lemmas.Grind.{get_or-set_at}
use Rattle.rbbi_model.specs.Places.{largest}
use Rattle.rbbi_model.specs.Tables.{statuses_of}
use Rattle.rbbi_scan.proofs.greatest.Greatest.of.Goals as goal

pub loop-list-preserved : goal.loop-list-preserved
loop-list-preserved c =
    let statuses = c.loop-list.statuses in
    let list = c.loop-list.list in
    let new = c.largest_of.result in
    let inside : list < 16 = omega (arith, c.loop-list-test.true, c.loop-list.auto.list-end, c.min-list-end.ensures) in
    record {
      long = length-set statuses list new ∙ c.loop-list.invariant.long;
      each = λ k low.
          ⊎_elim
          (λ less. let other : k ≢ list = λ same. omega (arith, less, same) in
          get_or-set_other statuses list k new 0 other ∙ c.loop-list.invariant.each k less)
          (λ more. let same : k ≡ list = omega (arith, low, more) in
          get_or-set_at statuses list k new 0 same (omega (arith, inside, c.loop-list.invariant.long))
          ∙ c.largest_of.ensures ∙ ap largest c.status_list.ensures ∙ ap (λ n. largest (statuses_of c.args.table.now n)) (sym same))
          (cases_lt k list);
    }
