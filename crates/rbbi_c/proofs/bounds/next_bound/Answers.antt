use Rattle.std.proofs.Common.{◌<◌, ℕ, List, Some, length, sym, ap, ◌∙◌, subst, arith}
use Rattle.rbbi_model.specs.Cover.{IsPlaceOf}
use Rattle.rbbi_model.specs.Places.{largest}
use Rattle.rbbi_model.specs.Tables.{statuses_of}
use Rattle.rbbi_model.specs.Searches.{table_boundaries}
use Rattle.rbbi_model.specs.Answers.{first_after}
use Rattle.rbbi_session.proofs.Reaching.{found_within}
use Rattle.rbbi_c.specs.declared.bounds.Bound.{Bound}
use Rattle.rbbi_c.specs.inner.Bounds.{Finds}
use Rattle.rbbi_c.proofs.Stretched.{finds_next}
use Rattle.rbbi_c.proofs.Within.{none_follows}
use Rattle.rbbi_c.proofs.bounds.next_bound.Goals as goal

pub returns-then-bound-len-clause-found : goal.returns-then-bound-len-clause-found
returns-then-bound-len-clause-found g c = record {
  found_at = sym (none_follows c.args.table.now c.args.text.now c.args.bound.at (omega (arith, c.if-bound-len.true, c.len.ensures.exact)));
  are = tt;
}

pub status_list-requires : goal.status_list-requires
status_list-requires g c =
    subst (λ n. n < length c.args.table.now.lists) (sym c.next-found.ensures.status)
    (found_within c.args.table.now c.valid.ensures c.new-near.result c.args.bound.at)

pub returns-clause-found : goal.returns-clause-found
returns-clause-found g c =
    let table = c.args.table.now in
    let same = c.new-near.ensures in
    let x : List ℕ = c.new-near.result in
    let bound : Bound = record { at = c.next-found.result.at; offset = c.counted_on.result; status = c.greatest.result } in
    subst (λ (y : List ℕ). Finds table c.args.unit y (first_after (table_boundaries table y) c.args.bound.at) (Some bound)) same
    (finds_next table c.args.unit x c.args.bound.at bound
    (subst (λ (y : List ℕ). IsPlaceOf (table_boundaries table y) c.args.bound.at) (sym same) c.requires.bound.is_place)
    (omega (arith, c.if-bound-len.false, c.len.ensures.exact, ap length same)) c.next-found.ensures.at c.counted_on.ensures
    (c.greatest.ensures ∙ ap largest (c.status_list.ensures ∙ ap (statuses_of table) c.next-found.ensures.status)))
