use Rattle.std.proofs.Common.{◌≡◌, ℕ, ◌+◌, ◌*◌, ◌<◌, ◌≤◌, ◌↔◌, IsTrue, Bool, false, [], List, length, get_or, ap, sym, ◌∙◌, subst, arith}
use Rattle.rbbi_model.specs.Tables.{Table}
use Rattle.rbbi_model.specs.SafePairs.{IsSafePair}
use Rattle.rbbi_table.specs.Parts.{rows_of}
use Rattle.rbbi_table.proofs.MoveLemmas.{row_end}
use Rattle.rbbi_table.proofs.PairLemmas.{targets_within, safe_where_one, pairs_more}
use Rattle.rbbi_table.proofs.safe.add_pairs.Goals as goal

pub lead_to_one-requires : goal.lead_to_one-requires
lead_to_one-requires c =
    subst (λ (ts : List ℕ). (i : ℕ) → i < length ts → get_or ts i 0 * c.args.width + c.args.width ≤ length c.args.cells.now)
    (sym c.deref.ensures.value)
    (targets_within c.args.width c.args.rows.now c.args.cells.now c.args.first c.gather_targets.new.targets.items
    c.requires.steps c.in_ok-gather_targets.ensures c.requires.first)

pub store_marked-requires-clause-room : goal.store_marked-requires-clause-room
store_marked-requires-clause-room c =
    let width : length c.deref-2.result.now ≡ c.args.width = ap length c.deref-2.ensures.value ∙ c.in_ok-marked.ensures.all in
    omega (arith, width, c.requires.room, row_end c.args.first c.args.width c.args.width c.requires.first)

pub returns-clause-pairs : goal.returns-clause-pairs
returns-clause-pairs c =
    let table : Table = rows_of c.args.width c.args.rows.now c.args.cells.now [] in
    let first : ℕ = c.args.first in
    let targets : List ℕ = c.gather_targets.new.targets.items in
    let marked = c.deref-2.result.now in
    let all : length marked ≡ c.args.width = ap length c.deref-2.ensures.value ∙ c.in_ok-marked.ensures.all in
    let marks = λ (second : ℕ) (low : second < c.args.width).
    let one = safe_where_one table first second targets c.in_ok-gather_targets.ensures in
    let lead = rw c.deref.ensures.value at (c.in_ok-marked.ensures.lead second low) in
    let same : get_or marked second false ≡ get_or c.in_ok-marked.marked.items second false = ap (λ (l : List Bool). get_or l second false) c.deref-2.ensures.value in
    let both : IsTrue (get_or marked second false) ↔ IsSafePair table first second = (
      λ is. one.0 (lead.0 (sym same ∙ is)),
      λ safe. same ∙ lead.1 (one.1 safe),
    ) in
    both in
    pairs_more table c.args.bytes.now.items c.store_marked.new.bytes.items first marked c.requires.first c.requires.pairs all marks
    c.store_marked.ensures.before c.store_marked.ensures.here c.store_marked.ensures.behind
