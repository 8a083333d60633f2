use Rattle.std.proofs.Common.{List, ℕ, sym, ◌∙◌, subst}
use Rattle.rbbi_model.specs.Tables.{Table, RowHead}
use Rattle.rbbi_table.specs.Parts.{AreNextRows, rows_of}
use Rattle.rbbi_table.specs.Pairs.{ArePairsOf}
use Rattle.rbbi_dfa.proofs.Finishing.{AreNextRows-from_valid, ArePairsOf-parts}
use Rattle.rbbi_dfa.proofs.table.parts_of.Goals as goal

pub safe_pairs-requires-clause-steps : goal.safe_pairs-requires-clause-steps
safe_pairs-requires-clause-steps c =
    let inside = c.least.inside in
    let steps = subst (λ (table : Table). AreNextRows table.categories table.rows table.cells) (sym c.least.view_is)
    (AreNextRows-from_valid c.args.least c.requires.cells c.requires.rows) in
    subst (λ (rows : List RowHead). AreNextRows inside.categories rows c.deref-2.result.now) (sym c.deref.ensures.value)
    (subst (λ (cells : List ℕ). AreNextRows inside.categories inside.heads.items cells) (sym c.deref-2.ensures.value) steps)

pub returns-clause-safe : goal.returns-clause-safe
returns-clause-safe c =
    let inside = c.least.inside in
    let pairs = subst (λ (rows : List RowHead). ArePairsOf (rows_of inside.categories rows c.deref-2.result.now c.in_ok-safe.safe)) (c.deref.ensures.value
    ∙ sym c.from_vec.ensures) c.in_ok-safe.ensures in
    ArePairsOf-parts inside.categories inside.slashes c.args.ranges c.in_ok-lists.lists c.from_vec.result c.from_vec-2.result c.in_ok-safe.safe
    (subst (λ (cells : List ℕ). ArePairsOf (rows_of inside.categories c.from_vec.result cells c.in_ok-safe.safe)) (c.deref-2.ensures.value
    ∙ sym c.from_vec-2.ensures) pairs)
