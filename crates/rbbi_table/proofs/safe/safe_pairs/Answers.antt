use Rattle.std.proofs.Common.{◌≡◌, ℕ, ◌*◌, [], List, sym, subst, arith}
use Rattle.rbbi_table.specs.Parts.{rows_of}
use Rattle.rbbi_table.specs.Pairs.{ArePairsOf}
use Rattle.rbbi_table.specs.inner.Targets.{AreFirstPairs}
use Rattle.rbbi_table.proofs.PairLemmas.{all_pairs}
use Rattle.rbbi_table.proofs.safe.safe_pairs.Goals as goal

pub returns : goal.returns
returns c =
    let inv = c.loop-first.invariant in
    let w : ℕ = c.args.categories in
    let whole : c.loop-first.first ≡ w = omega (arith, c.loop-first-test.false, c.loop-first.auto.first-end) in
    subst (λ (l : List ℕ). ArePairsOf (rows_of w c.args.rows.now c.args.cells.now l)) (sym c.from_vec.ensures)
    (all_pairs w c.args.rows.now c.args.cells.now c.loop-first.bytes.items inv.all
    (subst (λ n. AreFirstPairs (rows_of w c.args.rows.now c.args.cells.now []) c.loop-first.bytes.items (n * w)) whole inv.pairs))
