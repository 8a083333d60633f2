use Rattle.std.proofs.Common.{◌≡◌, subst, arith}
use Rattle.rbbi_canon.specs.inner.Columns.{AreKept}
use Rattle.rbbi_canon.proofs.ColumnsKept.{all_columns}
use Rattle.rbbi_canon.proofs.columns.representatives.Goals as goal

pub returns : goal.returns
returns c =
    let end : c.loop-category.category ≡ c.args.grid.now.width = omega arith in
    all_columns c.args.grid.now c.loop-category.kept c.loop-category.firsts.items c.loop-category.found.items
    (subst (λ n. AreKept c.args.grid.now n c.loop-category.kept c.loop-category.firsts.items c.loop-category.found.items) end c.loop-category.invariant)
