use Rattle.std.proofs.Common.{◌≡◌, ℕ, ◌<◌, sym, subst}
use Rattle.rbbi_model.specs.Tables.{Table, category_of}
use Rattle.rbbi_model.proofs.Categories.{category_within}
use Rattle.rbbi_table.specs.Parts.{table_of}
use Rattle.rbbi_table.proofs.table.Table.category.Goals as goal

pub category-requires : goal.category-requires
category-requires c = (c.self.inside.parts.ranges, c.self.invariant.in_blocks)

pub returns-clause-value : goal.returns-clause-value
returns-clause-value c =
    subst (λ (t : Table). c.category.result ≡ category_of t.ranges c.args.c) c.self.view_is
    (c.category.ensures c.self.inside.parts.ranges c.self.invariant.in_blocks)

pub returns-clause-within : goal.returns-clause-within
returns-clause-within c =
    let table : Table = table_of c.self.inside.parts in
    let own : c.category.result ≡ category_of table.ranges c.args.c = c.category.ensures table.ranges c.self.invariant.in_blocks in
    subst (λ (t : Table). c.category.result < t.categories) c.self.view_is
    (subst (λ (n : ℕ). n < table.categories) (sym own) (category_within table.categories table.ranges c.args.c c.self.invariant.valid.ranges))
