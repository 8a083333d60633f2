use Rattle.std.proofs.Common.{◌≡◌, ℕ, ◌+◌, ◌*◌, ◌<◌, ◌↔◌, IsTrue, Bool, List, sym, ap, ◌∙◌, subst}
use Rattle.rbbi_model.specs.Tables.{Table}
use Rattle.rbbi_model.specs.SafePairs.{IsSafePair, is_safe, stored_bit}
use Rattle.rbbi_table.specs.Parts.{table_of}
use Rattle.rbbi_table.proofs.table.Table.is_safe.Goals as goal

pub returns-clause-exact : goal.returns-clause-exact
returns-clause-exact c =
    let table : Table = table_of c.self.inside.parts in
    let at : ℕ = c.args.c1 * table.categories + c.args.c2 in
    let same : c.has_stored.result ≡ is_safe table c.args.c1 c.args.c2 = c.has_stored.ensures ∙ ap (λ (l : List ℕ). stored_bit l at) c.as_slice.ensures in
    let first : c.args.c1 < table.categories = subst (λ (t : Table). c.args.c1 < t.categories) (sym c.self.view_is) c.requires.first in
    let second : c.args.c2 < table.categories = subst (λ (t : Table). c.args.c2 < t.categories) (sym c.self.view_is) c.requires.second in
    subst (λ (t : Table). IsTrue c.has_stored.result ↔ IsSafePair t c.args.c1 c.args.c2) c.self.view_is
    (subst (λ (b : Bool). IsTrue b ↔ IsSafePair table c.args.c1 c.args.c2) (sym same) (c.self.invariant.valid.safe.exactly c.args.c1 c.args.c2 first second))
