use Rattle.std.proofs.Common.{sym, subst, ℕ, ◌≤◌, ◌↔◌}
use Rattle.rbbi_classes.specs.Classes.{ClassBits, HasClass}
use Rattle.rbbi_classes.proofs.ClassSpans.{has_made}
use Rattle.rbbi_classes.proofs.class_set.ClassSet.of_span.Goals as goal

pub returns : goal.returns
returns c =
    let Spans : ClassBits → Type 0 = λ set. (k : ℕ) → HasClass set k ↔ ((c.args.span.first ≤ k) × (k ≤ c.args.span.last)) in
    subst Spans (sym c.of_row.ensures)
    (has_made c.args.span.first c.args.span.last c.requires c.in_ok-words.words.items c.index_mut.result.now c.index_mut-2.result.now
    (c.in_ok-words.ensures.items_if_clones_equal (λ y same. same)) c.index_mut.ensures.value c.index_mut-2.ensures.value)
