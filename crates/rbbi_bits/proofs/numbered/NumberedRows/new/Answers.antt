use Rattle.std.proofs.Common.{ℕ, length, get_or, refl, sym, ap, ◌∙◌, subst}
use Rattle.std.proofs.lemmas.List.{length-replicate}
use Rattle.rbbi_bits.specs.inner.Index.{IsIndexed}
use Rattle.rbbi_bits.specs.NumberedRows.{items_of}
use Rattle.rbbi_bits.proofs.Buckets.{none_indexed, zeros}
use Rattle.rbbi_bits.proofs.numbered.NumberedRows.new.Goals as goal

pub invariant_of-result : goal.invariant_of-result
invariant_of-result c =
    let newest = c.in_ok-newest.newest.items in
    let older = c.in_ok-older.older.items in
    let zero : ℕ = 0 in
    let all = c.in_ok-newest.ensures.items_if_clones_equal (λ y h. h) in
    let all' = c.in_ok-older.ensures.items_if_clones_equal (λ y h. h) in
    subst (λ l. IsIndexed l newest older) (sym (ap items_of c.new.ensures.items))
    (none_indexed newest older (ap length all ∙ length-replicate 32768 zero) (ap length all' ∙ length-replicate 16384 zero) (λ i. ap (λ l. get_or l i 0) all
    ∙ zeros 32768 i zero refl))
