use Rattle.std.proofs.Common.{◌≡◌, ◌++◌, ◌∷◌, [], ◌+◌, ◌<◌, ℕ, Vec, Global, length, set, sym, ap, ◌∙◌, subst, arith}
use Rattle.std.proofs.lemmas.List.{get_or_read, map_push}
use Rattle.rbbi_bits.specs.inner.Index.{IsIndexed}
use Rattle.rbbi_bits.specs.NumberedRows.{items_of}
use Rattle.rbbi_bits.proofs.RowLists.{items_many}
use Rattle.rbbi_bits.proofs.Buckets.{set_added}
use Rattle.rbbi_bits.proofs.numbered.NumberedRows.number_of.Goals as goal

pub invariant_of-self-2 : goal.invariant_of-self-2
invariant_of-self-2 c =
    let sets = items_of c.self.inside.rows.items in
    let newest = c.self.inside.newest.items in
    let older = c.self.inside.older.items in
    let bucket = c.bucket_number-bucket.result in
    let many = items_many c.self.inside.rows.items in
    let number : c.len-number.result ≡ length sets = omega (arith, many, c.len-number.ensures, c.self.inside.rows.ok.0) in
    let room : length sets < 16384 = omega (arith, number, c.self.invariant.few, c.if-number-eq-MOST.false) in
    let added = set_added sets newest older c.self.invariant c.args.row.now bucket room c.bucket_number-bucket.ensures.within
    c.bucket_number-bucket.ensures.value in
    let copy = c.in_ok-to_vec.ensures.items_if_clones_equal (λ x y h. h) in
    let pushed = ap items_of c.in_ok-push.ensures.items ∙ map_push (λ (v : Vec ℕ Global). v.items) c.self.inside.rows.items c.in_ok-to_vec.field-0
    ∙ ap (λ l. sets ++ l ∷ []) copy in
    let last = get_or_read newest bucket c.index.result.now (omega (arith, c.bucket_number-bucket.ensures.within, c.self.invariant.many_buckets))
    c.index.ensures 0 in
    subst (λ l. IsIndexed l (set newest bucket (c.len-number.result + 1)) (set older c.len-number.result c.index.result.now)) (sym pushed)
    (subst (λ n. IsIndexed (sets ++ c.args.row.now ∷ []) (set newest bucket (n + 1)) (set older n c.index.result.now)) (sym number)
    (subst (λ n. IsIndexed (sets ++ c.args.row.now ∷ []) (set newest bucket (length sets + 1)) (set older (length sets) n)) (sym last) added))
