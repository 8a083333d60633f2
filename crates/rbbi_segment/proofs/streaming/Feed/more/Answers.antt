use Rattle.std.proofs.Common.{◌≡◌, ◌++◌, ℕ, List, length, take, drop, nat_eq, ap, ◌∙◌, subst, arith}
use Rattle.std.proofs.lemmas.Bool.{eqb-true}
use Rattle.std.proofs.lemmas.List.{take_rest}
use Rattle.std.proofs.Math.Seq.{take-append_seam}
use Rattle.rbbi_segment.specs.Spelled.{IsSpelled}
use Rattle.rbbi_segment.proofs.Streamed.{reads_by}
use Rattle.rbbi_segment.proofs.streaming.Feed.more.Goals as goal

pub returns-clause-reads : goal.returns-clause-reads
returns-clause-reads g c =
    let count : ℕ = c.in_ok-count.count in
    let end : ℕ = c.in_ok-end.end in
    let waiting : List ℕ = c.args.self.now.waiting.items in
    let window : List ℕ = c.args.window.now in
    let both : List ℕ = c.extend_from_slice.new.self.items in
    let block : List ℕ = c.read_block.new.block in
    let after : List ℕ = drop (length block) c.args.self.now.block.items in
    let size : c.args.self.now.block.len ≡ length block = omega (arith, c.read_block.auto.block, c.deref_mut.ensures.len) in
    let held : c.deref.result.now ≡ block = c.deref.ensures.value ∙ ap (λ n. take n (block ++ after)) size ∙ take-append_seam block after in
    reads_by c.args.origin.is_lossy (g.R.Read.remaining c.args.reader.now) (g.R.Read.remaining c.read_block.new.reader) waiting (take count block) both
    c.in_ok-self.field-0.items window c.append_spelled.new.window end (nat_eq count 0) c.in_ok-count.ensures.bytes
    (c.in_ok-extend_from_slice.ensures.items ∙ ap (λ l. waiting ++ take count l) held)
    (subst (λ l. IsSpelled c.args.origin.is_lossy (nat_eq count 0) l end window c.append_spelled.new.window) c.deref-2.ensures.value c.in_ok-end.ensures.0)
    (c.in_ok-self.ensures.items_if_clones_equal (λ x y h. h) ∙ take_rest c.deref-3.result.now end ∙ ap (drop end) c.deref-3.ensures.value)
    (λ last. (c.in_ok-count.ensures.end (eqb-true count 0 last), c.in_ok-end.ensures.1 last ∙ ap length c.deref-2.ensures.value))
