use Rattle.std.proofs.Common.{◌≡◌, ℕ, ◌^◌, ◌≤◌, get_or, arith, sym, subst, below_more}
use Rattle.std.proofs.lemmas.List.{get_or_read}
use Rattle.std.proofs.Math.Pow.{pow_mono}
use Rattle.rbbi_model.specs.Tables.{RowHead, empty_head}
use Rattle.rbbi_canon.specs.inner.Slashes.{Allows}
use Rattle.rbbi_canon.proofs.slashes.least_slashes.Goals as goal

up : (k m : ℕ) (head : RowHead) → k ≤ m → Allows k head → Allows m head
up k m head less h = (omega (arith, h.0), let most : 2 ^ k ≤ 2 ^ m = pow_mono less in omega (arith, h.1, most))

pub loop-head-preserved : goal.loop-head-preserved
loop-head-preserved c =
    let heads = c.args.heads.now in
    let i = c.loop-head.head-index in
    let count = c.max-count.result in
    let is : c.head-item.result ≡ get_or heads i empty_head = get_or_read heads i c.head-item.result c.loop-head-test.true c.head-item.is empty_head in
    let max = c.max-count.ensures in (
      below_more (λ row. Allows count (get_or heads row empty_head)) i
          (λ row less. up c.loop-head.count count (get_or heads row empty_head) (omega arith) (c.loop-head.invariant.0 row less))
          (subst (Allows count) is (up c.slashes_of.result count c.head-item.result (omega arith) c.slashes_of.ensures.allowed)),
      λ k all.
          let own = c.slashes_of.ensures.least k (subst (Allows k) (sym is) (all i c.loop-head-test.true)) in
          let old = c.loop-head.invariant.1 k all in
          omega arith,
    )
