use Rattle.std.proofs.Common.{◌≡◌, ◌*◌, ◌<◌, ℕ, zero, suc, List, length, get_or, replicate, refl, sym, ◌∙◌, ap, subst, arith}
use Rattle.std.proofs.lemmas.List.{length_push, length-replicate}
use Rattle.rbbi_canon.specs.inner.Grids.{cell_of}
use Rattle.rbbi_canon.proofs.Orders.{indexed_once, indexed_few, grows}
use Rattle.rbbi_canon.proofs.Walking.{IsWalkedSoFar, first_two, walk_begins, walk_goes_on, walk_ends}
use Rattle.rbbi_canon.proofs.walk.walk_rows.Goals as goal

zero_at : (n i : ℕ) → let zeros : List ℕ = replicate n 0 in get_or zeros i 0 ≡ 0
zero_at zero i = refl
zero_at (suc n) zero = refl
zero_at (suc n) (suc i) = zero_at n i

pub rows-init : goal.rows-init
rows-init c =
    let firsts = c.args.firsts.now in
    let order = c.place_of-2.new.self.order.items in
    let cells = c.in_ok-cells.cells.items in
    let place = c.in_ok-place_of.ensures.place in
    let place' = c.in_ok-place_of-2.ensures.place in
    let two = first_two c.in_ok-met.met.order.items c.place_of.new.self.order.items order c.in_ok-place_of.field-0 c.in_ok-place_of-2.field-0
    c.in_ok-met.ensures.order c.in_ok-place_of.ensures.order place.0 place.1 c.in_ok-place_of-2.ensures.order place'.0 place'.1 in
    let zeros = c.in_ok-cells.ensures.items_if_clones_equal (λ y same. same) in
    let width : length cells ≡ length firsts = ap length zeros ∙ length-replicate (length firsts) 0 in (
      walk_begins c.args.grid.now firsts c.requires order cells (ap length two) (ap (λ (l : List ℕ). get_or l 0 0) two)
          (ap (λ (l : List ℕ). get_or l 1 0) two) width
          (λ i. ap (λ (l : List ℕ). get_or l i 0) zeros ∙ zero_at (length firsts) i),
      omega (arith, width),
      omega arith,
      omega (arith, ap length two),
      c.in_ok-place_of-2.ensures.count ∙ c.in_ok-place_of.ensures.count ∙ c.in_ok-met.ensures.count,
    )

pub cells-preserved : goal.cells-preserved
cells-preserved c =
    let grid = c.args.grid.now in
    let firsts = c.args.firsts.now in
    let order = c.cells.met.order.items in
    let cells = c.cells.cells.items in
    let met = c.place_of-in-cells.new.self in
    let more = met.order.items in
    let h = c.cells.invariant in
    let place = c.in_ok-place_of-3.ensures.place in
    let keeps = c.in_ok-place_of-3.ensures.order in
    let once = indexed_once more met.places.items met.indexed in
    let items = c.in_ok-push.ensures.items in
    let grown = grows order more c.next.result c.in_ok-place_of-3.field-0 keeps once place.0 place.1 in
    let target : c.next.result ≡ cell_of grid (get_or order c.rows.next 0) (get_or firsts c.cells.first-index 0) =
    c.next.ensures ∙ ap (λ r. cell_of grid r (get_or firsts c.cells.first-index 0)) (sym h.3) in (
      subst (λ (l : List ℕ). IsWalkedSoFar grid firsts more l) (sym items)
          (walk_goes_on grid firsts c.requires order cells h.0 c.rows.next c.cells.first-index h.1 c.cells-test.true c.rows.invariant.2 h.2 more c.next.result
          c.in_ok-place_of-3.field-0 keeps once place.0 place.1 target),
      omega (arith, ap length items, length_push cells c.in_ok-place_of-3.field-0, h.1),
      omega (arith, grown.more, h.2),
      grown.old_at c.rows.next h.2 ∙ h.3,
      c.in_ok-place_of-3.ensures.count ∙ h.4,
    )

pub rows-smaller : goal.rows-smaller
rows-smaller c =
    let met = c.rows.met in
    let few = indexed_few met.order.items met.places.items met.indexed in
    let h = c.rows.invariant in
    let low : c.rows.next < length met.order.items = omega (arith, c.rows-test.true, c.len.ensures, met.order.ok.0) in
    omega (arith, few, h.4, low)

pub returns : goal.returns
returns c =
    let grid = c.args.grid.now in
    let firsts = c.args.firsts.now in
    let met = c.rows.met in
    let order = met.order.items in
    let h = c.rows.invariant in
    let end : c.rows.next ≡ length order = omega (arith, c.rows-test.false, c.len.ensures, met.order.ok.0, h.3) in
    walk_ends grid firsts c.requires order c.rows.cells.items h.0 (indexed_once order met.places.items met.indexed)
    (λ k low. subst (λ n. get_or order k 0 < n) h.4 (met.indexed.each k low).0)
    (h.1 ∙ ap (λ n. n * length firsts) end)
