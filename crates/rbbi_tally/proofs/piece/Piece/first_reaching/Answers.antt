use Rattle.std.proofs.Common.{◌≤◌, List, length, get_or, subst, sym, ap, arith}
use Rattle.rbbi_tally.specs.declared.kept.Kept.{Kept}
use Rattle.rbbi_tally.specs.inner.Kept.{at_of, ahead_of}
use Rattle.rbbi_tally.specs.inner.Spots.{LooksPast}
use Rattle.rbbi_tally.specs.inner.Pieces.{segment_of}
use Rattle.rbbi_tally.proofs.PieceLists.{drop_map_more, all_map_more, no_item}
use Rattle.rbbi_tally.proofs.piece.Piece.first_reaching.Goals as goal

pub loop-item-preserved : goal.loop-item-preserved
loop-item-preserved c =
    let items = c.args.self.now.items.items in
    let at = ap (λ (l : List Kept). at_of (get_or l c.loop-item.item no_item)) c.deref-kept-items.ensures.value in
    let ahead = ap (λ (l : List Kept). ahead_of (get_or l c.loop-item.item no_item)) c.deref-kept-items.ensures.value in
    all_map_more (λ s. s.look ≤ c.args.place) (segment_of c.args.self.now.start) items c.loop-item.item no_item
    (omega (arith, ap (λ (l : List Kept). length l) c.deref-kept-items.ensures.value)) c.loop-item.invariant
    (omega (arith, c.at.ensures.value, c.ahead.ensures.value))

pub returns-then-self-at-clause-first : goal.returns-then-self-at-clause-first
returns-then-self-at-clause-first c =
    let items = c.args.self.now.items.items in
    let at = ap (λ (l : List Kept). at_of (get_or l c.loop-item.item no_item)) c.deref-kept-items.ensures.value in
    let ahead = ap (λ (l : List Kept). ahead_of (get_or l c.loop-item.item no_item)) c.deref-kept-items.ensures.value in
    subst (LooksPast c.args.place) (sym (drop_map_more (segment_of c.args.self.now.start) items c.loop-item.item no_item
    (omega (arith, ap (λ (l : List Kept). length l) c.deref-kept-items.ensures.value)))) (omega (arith, c.at.ensures.value, c.ahead.ensures.value))
