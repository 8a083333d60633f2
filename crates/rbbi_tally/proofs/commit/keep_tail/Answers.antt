use Rattle.std.proofs.Common.{◌≡◌, ◌+◌, ◌++◌, ◌∷◌, [], List, length, map, drop, sym, refl, ap, ◌∙◌, subst, arith, append_assoc, length-append, length-drop}
use Rattle.std.specs.List.{AllByRecursion}
use Rattle.std.proofs.lemmas.List.{map-append, append-nil, drop_all}
use Rattle.rbbi_model.proofs.Lists.{all_left, all_right}
use Rattle.rbbi_tally.specs.inner.Segments.{Segment, moved}
use Rattle.rbbi_tally.specs.inner.Editing.{CanMove}
use Rattle.rbbi_tally.specs.inner.Pieces.{segment_of, segments_by, segments_in, segments_from, contents}
use Rattle.rbbi_tally.proofs.PieceLists.{drop_map_read, segments_push, same_segment, spot_short, spot_item, from_item, length_in}
use Rattle.rbbi_tally.proofs.commit.keep_tail.Goals as goal
use Rattle.rbbi_tally.proofs.commit.keep_tail.Goals.{After-index-pieces-met, After-index-kept}

-- the segments from the spot on: the rest of its piece, and the pieces behind
from : (c : After-index-pieces-met) → segments_from c.args.pieces.now c.args.met
    ≡ drop c.args.met.item (segments_in c.index-pieces-met.result) ++ contents (drop (c.args.met.piece + 1) c.args.pieces.now)
from c =
    let p = c.index-pieces-met.result in
    let short = spot_short c.args.pieces.now c.args.met c.requires.spot c.if-met-eq0.false in
    let item = spot_item c.args.pieces.now c.args.met p c.requires.spot short c.index-pieces-met.is in
    from_item c.args.pieces.now c.args.met.piece c.args.met.item p short c.index-pieces-met.is (omega (arith, item))

-- the segment that is read can be moved, and those behind it
all : (c : After-index-kept) → CanMove c.args.edit c.args.start (segment_of c.index-pieces-met.result.start c.index-kept.result.now)
    × AllByRecursion (CanMove c.args.edit c.args.start) (drop (c.loop-k.k + 1) (segments_in c.index-pieces-met.result))
all c =
    let p = c.index-pieces-met.result in
    let here = drop_map_read (segment_of p.start) p.items.items c.loop-k.k c.index-kept.result.now (omega (arith, c.len-k-end.ensures)) c.index-kept.ensures in
    subst (λ l. AllByRecursion (CanMove c.args.edit c.args.start) l) here c.loop-k.invariant.movable

pub loop-k-init : goal.loop-k-init
loop-k-init c =
    let ps = c.args.pieces.now in
    let met = c.args.met in
    let p = c.index-pieces-met.result in
    let from' = from (goal.at.loop-k-init c).After-index-pieces-met in
    record {
      parts = refl;
      room = omega (arith, ap (λ (l : List Segment). length l) from', length-append {A = Segment}, length-drop {A = Segment}, length_in p);
      movable =
          all_left (CanMove c.args.edit c.args.start) (drop met.item (segments_in p)) (contents (drop (met.piece + 1) ps))
          (subst (λ l. AllByRecursion (CanMove c.args.edit c.args.start) l) from' c.requires.movable);
    }

pub overflow_sub-at : goal.overflow_sub-at
overflow_sub-at c =
    let can = (all (goal.at.overflow_sub-at c).After-index-kept).0 in omega (arith, can.behind, c.at.ensures.value)

pub overflow_add-at-in-loop-k : goal.overflow_add-at-in-loop-k
overflow_add-at-in-loop-k c =
    let can = (all (goal.at.overflow_add-at-in-loop-k c).After-index-kept).0 in omega (arith, can.behind, can.ahead, can.small, c.at.ensures.value)

pub overflow_sub-at-in-loop-k : goal.overflow_sub-at-in-loop-k
overflow_sub-at-in-loop-k c =
    let can = (all (goal.at.overflow_sub-at-in-loop-k c).After-index-kept).0 in omega (arith, can.behind, can.from, c.at.ensures.value)

pub new-requires-clause-near : goal.new-requires-clause-near
new-requires-clause-near c =
    let can = (all (goal.at.new-requires-clause-near c).After-index-kept).0 in omega (arith, can.behind, can.near, c.at.ensures.value)

pub loop-k-preserved : goal.loop-k-preserved
loop-k-preserved c =
    let p = c.index-pieces-met.result in
    let k = c.loop-k.k in
    let inv = c.loop-k.invariant in
    let edit = c.args.edit in
    let here = drop_map_read (segment_of p.start) p.items.items k c.index-kept.result.now (omega (arith, c.len-k-end.ensures)) c.index-kept.ensures in
    let all' = all (goal.at.loop-k-preserved c).After-index-kept in
    let can = all'.0 in
    let s : Segment = segment_of p.start c.index-kept.result.now in
    let m : Segment = moved edit.removed edit.inserted s in
    let rest : List Segment = map (moved edit.removed edit.inserted) (drop (k + 1) (segments_in p)) in
    let old : List Segment = segments_by c.args.start c.loop-k.items.items in
    let new = segments_push c.args.start c.loop-k.items.items c.push_reserved.new.self.items c.new.result m c.push_reserved.ensures.items
    (same_segment (segment_of c.args.start c.new.result) m
    (omega (arith, c.new.ensures.at, c.at.ensures.value, can.behind, can.from))
    (omega (arith, c.new.ensures.at, c.new.ensures.ahead, c.at.ensures.value, c.ahead.ensures.value, can.behind, can.from))
    (c.new.ensures.list ∙ c.list.ensures.value)) in
    record {
      parts =
          ap (λ l. l ++ rest) new ∙ append_assoc old (m ∷ []) rest
          ∙ ap (λ l. old ++ map (moved edit.removed edit.inserted) l) (sym here) ∙ inv.parts;
      room = omega (arith, inv.room, c.push_reserved.ensures.len, c.push_reserved.ensures.capacity);
      movable = all'.1;
    }

pub returns-then-met-eq0-clause-tail : goal.returns-then-met-eq0-clause-tail
returns-then-met-eq0-clause-tail c =
    ap (λ n. segments_by c.args.start c.args.items.now.items ++ map (moved c.args.edit.removed c.args.edit.inserted) (drop n (contents
    (drop c.args.met.piece c.args.pieces.now)))) (sym c.if-met-eq0.true)

pub returns-clause-within : goal.returns-clause-within
returns-clause-within c =
    let short = spot_short c.args.pieces.now c.args.met c.requires.spot c.if-met-eq0.false in omega (arith, short)

pub returns-clause-tail : goal.returns-clause-tail
returns-clause-tail c =
    let ps = c.args.pieces.now in
    let met = c.args.met in
    let p = c.index-pieces-met.result in
    let edit = c.args.edit in
    let behind : List Segment = contents (drop (met.piece + 1) ps) in
    let done = drop_all c.loop-k.k (segments_in p) (omega (arith, length_in p, c.len-k-end.ensures, c.loop-k-test.false)) in
    let old : List Segment = segments_by c.args.start c.args.items.now.items in
    let now : List Segment = segments_by c.args.start c.loop-k.items.items in
    let whole : now ≡ old ++ map (moved edit.removed edit.inserted) (drop met.item (segments_in p)) =
    sym (append-nil now) ∙ ap (λ l. now ++ map (moved edit.removed edit.inserted) l) (sym done) ∙ c.loop-k.invariant.parts in
    ap (λ l. l ++ map (moved edit.removed edit.inserted) behind) whole
    ∙ append_assoc old (map (moved edit.removed edit.inserted) (drop met.item (segments_in p))) (map (moved edit.removed edit.inserted) behind)
    ∙ ap (λ l. old ++ l) (sym (map-append (moved edit.removed edit.inserted) (drop met.item (segments_in p)) behind))
    ∙ ap (λ l. old ++ map (moved edit.removed edit.inserted) l) (sym (from (goal.at.returns-clause-tail c).After-index-pieces-met))

pub returns-then-met-eq0-clause-movable : goal.returns-then-met-eq0-clause-movable
returns-then-met-eq0-clause-movable c =
    subst (λ n. AllByRecursion (CanMove c.args.edit c.args.start) (drop n (contents (drop c.args.met.piece c.args.pieces.now)))) c.if-met-eq0.true
    c.requires.movable

pub returns-clause-movable : goal.returns-clause-movable
returns-clause-movable c =
    all_right (CanMove c.args.edit c.args.start) (drop c.args.met.item (segments_in c.index-pieces-met.result))
    (contents (drop (c.args.met.piece + 1) c.args.pieces.now))
    (subst (λ l. AllByRecursion (CanMove c.args.edit c.args.start) l) (from (goal.at.returns-clause-movable c).After-index-pieces-met) c.requires.movable)
