use Rattle.std.proofs.Common.{◌≡◌, ◌+◌, ◌<◌, ◌++◌, ◌∷◌, [], max, take, get_or, sym, ap, ◌∙◌, subst, arith, append_assoc}
use Rattle.std.specs.List.{AllByRecursion}
use Rattle.std.proofs.lemmas.List.{take_all, length-map}
use Rattle.rbbi_model.specs.Words.{most_characters}
use Rattle.rbbi_model.proofs.Lists.{all_drop}
use Rattle.rbbi_tally.specs.inner.Segments.{Segment}
use Rattle.rbbi_tally.specs.inner.Pieces.{segment_of, segments_by, segments_in, farthest}
use Rattle.rbbi_tally.proofs.PieceLists.{take_map_more, drop_map_more, no_item, segments_push, same_segment, farthest-append, begin_append}
use Rattle.rbbi_tally.proofs.piece.Piece.append.Goals as goal

pub new-requires-clause-near : goal.new-requires-clause-near
new-requires-clause-near c =
    let here = drop_map_more (segment_of c.args.start) c.args.items.now c.loop-kept.kept-index no_item c.loop-kept-test.true in
    let near = subst (λ l. AllByRecursion (λ (s : Segment). s.at < c.args.self.now.start + most_characters) l) here
    (all_drop (λ (s : Segment). s.at < c.args.self.now.start + most_characters) c.loop-kept.kept-index
    (segments_by c.args.start c.args.items.now) c.requires.near) in
    omega (arith, near.0, c.at.ensures.value, c.requires.behind)

pub loop-kept-preserved : goal.loop-kept-preserved
loop-kept-preserved c =
    let i = c.loop-kept.kept-index in
    let items = c.args.items.now in
    let inv = c.loop-kept.invariant in
    let s : Segment = segment_of c.args.start (get_or items i no_item) in
    let start = inv.start in
    let new = segments_push c.loop-kept.self.start c.loop-kept.self.items.items c.push_reserved.new.self.items c.new.result s c.push_reserved.ensures.items
    (same_segment (segment_of c.loop-kept.self.start c.new.result) s
    (omega (arith, c.new.ensures.at, c.at.ensures.value, c.requires.behind, inv.start))
    (omega (arith, c.new.ensures.at, c.new.ensures.ahead, c.at.ensures.value, c.ahead.ensures.value, c.requires.behind, inv.start))
    (c.new.ensures.list ∙ c.list.ensures.value)) in
    record {
      segments =
          new ∙ ap (λ l. l ++ s ∷ []) inv.segments
          ∙ append_assoc (segments_in c.args.self.now) (take i (segments_by c.args.start items)) (s ∷ [])
          ∙ ap (λ l. segments_in c.args.self.now ++ l) (sym (take_map_more (segment_of c.args.start) items i no_item c.loop-kept-test.true));
      room = omega (arith, inv.room, c.push_reserved.ensures.len, c.push_reserved.ensures.capacity);
      start = inv.start;
      reach = inv.reach;
    }

pub returns-clause-is : goal.returns-clause-is
returns-clause-is c =
    let inv = c.loop-kept.invariant in
    let p = c.args.self.now in
    let added = segments_by c.args.start c.args.items.now in
    let all : take c.loop-kept.kept-index added ≡ added =
    take_all c.loop-kept.kept-index added (omega (arith, length-map c.args.items.now (segment_of c.args.start), c.loop-kept-test.false)) in
    let segments : segments_by c.loop-kept.self.start c.loop-kept.self.items.items ≡ segments_in p ++ added =
    inv.segments ∙ ap (λ l. segments_in p ++ l) all in
    record {
      begin = begin_append p.start c.loop-kept.self.start p.items.items c.loop-kept.self.items.items added inv.start segments c.requires.is.begin;
      reach_is =
          c.max-self.ensures ∙ ap (λ n. max n c.args.reach) (inv.reach ∙ c.requires.is.reach_is) ∙ ap (λ n. max (farthest (segments_in p)) n) c.requires.exact
          ∙ sym (farthest-append (segments_in p) added) ∙ ap farthest (sym segments);
      small = omega (arith, c.max-self.ensures, inv.reach, c.requires.is.small, c.requires.small);
    }

pub returns-clause-segments : goal.returns-clause-segments
returns-clause-segments c =
    let added = segments_by c.args.start c.args.items.now in
    c.loop-kept.invariant.segments ∙ ap (λ l. segments_in c.args.self.now ++ l)
    (take_all c.loop-kept.kept-index added (omega (arith, length-map c.args.items.now (segment_of c.args.start), c.loop-kept-test.false)))
