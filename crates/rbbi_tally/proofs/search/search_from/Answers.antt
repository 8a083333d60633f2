use Rattle.std.proofs.Common.{◌∙◌, arith}
use Rattle.rbbi_model.proofs.Found.{look_lies}
use Rattle.rbbi_session.proofs.Reaching.{found_within}
use Rattle.rbbi_tally.specs.inner.Segments.{Segment, segment_at}
use Rattle.rbbi_tally.specs.inner.Pieces.{segment_of}
use Rattle.rbbi_tally.proofs.PieceLists.{segments_push, same_segment}
use Rattle.rbbi_tally.proofs.search.search_from.Goals as goal

pub new-requires-clause-few : goal.new-requires-clause-few
new-requires-clause-few g c =
    omega (arith, (look_lies c.args.table.now (g.T.Chars.characters c.args.text.now) c.args.place c.requires.within).1)

pub new-requires-clause-near : goal.new-requires-clause-near
new-requires-clause-near g c = omega (arith, c.requires.within, c.len-short.ensures.most)

pub new-requires-clause-list : goal.new-requires-clause-list
new-requires-clause-list g c =
    omega (arith, found_within c.args.table.now c.valid.ensures (g.T.Chars.characters c.args.text.now) c.args.place, c.valid.ensures.lists.few)

pub bounds-counts-found : goal.bounds-counts-found
bounds-counts-found g c =
    omega (arith, found_within c.args.table.now c.valid.ensures (g.T.Chars.characters c.args.text.now) c.args.place)

pub bounds-counts-found-2 : goal.bounds-counts-found-2
bounds-counts-found-2 g c =
    omega (arith, found_within c.args.table.now c.valid.ensures (g.T.Chars.characters c.args.text.now) c.args.place)

pub returns-clause-items : goal.returns-clause-items
returns-clause-items g c =
    let x = g.T.Chars.characters c.args.text.now in
    let looks = look_lies c.args.table.now x c.args.place c.requires.within in
    let there : Segment = segment_at c.args.table.now x c.args.place in
    segments_push c.args.start c.args.items.now.items c.push_reserved.new.self.items c.new.result there c.push_reserved.ensures.items
    (same_segment (segment_of c.args.start c.new.result) there
    (omega (arith, c.new.ensures.at, c.requires.start))
    (omega (arith, c.new.ensures.at, c.new.ensures.ahead, c.requires.start, c.next-found.ensures.look, looks.0))
    (c.new.ensures.list ∙ c.next-found.ensures.status))
