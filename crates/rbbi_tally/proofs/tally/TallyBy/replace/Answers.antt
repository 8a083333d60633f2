use Rattle.std.proofs.Common.{◌≤◌, ◌++◌, length, take, drop, sym, ap, ◌∙◌, subst, arith}
use Rattle.std.specs.Prelude.{chars}
use Rattle.std.proofs.lemmas.List.{length-map}
use Rattle.rbbi_model.specs.Words.{most_characters}
use Rattle.rbbi_model.specs.Lists.{IsRising}
use Rattle.rbbi_tally.specs.Costs.{tally_edit_cost}
use Rattle.rbbi_tally.specs.inner.Segments.{AreSegments, place_of}
use Rattle.rbbi_tally.specs.inner.Counting.{AreCountsOf, AreCounted}
use Rattle.rbbi_tally.specs.inner.Searching.{places_to, AreMet}
use Rattle.rbbi_tally.specs.inner.Spots.{IsFirstReaching}
use Rattle.rbbi_tally.specs.inner.Tallied.{IsTallied}
use Rattle.rbbi_tally.specs.inner.Pieces.{segment_of, segments_by, contents, segments_from, segments_before}
use Rattle.rbbi_tally.proofs.PieceLists.{spot_parts}
use Rattle.rbbi_tally.proofs.SegmentLists.{segments_parted, segments_short}
use Rattle.rbbi_tally.proofs.Opening.{refilled}
use Rattle.rbbi_tally.proofs.Replacing.{Parts, parts_are, met_is_of, counted_is, lengths, old_few, start_within, old_rise, before_start, old_counted}
use Rattle.rbbi_tally.proofs.Replacing.{all_are, begin_is, all_rise, all_fit, movable, room_is, all_counted, cost_is}
use Rattle.rbbi_tally.proofs.tally.TallyBy.replace.Given.{Over}
use Rattle.rbbi_tally.proofs.tally.TallyBy.replace.Goals as goal
use Rattle.rbbi_tally.proofs.tally.TallyBy.replace.Goals.{After-deref_mut, After-search_again-met}

-- what the tally kept, in its box
abbrev kept : (g : Over) (c : After-deref_mut g) → IsTallied c.table-table.result.now (g.T.Chars.characters c.deref_mut-counted.result.now.text)
    c.deref_mut-counted.result.now.pieces.items c.deref_mut-counted.result.now.counts.items c.deref_mut-counted.result.now.marks
kept g c =
    subst (λ k. IsTallied c.table-table.result.now (g.T.Chars.characters k.text) k.pieces.items k.counts.items k.marks)
    (sym c.deref_mut-counted.ensures.value)
    (subst (λ t. IsTallied t (g.T.Chars.characters c.self.inside.counted.value.text) c.self.inside.counted.value.pieces.items
    c.self.inside.counted.value.counts.items c.self.inside.counted.value.marks) (sym c.table-table.ensures) c.self.invariant)

-- where the old text's segments part, by the pieces as they are when the search begins
abbrev parts : (g : Over) (c : After-deref_mut g) → Parts c.table-table.result.now (g.T.Chars.characters c.deref_mut-counted.result.now.text)
    (g.T.Chars.characters c.replace.new.self) (record { at = c.args.at; removed = c.args.remove; inserted = c.in_ok-inserted.inserted })
    (segments_before c.reserve-2.new.self.items c.first_reaching-first.result) (segments_from c.reserve-2.new.self.items c.first_reaching-first.result)
    c.place_at-start.result
parts g c =
    parts_are (record { at = c.args.at; removed = c.args.remove; inserted = c.in_ok-inserted.inserted }) (chars c.args.insert.now)
    c.first_reaching-first.result (kept g c) c.valid.ensures c.deref.ensures.value c.first_reaching-first.ensures.first c.deref-2.ensures.value
    c.place_at-start.ensures c.len-end.ensures.exact c.in_ok-replace.ensures.0 c.in_ok-inserted.ensures.2 c.in_ok-replace.ensures.2 c.reserve-2.ensures.items

small : (g : Over) (c : After-deref_mut g) → length (g.T.Chars.characters c.replace.new.self) ≤ most_characters
small g c = omega (arith, lengths (parts g c), c.in_ok-inserted.ensures.1, c.in_ok-inserted.ensures.0, c.len-end.ensures.exact)

counted : (g : Over) (c : After-deref_mut g) → AreCountsOf (length c.table-table.result.now.lists)
    (segments_before c.reserve-2.new.self.items c.first_reaching-first.result ++ segments_from c.reserve-2.new.self.items c.first_reaching-first.result)
    c.deref_mut.result.now
counted g c = counted_is c.first_reaching-first.result (kept g c) c.reserve-2.ensures.items c.deref_mut.ensures.value

met : (g : Over) (c : After-search_again-met g) → AreMet c.table-table.result.now (g.T.Chars.characters c.replace.new.self)
    (record { at = c.args.at; removed = c.args.remove; inserted = c.in_ok-inserted.inserted }) c.place_at-start.result
    (segments_from c.reserve-2.new.self.items c.first_reaching-first.result) (length (g.T.Chars.characters c.deref_mut-counted.result.now.text))
    (segments_by c.place_at-start.result c.search_again-met.new.items.items) c.search_again-met.result.place
    (segments_from c.reserve-2.new.self.items c.search_again-met.result.spot) c.deref_mut.result.now c.search_again-met.new.counts
met g c = met_is_of c.first_reaching-first.result c.search_again-met.result.spot c.search_again-met.ensures.met c.deref-3.ensures.value c.len-end.ensures.exact

pub overflow_sub-end-2 : goal.overflow_sub-end-2
overflow_sub-end-2 g c =
    let x = g.T.Chars.characters c.deref_mut-counted.result.now.text in
    let first = c.first_reaching-first.result in
    let pieces = c.deref_mut-counted.result.now.pieces.items in
    let value = c.deref.ensures.value in
    let reaching : IsFirstReaching c.args.at (segments_before pieces first) (segments_from pieces first) =
    subst (λ l. IsFirstReaching c.args.at (segments_before l first) (segments_from l first)) value c.first_reaching-first.ensures.first in
    let parts = segments_parted c.table-table.result.now x 0 (length x) (segments_before pieces first) (segments_from pieces first)
    (subst (AreSegments c.table-table.result.now x 0 (length x)) (sym (spot_parts pieces first))
    (subst (λ k. AreSegments c.table-table.result.now (g.T.Chars.characters k.text) 0 (length (g.T.Chars.characters k.text)) (contents k.pieces.items))
    (sym c.deref_mut-counted.ensures.value)
    (subst (λ t. AreSegments t (g.T.Chars.characters c.self.inside.counted.value.text) 0 (length (g.T.Chars.characters c.self.inside.counted.value.text))
    (contents c.self.inside.counted.value.pieces.items)) (sym c.table-table.ensures) c.self.invariant.segments))) in
    let start = ap (λ l. place_of (segments_from l first) c.len-end.result) c.deref-2.ensures.value in
    let low = segments_short c.table-table.result.now x c.valid.ensures c.args.at 0 (place_of (segments_from pieces first) (length x))
    (segments_before pieces first) parts.0 (omega arith) reaching.short in
    omega (arith, ap (λ n. place_of (segments_from pieces first) n) c.len-end.ensures.exact, c.in_ok-inserted.ensures.0)

pub search_again-met-requires-clause-rise : goal.search_again-met-requires-clause-rise
search_again-met-requires-clause-rise g c =
    subst (λ l. IsRising (places_to (segments_from l c.first_reaching-first.result) c.len-end.result)) (sym c.deref-3.ensures.value)
    (subst (λ n. IsRising (places_to (segments_from c.reserve-2.new.self.items c.first_reaching-first.result) n)) (sym c.len-end.ensures.exact)
    (old_rise (parts g (goal.at.search_again-met-requires-clause-rise g c).After-deref_mut)))

pub search_again-met-requires-clause-start : goal.search_again-met-requires-clause-start
search_again-met-requires-clause-start g c = start_within (parts g (goal.at.search_again-met-requires-clause-start g c).After-deref_mut)

pub search_again-met-requires-clause-counted : goal.search_again-met-requires-clause-counted
search_again-met-requires-clause-counted g c =
    let at = goal.at.search_again-met-requires-clause-counted g c in
    subst (λ l. AreCounted (segments_from l c.first_reaching-first.result) c.deref_mut.result.now) (sym c.deref-3.ensures.value)
    (old_counted (parts g at.After-deref_mut) c.deref_mut.result.now (counted g at.After-deref_mut))

pub search_again-met-requires-clause-few : goal.search_again-met-requires-clause-few
search_again-met-requires-clause-few g c =
    let at = goal.at.search_again-met-requires-clause-few g c in
    let few = old_few (parts g at.After-deref_mut) c.deref_mut.result.now (counted g at.After-deref_mut) in
    λ list short. omega (arith, few list short, c.len-end.ensures.exact, c.len-end.ensures.most)

pub commit-requires-clause-movable : goal.commit-requires-clause-movable
commit-requires-clause-movable g c =
    let at = goal.at.commit-requires-clause-movable g c in
    movable (parts g at.After-deref_mut) (met g at.After-search_again-met) (small g at.After-deref_mut)

pub commit-requires-clause-room : goal.commit-requires-clause-room
commit-requires-clause-room g c =
    let at = goal.at.commit-requires-clause-room g c in
    let parts' = parts g at.After-deref_mut in
    let room = room_is parts' (met g at.After-search_again-met) in
    let long = length-map c.search_again-met.new.items.items (segment_of c.place_at-start.result) in
    omega (arith, lengths parts', c.search_again-met.ensures.room, c.in_ok-reserve.ensures.ok, c.len-end.ensures.exact)

pub commit-requires-clause-before : goal.commit-requires-clause-before
commit-requires-clause-before g c = before_start (parts g (goal.at.commit-requires-clause-before g c).After-deref_mut)

pub commit-requires-clause-begin : goal.commit-requires-clause-begin
commit-requires-clause-begin g c =
    let at = goal.at.commit-requires-clause-begin g c in
    begin_is (parts g at.After-deref_mut) (met g at.After-search_again-met)

pub commit-requires-clause-rise : goal.commit-requires-clause-rise
commit-requires-clause-rise g c =
    let at = goal.at.commit-requires-clause-rise g c in
    all_rise (parts g at.After-deref_mut) (met g at.After-search_again-met)

pub commit-requires-clause-small : goal.commit-requires-clause-small
commit-requires-clause-small g c =
    let at = goal.at.commit-requires-clause-small g c in
    all_fit (parts g at.After-deref_mut) (met g at.After-search_again-met) (small g at.After-deref_mut)

pub invariant_of-self-2 : goal.invariant_of-self-2
invariant_of-self-2 g c =
    let lists = length c.table-table.result.now.lists in
    let counts = c.search_again-met.new.counts in
    let y = g.T.Chars.characters c.replace.new.self in
    let at = goal.at.invariant_of-self-2 g c in
    let parts' = parts g at.After-deref_mut in
    let met' = met g at.After-search_again-met in
    let written = refilled counts c.deref_mut-counted.result.now.counts.items c.deref_mut-counted.result.now.counts.len c.deref_mut-counted.result.now.counts.ok.0
    (met'.are_found.counted.all ∙ ap length c.deref_mut.ensures.value) in
    let is = c.table-table.ensures in
    record {
      are_pieces = c.commit.ensures.pieces;
      segments = subst (λ t. AreSegments t y 0 (length y) (contents c.commit.new.pieces.items)) is
          (subst (AreSegments c.table-table.result.now y 0 (length y)) (sym c.commit.ensures.contents) (all_are parts' met'));
      counted = subst (λ t. AreCountsOf (length t.lists) (contents c.commit.new.pieces.items)
          (take c.deref_mut-counted.result.now.counts.len (counts ++ drop (length counts) c.deref_mut-counted.result.now.counts.items))) is
          (subst (AreCountsOf lists (contents c.commit.new.pieces.items)) (sym written)
          (subst (λ l. AreCountsOf lists l counts) (sym c.commit.ensures.contents) (all_counted parts' met' (counted g at.After-deref_mut))));
      fit = c.search_again-met.ensures.fit ∙ (kept g at.After-deref_mut).fit ∙ ap (λ t. t.slashes) is;
    }

pub returns-clause-reads : goal.returns-clause-reads
returns-clause-reads g c =
    let at = goal.at.returns-clause-reads g c in
    let view = ap (λ k. tally_edit_cost c.table-table.result.now (g.T.Chars.characters k.text) c.args.at c.args.remove (chars c.args.insert.now))
    c.deref_mut-counted.ensures.value
    ∙ ap (λ t. tally_edit_cost t (g.T.Chars.characters c.self.inside.counted.value.text) c.args.at c.args.remove (chars c.args.insert.now))
    c.table-table.ensures
    ∙ ap (λ tally. tally_edit_cost tally.table tally.text c.args.at c.args.remove (chars c.args.insert.now)) c.self.view_is in
    let cost = cost_is (parts g at.After-deref_mut) (met g at.After-search_again-met) in
    record { more = omega (arith, c.search_again-met.ensures.read); cost = omega (arith, c.search_again-met.ensures.read, cost, view) }
