use Rattle.std.proofs.Common.{◌≡◌, ◌+◌, ◌<◌, ◌∷◌, [], List, ℕ, length, sym, ap, ◌∙◌, subst, inl, inr, arith}
use Rattle.std.proofs.lemmas.List.{length-map}
use Rattle.std.proofs.lemmas.List.Sums.{sum_by_push}
use Rattle.rbbi_model.specs.Costs.{characters_read}
use Rattle.rbbi_model.specs.Searches.{found}
use Rattle.rbbi_model.proofs.Found.{found_lies}
use Rattle.rbbi_tally.specs.inner.Segments.{Segment, segment_at, AreSegments}
use Rattle.rbbi_tally.specs.inner.Counting.{IsRecounted}
use Rattle.rbbi_tally.specs.inner.Searching.{reads_of}
use Rattle.rbbi_tally.specs.inner.Pieces.{segment_of, segments_by, segments_in}
use Rattle.rbbi_tally.proofs.SegmentLists.{segments_go_on, segments_push}
use Rattle.rbbi_tally.proofs.Counted.{recounted_on}
use Rattle.rbbi_tally.proofs.Filling.{begin_of, some_found, looks_small, counts_small}
use Rattle.rbbi_tally.proofs.open.fill.Given.{Over}
use Rattle.rbbi_tally.proofs.open.fill.Goals as goal
use Rattle.rbbi_tally.proofs.open.fill.Goals.{Left-loop-place, then-loop-place-test+else-len-lt-FILLED, else-loop-place-test}

-- at the end of the text, or with a full piece, there is a segment
some : (g : Over) (c : Left-loop-place g) → 0 < length c.loop-place.items.items
some g c =
    let x = g.T.Chars.characters c.args.text.now in
    some_found c.args.table.now x c.args.start c.loop-place.place c.loop-place.items.items c.loop-place.invariant.segments c.requires.within
    (elim c.loop-place-test.branch [
      | then-loop-place-test+else-len-lt-FILLED w ↦ inr (omega (arith, w.len.ensures, w.if-len-lt-FILLED.false))
      | else-loop-place-test w ↦ inl (omega (arith, c.len-len.ensures.exact, w.loop-place-test.false))
    ])

pub search_from-place-requires-clause-start : goal.search_from-place-requires-clause-start
search_from-place-requires-clause-start g c =
    let x = g.T.Chars.characters c.args.text.now in
    let segments = c.loop-place.invariant.segments in
    omega (arith, segments_go_on c.args.table.now x c.args.start c.loop-place.place (segments_by c.args.start c.loop-place.items.items) segments)

pub search_from-place-requires-clause-few : goal.search_from-place-requires-clause-few
search_from-place-requires-clause-few g c =
    let x = g.T.Chars.characters c.args.text.now in
    let inv = c.loop-place.invariant in
    counts_small c.args.table.now x c.args.start c.loop-place.place c.loop-place.items.items c.args.counts.now c.loop-place.counts inv.segments
    (omega (arith, c.len-len.ensures.exact, c.loop-place-test.true)) c.len-len.ensures.most inv.counted c.requires.few

pub loop-place-smaller : goal.loop-place-smaller
loop-place-smaller g c =
    let x = g.T.Chars.characters c.args.text.now in
    let short : c.loop-place.place < length x = omega (arith, c.len-len.ensures.exact, c.loop-place-test.true) in
    omega (arith, c.search_from-place.ensures.place, found_lies c.args.table.now x c.loop-place.place short)

pub loop-place-preserved : goal.loop-place-preserved
loop-place-preserved g c =
    let x = g.T.Chars.characters c.args.text.now in
    let table = c.args.table.now in
    let start = c.args.start in
    let place = c.loop-place.place in
    let short : place < length x = omega (arith, c.len-len.ensures.exact, c.loop-place-test.true) in
    let lies = found_lies table x place short in
    let items : List Segment = segments_by start c.loop-place.items.items in
    let items' : List Segment = segments_by start c.search_from-place.new.items.items in
    let inv = c.loop-place.invariant in
    let f : Segment → ℕ = λ s. characters_read table x s.at in
    let there : Segment = segment_at table x place in
    let is = c.search_from-place.ensures.items in
    record {
      segments =
          subst (λ p. AreSegments table x start p items') (sym c.search_from-place.ensures.place)
          (subst (λ l. AreSegments table x start (found table x place).at l) (sym is) (segments_push table x start place items inv.segments short));
      within = omega (arith, c.search_from-place.ensures.place, lies.1);
      counted =
          subst (λ l. IsRecounted [] l c.args.counts.now c.search_from-place.new.counts) (sym is)
          (recounted_on [] [] items (there ∷ []) c.args.counts.now c.loop-place.counts c.search_from-place.new.counts inv.counted
          c.search_from-place.ensures.counted);
      read = omega (arith, ap (λ l. reads_of table x l) is, sum_by_push f items there);
      capacity = c.search_from-place.ensures.room ∙ inv.capacity;
      fit = c.search_from-place.ensures.fit ∙ inv.fit;
    }

pub new-requires-clause-small : goal.new-requires-clause-small
new-requires-clause-small g c =
    let x = g.T.Chars.characters c.args.text.now in
    looks_small c.args.table.now x c.args.start c.loop-place.place (segments_by c.args.start c.loop-place.items.items) c.loop-place.invariant.segments
    c.len-len.ensures.most

pub new-requires-clause-begin : goal.new-requires-clause-begin
new-requires-clause-begin g c =
    begin_of c.args.table.now (g.T.Chars.characters c.args.text.now) c.args.start c.loop-place.place c.loop-place.items.items c.loop-place.invariant.segments
    (some g (goal.at.new-requires-clause-begin g c).Left-loop-place)

pub returns-clause-filled : goal.returns-clause-filled
returns-clause-filled g c =
    let x = g.T.Chars.characters c.args.text.now in
    let table = c.args.table.now in
    let inv = c.loop-place.invariant in
    let on = segments_go_on table x c.args.start c.loop-place.place (segments_by c.args.start c.loop-place.items.items) inv.segments in
    let is : segments_in c.new.result ≡ segments_by c.args.start c.loop-place.items.items =
    ap (λ n. segments_by n c.new.result.items.items) c.new.ensures.start ∙ ap (λ v. segments_by c.args.start v.items) c.new.ensures.items in
    record {
      is = c.new.ensures.is;
      segments = subst (λ l. AreSegments table x c.args.start c.loop-place.place l) (sym is) inv.segments;
      further = omega (arith, some g (goal.at.returns-clause-filled g c).Left-loop-place, length-map c.loop-place.items.items (segment_of c.args.start));
      within = inv.within;
      counted = subst (λ l. IsRecounted [] l c.args.counts.now c.loop-place.counts) (sym is) inv.counted;
      read = inv.read ∙ ap (λ l. c.args.steps.now + reads_of table x l) (sym is);
    }
