use Rattle.std.proofs.Common.{◌≡◌, ◌<◌, ◌≤◌, ◌++◌, ◌∷◌, [], List, ℕ, length, get_or, sym, ap, ◌∙◌, subst, arith}
use Rattle.std.proofs.lemmas.List.Sums.{sum_by-append}
use Rattle.rbbi_model.specs.Costs.{characters_read}
use Rattle.rbbi_model.proofs.Lists.{all_append}
use Rattle.rbbi_tally.specs.inner.Segments.{Segment, AreSegments}
use Rattle.rbbi_tally.specs.inner.Counting.{AreCountsOf}
use Rattle.rbbi_tally.specs.inner.Searching.{reads_of}
use Rattle.rbbi_tally.specs.inner.Pieces.{segments_in, contents, ArePieces, IsPiece}
use Rattle.rbbi_tally.proofs.SegmentLists.{segments_joined}
use Rattle.rbbi_tally.proofs.PieceLists.{contents_push}
use Rattle.rbbi_tally.proofs.Opening.{reads_up_to, counts_few, counts_more, refilled}
use Rattle.rbbi_tally.proofs.open.segments_of.Goals as goal

pub fill-requires-clause-few : goal.fill-requires-clause-few
fill-requires-clause-few g c =
    let x = g.T.Chars.characters c.args.text.now in
    let inv = c.loop-place.invariant in
    subst (λ ns. (list : ℕ) → list < length ns → get_or ns list 0 ≤ c.loop-place.place) (sym c.deref_mut.ensures.value)
    (counts_few c.args.table.now x (length c.args.table.now.lists) c.loop-place.place (contents c.loop-place.pieces.items)
    c.loop-place.counts.items inv.segments inv.counted)

pub returns-in_err-filled-clause-reads : goal.returns-in_err-filled-clause-reads
returns-in_err-filled-clause-reads g c =
    let x = g.T.Chars.characters c.args.text.now in
    let inv = c.loop-place.invariant in
    let few = reads_up_to c.args.table.now x c.loop-place.place (contents c.loop-place.pieces.items) inv.segments inv.within in
    record { more = omega (arith, inv.read, c.in_err-filled.ensures.err); cost = omega (arith, inv.read, c.in_err-filled.ensures.err, few) }

pub returns-in_err-push-clause-reads : goal.returns-in_err-push-clause-reads
returns-in_err-push-clause-reads g c =
    let x = g.T.Chars.characters c.args.text.now in
    let table = c.args.table.now in
    let inv = c.loop-place.invariant in
    let fills = c.in_ok-filled.ensures.filled in
    let old : List Segment = contents c.loop-place.pieces.items in
    let new : List Segment = segments_in c.in_ok-filled.filled.0 in
    let few = reads_up_to table x c.in_ok-filled.filled.1 (old ++ new)
    (segments_joined table x 0 c.loop-place.place c.in_ok-filled.filled.1 old new inv.segments fills.segments) fills.within in
    let both = sum_by-append (λ s. characters_read table x s.at) old new in
    record { more = omega (arith, inv.read, fills.read); cost = omega (arith, inv.read, fills.read, few, both) }

pub loop-place-preserved : goal.loop-place-preserved
loop-place-preserved g c =
    let x = g.T.Chars.characters c.args.text.now in
    let table = c.args.table.now in
    let inv = c.loop-place.invariant in
    let fills = c.in_ok-filled.ensures.filled in
    let old : List Segment = contents c.loop-place.pieces.items in
    let new : List Segment = segments_in c.in_ok-filled.filled.0 in
    let place = c.in_ok-filled.filled.1 in
    let are : contents c.push.new.self.items ≡ old ++ new =
    ap contents c.in_ok-push.ensures.items ∙ contents_push c.loop-place.pieces.items c.in_ok-filled.filled.0 in
    let counts = c.fill.new.counts in
    let value : c.deref_mut.result.now ≡ c.loop-place.counts.items = c.deref_mut.ensures.value in
    let written = refilled counts c.loop-place.counts.items c.loop-place.counts.len c.loop-place.counts.ok.0 (fills.counted.all ∙ ap length value) in
    record {
      are_pieces =
          subst ArePieces (sym c.in_ok-push.ensures.items)
          (all_append IsPiece c.loop-place.pieces.items (c.in_ok-filled.filled.0 ∷ []) inv.are_pieces (fills.is, tt));
      segments =
          subst (AreSegments table x 0 place) (sym are) (segments_joined table x 0 c.loop-place.place place old new inv.segments fills.segments);
      within = fills.within;
      counted =
          subst (AreCountsOf (length table.lists) (contents c.push.new.self.items)) (sym written)
          (subst (λ l. AreCountsOf (length table.lists) l counts) (sym are)
          (counts_more (length table.lists) old new c.deref_mut.result.now counts
          (subst (AreCountsOf (length table.lists) old) (sym value) inv.counted) fills.counted));
      read = omega (arith, fills.read, ap (λ l. reads_of table x l) are, sum_by-append (λ s. characters_read table x s.at) old new);
      fit = c.in_ok-filled.ensures.fit ∙ inv.fit;
    }

pub returns-clause-reads : goal.returns-clause-reads
returns-clause-reads g c =
    let x = g.T.Chars.characters c.args.text.now in
    let inv = c.loop-place.invariant in
    let few = reads_up_to c.args.table.now x c.loop-place.place (contents c.loop-place.pieces.items) inv.segments inv.within in
    record { more = omega (arith, inv.read); cost = omega (arith, inv.read, few) }
