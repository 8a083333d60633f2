-- Each chunk has the words up to the next cut.
use Rattle.std.proofs.Common.{◌∙◌, ◌≡◌, ◌≤◌, ◌+◌, ◌-◌, ℕ, List, take, ap, arith, length-take}
use Rattle.std.specs.List.{flat_map, slice_index}
use Rattle.std.specs.Rc.{rc_slice_items}
use Rattle.std.proofs.lemmas.List.{get_or-take}
use Rattle.rbbi_classes.proofs.ClassChunks.{cut_more}
use Rattle.rbbi_classes.proofs.ClassWords.{word_at-from}
use Rattle.rbbi_classes.proofs.class_shelf.ClassShelf.keep.Goals as goal

pub cuts-preserved : goal.cuts-preserved
cuts-preserved c =
    let set = c.args.set.now in
    let place : ℕ = c.cuts.place in
    let from : ℕ = c.from-from.result in
    let count : ℕ = c.min-count.result in
    let piece = c.piece_at-piece.result.now in
    let part : List ℕ = take count piece in
    let begun : from ≤ place = c.cuts.invariant.begun in
    let is_from : from ≡ set.from = c.from-from.ensures in
    let fits : place + count ≤ c.end_word-end.result = omega arith in
    let at : place - from + count ≡ place + count - from = omega (arith, begun) in
    record {
      begun = omega (arith, begun);
      within = fits;
      cut =
          ap (flat_map rc_slice_items) c.in_ok-push.ensures.items
          ∙ cut_more rc_slice_items set.words part c.cuts.chunks.items c.in_ok-chunk.field-0 (place - from) count c.cuts.invariant.cut c.in_ok-chunk.ensures
          (omega (arith, length-take count piece)) (omega (arith, fits, c.end_word-end.ensures.value, is_from, begun))
          (λ j short. get_or-take count piece j 0 short ∙ c.piece_at-piece.ensures.words j (omega (arith, short))
          ∙ word_at-from set (place + j) (omega (arith, is_from, begun))
          ∙ ap (λ n. slice_index set.words n) (let e : place + j - set.from ≡ place - from + j = omega (arith, is_from, begun) in e))
          ∙ ap (λ n. take n set.words) at;
    }
