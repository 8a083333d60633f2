-- The words of some of the chunks are no more than those of all.
use Rattle.std.proofs.Common.{length, ap, arith}
use Rattle.std.specs.Rc.{rc_slice_items}
use Rattle.std.proofs.lemmas.List.Folds.{length-flat_map-take}
use Rattle.rbbi_classes.proofs.chunks.words_in.Goals as goal

pub overflow_add-count : goal.overflow_add-count
overflow_add-count c =
    omega (
      arith,
      c.loop-chunk.invariant,
      ap (λ xs. length (rc_slice_items xs)) c.chunk-item.is,
      length-flat_map-take rc_slice_items c.args.chunks.now c.loop-chunk.chunk-index c.chunk-item.result c.loop-chunk-test.true,
    )
