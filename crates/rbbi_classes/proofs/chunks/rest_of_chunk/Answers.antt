-- A word stands in the first chunk that reaches to it.
use Rattle.std.proofs.Common.{◌≡◌, ◌+◌, ◌-◌, ◌<◌, length, drop, take, get_or, sym, ap, ◌∙◌, arith, length-take, length-drop}
use Rattle.std.specs.List.{flat_map}
use Rattle.std.specs.Rc.{rc_slice_items}
use Rattle.std.proofs.lemmas.List.{get_or-take, get_or-drop}
use Rattle.std.proofs.lemmas.List.Concat.{get_or-flat_map}
use Rattle.rbbi_classes.proofs.chunks.rest_of_chunk.Goals as goal

pub returns-then-left-words-clause-words : goal.returns-then-left-words-clause-words
returns-then-left-words-clause-words c = λ k short.
    let items = c.args.chunks.now in
    let chunk = c.chunk-item.result in
    let left = c.loop-chunk.left in
    let i = c.loop-chunk.chunk-index in
    let words = c.as_slice-words.result.now in
    let rest = drop left words in
    let inside : left + k < length words =
    omega (arith, short, length-take (length words - left) rest, length-drop left words) in
    let reach : left + k < length (rc_slice_items (get_or items i chunk)) =
    omega (arith, inside, ap length c.as_slice-words.ensures.value, ap (λ x. length (rc_slice_items x)) c.chunk-item.is) in
    let place : length (flat_map rc_slice_items (take i items)) + (left + k) ≡ c.args.place + k = omega (arith, c.loop-chunk.invariant) in
    get_or-take (length words - left) rest k 0 (omega (arith, inside))
    ∙ get_or-drop left words k 0
    ∙ ap (λ xs. get_or xs (left + k) 0) c.as_slice-words.ensures.value
    ∙ ap (λ x. get_or (rc_slice_items x) (left + k) 0) c.chunk-item.is
    ∙ sym (get_or-flat_map rc_slice_items items i (left + k) chunk 0 c.loop-chunk-test.true reach)
    ∙ ap (λ n. get_or (flat_map rc_slice_items items) n 0) place
