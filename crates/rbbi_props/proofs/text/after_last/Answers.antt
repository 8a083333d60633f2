use Rattle.std.proofs.Common.{ℕ, List, ◌∙◌, ◌+◌, sym, ap, eqb, length, drop, length-drop, arith}
use Rattle.std.specs.List.{slice_split}
use Rattle.std.proofs.lemmas.List.{take_rest}
use Rattle.rbbi_props.specs.RowLines.{last_part}
use Rattle.rbbi_props.proofs.Pieces.{last_none, last_some}
use Rattle.rbbi_props.proofs.text.after_last.Goals as goal

pub returns-then-place-rest : goal.returns-then-place-rest
returns-then-place-rest c =
    sym (last_none (λ b. eqb b c.args.byte) c.loop-rest.rest.now (omega (arith, c.place_or_len-place.ensures.place))) ∙ c.loop-rest.invariant.1

pub loop-rest-preserved : goal.loop-rest-preserved
loop-rest-preserved c =
    let tail = take_rest c.loop-rest.rest.now (c.place_or_len-place.result + 1) in
    let bound = c.place_or_len-place.ensures.bound in
    let place = c.place_or_len-place.ensures.place in (
      omega (arith, ap length tail, length-drop (c.place_or_len-place.result + 1) c.loop-rest.rest.now, c.loop-rest.invariant.0),
      ap (λ (rest : List ℕ). last_part (slice_split (λ b. eqb b c.args.byte) rest)) tail
          ∙ ap (λ n. last_part (slice_split (λ b. eqb b c.args.byte) (drop (n + 1) c.loop-rest.rest.now))) place
          ∙ sym (last_some (λ b. eqb b c.args.byte) c.loop-rest.rest.now (omega (arith, place, bound)))
          ∙ c.loop-rest.invariant.1,
    )
