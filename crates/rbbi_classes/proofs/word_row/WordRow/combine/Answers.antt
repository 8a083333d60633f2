-- One piece more is joined with the row.
use Rattle.std.proofs.Common.{◌≡◌, ℕ, length, take, ◌∙◌, ⊎_elim, inl, inr, arith, length-take}
use Rattle.std.proofs.lemmas.List.{get_or-take}
use Rattle.rbbi_classes.proofs.ClassRows.{joined-more}
use Rattle.rbbi_classes.proofs.word_row.WordRow.combine.Goals as goal

pub loop-place-preserved : goal.loop-place-preserved
loop-place-preserved c =
    let from : ℕ = c.args.self.now.from in
    let place : ℕ = c.loop-place.place in
    let count : ℕ = c.min-count.result in
    let piece = take count c.piece_at-piece.result.now in
    let long : length piece ≡ count = omega (arith, length-take count c.piece_at-piece.result.now) in
    record {
      begun = omega (arith, c.loop-place.invariant.begun);
      within = omega arith;
      joined =
          joined-more c.args.operation from c.args.first place count c.as_mut_slice-row.result.now c.loop-place.row c.apply.new.row piece c.args.other.now
          c.requires.from c.loop-place.invariant.begun
          (λ j short. get_or-take count c.piece_at-piece.result.now j 0 short ∙ c.piece_at-piece.ensures.words j (omega (arith, short)))
          (λ j t short bit. c.apply.ensures.inside j t (omega (arith, short, long)) bit)
          (λ j out. c.apply.ensures.outside j (⊎_elim (λ sooner. inl sooner) (λ past. inr (omega (arith, past, long))) out)) c.loop-place.invariant.joined;
    }
