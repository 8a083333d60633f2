use Rattle.std.proofs.Common.{◌≡◌, ◌≤◌, ◌<◌, ◌⊎◌, ◌+◌, true, ℕ, List, length, refl, sym, ap, ◌∙◌, subst, inl, inr, arith, length-set}
use Rattle.rbbi_model.specs.Places.{largest}
use Rattle.rbbi_model.specs.Tables.{statuses_of}
use Rattle.rbbi_model.specs.Searches.{look_end}
use Rattle.rbbi_scan.specs.Columns.{columns}
use Rattle.rbbi_scan.proofs.Fills.{fills_start, fills_kept, fills_passed}
use Rattle.rbbi_scan.proofs.Statuses.{found_within}
use Rattle.rbbi_scan.proofs.filling.fill.Goals as goal
use Rattle.rbbi_scan.proofs.filling.fill.Goals.{else-not-is_final-via-then-not-is_final+else-found-len, else-not-is_final-via-else-not-is_final}

pub loop-at-init : goal.loop-at-init
loop-at-init g c = record {
  inside = omega arith;
  room = c.requires.room;
  fit = refl;
  filled = fills_start c.args.table.now c.args.asked c.args.window.now c.args.ends.now c.args.base c.args.is_final c.args.count
      (columns c.args.starts.now c.args.places.now c.args.statuses.now);
}

pub get-requires-clause-within : goal.get-requires-clause-within
get-requires-clause-within g c =
    subst (λ n. n < length c.args.table.now.lists) (sym c.next-found.ensures.status)
    (found_within c.args.table.now c.valid.ensures c.args.window.now c.loop-at.at)

pub loop-at-preserved-then-not-is_kept : goal.loop-at-preserved-then-not-is_kept
loop-at-preserved-then-not-is_kept g c =
    let w : List ℕ = c.args.window.now in
    let table = c.args.table.now in
    let at : ℕ = c.loop-at.at in
    let reads : (c.args.is_final ≡ true) ⊎ (look_end table w at ≤ length w) =
    elim c.else-not-is_final.branch [
      | else-not-is_final-via-then-not-is_final+else-found-len b ↦ inr (omega (arith, b.if-found-len.false, c.next-found.ensures.look, c.len-len.ensures.exact))
      | else-not-is_final-via-else-not-is_final b ↦ inl b.if-not-is_final.false
    ] in
    let inside : at < length w = omega (arith, c.loop-at-test.true, c.len-len.ensures.exact) in
    let past = c.next_boundary_is_past_the_start.ensures table w at inside in
    let here = columns c.loop-at.starts c.loop-at.places c.loop-at.statuses in
    record {
      inside = omega (arith, past.1, c.next-found.ensures.at);
      room = c.loop-at.invariant.room;
      fit = c.next-found.ensures.fit ∙ c.loop-at.invariant.fit;
      filled = fills_passed table c.args.asked w c.args.ends.now c.args.base c.args.is_final c.args.count
          (columns c.args.starts.now c.args.places.now c.args.statuses.now) here here at c.next-found.result.at c.loop-at.count c.loop-at.count
          c.loop-at.invariant.filled inside c.next-found.ensures.at reads (sym c.is_kept.ensures ∙ c.if-not-is_kept.true) refl refl;
    }

pub loop-at-preserved : goal.loop-at-preserved
loop-at-preserved g c =
    let w : List ℕ = c.args.window.now in
    let table = c.args.table.now in
    let at : ℕ = c.loop-at.at in
    let reads : (c.args.is_final ≡ true) ⊎ (look_end table w at ≤ length w) =
    elim c.else-not-is_final.branch [
      | else-not-is_final-via-then-not-is_final+else-found-len b ↦ inr (omega (arith, b.if-found-len.false, c.next-found.ensures.look, c.len-len.ensures.exact))
      | else-not-is_final-via-else-not-is_final b ↦ inl b.if-not-is_final.false
    ] in
    let inside : at < length w = omega (arith, c.loop-at-test.true, c.len-len.ensures.exact) in
    let past = c.next_boundary_is_past_the_start.ensures table w at inside in
    let number : ℕ = c.args.asked.origin + c.args.base + c.units_before-in-loop-at.result in
    record {
      inside = omega (arith, past.1, c.next-found.ensures.at);
      room = omega (arith, c.if-count-places.true, length-set c.loop-at.places c.loop-at.count number);
      fit = c.next-found.ensures.fit ∙ c.loop-at.invariant.fit;
      filled = fills_kept table c.args.asked w c.args.ends.now c.args.base c.args.is_final c.args.count
          (columns c.args.starts.now c.args.places.now c.args.statuses.now) (columns c.loop-at.starts c.loop-at.places c.loop-at.statuses)
          (columns c.write_place.new.room _ c.write_at.new.room) at c.next-found.result.at c.loop-at.count (c.loop-at.count + 1)
          c.loop-at.invariant.filled inside c.next-found.ensures.at reads (c.args.asked.origin + c.args.base + c.units_before.result) number c.get.result
          (sym c.is_kept.ensures ∙ c.if-not-is_kept.false) refl (ap (λ n. c.args.asked.origin + c.args.base + n) c.units_before.ensures)
          (ap (λ n. c.args.asked.origin + c.args.base + n) c.units_before-in-loop-at.ensures)
          (c.get.ensures ∙ ap (λ l. largest (statuses_of table l)) c.next-found.ensures.status) c.write_place.ensures refl c.write_at.ensures;
    }
