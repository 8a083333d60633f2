use Rattle.std.proofs.Common.{◌≡◌, ◌+◌, ◌<◌, true, false, ℕ, List, length, refl, sym, ap, ◌∙◌, subst, inl, inr, ⊎_elim, arith}
use Rattle.std.proofs.lemmas.Bool.{false≢true, cases_lt}
use Rattle.rbbi_model.specs.Searches.{found, look_end, next_boundary}
use Rattle.rbbi_model.specs.Tables.{statuses_of}
use Rattle.rbbi_session.proofs.Reaching.{found_within}
use Rattle.rbbi_segment.specs.Filters.{searched, reports}
use Rattle.rbbi_segment.specs.Windows.{IsNextSegment}
use Rattle.rbbi_segment.proofs.Handed.{searched_len}
use Rattle.rbbi_segment.proofs.Moved.{stands_passed, stands_more}
use Rattle.rbbi_segment.proofs.segments.hand_searched.Goals as goal

pub loop-now-init : goal.loop-now-init
loop-now-init g c = record {
  lies = c.requires.lies;
  fit = refl;
  stands = λ base rest x first before is last stands. stands;
}

pub next-found-requires-clause-fit : goal.next-found-requires-clause-fit
next-found-requires-clause-fit g c = c.loop-now.invariant.fit ∙ c.requires.fit

pub returns-then-not-is_final-clause-fit : goal.returns-then-not-is_final-clause-fit
returns-then-not-is_final-clause-fit g c = c.next-found.ensures.fit ∙ c.loop-now.invariant.fit

pub returns-then-not-is_final-clause-lies : goal.returns-then-not-is_final-clause-lies
returns-then-not-is_final-clause-lies g c = c.loop-now.invariant.lies

pub returns-then-not-is_final-clause-handed : goal.returns-then-not-is_final-clause-handed
returns-then-not-is_final-clause-handed g c = c.loop-now.invariant.stands

pub returns-then-not-is_final-clause-all : goal.returns-then-not-is_final-clause-all
returns-then-not-is_final-clause-all g c whole last =
    let long : c.len-len.result ≡ length c.args.text.now =
    c.len-len.ensures.exact ∙ ap length c.requires.searched ∙ searched_len c.args.filter.now c.args.text.now in
    ⊎_elim
    (λ more. inr more)
    (λ enough. absurd (false≢true (sym c.if-not-is_final.true ∙ c.is_final.ensures.last whole last (omega (arith, long, enough)))))
    (cases_lt (c.loop-now.now.start + c.args.extent.limit) (length c.args.text.now))

pub segment_up_to-requires-clause-forward : goal.segment_up_to-requires-clause-forward
segment_up_to-requires-clause-forward g c =
    let z : List ℕ = g.S.Chars.characters c.args.searched.now in
    let inside : c.loop-now.now.at < length z = omega (arith, c.loop-now-test.true, c.len-len.ensures.exact) in
    let past = c.next_boundary_is_past_the_start.ensures c.args.table.now z c.loop-now.now.at inside in
    omega (arith, c.loop-now.invariant.lies.ordered, past.0, c.next-found.ensures.at)

pub segment_up_to-requires-clause-listed : goal.segment_up_to-requires-clause-listed
segment_up_to-requires-clause-listed g c =
    subst (λ n. n < length c.args.table.now.lists) (sym c.next-found.ensures.status)
    (found_within c.args.table.now c.valid.ensures (g.S.Chars.characters c.args.searched.now) c.loop-now.now.at)

pub returns-in_default-clause-fit : goal.returns-in_default-clause-fit
returns-in_default-clause-fit g c = c.next-found.ensures.fit ∙ c.loop-now.invariant.fit

pub take-requires-clause-some : goal.take-requires-clause-some
take-requires-clause-some g c =
    let z : List ℕ = g.S.Chars.characters c.args.searched.now in
    let inside : c.loop-now.now.at < length z = omega (arith, c.loop-now-test.true, c.len-len.ensures.exact) in
    let past = c.next_boundary_is_past_the_start.ensures c.args.table.now z c.loop-now.now.at inside in
    omega (arith, c.loop-now.invariant.lies.ordered, past.0, c.next-found.ensures.at)

pub returns-in_err-take-clause-fit : goal.returns-in_err-take-clause-fit
returns-in_err-take-clause-fit g c = c.next-found.ensures.fit ∙ c.loop-now.invariant.fit

pub loop-now-preserved-then-reports : goal.loop-now-preserved-then-reports
loop-now-preserved-then-reports g c =
    let table = c.args.table.now in
    let f = c.args.filter.now in
    let w : List ℕ = c.args.text.now in
    let z : List ℕ = g.S.Chars.characters c.args.searched.now in
    let same : z ≡ searched f w = c.requires.searched in
    let long : length z ≡ length w = ap length same ∙ searched_len f w in
    let s : ℕ = c.loop-now.now.at in
    let at : ℕ = c.next-found.result.at in
    let inside : s < length z = omega (arith, c.loop-now-test.true, c.len-len.ensures.exact) in
    let past = c.next_boundary_is_past_the_start.ensures table z s inside in
    let finds : at ≡ (found table (searched f w) s).at = c.next-found.ensures.at ∙ ap (λ y. (found table y s).at) same in
    let look : c.next-found.result.look ≡ look_end table (searched f w) s = c.next-found.ensures.look ∙ ap (λ y. look_end table y s) same in
    let statuses : statuses_of table c.next-found.result.status ≡ statuses_of table (found table (searched f w) s).list =
    ap (statuses_of table) (c.next-found.ensures.status ∙ ap (λ y. (found table y s).list) same) in
    let shown : reports f (searched f w) at ≡ true = ap (λ y. reports f y at) (sym same) ∙ sym c.reports.ensures ∙ c.if-reports.true in
    let final = c.is_final.ensures.within c.if-not-is_final.false in
    record {
      lies = record { ordered = omega arith; within = omega (arith, past.1, c.next-found.ensures.at, long) };
      fit = c.next-found.ensures.fit ∙ c.loop-now.invariant.fit;
      stands = λ base rest x first before is last stands.
          stands_more g.V.Receive.takes g.V.Receive.pauses c.args.unit f table base w rest x first before is
          c.valid.ensures c.loop-now.now c.loop-now.receiver (g.K.Sink.taken c.loop-now.out) at
          c.loop-now.invariant.lies (omega (arith, inside, long)) (omega (arith, past.0, c.next-found.ensures.at))
          (omega (arith, past.1, c.next-found.ensures.at, long)) finds
          (⊎_elim (λ l. inr (last l))
          (λ ends. inl (omega (arith, ends.0, look, long, c.len-len.ensures.exact), omega (arith, ends.1, long, c.len-len.ensures.exact))) final)
          (c.loop-now.invariant.stands base rest x first before is last stands) c.take.new.self (g.K.Sink.taken c.take.new.out) c.in-Some.segment shown
          (subst (λ l. IsNextSegment c.args.unit w c.loop-now.now at l c.in-Some.segment) statuses c.in-Some.ensures) c.in_ok-take.ensures;
    }

pub loop-now-preserved : goal.loop-now-preserved
loop-now-preserved g c =
    let table = c.args.table.now in
    let f = c.args.filter.now in
    let w : List ℕ = c.args.text.now in
    let z : List ℕ = g.S.Chars.characters c.args.searched.now in
    let same : z ≡ searched f w = c.requires.searched in
    let long : length z ≡ length w = ap length same ∙ searched_len f w in
    let s : ℕ = c.loop-now.now.at in
    let at : ℕ = c.next-found.result.at in
    let inside : s < length z = omega (arith, c.loop-now-test.true, c.len-len.ensures.exact) in
    let past = c.next_boundary_is_past_the_start.ensures table z s inside in
    let finds : at ≡ (found table (searched f w) s).at = c.next-found.ensures.at ∙ ap (λ y. (found table y s).at) same in
    let look : c.next-found.result.look ≡ look_end table (searched f w) s = c.next-found.ensures.look ∙ ap (λ y. look_end table y s) same in
    let hidden : reports f (searched f w) at ≡ false = ap (λ y. reports f y at) (sym same) ∙ sym c.reports.ensures ∙ c.if-reports.false in
    let final = c.is_final.ensures.within c.if-not-is_final.false in
    record {
      lies = record {
        ordered = omega (arith, c.loop-now.invariant.lies.ordered, past.0, c.next-found.ensures.at);
        within = omega (arith, past.1, c.next-found.ensures.at, long);
      };
      fit = c.next-found.ensures.fit ∙ c.loop-now.invariant.fit;
      stands = λ base rest x first before is last stands.
          stands_passed g.V.Receive.takes g.V.Receive.pauses c.args.unit f table base w rest x first before is
          c.valid.ensures c.loop-now.now c.loop-now.receiver (g.K.Sink.taken c.loop-now.out) at
          c.loop-now.invariant.lies (omega (arith, inside, long)) (omega (arith, past.0, c.next-found.ensures.at))
          (omega (arith, past.1, c.next-found.ensures.at, long)) finds
          (⊎_elim (λ l. inr (last l))
          (λ ends. inl (omega (arith, ends.0, look, long, c.len-len.ensures.exact), omega (arith, ends.1, long, c.len-len.ensures.exact))) final)
          (c.loop-now.invariant.stands base rest x first before is last stands) hidden;
    }

pub returns-clause-all : goal.returns-clause-all
returns-clause-all g c whole last =
    inl (omega (arith, c.loop-now-test.false, c.len-len.ensures.exact, ap length c.requires.searched, searched_len c.args.filter.now c.args.text.now))

pub returns-clause-fit : goal.returns-clause-fit
returns-clause-fit g c = c.loop-now.invariant.fit

pub returns-clause-lies : goal.returns-clause-lies
returns-clause-lies g c = c.loop-now.invariant.lies

pub returns-clause-handed : goal.returns-clause-handed
returns-clause-handed g c = c.loop-now.invariant.stands
