-- The demonstration after some of its edits.
use Rattle.std.proofs.Common.{◌≡◌, ◌<◌, ◌≤◌, ℕ, ◌+◌, ◌*◌, ◌^◌, ◌%◌, ◌/◌, length, refl, sym, ap, ◌∙◌, subst, add-one, arith}
use Rattle.rbbi_model.specs.Tables.{Table}
use Rattle.rbbi_session.specs.Sessions.{Session, boundaries_of}
use Rattle.rbbi_demo.specs.Generator.{next_state, state_drawn, drawn, drawn_text}
use Rattle.rbbi_demo.specs.Edits.{edited_text, state_before, text_after, place_after, places_sum}
use Rattle.rbbi_demo.specs.Summaries.{AreTableBoundaries, IsSum, IsSummary, edit_count}
use Rattle.rbbi_demo.proofs.Drawing.{state_behind, state_more, drawn_behind, length-drawn_text}
use Rattle.rbbi_demo.proofs.Editing.{place_is_asked}

-- so many edits were made: the session has the text after them, and this is the sum so far
pub record IsAfter (table : Table) (count edits : ℕ) (session : Session) (state sum : ℕ) : Type 0 where
  pub table_is : session.table ≡ table
  pub text_is : session.state.text ≡ text_after count edits
  pub state_is : state ≡ state_before count edits
  pub sum_is : IsSum (AreTableBoundaries table) count edits sum
  pub small : sum ≤ edits * 2 ^ 33
  pub short : length session.state.text ≤ count + edits

-- before the first edit
pub after_none : (table : Table) (count : ℕ) (session : Session) (state : ℕ) → session.table ≡ table → session.state.text ≡ drawn_text count count →
    state ≡ state_drawn count count → IsAfter table count 0 session state 0
unfolding state_before
after_none table count session state table_is text state_is =
    let long : length session.state.text ≡ count = ap length text ∙ length-drawn_text count count in
    record {
      table_is = table_is;
      text_is = text;
      state_is = state_is ∙ ap (state_drawn count) (omega arith);
      sum_is = refl;
      small = omega arith;
      short = omega arith;
    }

-- four draws more
next_before : (count edits : ℕ) → next_state (state_drawn (state_before count edits) 3) ≡ state_before count (edits + 1)
unfolding state_before
next_before count edits =
    sym (state_more (state_drawn count (count + 4 * edits)) 3) ∙ state_behind count (count + 4 * edits) 4 ∙ ap (state_drawn count) (omega arith)

-- an edit more
pub after_more : (table : Table) (count edits : ℕ) (session mid new : Session) (s t u sum more : ℕ) → IsAfter table count edits session s sum →
    mid.table ≡ session.table → mid.state.text ≡ edited_text s session.state.text → length mid.state.text ≤ length session.state.text + 1 →
    t ≡ state_drawn s 3 → more ≡ places_sum (boundaries_of mid) (drawn t 1 % (length mid.state.text + 1)) → more < 2 ^ 33 →
    new.table ≡ mid.table → new.state.text ≡ mid.state.text → u ≡ next_state t → IsAfter table count (edits + 1) new u (sum + more)
after_more table count edits session mid new s t u sum more after table' text' longer state' more_is small table'' text'' state'' =
    let here : s ≡ state_before count edits = after.state_is in
    let text : mid.state.text ≡ edited_text (state_before count edits) (text_after count edits) =
    text' ∙ ap (λ v. edited_text v session.state.text) here ∙ ap (edited_text (state_before count edits)) after.text_is in
    let four : drawn t 1 ≡ drawn (state_before count edits) 4 =
    ap (λ v. drawn v 1) (state' ∙ ap (λ v. state_drawn v 3) here) ∙ drawn_behind (state_before count edits) 3 1 in
    let place : drawn t 1 % (length mid.state.text + 1) ≡ place_after count edits =
    place_is_asked (state_before count edits) t (text_after count edits) mid.state.text text four in
    let table_is : mid.table ≡ table = table' ∙ after.table_is in
    record {
      table_is = table'' ∙ table_is;
      text_is = text'' ∙ text ∙ ap (text_after count) (sym (add-one edits));
      state_is = state'' ∙ ap next_state (state' ∙ ap (λ v. state_drawn v 3) here) ∙ next_before count edits;
      sum_is = subst (λ n. IsSum (AreTableBoundaries table) count n (sum + more)) (sym (add-one edits)) (
        sum,
        after.sum_is,
        boundaries_of mid,
        cc (table_is, text),
        ap (λ n. sum + n) (more_is ∙ ap (places_sum (boundaries_of mid)) place),
      );
      small = let before : sum ≤ edits * 2 ^ 33 = after.small in omega arith;
      short = let before : length session.state.text ≤ count + edits = after.short in omega (arith, ap length text'');
    }

-- after all edits the summary is told
pub summed_up : (table : Table) (count edits : ℕ) (session : Session) (state sum chars boundaries : ℕ) → edits ≡ count / 100 →
    IsAfter table count edits session state sum → chars ≡ length session.state.text → boundaries ≡ length (boundaries_of session) →
    IsSummary (AreTableBoundaries table) count (record { chars = chars; edits = count / 100; boundaries = boundaries; sum = sum })
summed_up table count edits session state sum chars boundaries done after chars_is boundaries_is =
    let text : session.state.text ≡ text_after count (edit_count count) = after.text_is ∙ ap (text_after count) done in
    record {
      boundaries = boundaries_of session;
      are = cc (after.table_is, text);
      chars_is = chars_is ∙ ap length text;
      edits_is = refl;
      boundaries_is = boundaries_is;
      sum_is = subst (λ n. IsSum (AreTableBoundaries table) count n sum) done after.sum_is;
    }
