-- One window more: what it gives of a text, and why no more follows.
use Rattle.std.proofs.Common.{◌≡◌, ℕ, ◌+◌, ◌-◌, ◌<◌, ◌≤◌, ◌⊎◌, Bool, false, List, [], ◌++◌, length, take, drop, Option, Some, None, sym, ap, ◌∙◌}
use Rattle.std.proofs.Common.{subst, inl, inr, ⊎_elim, arith, append-nil, length-append, length-drop}
use Rattle.std.specs.Prelude.{IsTrue, MatchOption, ◌==◌}
use Rattle.std.proofs.lemmas.Bool.{cases_lt, false≢true}
use Rattle.std.proofs.lemmas.List.{drop-drop, drop-append-le}
use Rattle.rbbi_model.specs.declared.unit.Unit.{Unit as TextUnit}
use Rattle.rbbi_model.specs.Tables.{Table}
use Rattle.rbbi_model.specs.Units.{offset_of}
use Rattle.rbbi_model.specs.Searches.{look_end}
use Rattle.rbbi_scan.specs.Columns.{Columns}
use Rattle.rbbi_scan.specs.Decoded.{IsDecoded}
use Rattle.rbbi_scan.specs.Filling.{FillsOn, FillsAll}
use Rattle.rbbi_scan.specs.Giving.{GivesOn, StopsFor}
use Rattle.rbbi_scan.specs.Scanning.{IsTextOver, HasGone, GoesOn, ScansOn, StopIs, IsFarIf}
use Rattle.rbbi_scan.specs.Spelled.{BeginWithNone}
use Rattle.rbbi_scan.specs.Windows.{IsWindow}
use Rattle.rbbi_scan.specs.declared.filling.Filled.{Filled}
use Rattle.rbbi_scan.specs.declared.reached.Asked.{Asked}
use Rattle.rbbi_scan.specs.declared.reached.Reached.{Reached}
use Rattle.rbbi_scan.specs.declared.reached.Stop.{Stop}
use Rattle.rbbi_scan.specs.declared.reached.Stop.TheVariants.{End, Room, More, Fault, Far, Memory}
use Rattle.rbbi_scan.specs.declared.scanning.Turn.{Turn}
use Rattle.rbbi_scan.specs.declared.source.Decoded.{Decoded}
use Rattle.rbbi_scan.proofs.Leading.{gives_none, gives_append}
use Rattle.rbbi_scan.proofs.Windows.{length_is, looks_past}
use Rattle.rbbi_scan.proofs.Standing as at

-- where more follows, something was given
pub goes_further : (is_last : Bool) (len room size : ℕ) (decoded : Decoded) (filled : Filled) (end : ℕ) (stop : Option Stop) (turn : Turn)
    → StopIs is_last len room size decoded filled end stop
    → MatchOption stop (turn.is_over ≡ false) (λ why. IsTrue turn.is_over × (turn.reached.stop ≡ why)) → turn.is_over ≡ false → 1 ≤ filled.at
goes_further is_last len room size decoded filled end None turn stop_is stopped more = stop_is
goes_further is_last len room size decoded filled end (Some why) turn stop_is stopped more = absurd (false≢true (sym more ∙ stopped.0))

module _ (unit : TextUnit) (table : Table) (asked : Asked) (units : List ℕ) (is_last : Bool) (start : Reached) (chars ends : List ℕ) (decoded : Decoded) (filled : Filled)
    (before after : Columns) (is_final : Bool) (low : start.resume ≤ length units)
    (is_decoded : IsDecoded unit (drop start.resume units) chars ends decoded.count decoded.used)
    (all_decoded : decoded.count < length chars → BeginWithNone unit (drop (start.resume + decoded.used) units))
    (final : IsTrue is_final → IsTrue is_last × (start.resume + decoded.used ≡ length units)) (some : 0 < length chars)
    (inside : filled.at ≤ length (take decoded.count chars))
    (fills : FillsOn table asked (take decoded.count chars) (take decoded.count ends) start.resume is_final start.count before after filled)
    (fills_all : FillsAll table (take decoded.count chars) is_final (length before.places) filled) where
  module _ (others x : List ℕ) (begin end place : ℕ) (over : IsTextOver unit units others is_last begin end x place start.resume) where
    abbrev rest : List ℕ
    rest = at.rest unit units others is_last begin end x place start.resume over low chars ends decoded.count decoded.used is_decoded

    is_window : IsWindow place (take decoded.count chars) rest x
    is_window = at.is_window unit units others is_last begin end x place start.resume over low chars ends decoded.count decoded.used is_decoded

    size : length (take decoded.count chars) ≡ decoded.count
    size = at.size unit units others is_last begin end x place start.resume over low chars ends decoded.count decoded.used is_decoded

    long : length x ≡ place + length (take decoded.count chars) + length rest
    long = length_is place (take decoded.count chars) rest x is_window

    -- units that follow begin with no character where none was decoded
    none_left : decoded.count < length chars → IsTrue is_last ⊎ (4 ≤ length units - (start.resume + decoded.used)) →
        BeginWithNone unit (drop decoded.used (drop start.resume units) ++ others)
    none_left few how =
        let same : drop decoded.used (drop start.resume units) ≡ drop (start.resume + decoded.used) units = drop-drop decoded.used start.resume units in
        let none : BeginWithNone unit (drop decoded.used (drop start.resume units)) = subst (BeginWithNone unit) (sym same) (all_decoded few) in
        ⊎_elim
        (λ last. subst (BeginWithNone unit)
        (sym (append-nil (drop decoded.used (drop start.resume units))) ∙ ap (λ l. drop decoded.used (drop start.resume units) ++ l) (sym (over.last last)))
        none)
        (λ four. at.none_longer unit (drop decoded.used (drop start.resume units)) others
        (omega (arith, four, ap length same, length-drop (start.resume + decoded.used) units)) none)
        how

    -- the next search reads on past the window
    reads_on : filled.count < length before.places → filled.at < length (take decoded.count chars) →
        place + length (take decoded.count chars) < look_end table x (place + filled.at)
    reads_on free short =
        ⊎_elim
        (λ done. absurd (omega (arith, done, short)))
        (λ other. ⊎_elim
        (λ full. absurd (omega (arith, full, free)))
        (λ reads. looks_past place (take decoded.count chars) rest x is_window table filled.at short reads.1)
        other)
        fills_all

    stops_for : (why : Stop) → StopIs is_last (length units) (length before.places) (length chars) decoded filled (start.resume + decoded.used) (Some why) →
        StopsFor unit table is_last (units ++ others) end x (place + filled.at) filled.count (length before.places) (length chars) why
    stops_for End is =
        let whole = at.ends_whole unit units others is_last begin end x place start.resume over low chars ends decoded.count decoded.used is_decoded is.0 is.2 in
        (omega (arith, is.1, size, long, ap length whole.0), whole.1)
    stops_for Room is = is
    stops_for More is = is
    stops_for (Fault there) is =
        let none = none_left is.2 is.3 in
        let faulty = at.ends_faulty unit units others is_last begin end x place start.resume over low chars ends decoded.count decoded.used is_decoded none in
        let gone : drop there (units ++ others) ≡ drop decoded.used (drop start.resume units) ++ others =
        ap (λ n. drop n (units ++ others)) is.0
        ∙ drop-append-le (start.resume + decoded.used) units others (omega (arith, is.1))
        ∙ ap (λ l. l ++ others) (sym (drop-drop decoded.used start.resume units)) in
        let whole : length x ≡ place + length (take decoded.count chars) = omega (arith, long, ap length faulty.0) in (
          is.0 ∙ sym faulty.1,
          record { inside = omega (arith, is.0, is.1, length-append units others); none = subst (BeginWithNone unit) (sym gone) none },
          ⊎_elim
              (λ short. inr (omega (arith, whole, reads_on is.4 short)))
              (λ done. inl (omega (arith, whole, done, inside)))
              (cases_lt filled.at (length (take decoded.count chars))),
        )
    stops_for Far is =
        let short : filled.at < length (take decoded.count chars) = omega (arith, is.0, is.1, size, some) in
        omega (arith, is.0, is.1, size, reads_on is.2 short)
    stops_for Memory is = tt

    goes_there : (stop : Option Stop) (turn : Turn)
        → StopIs is_last (length units) (length before.places) (length chars) decoded filled (start.resume + decoded.used) stop
        → turn.reached.count ≡ filled.count → turn.reached.resume ≡ start.resume + offset_of unit (take decoded.count chars) filled.at
        → MatchOption stop (turn.is_over ≡ false) (λ why. IsTrue turn.is_over × (turn.reached.stop ≡ why))
        → HasGone unit table asked is_last (length chars) units others begin end x place start before after turn
    goes_there stop turn stop_is count_is resume_is stopped =
        let stands = at.stands unit units others is_last begin end x place start.resume over low chars ends decoded.count decoded.used is_decoded is_final final in
        let given = fills unit (end == length (units ++ others)) begin place rest x stands in
        record {
          given = given.0;
          last = place + filled.at;
          over = at.over_at unit units others is_last begin end x place start.resume over low chars ends decoded.count decoded.used is_decoded filled.at
              turn.reached.resume inside resume_is;
          on = subst (λ n. GivesOn unit table asked.only_words (end == length (units ++ others)) (asked.origin + begin) x place (place + filled.at) given.0 start.count n before after)
              (sym count_is) given.1;
          stops = by_stop stop stop_is stopped;
        }
      where
        by_stop : (stop : Option Stop)
            → StopIs is_last (length units) (length before.places) (length chars) decoded filled (start.resume + decoded.used) stop
            → MatchOption stop (turn.is_over ≡ false) (λ why. IsTrue turn.is_over × (turn.reached.stop ≡ why))
            → IsTrue turn.is_over
            → StopsFor unit table is_last (units ++ others) end x (place + filled.at) turn.reached.count (length before.places) (length chars)
            turn.reached.stop
        by_stop None stop_is stopped ended = absurd (false≢true (sym stopped ∙ ended))
        by_stop (Some why) stop_is stopped ended =
            subst (λ n. StopsFor unit table is_last (units ++ others) end x (place + filled.at) n (length before.places) (length chars) turn.reached.stop)
            (sym count_is)
            (subst (StopsFor unit table is_last (units ++ others) end x (place + filled.at) filled.count (length before.places) (length chars))
            (sym stopped.1) (stops_for why stop_is))

  pub goes_one : (stop : Option Stop) (turn : Turn)
      → StopIs is_last (length units) (length before.places) (length chars) decoded filled (start.resume + decoded.used) stop
      → turn.reached.count ≡ filled.count → turn.reached.resume ≡ start.resume + offset_of unit (take decoded.count chars) filled.at
      → MatchOption stop (turn.is_over ≡ false) (λ why. IsTrue turn.is_over × (turn.reached.stop ≡ why))
      → GoesOn unit table asked is_last (length chars) units start before after turn
  goes_one stop turn stop_is count_is resume_is stopped others x begin end place over =
      goes_there others x begin end place over stop turn stop_is count_is resume_is stopped

module _ (unit : TextUnit) (table : Table) (asked : Asked) (is_last : Bool) (units : List ℕ) where
  -- before the first window
  pub goes_none : (most : ℕ) (start : Reached) (columns : Columns)
      → GoesOn unit table asked is_last most units start columns columns (record { reached = start; is_over = false })
  goes_none most start columns others x begin end place over = record {
    given = [];
    last = place;
    over = over;
    on = gives_none unit table asked.only_words (end == length (units ++ others)) (asked.origin + begin) x place start.count columns;
    stops = λ never. absurd (false≢true never);
  }

  -- one window after others
  pub goes_append : (most : ℕ) (start : Reached) (before middle after : Columns) (turn next : Turn)
      → GoesOn unit table asked is_last most units start before middle turn → GoesOn unit table asked is_last most units turn.reached middle after next
      → GoesOn unit table asked is_last most units start before after next
  goes_append most start before middle after turn next first second others x begin end place over =
      let gone = first others x begin end place over in
      let more = second others x begin end gone.last gone.over in
      record {
        given = gone.given ++ more.given;
        last = more.last;
        over = more.over;
        on = gives_append unit table asked.only_words (end == length (units ++ others)) (asked.origin + begin) x place gone.last more.last gone.given more.given start.count
            turn.reached.count next.reached.count before middle after gone.on more.on;
        stops = λ ended. subst
            (λ n. StopsFor unit table is_last (units ++ others) end x more.last next.reached.count n most next.reached.stop)
            gone.on.in_places.same_room (more.stops ended);
      }

  -- what is given by windows that are over
  pub scans_of : (most : ℕ) (start : Reached) (before after : Columns) (turn : Turn) → IsTrue turn.is_over
      → GoesOn unit table asked is_last most units start before after turn → ScansOn unit table asked is_last most units start before after turn.reached
  scans_of most start before after turn ended goes others x begin end place over =
      let gone = goes others x begin end place over in
      record {
        given = gone.given;
        last = gone.last;
        within = gone.over.within;
        on = gone.on;
        resume_is = gone.over.resume_is;
        stops = gone.stops ended;
      }

  -- nothing is given where memory runs out
  pub scans_none : (most : ℕ) (start reached : Reached) (columns : Columns) → reached ≡ record start { stop = Memory }
      → ScansOn unit table asked is_last most units start columns columns reached
  scans_none most start reached columns is =
      subst (ScansOn unit table asked is_last most units start columns columns) (sym is)
      (λ others x begin end place over. record {
        given = [];
        last = place;
        within = over.within;
        on = gives_none unit table asked.only_words (end == length (units ++ others)) (asked.origin + begin) x place start.count columns;
        resume_is = over.resume_is;
        stops = tt;
      })

  -- windows of another size after those
  pub scans_append : (wide most : ℕ) (start mid last : Reached) (before middle after : Columns)
      → ScansOn unit table asked is_last wide units start before middle mid → ScansOn unit table asked is_last most units mid middle after last
      → ScansOn unit table asked is_last most units start before after last
  scans_append wide most start mid last before middle after first second others x begin end place over =
      let gives = first others x begin end place over in
      let more = second others x begin end gives.last
      (record { last = over.last; text = over.text; within = gives.within; resume_is = gives.resume_is }) in
      record {
        given = gives.given ++ more.given;
        last = more.last;
        within = more.within;
        on = gives_append unit table asked.only_words (end == length (units ++ others)) (asked.origin + begin) x place gives.last more.last gives.given more.given start.count
            mid.count last.count before middle after gives.on more.on;
        resume_is = more.resume_is;
        stops = subst (λ n. StopsFor unit table is_last (units ++ others) end x more.last last.count n most last.stop)
            gives.on.in_places.same_room more.stops;
      }

  stops_any : (wide most : ℕ) (all : List ℕ) (end : ℕ) (x : List ℕ) (last count room : ℕ) (stop : Stop) → IsFarIf false stop
      → StopsFor unit table is_last all end x last count room wide stop → StopsFor unit table is_last all end x last count room most stop
  stops_any wide most all end x last count room End far stops = stops
  stops_any wide most all end x last count room Room far stops = stops
  stops_any wide most all end x last count room More far stops = stops
  stops_any wide most all end x last count room (Fault at) far stops = stops
  stops_any wide most all end x last count room Far far stops = absurd (false≢true far)
  stops_any wide most all end x last count room Memory far stops = stops

  -- the size doesn't matter where no search reads on past a window
  pub scans_any : (wide most : ℕ) (start reached : Reached) (before after : Columns) → IsFarIf false reached.stop
      → ScansOn unit table asked is_last wide units start before after reached → ScansOn unit table asked is_last most units start before after reached
  scans_any wide most start reached before after near scans others x begin end place over =
      let gives = scans others x begin end place over in
      record {
        given = gives.given;
        last = gives.last;
        within = gives.within;
        on = gives.on;
        resume_is = gives.resume_is;
        stops = stops_any wide most (units ++ others) end x gives.last reached.count (length before.places) reached.stop near gives.stops;
      }
