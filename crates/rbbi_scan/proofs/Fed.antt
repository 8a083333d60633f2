-- What is given of a text that is fed piece by piece.
use Rattle.std.proofs.Common.{◌≡◌, ℕ, ◌+◌, ◌-◌, ◌^◌, ◌<◌, ◌≤◌, Bool, false, List, [], ◌++◌, length, take, drop, refl, sym, ap, ◌∙◌, subst}
use Rattle.std.proofs.Common.{inl, inr, ⊎_elim, arith, append_assoc, length-append, length-drop, length-take, take-append-drop, append-nil}
use Rattle.std.specs.Prelude.{Result, Ok, Err, OnOk, IsTrue, map, ◌==◌}
use Rattle.std.specs.Result.{is_err}
use Rattle.std.proofs.lemmas.Bool.{cond_both, cases_lt, eqb-true, eq-eqb, false≢true}
use Rattle.std.proofs.lemmas.List.{map-append, length-map, drop-drop, drop_at}
use Rattle.rbbi_model.specs.declared.unit.Unit.{Unit as TextUnit}
use Rattle.rbbi_model.specs.Boundaries.{Boundary}
use Rattle.rbbi_model.specs.Places.{largest}
use Rattle.rbbi_model.specs.Tables.{Table, stops}
use Rattle.rbbi_model.specs.Units.{offset_of}
use Rattle.rbbi_model.specs.Words.{most_characters}
use Rattle.rbbi_model.specs.Searches.{row_at, search_end, look_end, table_boundaries}
use Rattle.rbbi_model.proofs.Found.{least_lies}
use Rattle.rbbi_scan.specs.Columns.{Columns, IsFilled}
use Rattle.rbbi_scan.specs.Feeding.{IsColumn, AreWritten, HasGiven, Begins, HasFed, IsSame, IsFed, HasStopped, written_on, GivesNext}
use Rattle.rbbi_scan.specs.Giving.{Gives, StopsFor}
use Rattle.rbbi_scan.specs.Leading.{Lead, past}
use Rattle.rbbi_scan.specs.Scanning.{ScansOn}
use Rattle.rbbi_scan.specs.Segments.{Segment, segments_of}
use Rattle.rbbi_scan.specs.Spelled.{BeginWithNone, IsTextIn}
use Rattle.rbbi_scan.specs.Stops.{IsStopFrom}
use Rattle.rbbi_scan.specs.Units.{unit_of, units_of}
use Rattle.rbbi_scan.specs.declared.reached.Asked.{Asked}
use Rattle.rbbi_scan.specs.declared.reached.Reached.{Reached}
use Rattle.rbbi_scan.specs.declared.reached.Stop.{Stop}
use Rattle.rbbi_scan.specs.declared.reached.Stop.TheVariants.{End, Room, More, Fault, Far, Memory}
use Rattle.rbbi_scan.specs.declared.scanner.Scanner.{Scanner}
use Rattle.rbbi_scan.proofs.Leading.{lead_append, segments_append, gives_none}
use Rattle.rbbi_scan.proofs.Whole.{whole_is, all_are}
use Rattle.rbbi_scan.proofs.Shifting.{moved, shifted, found_alike, lead_moved, column_moved, offset_moved, written_are, end_far, rest_in}

-- nothing is fed so far, and nothing given
pub fed_none : (table : Table) (new : Scanner) → units_of new.held ≡ [] → new.at ≡ 0 → new.origin ≡ 0 →
    HasFed table [] (record { starts = []; places = []; statuses = [] }) new
fed_none table new held_is at_is origin_is = record {
  gone = [];
  fed_is = sym held_is;
  origin_is = origin_is;
  gives = λ others x end begins. record {
    given = [];
    last = 0;
    within = omega arith;
    found = refl;
    whole = refl;
    written_are = record {
      starts_are = record { few = omega arith; are = λ _. refl };
      places_are = refl;
      statuses_are = record { few = omega arith; are = λ _. refl };
    };
    reached_is = omega (arith, at_is, origin_is);
  };
}

-- one piece more, where so many units are let go
feeds_more : (table : Table) (fed : List ℕ) (written : Columns) (piece : List ℕ) (old new : Scanner) (passed : ℕ) → HasFed table fed written old →
    old.is_last ≡ false → passed ≤ old.at → old.at ≤ length (units_of old.held) → IsSame old new →
    units_of new.held ≡ drop passed (units_of old.held) ++ piece → new.origin ≡ old.origin + passed → new.at + passed ≡ old.at →
    HasFed table (fed ++ piece) written new
feeds_more table fed written piece old new passed has is_open low within same held_is origin_is at_is = record {
  gone = has.gone ++ take passed (units_of old.held);
  fed_is =
      ap (λ l. l ++ piece) (has.fed_is ∙ ap (λ l. has.gone ++ l) (sym (take-append-drop passed (units_of old.held))))
      ∙ ap (λ l. l ++ piece) (sym (append_assoc has.gone (take passed (units_of old.held)) (drop passed (units_of old.held))))
      ∙ append_assoc (has.gone ++ take passed (units_of old.held)) (drop passed (units_of old.held)) piece
      ∙ ap (λ l. (has.gone ++ take passed (units_of old.held)) ++ l) (sym held_is);
  origin_is =
      omega (
        arith,
        origin_is,
        has.origin_is,
        length-append has.gone (take passed (units_of old.held)),
        length-take passed (units_of old.held),
        low,
        within,
      );
  gives = λ others x end begins.
      let whole : (fed ++ piece) ++ others ≡ fed ++ (piece ++ others) = append_assoc fed piece others in
      let old_begins : Begins (unit_of old.held) fed (piece ++ others) old.is_last end x = record {
        last = λ never. absurd (false≢true (sym is_open ∙ never));
        text = subst (λ l. IsTextIn (unit_of old.held) l 0 end x) whole (subst (λ u. IsTextIn u ((fed ++ piece) ++ others) 0 end x) same.unit begins.text);
      } in
      let here : old.origin + old.at ≡ new.origin + new.at = omega (arith, origin_is, at_is) in
      subst (λ u. HasGiven u table new.only_words x (end == length ((fed ++ piece) ++ others)) written (new.origin + new.at)) (sym same.unit)
      (subst (λ w. HasGiven (unit_of old.held) table w x (end == length ((fed ++ piece) ++ others)) written (new.origin + new.at)) (sym same.words)
      (subst (λ n. HasGiven (unit_of old.held) table old.only_words x (end == length ((fed ++ piece) ++ others)) written n) here
      (subst (λ l. HasGiven (unit_of old.held) table old.only_words x (end == length l) written (old.origin + old.at)) (sym whole)
      (has.gives (piece ++ others) x end old_begins))));
}

pub is_fed : (unit : TextUnit) (piece : List ℕ) (is_last : Bool) (old new : Scanner) (passed : ℕ) → unit_of old.held ≡ unit → old.is_last ≡ false →
    passed ≤ old.at → old.at ≤ length (units_of old.held) → IsSame old new → units_of new.held ≡ drop passed (units_of old.held) ++ piece →
    new.origin ≡ old.origin + passed → new.at + passed ≡ old.at → new.is_last ≡ is_last → IsFed unit piece is_last old new
is_fed unit piece is_last old new passed unit_is is_open low within same held_is origin_is at_is last_is = record {
  unit_is = unit_is;
  same = same;
  last_is = last_is;
  feeds = λ table fed written has. feeds_more table fed written piece old new passed has is_open low within same held_is origin_is at_is;
}

-- a column that is written on
column_on : (written before after these those : List ℕ) (so_far count : ℕ) → IsColumn written so_far these → IsFilled before after 0 those →
    count ≡ length those → IsColumn (written ++ take count after) (so_far + count) (these ++ those)
column_on written before after these those so_far count column filled counted =
    let few = column.few in
    let total = length-append written (take count after) in
    let cut = length-take count after in
    record {
      few = omega (arith, few, total, cut);
      are = λ full.
          let fits : count ≤ length before = omega (arith, full, total, cut, few, filled.same_room) in
          ap (λ l. l ++ take count after) (column.are (omega (arith, full, total, cut, few)))
          ∙ ap (λ l. these ++ l) (written_are before after those count filled counted fits);
    }

-- a search past the text's end looks no further
look_short : (table : Table) (x : List ℕ) (s : ℕ) → length x ≤ s → look_end table x s ≤ s + 1
look_short table x s past =
    let z : ℕ = search_end table x s in
    let lies = least_lies (λ q. stops table (row_at table x s q)) (s + 1) (length x - (s + 1)) in
    cond_both (stops table (row_at table x s z)) z (length x + 1) (λ n. n ≤ s + 1) (λ _. omega (arith, lies.1, past)) (λ _. omega (arith, past))

module _ (table : Table) (fed : List ℕ) (written : Columns) (old : Scanner) (has : HasFed table fed written old) (before after : Columns)
    (reached : Reached) (within : old.at ≤ length (units_of old.held))
    (scans : ScansOn (unit_of old.held) table (record { only_words = old.only_words; origin = old.origin }) old.is_last most_characters (units_of old.held)
    (record { count = 0; resume = old.at; stop = Memory }) before after reached) where
  module _ (others x : List ℕ) (end : ℕ) (begins : Begins (unit_of old.held) fed others old.is_last end x) where
    abbrev unit : TextUnit
    unit = unit_of old.held

    abbrev held : List ℕ
    held = units_of old.held

    abbrev so_far : HasGiven unit table old.only_words x (end == length (fed ++ others)) written (old.origin + old.at)
    so_far = has.gives others x end begins

    abbrev base : ℕ
    base = (has.gives others x end begins).last

    low : base ≤ length x
    low = so_far.within

    whole : fed ++ others ≡ has.gone ++ (held ++ others)
    whole = ap (λ l. l ++ others) has.fed_is ∙ append_assoc has.gone held others

    text : IsTextIn unit (has.gone ++ (held ++ others)) 0 end x
    text = subst (λ l. IsTextIn unit l 0 end x) whole begins.text

    here : length has.gone + old.at ≡ offset_of unit x base
    here = let is = so_far.reached_is in omega (arith, is, has.origin_is)

    abbrev rest : List ℕ
    rest = drop base x

    abbrev e : ℕ
    e = old.at + offset_of unit (drop base x) (length (drop base x))

    far : end ≡ length has.gone + e
    far = end_far unit has.gone held others x end old.at base text low within here

    gives : Gives unit table (record { only_words = old.only_words; origin = old.origin }) old.is_last most_characters (held ++ others) old.at e rest 0 0
        before after reached
    gives = scans others rest old.at e 0 (record {
      last = begins.last;
      text = rest_in unit has.gone held others x end old.at base text low within here;
      within = omega arith;
      resume_is = omega arith;
    })

    abbrev more : List Boundary
    more = map (moved table x base low) gives.given

    size : length (fed ++ others) ≡ length has.gone + length (held ++ others)
    size = omega (arith, ap length whole, length-append has.gone (held ++ others))

    none : base + 0 ≡ base
    none = omega arith

    lead : Lead (end == length (fed ++ others)) table x base more (base + gives.last)
    lead =
        let how : IsTrue (e == length (held ++ others)) → IsTrue (end == length (fed ++ others)) =
        λ is. eq-eqb end (length (fed ++ others)) (omega (arith, far, size, eqb-true e (length (held ++ others)) is)) in
        subst (λ p. Lead (end == length (fed ++ others)) table x p more (base + gives.last)) none
        (lead_moved table x base low (e == length (held ++ others)) (end == length (fed ++ others)) 0 gives.last gives.given how gives.on.found)

    -- a column with what is told of the segments that were given before, and of those that were given now
    added : (f g : Segment → ℕ) → ((s : Segment) → s.start ≤ length rest → s.end ≤ length rest → f (shifted table x base low s) ≡ g s)
        → (column old_room new_room : List ℕ) (count : ℕ) → IsColumn column count (map f (segments_of old.only_words x 0 so_far.given))
        → IsFilled old_room new_room 0 (map g (segments_of old.only_words rest 0 gives.given))
        → IsColumn (column ++ take reached.count new_room) (count + reached.count) (map f (segments_of old.only_words x 0 (so_far.given ++ more)))
    added f g how column old_room new_room count is filled =
        let ow : Bool = old.only_words in
        let front : List Segment = segments_of ow x 0 so_far.given in
        let back : List Segment = segments_of ow x base more in
        let those : map f back ≡ map g (segments_of ow rest 0 gives.given) =
        subst (λ p. map f (segments_of ow x p more) ≡ map g (segments_of ow rest 0 gives.given)) none
        (column_moved table x base low f g ow (e == length (held ++ others)) 0 gives.last gives.given how gives.on.found) in
        let all_are : map f (segments_of ow x 0 (so_far.given ++ more)) ≡ map f front ++ map f back =
        ap (map f) (segments_append ow (end == length (fed ++ others)) table x 0 base base so_far.given more so_far.found) ∙ map-append f front back in
        let counted : reached.count ≡ length (map g (segments_of ow rest 0 gives.given)) =
        omega (arith, gives.on.counted, length-map (segments_of ow rest 0 gives.given) g) in
        subst (IsColumn (column ++ take reached.count new_room) (count + reached.count)) (sym (all_are ∙ ap (λ l. map f front ++ l) those))
        (column_on column old_room new_room (map f front) (map g (segments_of ow rest 0 gives.given)) count reached.count is filled counted)

    offset_far : (i : ℕ) → i ≤ length rest → 0 + offset_of unit x (base + i) ≡ old.origin + old.at + offset_of unit rest i
    offset_far i inside = omega (arith, offset_moved table x base low unit i inside, here, has.origin_is)

    written_more : reached.count ≤ length before.places → AreWritten unit x (segments_of old.only_words x 0 (so_far.given ++ more)) (written_on written reached.count after)
    written_more room =
        let is = so_far.written_are in
        let places : IsColumn (written.places ++ take reached.count after.places) (length written.places + reached.count)
        (map (λ (s : Segment). 0 + offset_of unit x s.end) (segments_of old.only_words x 0 (so_far.given ++ more))) =
        added (λ s. 0 + offset_of unit x s.end) (λ s. old.origin + old.at + offset_of unit rest s.end) (λ s _ high. offset_far s.end high)
        written.places before.places after.places (length written.places)
        (record { few = omega arith; are = λ _. is.places_are }) gives.on.in_places in
        let total : length (written.places ++ take reached.count after.places) ≡ length written.places + reached.count =
        omega (
          arith,
          length-append written.places (take reached.count after.places),
          length-take reached.count after.places,
          gives.on.in_places.same_room,
          room,
        ) in
        record {
          starts_are = subst (λ n. IsColumn (written.starts ++ take reached.count after.starts) n
              (map (λ (s : Segment). 0 + offset_of unit x s.start) (segments_of old.only_words x 0 (so_far.given ++ more)))) (sym total)
              (added (λ s. 0 + offset_of unit x s.start) (λ s. old.origin + old.at + offset_of unit rest s.start) (λ s high _. offset_far s.start high)
              written.starts before.starts after.starts (length written.places) is.starts_are gives.on.in_starts);
          places_are = places.are total;
          statuses_are = subst (λ n. IsColumn (written.statuses ++ take reached.count after.statuses) n
              (map (λ (s : Segment). largest s.statuses) (segments_of old.only_words x 0 (so_far.given ++ more)))) (sym total)
              (added (λ s. largest s.statuses) (λ s. largest s.statuses) (λ s _ _. refl)
              written.statuses before.statuses after.statuses (length written.places) is.statuses_are gives.on.in_statuses);
        }

    found : Lead (end == length (fed ++ others)) table x 0 (so_far.given ++ more) (base + gives.last)
    found = lead_append (end == length (fed ++ others)) table x 0 base (base + gives.last) so_far.given more so_far.found lead

    given_on : reached.count ≤ length before.places →
        HasGiven unit table old.only_words x (end == length (fed ++ others)) (written_on written reached.count after) (old.origin + reached.resume)
    given_on room =
        let inside = gives.within in
        record {
          given = so_far.given ++ more;
          last = base + gives.last;
          within = omega (arith, inside, low, length-drop base x);
          found = found;
          whole = whole_is table x (end == length (fed ++ others)) 0 (base + gives.last) (so_far.given ++ more) found (inl refl);
          written_are = written_more room;
          reached_is = omega (arith, gives.resume_is, so_far.reached_is, offset_moved table x base low unit gives.last inside);
        }

    -- at the end of the text all is given
    ended : (stop : Stop) → stop ≡ End →
        StopsFor unit table old.is_last (held ++ others) e rest gives.last reached.count (length before.places) most_characters stop →
        base + gives.last ≡ length x
    ended End is stops = omega (arith, stops.0, low, length-drop base x)
    ended Room is stops = absurd (cc)
    ended More is stops = absurd (cc)
    ended Far is stops = absurd (cc)
    ended Memory is stops = absurd (cc)
    ended (Fault at) is stops = absurd (cc)

    all_on : reached.count ≤ length before.places → reached.stop ≡ End →
        AreWritten unit x (segments_of old.only_words x 0 (past 0 (table_boundaries table x))) (written_on written reached.count after)
    all_on room is =
        let all : past 0 (table_boundaries table x) ≡ so_far.given ++ more =
        all_are table x (end == length (fed ++ others)) (base + gives.last) (so_far.given ++ more) found (ended reached.stop is gives.stops) in
        subst (λ bs. AreWritten unit x (segments_of old.only_words x 0 bs) (written_on written reached.count after)) (sym all) (written_more room)

    looks_on : (n : ℕ) → 0 < n → gives.last + n < look_end table rest gives.last → base + gives.last + n < look_end table x (base + gives.last)
    looks_on n some reads =
        ⊎_elim
        (λ short. let same = (found_alike table x base low gives.last short).look in omega (arith, same, reads))
        (λ past. absurd (omega (arith, reads, some, look_short table rest gives.last past)))
        (cases_lt gives.last (length rest))

    stopped : (stop there : Stop) → IsStopFrom stop old.origin there → end < 2 ^ 64
        → StopsFor unit table old.is_last (held ++ others) e rest gives.last reached.count (length before.places) most_characters stop
        → StopsFor unit table old.is_last (fed ++ others) end x (base + gives.last) reached.count (length before.places) most_characters there
    stopped End there is small stops =
        subst (StopsFor unit table old.is_last (fed ++ others) end x (base + gives.last) reached.count (length before.places) most_characters) (sym is)
        (omega (arith, stops.0, low, length-drop base x), omega (arith, stops.1, far, size))
    stopped Room there is small stops =
        subst (StopsFor unit table old.is_last (fed ++ others) end x (base + gives.last) reached.count (length before.places) most_characters) (sym is) stops
    stopped More there is small stops =
        subst (StopsFor unit table old.is_last (fed ++ others) end x (base + gives.last) reached.count (length before.places) most_characters) (sym is) stops
    stopped Far there is small stops =
        subst (StopsFor unit table old.is_last (fed ++ others) end x (base + gives.last) reached.count (length before.places) most_characters) (sym is)
        (looks_on most_characters (omega arith) stops)
    stopped Memory there is small stops =
        subst (StopsFor unit table old.is_last (fed ++ others) end x (base + gives.last) reached.count (length before.places) most_characters) (sym is) tt
    stopped (Fault at) (Fault there) is small stops =
        let origin = has.origin_is in
        let there_is : there ≡ old.origin + at = is (omega (arith, stops.0, far, origin, small)) in
        let end_is : there ≡ end = omega (arith, there_is, stops.0, far, origin) in
        let gone : drop there (fed ++ others) ≡ drop at (held ++ others) =
        ap (λ n. drop n (fed ++ others)) (let e2 : there ≡ length has.gone + at = omega (arith, there_is, origin) in e2)
        ∙ ap (drop (length has.gone + at)) whole
        ∙ sym (drop-drop at (length has.gone) (has.gone ++ (held ++ others)))
        ∙ ap (drop at) (drop_at has.gone (held ++ others) (length has.gone) refl) in
        let fault = stops.1 in
        let inside = gives.within in (
          end_is,
          record { inside = omega (arith, fault.inside, there_is, origin, size); none = subst (BeginWithNone unit) (sym gone) fault.none },
          ⊎_elim
              (λ done. inl (omega (arith, done, low, length-drop base x)))
              (λ reads.
              ⊎_elim
              (λ short.
              let same = (found_alike table x base low gives.last short).look in inr (omega (arith, same, reads, low, length-drop base x)))
              (λ past. inl (omega (arith, past, inside, low, length-drop base x)))
              (cases_lt gives.last (length rest)))
              stops.2,
        )
    stopped (Fault at) End is small stops = absurd (cc)
    stopped (Fault at) Room is small stops = absurd (cc)
    stopped (Fault at) More is small stops = absurd (cc)
    stopped (Fault at) Far is small stops = absurd (cc)
    stopped (Fault at) Memory is small stops = absurd (cc)

    pub stops_on : (result : Reached) → result.count ≡ reached.count → result.resume ≡ old.origin + reached.resume
        → IsStopFrom reached.stop old.origin result.stop
        → HasStopped unit table (fed ++ others) old.is_last end x (length before.places) result
    stops_on result count resume stop =
        let inside = gives.within in
        record {
          last = base + gives.last;
          resume_is = omega (arith, resume, gives.resume_is, so_far.reached_is, offset_moved table x base low unit gives.last inside);
          stops = λ small.
              subst (λ n. StopsFor unit table old.is_last (fed ++ others) end x (base + gives.last) n (length before.places) most_characters result.stop)
              (sym count) (stopped reached.stop result.stop stop small gives.stops);
        }

  -- more is given of the units that were fed
  pub fed_on : (new : Scanner) → IsSame old new → units_of new.held ≡ units_of old.held → new.origin ≡ old.origin → new.is_last ≡ old.is_last
      → new.at ≡ reached.resume → reached.count ≤ length before.places → HasFed table fed (written_on written reached.count after) new
  fed_on new same held_is origin_is last_is at_is room = record {
    gone = has.gone;
    fed_is = has.fed_is ∙ ap (λ l. has.gone ++ l) (sym held_is);
    origin_is = origin_is ∙ has.origin_is;
    gives = λ others x end begins.
        let old_begins : Begins (unit_of old.held) fed others old.is_last end x = record {
          last = λ last. begins.last (last_is ∙ last);
          text = subst (λ u. IsTextIn u (fed ++ others) 0 end x) same.unit begins.text;
        } in
        let reached_is : old.origin + reached.resume ≡ new.origin + new.at = omega (arith, origin_is, at_is) in
        subst (λ u. HasGiven u table new.only_words x (end == length (fed ++ others)) (written_on written reached.count after) (new.origin + new.at))
        (sym same.unit)
        (subst (λ w. HasGiven (unit_of old.held) table w x (end == length (fed ++ others)) (written_on written reached.count after) (new.origin + new.at))
        (sym same.words)
        (subst (HasGiven (unit_of old.held) table old.only_words x (end == length (fed ++ others)) (written_on written reached.count after))
        reached_is (given_on others x end old_begins room)));
  }

-- the end is told where the text has it
end_is : (stop there : Stop) (origin : ℕ) → IsStopFrom stop origin there → there ≡ End → stop ≡ End
end_is End there origin is ends = refl
end_is Room there origin is ends = absurd (cc)
end_is More there origin is ends = absurd (cc)
end_is Far there origin is ends = absurd (cc)
end_is Memory there origin is ends = absurd (cc)
end_is (Fault at) (Fault there) origin is ends = absurd (cc)
end_is (Fault at) End origin is ends = absurd (cc)
end_is (Fault at) Room origin is ends = absurd (cc)
end_is (Fault at) More origin is ends = absurd (cc)
end_is (Fault at) Far origin is ends = absurd (cc)
end_is (Fault at) Memory origin is ends = absurd (cc)

-- what one call gives of the segments
pub gives_next : (table : Table) (old new : Scanner) (before after : Columns) (reached result : Reached) → old.at ≤ length (units_of old.held) →
    ScansOn (unit_of old.held) table (record { only_words = old.only_words; origin = old.origin }) old.is_last most_characters (units_of old.held)
    (record { count = 0; resume = old.at; stop = Memory }) before after reached → IsSame old new → units_of new.held ≡ units_of old.held →
    new.origin ≡ old.origin → new.is_last ≡ old.is_last → new.at ≡ reached.resume → reached.count ≤ length before.places →
    result.count ≡ reached.count → result.resume ≡ old.origin + reached.resume → IsStopFrom reached.stop old.origin result.stop →
    GivesNext table before after old new result
gives_next table old new before after reached result within scans same held_is origin_is last_is at_is room count resume stop = record {
  same = same;
  last_is = last_is;
  gives = λ fed written has.
      subst (λ n. HasFed table fed (written_on written n after) new) (sym count)
      (fed_on table fed written old has before after reached within scans new same held_is origin_is last_is at_is room);
  stops = λ fed others x written end has begins.
      stops_on table fed written old has before after reached within scans others x end begins result count resume stop;
  all = λ ends fed x written has text.
      let begins : Begins (unit_of old.held) fed [] old.is_last (length fed) x = record {
        last = λ _. refl;
        text = subst (λ l. IsTextIn (unit_of old.held) l 0 (length fed) x) (sym (append-nil fed)) text;
      } in
      subst (λ n. AreWritten (unit_of old.held) x (segments_of old.only_words x 0 (past 0 (table_boundaries table x))) (written_on written n after)) (sym count)
      (all_on table fed written old has before after reached within scans [] x (length fed) begins room
      (end_is reached.stop result.stop old.origin stop ends));
}

-- what holds of a value holds where there is no error
pub if_fed : {T E : Type 0} (result : Result T E) (P : Type 0) → OnOk result P → is_err result ≡ false → P
if_fed (Ok value) P holds is = holds
if_fed (Err why) P holds is = absurd (false≢true (sym is))

-- nothing is searched where more units may follow
pub scans_none : (unit : TextUnit) (table : Table) (asked : Asked) (is_last : Bool) (units : List ℕ) (from : ℕ) (columns : Columns) (stop : Stop) →
    is_last ≡ false → ScansOn unit table asked is_last most_characters units (record { count = 0; resume = from; stop = stop }) columns columns
    (record { count = 0; resume = from; stop = More })
scans_none unit table asked is_last units from columns stop is_open = λ others x begin end place over. record {
  given = [];
  last = place;
  within = over.within;
  on = gives_none unit table asked.only_words (end == length (units ++ others)) (asked.origin + begin) x place 0 columns;
  resume_is = over.resume_is;
  stops = is_open;
}
