-- A tally's segments through an edit: what stays, what is found, what is moved, and what that reads.
use Rattle.std.proofs.Common.{◌≡◌, ℕ, ◌+◌, ◌-◌, ◌<◌, ◌≤◌, Bool, true, false, ◌&&◌, ◌||◌, ltb, leb, eqb, List, [], ◌∷◌, ◌++◌}
use Rattle.std.proofs.Common.{length, map, get_or, sym, refl, ap, ◌∙◌, subst, inl, inr, ⊎_elim, arith, append_assoc, length-append}
use Rattle.std.specs.Prelude.{unwrap_or}
use Rattle.std.specs.List.{AllByRecursion}
use Rattle.std.proofs.lemmas.Bool.{false_from_ne_true, leb-true, and_parts}
use Rattle.std.proofs.lemmas.Bool.Decides.{nat_tests}
use Rattle.std.proofs.lemmas.List.{map-append, length-map}
use Rattle.rbbi_model.specs.Words.{most_characters}
use Rattle.rbbi_model.specs.Lists.{Member, IsRising}
use Rattle.rbbi_model.specs.Tables.{Table}
use Rattle.rbbi_model.specs.ValidTables.{IsValidTable}
use Rattle.rbbi_model.specs.Boundaries.{Boundary}
use Rattle.rbbi_model.specs.Cover.{places}
use Rattle.rbbi_model.specs.Searches.{look_end, found, table_boundaries}
use Rattle.rbbi_model.specs.Answers.{is_place_of}
use Rattle.rbbi_model.specs.Costs.{characters_read}
use Rattle.rbbi_model.specs.Scripts.{splice}
use Rattle.rbbi_model.proofs.Lists.{all_append, all_through}
use Rattle.rbbi_cache.specs.Edits.{IsSpliced}
use Rattle.rbbi_cache.proofs.Texts.{length_is}
use Rattle.rbbi_tally.specs.Costs.{first_reaching, first_met, searches_between, tally_edit_cost}
use Rattle.rbbi_tally.specs.declared.edit.Edit.{Edit}
use Rattle.rbbi_tally.specs.inner.Segments.{Segment, AreSegments, moved, place_of}
use Rattle.rbbi_tally.specs.inner.Counting.{AreCountsOf, AreCounted, count_of}
use Rattle.rbbi_tally.specs.inner.Searching.{places_to, reads_of, IsMet, AreMet}
use Rattle.rbbi_tally.specs.inner.Spots.{LooksPast, IsFirstReaching}
use Rattle.rbbi_tally.specs.inner.Editing.{CanMove, FitText}
use Rattle.rbbi_tally.specs.inner.Pieces.{contents, segments_from, segments_before}
use Rattle.rbbi_tally.specs.inner.Tallied.{IsTallied}
use Rattle.rbbi_tally.specs.declared.piece.Piece.{Piece}
use Rattle.rbbi_tally.specs.declared.spot.Spot.{Spot}
use Rattle.rbbi_tally.proofs.PieceLists.{spot_parts}
use Rattle.rbbi_tally.proofs.SegmentLists.{IsInText, first_place, segments_joined, segments_parted, segments_in_text, segments_go_on, segments_between}
use Rattle.rbbi_tally.proofs.SegmentLists.{segments_rise, segments_short, segments_listed}
use Rattle.rbbi_tally.proofs.Edited.{segments_kept, segments_moved}
use Rattle.rbbi_tally.proofs.Boundaries.{boundary_places, first_passes, sum_of_part, sum_of_reads, places_all, place_is_member, member_is_place}
use Rattle.rbbi_tally.proofs.Opening.{counts_few}
use Rattle.rbbi_tally.proofs.Counted.{counts_after, counted_part, count-cons}

member_behind : (ms ns : List ℕ) (p : ℕ) → Member ns p → Member (ms ++ ns) p
member_behind [] ns p is = is
member_behind (m ∷ ms) ns p is = inr (member_behind ms ns p is)

first_member : (ss : List Segment) (end : ℕ) → Member (places_to ss end) (place_of ss end)
first_member [] end = inl refl
first_member (s ∷ ss) end = inl refl

places_parted : (ss ts : List Segment) (end : ℕ) → places_to (ss ++ ts) end ≡ map (λ s. s.at) ss ++ places_to ts end
places_parted ss ts end =
    ap (λ l. l ++ end ∷ []) (map-append (λ (s : Segment). s.at) ss ts) ∙ append_assoc (map (λ s. s.at) ss) (map (λ s. s.at) ts) (end ∷ [])

-- the first place, and the others
further : List Segment → ℕ → List ℕ
further [] end = []
further (s ∷ ss) end = places_to ss end

first_further : (ss : List Segment) (end : ℕ) → places_to ss end ≡ place_of ss end ∷ further ss end
unfolding further
first_further [] end = refl
first_further (s ∷ ss) end = refl

-- what begins before a place isn't at a later one
not_before : (ss : List Segment) (ns : List ℕ) (low p : ℕ) → AllByRecursion (λ s. s.at < low) ss → low ≤ p → Member (map (λ s. s.at) ss ++ ns) p → Member ns p
not_before [] ns low p all high is = is
not_before (s ∷ ss) ns low p all high is =
    ⊎_elim (λ here. absurd (omega (arith, here, all.0, high))) (λ later. not_before ss ns low p all.1 high later) is

rising_front : (ms : List ℕ) (end : ℕ) → IsRising (ms ++ end ∷ []) → IsRising ms
rising_front [] end rise = tt
rising_front (m ∷ []) end rise = tt
rising_front (m ∷ n ∷ ms) end rise = (rise.0, rising_front (n ∷ ms) end rise.1)

same_counts : (removed inserted list : ℕ) (ss : List Segment) → count_of (map (moved removed inserted) ss) list ≡ count_of ss list
same_counts removed inserted list [] = refl
same_counts removed inserted list (s ∷ ss) =
    omega (arith, count-cons (moved removed inserted s) (map (moved removed inserted) ss) list, count-cons s ss list, same_counts removed inserted list ss)

-- each look end is that of the search from there
looks_are : (table : Table) (x : List ℕ) (from to : ℕ) (ss : List Segment) → AreSegments table x from to ss →
    AllByRecursion (λ s. s.look ≡ look_end table x s.at) ss
looks_are table x from to [] are = tt
looks_are table x from to (s ∷ ss) are =
    (ap (λ t. t.look) are.1 ∙ ap (λ p. look_end table x p) (sym (ap (λ t. t.at) are.1)), looks_are table x (found table x from).at to ss are.2)

all_both : (P Q : Segment → Type 0) (ss : List Segment) → AllByRecursion P ss → AllByRecursion Q ss → AllByRecursion (λ s. P s × Q s) ss
all_both P Q [] all also = tt
all_both P Q (s ∷ ss) all also = ((all.0, also.0), all_both P Q ss all.1 also.1)

-- An edit, and where the segments of the old text part: before the first whose search looks past the edit's place.
pub record Parts (table : Table) (x y : List ℕ) (edit : Edit) (before old : List Segment) (start : ℕ) : Type 0 where
  pub valid : IsValidTable table
  pub edited : IsSpliced x y edit.at edit.removed edit.inserted
  pub whole : AreSegments table x 0 (length x) (before ++ old)
  pub reaching : IsFirstReaching edit.at before old
  pub start_is : start ≡ place_of old (length x)

module _ {table : Table} {x y : List ℕ} {edit : Edit} {before old : List Segment} {start : ℕ} (parts : Parts table x y edit before old start) where
  pub parted : AreSegments table x 0 start before × AreSegments table x start (length x) old
  parted =
      subst (λ p. AreSegments table x 0 p before × AreSegments table x p (length x) old) (sym parts.start_is)
      (segments_parted table x 0 (length x) before old parts.whole)

  pub start_low : start ≤ edit.at
  start_low = segments_short table x parts.valid edit.at 0 start before parted.0 (omega arith) parts.reaching.short

  pub lengths : length y + edit.removed ≡ length x + edit.inserted
  lengths = length_is x y edit.at edit.removed edit.inserted parts.edited

  pub start_within : start ≤ length y
  start_within = let within = parts.edited.within in omega (arith, start_low, lengths)

  pub old_rise : IsRising (places_to old (length x))
  old_rise = segments_rise table x start (length x) old parted.1

  pub before_start : AllByRecursion (λ s. s.at < start) before
  before_start =
      all_through (λ (s : Segment). (0 ≤ s.at) × (s.at < start)) (λ (s : Segment). s.at < start) (λ s both. both.1) before
      (segments_between table x 0 start before parted.0)

  pub old_counted : (counts : List ℕ) → AreCountsOf (length table.lists) (before ++ old) counts → AreCounted old counts
  old_counted counts counted =
      counted_part (length table.lists) before old counts counted (segments_listed table x parts.valid start (length x) old parted.1)

  pub old_few : (counts : List ℕ) → AreCountsOf (length table.lists) (before ++ old) counts →
      (list : ℕ) → list < length counts → get_or counts list 0 ≤ length x
  old_few counts counted = counts_few table x (length table.lists) (length x) (before ++ old) counts parts.whole counted

  reaching_is : first_reaching table x edit.at ≡ start
  reaching_is =
      let n : ℕ = length x in
      let test : ℕ → Bool = λ p. eqb p n || ltb edit.at (look_end table x p) in
      let looks = looks_are table x 0 start before parted.0 in
      let inside = segments_in_text table x 0 start before parted.0 in
      let short_looks = all_both (λ s. s.look ≤ edit.at) (λ s. (s.look ≡ look_end table x s.at) × IsInText x s) before parts.reaching.short
      (all_both (λ s. s.look ≡ look_end table x s.at) (IsInText x) before looks inside) in
      let fails : AllByRecursion (λ p. test p ≡ false) (map (λ s. s.at) before) =
      places_all (λ p. test p ≡ false) before
      (all_through (λ (s : Segment). (s.look ≤ edit.at) × ((s.look ≡ look_end table x s.at) × IsInText x s)) (λ (s : Segment). test s.at ≡ false)
      (λ s each. grind (arith, nat_tests, each.0, each.1.0, each.1.1.at)) before short_looks) in
      ap (λ o. unwrap_or o n)
      (first_passes test (table_boundaries table x) (map (λ s. s.at) before) (place_of old n) (further old n)
      (boundary_places table x (before ++ old) parts.whole ∙ places_parted before old n ∙ ap (λ l. map (λ s. s.at) before ++ l) (first_further old n))
      fails (test_passes old (looks_are table x start n old parted.1) parts.reaching.far))
      ∙ sym parts.start_is
    where
      test_passes : (ss : List Segment) → AllByRecursion (λ s. s.look ≡ look_end table x s.at) ss → LooksPast edit.at ss →
          (eqb (place_of ss (length x)) (length x) || ltb edit.at (look_end table x (place_of ss (length x)))) ≡ true
      test_passes [] looks far = grind (arith, nat_tests)
      test_passes (s ∷ ss) looks far = grind (arith, nat_tests, far, looks.0)

  module _ {found' : List Segment} {place : ℕ} {rest : List Segment} {counts counts' : List ℕ}
      (met : AreMet table y edit start old (length x) found' place rest counts counts') where
    pub rest_are : AreSegments table x (place_of rest (length x)) (length x) rest
    rest_are =
        (segments_parted table x start (length x) met.are_found.gone rest
        (subst (AreSegments table x start (length x)) met.are_found.parted parted.1)).1

    place_behind : start ≤ place
    place_behind = omega (arith, segments_go_on table y start place found' met.are_found.segments)

    pub rest_moved : AreSegments table y place (length y) (map (moved edit.removed edit.inserted) rest)
    rest_moved =
        let to_place : place_of rest (length x) + edit.inserted - edit.removed ≡ place = omega (arith, met.meets, met.behind) in
        let to_end : length x + edit.inserted - edit.removed ≡ length y = omega (arith, lengths) in
        subst (λ p. AreSegments table y p (length y) (map (moved edit.removed edit.inserted) rest)) to_place
        (subst (λ p. AreSegments table y (place_of rest (length x) + edit.inserted - edit.removed) p (map (moved edit.removed edit.inserted) rest)) to_end
        (segments_moved table x y edit.at edit.removed edit.inserted parts.edited (place_of rest (length x)) (length x) rest
        (omega (arith, met.meets, met.behind)) rest_are))

    pub behind_are : AreSegments table y start (length y) (found' ++ map (moved edit.removed edit.inserted) rest)
    behind_are =
        segments_joined table y start place (length y) found' (map (moved edit.removed edit.inserted) rest) met.are_found.segments rest_moved

    pub all_are : AreSegments table y 0 (length y) (before ++ (found' ++ map (moved edit.removed edit.inserted) rest))
    all_are =
        segments_joined table y 0 start (length y) before (found' ++ map (moved edit.removed edit.inserted) rest)
        (segments_kept table x y edit.at edit.removed edit.inserted parts.edited 0 start before parted.0 parts.reaching.short) behind_are

    pub begin_is : place_of (found' ++ map (moved edit.removed edit.inserted) rest) start ≡ start
    begin_is = begins (found' ++ map (moved edit.removed edit.inserted) rest) behind_are
      where
        begins : (ss : List Segment) → AreSegments table y start (length y) ss → place_of ss start ≡ start
        begins [] are = refl
        begins (s ∷ ss) are = ap (λ t. t.at) are.1

    pub all_rise : IsRising (map (λ s. s.at) (before ++ (found' ++ map (moved edit.removed edit.inserted) rest)))
    all_rise =
        rising_front (map (λ s. s.at) (before ++ (found' ++ map (moved edit.removed edit.inserted) rest))) (length y)
        (segments_rise table y 0 (length y) (before ++ (found' ++ map (moved edit.removed edit.inserted) rest)) all_are)

    pub all_fit : length y ≤ most_characters → AllByRecursion FitText (before ++ (found' ++ map (moved edit.removed edit.inserted) rest))
    all_fit small =
        all_through (IsInText y) FitText (λ s inside. record { at = omega (arith, inside.at); look = omega (arith, inside.look) })
        (before ++ (found' ++ map (moved edit.removed edit.inserted) rest))
        (segments_in_text table y 0 (length y) (before ++ (found' ++ map (moved edit.removed edit.inserted) rest)) all_are)

    pub movable : length y ≤ most_characters → AllByRecursion (CanMove edit start) rest
    movable small =
        let zold : ℕ = place_of rest (length x) in
        all_through (λ (s : Segment). ((zold ≤ s.at) × (s.at < length x)) × IsInText x s) (CanMove edit start)
        (λ s each.
        record {
          behind = omega (arith, each.0.0, met.meets, met.behind);
          ahead = omega (arith, each.1.ahead);
          from = omega (arith, each.0.0, met.meets, met.behind, place_behind);
          near = omega (arith, each.0.0, each.0.1, met.meets, met.behind, lengths, small);
          small = omega (arith, each.1.look, lengths, small);
        })
        rest
        (all_both (λ s. (zold ≤ s.at) × (s.at < length x)) (IsInText x) rest (segments_between table x zold (length x) rest rest_are)
        (segments_in_text table x zold (length x) rest rest_are))

    pub room_is : length found' + length rest + start ≤ length y
    room_is =
        let all = segments_go_on table y start (length y) (found' ++ map (moved edit.removed edit.inserted) rest) behind_are in
        omega (arith, length-append found' (map (moved edit.removed edit.inserted) rest), length-map rest (moved edit.removed edit.inserted))

    pub all_counted : AreCountsOf (length table.lists) (before ++ old) counts →
        AreCountsOf (length table.lists) (before ++ (found' ++ map (moved edit.removed edit.inserted) rest)) counts'
    all_counted counted =
        counts_after (length table.lists) before met.are_found.gone found' rest (map (moved edit.removed edit.inserted) rest) counts counts'
        (subst (λ l. AreCountsOf (length table.lists) (before ++ l) counts) met.are_found.parted counted) met.are_found.counted
        (λ list. same_counts edit.removed edit.inserted list rest)

    -- the places of the new text
    new_places : places (table_boundaries table y) ≡
        (map (λ s. s.at) before ++ map (λ s. s.at) found') ++ places_to (map (moved edit.removed edit.inserted) rest) (length y)
    new_places =
        let moves : List Segment = map (moved edit.removed edit.inserted) rest in
        boundary_places table y (before ++ (found' ++ moves)) all_are
        ∙ places_parted before (found' ++ moves) (length y)
        ∙ ap (λ l. map (λ s. s.at) before ++ l) (places_parted found' moves (length y))
        ∙ sym (append_assoc (map (λ s. s.at) before) (map (λ s. s.at) found') (places_to moves (length y)))

    found_between : AllByRecursion (λ s. (start ≤ s.at) × (s.at < place)) found'
    found_between = segments_between table y start place found' met.are_found.segments

    met_is : first_met table x y edit.at edit.removed edit.inserted start ≡ place
    met_is =
        let n : ℕ = length x in
        let moves : List Segment = map (moved edit.removed edit.inserted) rest in
        let bs : List Boundary = table_boundaries table x in
        let test : ℕ → Bool = λ z. leb (edit.at + edit.inserted) z && (leb start z && is_place_of bs (z - edit.inserted + edit.removed)) in
        let old_places : places bs ≡ map (λ s. s.at) before ++ places_to old n =
        boundary_places table x (before ++ old) parts.whole ∙ places_parted before old n in
        let fails : AllByRecursion (λ z. test z ≡ false) (map (λ s. s.at) before ++ map (λ s. s.at) found') =
        all_append (λ z. test z ≡ false) (map (λ s. s.at) before) (map (λ s. s.at) found')
        (places_all (λ z. test z ≡ false) before
        (all_through (λ (s : Segment). s.at < start) (λ (s : Segment). test s.at ≡ false)
        (λ s early. grind (arith, nat_tests, early)) before before_start))
        (places_all (λ z. test z ≡ false) found'
        (all_through (λ (s : Segment). ¬ IsMet edit old n s.at) (λ (s : Segment). test s.at ≡ false)
        (λ s none. false_from_ne_true (test s.at)
        (λ holds.
        let both = and_parts (leb (edit.at + edit.inserted) s.at) (leb start s.at && is_place_of bs (s.at - edit.inserted + edit.removed)) holds in
        let behind = leb-true (edit.at + edit.inserted) s.at both.0 in
        let there = place_is_member bs (s.at - edit.inserted + edit.removed)
        (and_parts (leb start s.at) (is_place_of bs (s.at - edit.inserted + edit.removed)) both.1).1 in
        none (record {
          behind = behind;
          old_place = not_before before (places_to old n) start (s.at - edit.inserted + edit.removed) before_start (omega (arith, behind, start_low))
              (subst (λ l. Member l (s.at - edit.inserted + edit.removed)) old_places there);
        })))
        found' met.are_found.none_met)) in
        let zold : ℕ = place - edit.inserted + edit.removed in
        let is_old : Member (places bs) zold =
        subst (Member (places bs)) met.meets
        (subst (λ l. Member l (place_of rest n)) (sym old_places)
        (member_behind (map (λ s. s.at) before) (places_to old n) (place_of rest n)
        (subst (λ l. Member (places_to l n) (place_of rest n)) (sym met.are_found.parted)
        (subst (λ l. Member l (place_of rest n)) (sym (places_parted met.are_found.gone rest n))
        (member_behind (map (λ s. s.at) met.are_found.gone) (places_to rest n) (place_of rest n) (first_member rest n)))))) in
        let passes : test place ≡ true = grind (arith, nat_tests, met.behind, place_behind, member_is_place bs zold is_old) in
        let first : place_of moves (length y) ≡ place = sym (first_place table y place (length y) moves rest_moved) in
        ap (λ o. unwrap_or o (length y))
        (first_passes test (table_boundaries table y) (map (λ s. s.at) before ++ map (λ s. s.at) found') place (further moves (length y))
        (new_places ∙ ap (λ l. (map (λ s. s.at) before ++ map (λ s. s.at) found') ++ l) (first_further moves (length y)
        ∙ ap (λ p. p ∷ further moves (length y)) first)) fails passes)

    between_is : searches_between table y start place ≡ reads_of table y found'
    between_is =
        let moves : List Segment = map (moved edit.removed edit.inserted) rest in
        let f : ℕ → ℕ = λ p. characters_read table y p in
        let test : ℕ → Bool = λ p. leb start p && ltb p place in
        let late : (p : ℕ) → place ≤ p → test p ≡ false = λ p past. grind (arith, nat_tests, past) in
        sum_of_part f test (table_boundaries table y) (map (λ s. s.at) before) (map (λ s. s.at) found') (places_to moves (length y))
        (new_places ∙ append_assoc (map (λ s. s.at) before) (map (λ s. s.at) found') (places_to moves (length y)))
        (places_all (λ p. test p ≡ false) before
        (all_through (λ (s : Segment). s.at < start) (λ (s : Segment). test s.at ≡ false)
        (λ s early. grind (arith, nat_tests, early)) before before_start))
        (places_all (λ p. test p ≡ true) found'
        (all_through (λ (s : Segment). (start ≤ s.at) × (s.at < place)) (λ (s : Segment). test s.at ≡ true)
        (λ s each. grind (arith, nat_tests, each.0, each.1)) found' found_between))
        (all_append (λ p. test p ≡ false) (map (λ s. s.at) moves) (length y ∷ [])
        (places_all (λ p. test p ≡ false) moves
        (all_through (λ (s : Segment). (place ≤ s.at) × (s.at < length y)) (λ (s : Segment). test s.at ≡ false) (λ s each. late s.at each.0) moves
        (segments_between table y place (length y) moves rest_moved)))
        (late (length y) (omega (arith, segments_go_on table y place (length y) moves rest_moved)), tt))
        ∙ sym (sum_of_reads f found')

    pub cost_is : tally_edit_cost table x edit.at edit.removed parts.edited.characters ≡ reads_of table y found'
    cost_is =
        let new : List ℕ = splice x edit.at edit.removed parts.edited.characters in
        ap (λ p. searches_between table new p (first_met table x new edit.at edit.removed (length parts.edited.characters) p)) reaching_is
        ∙ ap (λ t. searches_between table t start (first_met table x t edit.at edit.removed (length parts.edited.characters) start)) (sym parts.edited.spliced)
        ∙ ap (λ m. searches_between table y start (first_met table x y edit.at edit.removed m start)) parts.edited.many
        ∙ ap (λ p. searches_between table y start p) met_is
        ∙ between_is

-- the parts by the pieces, as they are read at several times
abbrev pub parts_are : {table : Table} {x y : List ℕ} {pieces seen again kept : List Piece} {start end : ℕ} {counts : List ℕ} {slashes : ℕ} (edit : Edit)
    (characters : List ℕ) (first : Spot) → IsTallied table x pieces counts slashes → IsValidTable table → seen ≡ pieces →
    IsFirstReaching edit.at (segments_before seen first) (segments_from seen first) → again ≡ pieces → start ≡ place_of (segments_from again first) end →
    end ≡ length x → edit.at + edit.removed ≤ length x → edit.inserted ≡ length characters → y ≡ splice x edit.at edit.removed characters → kept ≡ pieces →
    Parts table x y edit (segments_before kept first) (segments_from kept first) start
parts_are {table} {x} {y} {pieces} {seen} {again} {kept} {start} {end} edit characters first tallied valid seen_is reaching again_is start_is end_is within many
    spliced kept_is =
    record {
      valid = valid;
      edited = record { within = within; characters = characters; many = sym many; spliced = spliced };
      whole = subst (AreSegments table x 0 (length x)) (sym (spot_parts kept first ∙ ap contents kept_is)) tallied.segments;
      reaching = subst (λ l. IsFirstReaching edit.at (segments_before l first) (segments_from l first)) (seen_is ∙ sym kept_is) reaching;
      start_is = start_is ∙ ap (λ l. place_of (segments_from l first) end) (again_is ∙ sym kept_is) ∙ ap (λ n. place_of (segments_from kept first) n) end_is;
    }

pub met_is_of : {table : Table} {y : List ℕ} {edit : Edit} {seen kept : List Piece} {start end n : ℕ} {found : List Segment} {place : ℕ}
    {counts counts' : List ℕ} (first spot : Spot) →
    AreMet table y edit start (segments_from seen first) end found place (segments_from seen spot) counts counts' → seen ≡ kept →
    end ≡ n → AreMet table y edit start (segments_from kept first) n found place (segments_from kept spot) counts counts'
met_is_of {table} {y} {edit} {seen} {kept} {start} {end} {n} {found} {place} {counts} {counts'} first spot met seen_is end_is =
    subst (λ l. AreMet table y edit start (segments_from l first) n found place (segments_from l spot) counts counts') seen_is
    (subst (λ k. AreMet table y edit start (segments_from seen first) k found place (segments_from seen spot) counts counts') end_is met)

pub counted_is : {table : Table} {x : List ℕ} {pieces kept : List Piece} {counts now : List ℕ} {slashes : ℕ} (first : Spot) →
    IsTallied table x pieces counts slashes → kept ≡ pieces → now ≡ counts →
    AreCountsOf (length table.lists) (segments_before kept first ++ segments_from kept first) now
counted_is {table} {x} {pieces} {kept} {counts} {now} first tallied kept_is now_is =
    subst (AreCountsOf (length table.lists) (segments_before kept first ++ segments_from kept first)) (sym now_is)
    (subst (λ l. AreCountsOf (length table.lists) l counts) (sym (spot_parts kept first ∙ ap contents kept_is)) tallied.counted)
