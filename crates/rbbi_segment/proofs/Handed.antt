-- Segments that are handed over one after the other, from boundary to boundary.
use Rattle.std.proofs.Common.{◌≡◌, ℕ, zero, suc, ◌+◌, ◌<◌, ◌≤◌, Bool, true, false, List, [], ◌∷◌, ◌++◌, length, cond, refl, sym, ap, ◌∙◌, subst}
use Rattle.std.proofs.Common.{append_assoc, append-nil, arith, Option, Some, None}
use Rattle.std.specs.Prelude.{Result, Ok, Err, OnOk, filter}
use Rattle.std.proofs.lemmas.Bool.{lt-ltb, le-ltb}
use Rattle.std.proofs.lemmas.List.{length-map}
use Rattle.rbbi_model.specs.declared.unit.Unit.{Unit as TextUnit}
use Rattle.rbbi_model.specs.Boundaries.{Boundary, start}
use Rattle.rbbi_model.specs.Tables.{Table}
use Rattle.rbbi_model.specs.Searches.{next_boundary, follow_by, table_boundaries}
use Rattle.rbbi_filter.specs.declared.filter.Filter.{Filter}
use Rattle.rbbi_filter.specs.declared.filter.Filter.TheVariants.{Suppressing, Turning}
use Rattle.rbbi_filter.specs.Pairs.{turn}
use Rattle.rbbi_segment.specs.Filters.{searched, reported, reports}
use Rattle.rbbi_segment.specs.declared.segments.Segment.{Segment}
use Rattle.rbbi_segment.specs.Segments.{segment_to, segments_from, segments_between, segments, AreTaken, NoneTaken, OneMore, Paused}
use Rattle.rbbi_segment.specs.Windows.{following, AreHandedTo}
use Rattle.std.specs.Prelude.{slice_range}

-- the boundary is one of those that are reported
abbrev pub is_kept : (ℕ → Bool) → Boundary → Bool
is_kept keeps b = keeps b.at

-- what follows a boundary depends on its place alone
by_place : (table : Table) (z : List ℕ) (most : ℕ) (b : Boundary)
    → follow_by (next_boundary table z) (length z) most b ≡ follow_by (next_boundary table z) (length z) most (record { at = b.at; statuses = [] })
by_place table z zero b = refl
by_place table z (suc most) b = refl

-- one more boundary follows, and is reported or not; none follows at the text's end
follows : (keeps : ℕ → Bool) (table : Table) (z : List ℕ) (most at : ℕ) → at < length z
    → following keeps table z (suc most) at ≡ cond (keeps (next_boundary table z at).at)
    (next_boundary table z at ∷ following keeps table z most (next_boundary table z at).at) (following keeps table z most (next_boundary table z at).at)
follows keeps table z most at inside =
    let next : Boundary = next_boundary table z at in
    ap (λ t. filter (is_kept keeps) (cond t (next ∷ follow_by (next_boundary table z) (length z) most next) [])) (lt-ltb at (length z) inside)
    ∙ ap (λ bs. filter (is_kept keeps) (next ∷ bs)) (by_place table z most next)

ends_there : (keeps : ℕ → Bool) (table : Table) (z : List ℕ) (most at : ℕ) → length z ≤ at → following keeps table z most at ≡ []
ends_there keeps table z zero at past = refl
ends_there keeps table z (suc most) at past =
    let next : Boundary = next_boundary table z at in
    ap (λ t. filter (is_kept keeps) (cond t (next ∷ follow_by (next_boundary table z) (length z) most next) [])) (le-ltb at (length z) past)

-- a filter that leaves all
filter_all : (bs : List Boundary) → bs ≡ filter (λ b. true) bs
filter_all [] = refl
filter_all (b ∷ bs) = ap (λ l. b ∷ l) (filter_all bs)

-- the boundaries that a filter leaves are those that it reports
each_reported : (f : Option Filter) (x : List ℕ) (bs : List Boundary) → reported f x bs ≡ filter (is_kept (reports f (searched f x))) bs
each_reported None x bs = filter_all bs
each_reported (Some (Suppressing list)) x bs = refl
each_reported (Some (Turning pairs)) x bs = filter_all bs

-- the text's start is reported
start_reported : (f : Option Filter) (z : List ℕ) → reports f z 0 ≡ true
start_reported None z = refl
start_reported (Some (Suppressing list)) z = refl
start_reported (Some (Turning pairs)) z = refl

-- the searched text is as long as the text
pub searched_len : (f : Option Filter) (x : List ℕ) → length (searched f x) ≡ length x
searched_len None x = refl
searched_len (Some (Suppressing list)) x = refl
searched_len (Some (Turning pairs)) x = length-map x (turn pairs)

-- all segments are those from the text's start on
from_start : (unit : TextUnit) (f : Option Filter) (table : Table) (x : List ℕ)
    → segments unit f table x ≡ segments_from unit x 0 (following (reports f (searched f x)) table (searched f x) (length (searched f x)) 0)
from_start unit f table x =
    let z : List ℕ = searched f x in
    let p : Boundary → Bool = is_kept (reports f z) in
    let rest : List Boundary = follow_by (next_boundary table z) (length z) (length z) start in
    ap (segments_between unit x) (each_reported f x (table_boundaries table z))
    ∙ ap (λ t. segments_between unit x (cond t (start ∷ filter p rest) (filter p rest))) (start_reported f z)
    ∙ ap (λ bs. segments_from unit x 0 (filter p bs)) (by_place table z (length z) start)

module _ {V : Type 0} (takes : V → Option (List ℕ) → List ℕ → Segment → V → Option (List ℕ) → Type 0)
    (pauses : V → Option (List ℕ) → V → Option (List ℕ) → Type 0) (unit : TextUnit) (f : Option Filter) (table : Table) (x : List ℕ)
    (first : V) (before : Option (List ℕ)) where
  -- the text in which boundaries are looked for
  abbrev z : List ℕ
  z = searched f x

  -- what is taken of all segments of the text
  abbrev pub AreHanded : V → Option (List ℕ) → ℕ → ℕ → Type 0
  AreHanded receiver now from at = AreHandedTo takes pauses unit f table x first before receiver now from at

  -- nothing is taken at the text's start
  pub handed_start : AreHanded first before 0 0
  handed_start = record {
    done = [];
    most = length z;
    ahead = omega arith;
    enough = omega (arith, searched_len f x);
    whole = from_start unit f table x;
    taken = NoneTaken;
  }

  -- a boundary is passed that isn't reported
  pub handed_passed : (receiver : V) (now : Option (List ℕ)) (from at to : ℕ) → AreHanded receiver now from at → at < length z
      → at < (next_boundary table z at).at → to ≡ (next_boundary table z at).at → reports f z to ≡ false → AreHanded receiver now from to
  handed_passed receiver now from at to so_far inside past is hidden = by_most so_far.most so_far.enough so_far.whole
    where
      by_most : (most : ℕ) → length x ≤ at + most → segments unit f table x ≡ so_far.done ++ segments_from unit x from (following (reports f z) table z most at)
          → AreHanded receiver now from to
      by_most zero enough whole = absurd (omega (arith, searched_len f x))
      by_most (suc most) enough whole =
          let n : ℕ = (next_boundary table z at).at in
          let rest : List Boundary = following (reports f z) table z most n in
          let kept : reports f z n ≡ false = ap (reports f z) (sym is) ∙ hidden in
          let one : following (reports f z) table z (suc most) at ≡ rest =
          follows (reports f z) table z most at inside ∙ ap (λ t. cond t (next_boundary table z at ∷ rest) rest) kept in
          subst (AreHanded receiver now from) (sym is) (record {
            done = so_far.done;
            most = most;
            ahead = omega (arith, past, so_far.ahead);
            enough = omega (arith, past);
            whole = whole ∙ ap (λ bs. so_far.done ++ segments_from unit x from bs) one;
            taken = so_far.taken;
          })

  -- one segment more is taken
  pub handed_more : (receiver next : V) (between now : Option (List ℕ)) (from at to : ℕ) (segment : Segment)
      → AreHanded receiver between from at → at < length z → at < (next_boundary table z at).at → to ≡ (next_boundary table z at).at
      → reports f z to ≡ true → segment ≡ segment_to unit x from (next_boundary table z at)
      → takes receiver between (slice_range x segment.start segment.end) segment next now → AreHanded next now to to
  handed_more receiver next between now from at to segment so_far inside past is shown is_it takes_it = by_most so_far.most so_far.enough so_far.whole
    where
      by_most : (most : ℕ) → length x ≤ at + most → segments unit f table x ≡ so_far.done ++ segments_from unit x from (following (reports f z) table z most at)
          → AreHanded next now to to
      by_most zero enough whole = absurd (omega (arith, searched_len f x))
      by_most (suc most) enough whole =
          let n : ℕ = (next_boundary table z at).at in
          let bs : List Boundary = following (reports f z) table z most n in
          let rest : List Segment = segments_from unit x n bs in
          let kept : reports f z n ≡ true = ap (reports f z) (sym is) ∙ shown in
          let one : segments_from unit x from (following (reports f z) table z (suc most) at) ≡ segment ∷ rest =
          ap (segments_from unit x from) (follows (reports f z) table z most at inside)
          ∙ ap (λ t. segments_from unit x from (cond t (next_boundary table z at ∷ bs) bs)) kept
          ∙ ap (λ s. s ∷ rest) (sym is_it) in
          subst (λ m. AreHanded next now m m) (sym is) (record {
            done = so_far.done ++ segment ∷ [];
            most = most;
            ahead = omega arith;
            enough = omega (arith, past);
            whole = whole ∙ ap (λ l. so_far.done ++ l) one ∙ sym (append_assoc so_far.done (segment ∷ []) rest);
            taken = OneMore so_far.done segment receiver next between now so_far.taken takes_it;
          })

  -- a pause
  pub handed_paused : (receiver next : V) (between now : Option (List ℕ)) (from at : ℕ) → AreHanded receiver between from at
      → pauses receiver between next now → AreHanded next now from at
  handed_paused receiver next between now from at so_far paused = record {
    done = so_far.done;
    most = so_far.most;
    ahead = so_far.ahead;
    enough = so_far.enough;
    whole = so_far.whole;
    taken = Paused so_far.done receiver next between now so_far.taken paused;
  }

  -- at the text's end all are taken
  pub all_handed : (receiver : V) (now : Option (List ℕ)) (from at : ℕ) → AreHanded receiver now from at → length x ≤ at
      → AreTaken takes pauses x first before (segments unit f table x) receiver now
  all_handed receiver now from at so_far past =
      subst (λ all. AreTaken takes pauses x first before all receiver now)
      (sym (so_far.whole
      ∙ ap (λ bs. so_far.done ++ segments_from unit x from bs) (ends_there (reports f z) table z so_far.most at (omega (arith, past, searched_len f x)))
      ∙ append-nil so_far.done))
      so_far.taken

-- what holds behind an `Ok` leads to more
pub on_ok : {T E P Q : Type 0} (r : Result T E) → (P → Q) → OnOk r P → OnOk r Q
on_ok (Ok v) more holds = more holds
on_ok (Err e) more holds = holds
