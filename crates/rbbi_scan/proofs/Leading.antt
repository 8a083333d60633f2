-- Boundaries that lead on, and what is given of them.
use Rattle.std.proofs.Common.{◌≡◌, ℕ, ◌+◌, Bool, List, [], ◌∷◌, ◌++◌, length, refl, sym, ap, ◌∙◌, subst}
use Rattle.std.proofs.Common.{arith, length-append, append_assoc}
use Rattle.std.specs.Prelude.{map}
use Rattle.std.proofs.lemmas.List.{map-append, length-map}
use Rattle.rbbi_model.specs.declared.unit.Unit.{Unit as TextUnit}
use Rattle.rbbi_model.specs.Boundaries.{Boundary}
use Rattle.rbbi_model.specs.Places.{largest}
use Rattle.rbbi_model.specs.Tables.{Table}
use Rattle.rbbi_model.specs.Units.{offset_of}
use Rattle.rbbi_scan.specs.Columns.{Columns, IsFilled}
use Rattle.rbbi_scan.specs.Giving.{GivesOn}
use Rattle.rbbi_scan.specs.Leading.{Lead}
use Rattle.rbbi_scan.specs.Segments.{Segment, segment_to, segments_of}
use Rattle.rbbi_scan.proofs.Columns.{filled_none, filled_append}

pub lead_append : (is_whole : Bool) (table : Table) (x : List ℕ) (place mid last : ℕ) (these those : List Boundary) → Lead is_whole table x place these mid →
    Lead is_whole table x mid those last → Lead is_whole table x place (these ++ those) last
lead_append is_whole table x place mid last [] those first second = subst (λ p. Lead is_whole table x p those last) (sym first) second
lead_append is_whole table x place mid last (b ∷ these) those first second =
    (first.0, first.1, first.2, lead_append is_whole table x b.at mid last these those first.3 second)

-- the segments of boundaries that lead on are those of the first, and then those of the others
pub segments_append : (only_words is_whole : Bool) (table : Table) (x : List ℕ) (place mid last : ℕ) (these those : List Boundary)
    → Lead is_whole table x place these mid
    → segments_of only_words x place (these ++ those) ≡ segments_of only_words x place these ++ segments_of only_words x mid those
segments_append only_words is_whole table x place mid last [] those lead = ap (λ p. segments_of only_words x p those) lead
segments_append only_words is_whole table x place mid last (b ∷ these) those lead =
    ap (λ l. segment_to only_words x place b ++ l) (segments_append only_words is_whole table x b.at mid last these those lead.3)
    ∙ sym (append_assoc (segment_to only_words x place b) (segments_of only_words x b.at these) (segments_of only_words x mid those))

-- a column is filled with what is made of segments, and then of others
column_append : (f : Segment → ℕ) (before middle after : List ℕ) (count between : ℕ) (these those all : List Segment) → all ≡ these ++ those →
    between ≡ count + length these → IsFilled before middle count (map f these) → IsFilled middle after between (map f those) →
    IsFilled before after count (map f all)
column_append f before middle after count between these those all all_are here first second =
    subst (IsFilled before after count) (sym (ap (map f) all_are ∙ map-append f these those))
    (filled_append before middle after count between (map f these) (map f those) first (here ∙ ap (λ n. count + n) (sym (length-map these f))) second)

module _ (unit : TextUnit) (table : Table) (only_words is_whole : Bool) (first : ℕ) (x : List ℕ) where
  -- nothing is given
  pub gives_none : (place count : ℕ) (columns : Columns) → GivesOn unit table only_words is_whole first x place place [] count count columns columns
  gives_none place count columns = record {
    found = refl;
    counted = omega arith;
    in_starts = filled_none columns.starts count;
    in_places = filled_none columns.places count;
    in_statuses = filled_none columns.statuses count;
  }

  -- more is given after what was
  pub gives_append : (place mid last : ℕ) (these those : List Boundary) (count between now : ℕ) (before middle after : Columns)
      → GivesOn unit table only_words is_whole first x place mid these count between before middle
      → GivesOn unit table only_words is_whole first x mid last those between now middle after
      → GivesOn unit table only_words is_whole first x place last (these ++ those) count now before after
  gives_append place mid last these those count between now before middle after one two =
      let front : List Segment = segments_of only_words x place these in
      let back : List Segment = segments_of only_words x mid those in
      let all : List Segment = segments_of only_words x place (these ++ those) in
      let all_are : all ≡ front ++ back = segments_append only_words is_whole table x place mid last these those one.found in
      let here : between ≡ count + length front = one.counted in
      let long : length all ≡ length front + length back = ap length all_are ∙ length-append front back in
      record {
        found = lead_append is_whole table x place mid last these those one.found two.found;
        counted = omega (arith, here, two.counted, long);
        in_starts = column_append (λ s. first + offset_of unit x s.start) before.starts middle.starts after.starts count between front back all
            all_are here one.in_starts two.in_starts;
        in_places = column_append (λ s. first + offset_of unit x s.end) before.places middle.places after.places count between front back all
            all_are here one.in_places two.in_places;
        in_statuses = column_append (λ s. largest s.statuses) before.statuses middle.statuses after.statuses count between front back all
            all_are here one.in_statuses two.in_statuses;
      }
