-- Boundaries of the rest of a text are those of the text, moved by where the rest begins.
use Rattle.std.proofs.Common.{◌≡◌, ℕ, ◌+◌, ◌<◌, ◌≤◌, Bool, true, false, cond, List, [], ◌∷◌, ◌++◌, length, take, drop, get_or, refl, sym, ap, ◌∙◌, subst}
use Rattle.std.proofs.Common.{inl, inr, ⊎_elim, arith, append_assoc, append-nil, length-append, length-drop, length-take, take-append-drop}
use Rattle.std.specs.Prelude.{IsTrue, map, not, ◌||◌, slice_range}
use Rattle.std.proofs.lemmas.List.{map-append, drop-drop, drop_at, ext_get_or, get_or-take}
use Rattle.std.proofs.lemmas.List.Concat.{flat_map-append}
use Rattle.rbbi_model.specs.declared.unit.Unit.{Unit as TextUnit}
use Rattle.rbbi_model.specs.Boundaries.{Boundary}
use Rattle.rbbi_model.specs.Tables.{Table, statuses_of}
use Rattle.rbbi_model.specs.Units.{offset_of}
use Rattle.rbbi_model.specs.Words.{IsCharacter}
use Rattle.rbbi_model.specs.Searches.{next_boundary}
use Rattle.rbbi_model.specs.ReadAlike.{FindsAlike}
use Rattle.rbbi_model.proofs.Found.{found_lies}
use Rattle.rbbi_model.proofs.Lists.{all_drop}
use Rattle.rbbi_scan.specs.Columns.{IsFilled}
use Rattle.rbbi_scan.specs.Leading.{Lead}
use Rattle.rbbi_scan.specs.Segments.{Segment, is_word, segment_to, segments_of}
use Rattle.rbbi_scan.specs.Spelled.{spelling_of, spelled, BeginWithNone, IsTextIn}
use Rattle.rbbi_scan.specs.Windows.{IsWindow}
use Rattle.rbbi_scan.proofs.Spelling.{length_spelled}
use Rattle.rbbi_scan.proofs.Windows.{slice_is, alike, offset_in}

module _ (table : Table) (all : List ℕ) (base : ℕ) (within : base ≤ length all) where
  -- the rest of the text
  abbrev pub x : List ℕ
  x = drop base all

  is : IsWindow base (drop base all) [] all
  is = record { within = within; after = sym (append-nil (drop base all)) }

  abbrev pub moved : Boundary → Boundary
  moved b = record { at = base + b.at; statuses = b.statuses }

  pub found_alike : (s : ℕ) → s < length (drop base all) → FindsAlike table (drop base all) all s (base + s)
  found_alike s inside = alike base (drop base all) [] all is table s inside (inr refl)

  next_moved : (s : ℕ) → s < length (drop base all) → next_boundary table all (base + s) ≡ moved (next_boundary table (drop base all) s)
  next_moved s inside =
      let same = found_alike s inside in
      let at : (next_boundary table all (base + s)).at ≡ base + (next_boundary table (drop base all) s).at = omega (arith, same.at) in
      λ i. record { at = at i; statuses = statuses_of table (same.list i) }

  long : length all ≡ base + length (drop base all)
  long = omega (arith, within, length-drop base all)

  pub lead_moved : (is_whole also : Bool) (place last : ℕ) (given : List Boundary) → (IsTrue is_whole → IsTrue also) →
      Lead is_whole table (drop base all) place given last → Lead also table all (base + place) (map moved given) (base + last)
  lead_moved is_whole also place last [] how lead = ap (λ n. base + n) lead
  lead_moved is_whole also place last (b ∷ given) how lead =
      let same = found_alike place lead.0 in (
        omega (arith, lead.0, long),
        ⊎_elim (λ whole. inl (how whole)) (λ short. inr (omega (arith, short, same.look, long))) lead.1,
        ap moved lead.2 ∙ sym (next_moved place lead.0),
        lead_moved is_whole also b.at last given how lead.3,
      )

  -- the segment moved on
  abbrev pub shifted : Segment → Segment
  shifted s = record { start = base + s.start; end = base + s.end; statuses = s.statuses }

  -- what is told of a segment, if it is asked for, is told of the one moved on
  told : (f g : Segment → ℕ) (s : Segment) (asked : Bool) → f (shifted s) ≡ g s → map f (cond asked (shifted s ∷ []) []) ≡ map g (cond asked (s ∷ []) [])
  told f g s true how = ap (λ n. n ∷ []) how
  told f g s false how = refl

  -- what is told of segments is told of those moved on
  pub column_moved : (f g : Segment → ℕ) (only_words is_whole : Bool) (place last : ℕ) (given : List Boundary)
      → ((s : Segment) → s.start ≤ length (drop base all) → s.end ≤ length (drop base all) → f (shifted s) ≡ g s)
      → Lead is_whole table (drop base all) place given last
      → map f (segments_of only_words all (base + place) (map moved given)) ≡ map g (segments_of only_words (drop base all) place given)
  column_moved f g only_words is_whole place last [] how lead = refl
  column_moved f g only_words is_whole place last (b ∷ given) how lead =
      let lies = found_lies table (drop base all) place lead.0 in
      let order : place < b.at = subst (λ c. place < c.at) (sym lead.2) lies.0 in
      let low : b.at ≤ length (drop base all) = subst (λ c. c.at ≤ length (drop base all)) (sym lead.2) lies.1 in
      let s : Segment = record { start = place; end = b.at; statuses = b.statuses } in
      let characters : slice_range (drop base all) place b.at ≡ slice_range all (base + place) (base + b.at) =
      slice_is base (drop base all) [] all is place b.at (omega (arith, order)) low in
      let first : map f (segment_to only_words all (base + place) (moved b)) ≡ map g (segment_to only_words (drop base all) place b) =
      ap (λ l. map f (cond (not only_words || is_word l) (shifted s ∷ []) [])) (sym characters)
      ∙ told f g s (not only_words || is_word (slice_range (drop base all) place b.at)) (how s (omega (arith, lead.0)) low) in
      map-append f (segment_to only_words all (base + place) (moved b)) (segments_of only_words all (base + b.at) (map moved given))
      ∙ ap (λ l. l ++ map f (segments_of only_words all (base + b.at) (map moved given))) first
      ∙ ap (λ l. map g (segment_to only_words (drop base all) place b) ++ l) (column_moved f g only_words is_whole b.at last given how lead.3)
      ∙ sym (map-append g (segment_to only_words (drop base all) place b) (segments_of only_words (drop base all) b.at given))

  pub offset_moved : (unit : TextUnit) (i : ℕ) → i ≤ length (drop base all) →
      offset_of unit all (base + i) ≡ offset_of unit all base + offset_of unit (drop base all) i
  offset_moved unit i low = offset_in base (drop base all) [] all is unit i low

-- what is written of numbers that there is room for
pub written_are : (old new numbers : List ℕ) (count : ℕ) → IsFilled old new 0 numbers → count ≡ length numbers → count ≤ length old →
    take count new ≡ numbers
written_are old new numbers count filled counted fits =
    ext_get_or 0 (take count new) numbers (omega (arith, length-take count new, filled.same_room, counted, fits))
    (λ i few.
    let low : i < count = omega (arith, few, length-take count new) in
    let here : 0 + i ≡ i = omega arith in
    get_or-take count new i 0 low
    ∙ ap (λ n. get_or new n 0) (sym here)
    ∙ filled.written i (omega (arith, low, counted)) (omega (arith, low, fits, here)))

module _ (unit : TextUnit) (gone held others all : List ℕ) (end at last : ℕ) (text : IsTextIn unit (gone ++ (held ++ others)) 0 end all)
    (inside : last ≤ length all) (low : at ≤ length held) (reached : length gone + at ≡ offset_of unit all last) where
  before : (n : ℕ) → drop (length gone + n) (gone ++ (held ++ others)) ≡ drop n (held ++ others)
  before n = sym (drop-drop n (length gone) (gone ++ (held ++ others))) ∙ ap (drop n) (drop_at gone (held ++ others) (length gone) refl)

  rest_there : drop at (held ++ others) ≡ spelled unit (drop last all) ++ drop end (gone ++ (held ++ others))
  rest_there =
      let front : List ℕ = spelled unit (take last all) in
      let back : List ℕ = spelled unit (drop last all) in
      let tail : List ℕ = drop end (gone ++ (held ++ others)) in
      let split : spelled unit all ≡ front ++ back =
      ap (spelled unit) (sym (take-append-drop last all)) ∙ flat_map-append (spelling_of unit) (take last all) (drop last all) in
      sym (before at)
      ∙ ap (λ n. drop n (gone ++ (held ++ others))) reached
      ∙ ap (drop (offset_of unit all last)) (text.spells ∙ ap (λ l. l ++ tail) split ∙ append_assoc front back tail)
      ∙ drop_at front (back ++ tail) (offset_of unit all last) (length_spelled unit (take last all))

  -- where the text ends lies past where its rest begins
  sum : offset_of unit all (length all) ≡ offset_of unit all last + offset_of unit (drop last all) (length (drop last all))
  sum =
      let whole : last + length (drop last all) ≡ length all = omega (arith, inside, length-drop last all) in
      sym (ap (offset_of unit all) whole)
      ∙ offset_in last (drop last all) [] all (record { within = inside; after = sym (append-nil (drop last all)) }) unit (length (drop last all)) (omega arith)

  pub end_far : end ≡ length gone + (at + offset_of unit (drop last all) (length (drop last all)))
  end_far = omega (arith, text.end_is, sum, reached)

  -- the rest of the text stands in what is held and what follows
  pub rest_in : IsTextIn unit (held ++ others) at (at + offset_of unit (drop last all) (length (drop last all))) (drop last all)
  rest_in =
      let there : ℕ = at + offset_of unit (drop last all) (length (drop last all)) in
      let same : drop end (gone ++ (held ++ others)) ≡ drop there (held ++ others) =
      ap (λ n. drop n (gone ++ (held ++ others))) end_far ∙ before there in
      record {
        text = all_drop IsCharacter last all text.text;
        end_is = refl;
        within = let within = text.within in omega (arith, within, end_far, length-append gone (held ++ others));
        spells = rest_there ∙ ap (λ l. spelled unit (drop last all) ++ l) same;
        no_more = subst (BeginWithNone unit) same text.no_more;
      }
