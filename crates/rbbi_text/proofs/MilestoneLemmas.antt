-- Milestones of lists: what stands at one, and what becomes of them when the list changes.
use Rattle.std.proofs.Common.{◌≡◌, ℕ, zero, suc, ◌+◌, ◌-◌, ◌*◌, ◌/◌, ◌<◌, ◌≤◌, List, [], ◌∷◌, ◌++◌, length, get_or, set, take, drop, sum_by, min, refl, sym, ap}
use Rattle.std.proofs.Common.{◌∙◌, arith, ⊎_elim, length-append, length-take, length-drop, length-set, ◌⊎◌, cond, ltb, eqb, subst}
use Rattle.std.specs.List.{slice_range, splice}
use Rattle.std.proofs.lemmas.Bool.{cases_lt, cond_both, eqb-true, eq-eqb}
use Rattle.std.proofs.lemmas.List.{get_or-take, get_or_append_left, get_or-append_right, take-take, take_all, get_or_read, get_or-set_same}
use Rattle.std.proofs.lemmas.List.{take-set-le, get_or-map, get_or-drop, length-map, take_at, drop_at}
use Rattle.std.proofs.lemmas.List.Sums.{sum_by_more, sum_by_more_le, sum_by-append, sum_by-take-le, sum_by-take-drop, sum_by-set, sum_by-cons}
use Rattle.std.proofs.Math.Seq.{take-add, take-set-lt}
use Rattle.rbbi_model.specs.declared.unit.Unit.{Unit as TextUnit}
use Rattle.rbbi_model.specs.declared.unit.Unit.TheVariants.{Chars, Utf8, Utf16}
use Rattle.rbbi_model.specs.Units.{size_of}
use Rattle.rbbi_model.specs.Spelling.{joined}
use Rattle.rbbi_model.specs.Words.{most_characters}
pub use Rattle.rbbi_model.proofs.ByCharacters.{sum_ones}
use Rattle.rbbi_text.specs.Cuts.{starts_from}
use Rattle.rbbi_text.specs.Indexes.{IsIndex}
use Rattle.rbbi_text.specs.Weighed.{weight_of}
use Rattle.rbbi_text.proofs.CutLemmas.{taken_in, ends_at, length_parted, length-starts}
use Rattle.rbbi_text.specs.Milestones.{AreMilestones}
use Rattle.rbbi_text.specs.inner.Fits.{IsFit}
use Rattle.rbbi_text.specs.inner.Cuts.{shifted, AreWholeCut, IsFound}

-- one more item of a sum
pub ruleset total_more = (sum_by_more, sum_by_more_le)

module _ {A : Type 0} (weight : A → ℕ) (items : List A) where
  -- a sum in two parts
  pub sum_parts : (from i : ℕ) → from ≤ i → sum_by weight (take from items) + sum_by weight (slice_range items from i) ≡ sum_by weight (take i items)
  sum_parts from i order =
      let all : from + (i - from) ≡ i = omega arith in
      sym (sum_by-append weight (take from items) (take (i - from) (drop from items)))
      ∙ ap (λ l. sum_by weight l) (sym (take-add from (i - from) items))
      ∙ ap (λ n. sum_by weight (take n items)) all

  pub sum_more : (from count : ℕ) → sum_by weight (take (from + count) items) ≡ sum_by weight (take from items) + sum_by weight (take count (drop from items))
  sum_more from count = ap (λ l. sum_by weight l) (take-add from count items) ∙ sum_by-append weight (take from items) (take count (drop from items))

  -- what stands at a milestone
  pub milestone_is : (sums : List ℕ) (k : ℕ) → AreMilestones weight items sums → k ≤ length sums → get_or (0 ∷ sums) k 0 ≡ sum_by weight (take (8 * k) items)
  milestone_is sums zero are within = refl
  milestone_is sums (suc k) are within =
      let next : k + 1 ≡ suc k = omega arith in
      are.each k (omega (arith, within)) ∙ ap (λ n. sum_by weight (take (8 * n) items)) next

  -- as many as may be after a milestone are as many as may be of all
  pub fit_behind : (from most units count more : ℕ) → from ≤ length items → units ≡ sum_by weight (take from items) → units ≤ most →
      IsFit weight (drop from items) (most - units) count more → IsFit weight items most (from + count) (units + more)
  fit_behind from most units count more within units_are low fit = record {
    within = omega (arith, fit.within, length-drop from items, within);
    sum = omega (arith, sum_more from count, fit.sum, units_are);
    fits = omega (arith, fit.fits, low);
    greatest = λ short.
        let next : from + count + 1 ≡ from + (count + 1) = omega arith in
        let past = fit.greatest (omega (arith, short, length-drop from items)) in
        omega (arith, ap (λ n. sum_by weight (take n items)) next, sum_more from (count + 1), past, units_are, low);
  }

  -- one more milestone
  pub milestone_more : (sums : List ℕ) (units : ℕ) → AreMilestones weight items sums → 8 * length sums + 8 ≤ length items →
      units ≡ sum_by weight (take (8 * (length sums + 1)) items) → AreMilestones weight items (sums ++ units ∷ [])
  milestone_more sums units are room units_are = record {
    few = omega (arith, length-append sums (units ∷ []), room);
    each = λ k short.
        ⊎_elim
        (λ (low : k < length sums). get_or_append_left sums (units ∷ []) 0 k low ∙ are.each k low)
        (λ (high : length sums ≤ k).
        let here : k ≡ length sums = omega (arith, high, short, length-append sums (units ∷ [])) in
        let none : k - length sums ≡ 0 = omega (arith, here) in
        get_or-append_right sums (units ∷ []) (length sums) k 0 refl high
        ∙ ap (λ n. get_or (units ∷ []) n 0) none
        ∙ units_are
        ∙ ap (λ n. sum_by weight (take (8 * (n + 1)) items)) (sym here))
        (cases_lt k (length sums));
  }

  -- the same by the number of the first item after the milestone
  pub milestone_at : (sums : List ℕ) (k : ℕ) → AreMilestones weight items sums → k ≤ length sums → get_or (0 ∷ sums) k 0 ≡ sum_by weight (take (k * 8) items)
  milestone_at sums k are within =
      let same : 8 * k ≡ k * 8 = omega arith in
      milestone_is sums k are within ∙ ap (λ n. sum_by weight (take n items)) same

  -- milestones of items that are others from an item on
  pub milestones_kept : (new : List A) (sums : List ℕ) (from : ℕ) → AreMilestones weight items sums → take from new ≡ take from items → from ≤ length new →
      AreMilestones weight new (take (from / 8) sums)
  milestones_kept new sums from are same within = record {
    few = omega (arith, length-take (from / 8) sums, within);
    each = λ k short.
        let low : k < from / 8 = omega (arith, short, length-take (from / 8) sums) in
        let before : 8 * (k + 1) ≤ from = omega (arith, low) in
        get_or-take (from / 8) sums k 0 low
        ∙ are.each k (omega (arith, short, length-take (from / 8) sums))
        ∙ ap (λ l. sum_by weight l)
        (sym (take-take (8 * (k + 1)) from items before) ∙ ap (λ l. take (8 * (k + 1)) l) (sym same) ∙ take-take (8 * (k + 1)) from new before);
  }

  -- what an item takes is in each milestone after it
  pub item_in_milestone : (sums : List ℕ) (item : ℕ) (d : A) → AreMilestones weight items sums → (k : ℕ) → item / 8 ≤ k → k < length sums →
      weight (get_or items item d) ≤ get_or sums k 0
  item_in_milestone sums item d are k behind short =
      let n : ℕ = 8 * (k + 1) in
      let low : item < n = omega (arith, behind) in
      let long : item < length (take n items) = omega (arith, low, length-take n items, are.few, short) in
      omega (arith, are.each k short, sum_by_more_le weight (take n items) item d long, ap weight (get_or-take n items item d low))

  milestone_in_all : (sums : List ℕ) → AreMilestones weight items sums → (k : ℕ) → k < length sums → get_or sums k 0 ≤ sum_by weight items
  milestone_in_all sums are k short = omega (arith, are.each k short, sum_by-take-le weight items (8 * (k + 1)))

  moved_length : (sums : List ℕ) (from old new : ℕ) → length (take from sums ++ shifted old new (drop from sums)) ≡ length sums
  moved_length sums from old new =
      omega (
        arith,
        length-append (take from sums) (shifted old new (drop from sums)),
        length-map (drop from sums) (λ m. m - old + new),
        length-take from sums,
        length-drop from sums,
      )

  -- milestones after an item that is another one
  pub milestones_moved : (sums : List ℕ) (item old new : ℕ) (q d : A) → AreMilestones weight items sums → item < length items → old ≡ weight
      (get_or items item d) →
      new ≡ weight q → let from = min (item / 8) (length sums) in AreMilestones weight (set items item q) (take from sums ++ shifted old new (drop from sums))
  milestones_moved sums item old new q d are within is_old is_new =
      let from : ℕ = min (item / 8) (length sums) in
      let front : length (take from sums) ≡ from = omega (arith, length-take from sums) in
      let long : length (take from sums ++ shifted old new (drop from sums)) ≡ length sums = moved_length sums from old new in
      record {
        few = omega (arith, long, are.few, length-set items item q);
        each = λ k short.
            let n : ℕ = 8 * (k + 1) in
            let inside : k < length sums = omega (arith, short, long) in
            ⊎_elim
            (λ (low : k < from).
            let before : n ≤ item = omega (arith, low) in
            get_or_append_left (take from sums) (shifted old new (drop from sums)) 0 k (omega (arith, low, front))
            ∙ get_or-take from sums k 0 low
            ∙ are.each k inside
            ∙ ap (λ l. sum_by weight l) (sym (take-set-le n items item q before)))
            (λ (high : from ≤ k).
            let behind : item / 8 ≤ k = omega (arith, high, inside) in
            let less : item < n = omega (arith, behind) in
            let place : ℕ = k - from in
            let is : from + place ≡ k = omega (arith, high) in
            let fits : place < length (drop from sums) = omega (arith, length-drop from sums, inside, is) in
            let here : item < length (take n items) = omega (arith, less, length-take n items, are.few, inside) in
            let read : get_or (take from sums ++ shifted old new (drop from sums)) k 0 ≡ get_or sums k 0 - old + new =
            get_or-append_right (take from sums) (shifted old new (drop from sums)) from k 0 front high
            ∙ get_or-map (λ m. m - old + new) (drop from sums) place 0 0 fits
            ∙ ap (λ m. m - old + new) (get_or-drop from sums place 0 ∙ ap (λ m. get_or sums m 0) is) in
            omega (
              arith,
              read,
              are.each k inside,
              item_in_milestone sums item d are k behind inside,
              is_old,
              is_new,
              ap (λ l. sum_by weight l) (take-set-lt n items item q less),
              sum_by-set weight (take n items) item q d here,
              ap weight (get_or-take n items item d less),
            ))
            (cases_lt k from);
      }

-- a character takes little of a unit
pub size_of_small : (unit : TextUnit) (c : ℕ) → size_of unit c ≤ 4
size_of_small Chars c = omega arith
size_of_small Utf8 c =
    cond_both (ltb c 0x80) 1 (cond (ltb c 0x800) 2 (cond (ltb c 0x10000) 3 4)) (λ n. n ≤ 4) (λ _. omega arith)
    (λ _.
    cond_both (ltb c 0x800) 2 (cond (ltb c 0x10000) 3 4) (λ n. n ≤ 4) (λ _. omega arith)
    (λ _. cond_both (ltb c 0x10000) 3 4 (λ n. n ≤ 4) (λ _. omega arith) (λ _. omega arith)))
size_of_small Utf16 c = cond_both (ltb c 0x10000) 1 2 (λ n. n ≤ 4) (λ _. omega arith) (λ _. omega arith)

pub sum_small : (unit : TextUnit) (x : List ℕ) → sum_by (size_of unit) x ≤ 4 * length x
sum_small unit [] = omega arith
sum_small unit (c ∷ x) = omega (arith, sum_by-cons (size_of unit) c x, size_of_small unit c, sum_small unit x)

-- the pieces of a text take what its characters take
pub sum_joined : (f : ℕ → ℕ) (ps : List (List ℕ)) → sum_by f (joined ps) ≡ sum_by (λ p. sum_by f p) ps
sum_joined f [] = refl
sum_joined f (p ∷ ps) = omega (arith, sum_by-append f p (joined ps), sum_by-cons (λ q. sum_by f q) p ps, sum_joined f ps)

-- what fits tells the index
pub index_is : (unit : TextUnit) (x : List ℕ) (o count units : ℕ) → IsFit (size_of unit) x o count units →
    IsIndex unit x o (record { at = count; whole = eqb units o })
index_is unit x o count units fit = record {
  within = fit.within;
  before = omega (arith, fit.sum, fit.fits);
  greatest = λ i inside low.
      ⊎_elim
      (λ (short : count < i).
      let past = fit.greatest (omega (arith, short, inside)) in
      let next : count + 1 ≤ i = omega (arith, short) in
      absurd
      (omega
      (arith, past, low, sum_by-take-le (size_of unit) (take i x) (count + 1), ap (λ l. sum_by (size_of unit) l) (take-take (count + 1) i x next))))
      (λ (all : i ≤ count). all)
      (cases_lt count i);
  whole = (λ is. sym fit.sum ∙ eqb-true units o is, λ is. eq-eqb units o (fit.sum ∙ is));
}

-- a part of a list takes little
pub sum_part_small : (unit : TextUnit) (x : List ℕ) (s e : ℕ) → sum_by (size_of unit) (slice_range x s e) ≤ 4 * (e - s)
sum_part_small unit x s e = omega (arith, sum_small unit (slice_range x s e), length-take (e - s) (drop s x))

-- a part of a list takes no more than all of it
pub slice_small : (unit : TextUnit) (x : List ℕ) (s e : ℕ) → sum_by (size_of unit) (slice_range x s e) ≤ 4 * length x
slice_small unit x s e = omega (arith, sum_by-take-le (size_of unit) (drop s x) (e - s), sum_by-take-drop (size_of unit) x s, sum_small unit x)

-- the length of an edited list
pub long_is : (x new w : List ℕ) (start end : ℕ) → start ≤ end → end ≤ length x → new ≡ splice x start end w → length new ≡ length x - (end - start) + length w
long_is x new w start end order within new_is =
    omega (arith, ap length new_is, length-append (take start x) (w ++ drop end x), length-append w (drop end x), length-take start x, length-drop end x)

-- what a list takes after an edit, by what the part that is gone and the new one take
pub reweighed : (unit : TextUnit) (x new w gone_from new_from : List ℕ) (start end n old gone added : ℕ) → start ≤ end → end ≤ length x →
    length x - (end - start) + length w ≤ 1024 → new ≡ splice x start end w → n ≡ length new - (length x - end) → gone_from ≡ x → new_from ≡ new →
    old ≡ sum_by (size_of unit) x → gone ≡ sum_by (size_of unit) (slice_range gone_from start end) → added ≡ sum_by (size_of unit)
    (slice_range new_from start n) → (gone ≤ old) × (old - gone + added ≡ sum_by (size_of unit) new) × (length new ≤ 1024)
reweighed unit x new w gone_from new_from start end n old gone added order within few new_is n_is gone_is from_is old_is is_gone is_added =
    let f : ℕ → ℕ = size_of unit in
    let front : List ℕ = take start x in
    let back : List ℕ = drop end x in
    let front_long : length front ≡ start = omega (arith, length-take start x, order, within) in
    let long : length new ≡ start + length w + (length x - end) =
    omega (arith, ap length new_is, length-append front (w ++ back), length-append w back, front_long, length-drop end x) in
    let all : sum_by f new ≡ sum_by f front + (sum_by f w + sum_by f back) =
    ap (λ l. sum_by f l) new_is ∙ sum_by-append f front (w ++ back) ∙ ap (λ m. sum_by f front + m) (sum_by-append f w back) in
    let size_is : n - start ≡ length w = omega (arith, n_is, long, within) in
    let read : slice_range new_from start n ≡ w =
    ap (λ l. slice_range l start n) (from_is ∙ new_is) ∙ ap (λ l. take (n - start) l) (drop_at front (w ++ back) start front_long)
    ∙ take_at w back (n - start) (sym size_is) in
    let gone_is' : gone ≡ sum_by f (slice_range x start end) = is_gone ∙ ap (λ l. sum_by f (slice_range l start end)) gone_is in
    let added_is : added ≡ sum_by f w = is_added ∙ ap (λ l. sum_by f l) read in
    let parts = sum_parts f x start end order in
    let whole = sum_by-take-drop f x end in (
      omega (arith, gone_is', old_is, parts, whole),
      omega (arith, gone_is', added_is, old_is, parts, whole, all),
      omega (arith, long, few, order, within),
    )

-- as much as fits of the pieces, and then of the next one, is as much as fits of the text
pub fit_joined : (unit : TextUnit) (ps : List (List ℕ)) (o k units count more : ℕ) → IsFit (weight_of unit) ps o k units → k < length ps →
    IsFit (size_of unit) (get_or ps k []) (o - units) count more →
    IsFit (size_of unit) (joined ps) o (get_or (starts_from 0 ps) k 0 + count) (units + more)
fit_joined unit ps o k units count more front short rest =
    let f : ℕ → ℕ = size_of unit in
    let p : List ℕ = get_or ps k [] in
    let start : ℕ = get_or (starts_from 0 ps) k 0 in
    let before : sum_by f (joined (take k ps)) ≡ units = sum_joined f (take k ps) ∙ sym front.sum in
    let with : (m : ℕ) → m ≤ length p → sum_by f (take (start + m) (joined ps)) ≡ units + sum_by f (take m p) =
    λ m within.
    ap (λ l. sum_by f l) (taken_in ps k m short within) ∙ sum_by-append f (joined (take k ps)) (take m p)
    ∙ ap (λ n. n + sum_by f (take m p)) before in
    let end : length (joined (take (k + 1) ps)) ≡ start + length p = ends_at ps k short in
    record {
      within = omega (arith, rest.within, end, length_parted ps (k + 1));
      sum = omega (arith, with count rest.within, rest.sum);
      fits = omega (arith, rest.fits, front.fits);
      greatest = λ inside.
          ⊎_elim
          (λ (less : count < length p).
          let next : start + count + 1 ≡ start + (count + 1) = omega arith in
          let past = rest.greatest less in
          omega (arith, ap (λ n. sum_by f (take n (joined ps))) next, with (count + 1) (omega (arith, less)), past, front.fits))
          (λ (all : length p ≤ count).
          let past = front.greatest short in
          let whole : sum_by f (take count p) ≡ sum_by f p = ap (λ l. sum_by f l) (take_all count p all) in
          absurd (omega (arith, past, sum_by_more (weight_of unit) ps k [] short, front.sum, rest.sum, rest.fits, front.fits, whole)))
          (cases_lt count (length p));
    }

-- where all pieces fit, the text does
pub fit_whole : (unit : TextUnit) (ps : List (List ℕ)) (o k units : ℕ) → IsFit (weight_of unit) ps o k units → k ≡ length ps →
    IsFit (size_of unit) (joined ps) o (length (joined ps)) units
fit_whole unit ps o k units front all = record {
  within = omega arith;
  sum =
      front.sum
      ∙ ap (λ l. sum_by (weight_of unit) l) (take_all k ps (omega (arith, all)))
      ∙ sym (sum_joined (size_of unit) ps)
      ∙ ap (λ l. sum_by (size_of unit) l) (sym (take_all (length (joined ps)) (joined ps) (omega arith)));
  fits = front.fits;
  greatest = λ short. absurd (omega (arith, short));
}

-- what stands before a place, by the pieces before it and the part of its own piece
pub offset_joined : (unit : TextUnit) (ps : List (List ℕ)) (k m : ℕ) → k < length ps → m ≤ length (get_or ps k []) →
    sum_by (size_of unit) (take (get_or (starts_from 0 ps) k 0 + m) (joined ps))
    ≡ sum_by (weight_of unit) (take k ps) + sum_by (size_of unit) (take m (get_or ps k []))
offset_joined unit ps k m short within =
    ap (λ l. sum_by (size_of unit) l) (taken_in ps k m short within)
    ∙ sum_by-append (size_of unit) (joined (take k ps)) (take m (get_or ps k []))
    ∙ ap (λ n. n + sum_by (size_of unit) (take m (get_or ps k []))) (sum_joined (size_of unit) (take k ps))

-- the pieces of a text take at most this
pub pieces_small : (unit : TextUnit) (ps : List (List ℕ)) → length (joined ps) ≤ most_characters → sum_by (weight_of unit) ps ≤ 67108864
pieces_small unit ps short = omega (arith, sum_joined (size_of unit) ps, sum_small unit (joined ps), short)

pub text_small : (unit : TextUnit) (x : List ℕ) → length x ≤ most_characters → sum_by (size_of unit) x ≤ 67108864
text_small unit x short = omega (arith, sum_small unit x, short)

module _ (unit : TextUnit) (ps : List (List ℕ)) (starts : List ℕ) (cut : AreWholeCut ps starts) where
  start_same : (k : ℕ) → get_or starts k 0 ≡ get_or (starts_from 0 ps) k 0
  start_same k = ap (λ (s : List ℕ). get_or s k 0) cut.begin

  pub starts_long : length starts ≡ length ps
  starts_long = ap length cut.begin ∙ length-starts 0 ps

  -- what stands before a place that was found
  pub offset_found : (k place : ℕ) (front : List ℕ) → IsFound ps starts k place → front ≡ take (place - get_or starts k 0) (get_or ps k []) →
      sum_by (size_of unit) (take place (joined ps)) ≡ sum_by (weight_of unit) (take k ps) + sum_by (size_of unit) front
  offset_found k place front found front_is =
      let m : ℕ = place - get_or starts k 0 in
      let place_is : place ≡ get_or (starts_from 0 ps) k 0 + m = omega (arith, start_same k, found.begins) in
      ap (λ n. sum_by (size_of unit) (take n (joined ps))) place_is
      ∙ offset_joined unit ps k m found.within (omega (arith, found.begins, found.at_most))
      ∙ ap (λ l. sum_by (weight_of unit) (take k ps) + sum_by (size_of unit) l) (sym front_is)

  -- where a piece ends
  pub end_small : (k : ℕ) → k < length ps → get_or starts k 0 + length (get_or ps k []) ≤ most_characters
  end_small k short = omega (arith, start_same k, ends_at ps k short, length_parted ps (k + 1), cut.whole.text.1)

  -- all pieces fit, and the last ends with the text
  pub whole_index : (o k units len : ℕ) → IsFit (weight_of unit) ps o k units → k ≡ length ps → len ≡ length (get_or ps (k - 1) []) →
      IsIndex unit (joined ps) o (record { at = get_or starts (k - 1) 0 + len; whole = eqb units o })
  whole_index o k units len front all len_is =
      let last : k - 1 < length ps = omega (arith, all, cut.whole.some) in
      let past : k - 1 + 1 ≡ k = omega (arith, all, cut.whole.some) in
      let at_is : get_or starts (k - 1) 0 + len ≡ length (joined ps) =
      omega (
        arith,
        len_is,
        start_same (k - 1),
        ends_at ps (k - 1) last,
        ap (λ n. length (joined (take n ps))) past,
        ap (λ l. length (joined l)) (take_all k ps (omega (arith, all))),
      ) in
      subst (λ n. IsIndex unit (joined ps) o (record { at = n; whole = eqb units o })) (sym at_is)
      (index_is unit (joined ps) o (length (joined ps)) units (fit_whole unit ps o k units front all))

  -- a piece doesn't fit whole
  pub inside_index : (o k units count more : ℕ) (piece : List ℕ) → IsFit (weight_of unit) ps o k units → k < length ps → piece ≡ get_or ps k [] →
      IsFit (size_of unit) piece (o - units) count more →
      IsIndex unit (joined ps) o (record { at = get_or starts k 0 + count; whole = eqb (units + more) o })
  inside_index o k units count more piece front short piece_is rest =
      let rest' = subst (λ p. IsFit (size_of unit) p (o - units) count more) piece_is rest in
      subst (λ n. IsIndex unit (joined ps) o (record { at = n + count; whole = eqb (units + more) o })) (sym (start_same k))
      (index_is unit (joined ps) o (get_or (starts_from 0 ps) k 0 + count) (units + more) (fit_joined unit ps o k units count more front short rest'))

-- a piece that is edited, in the milestones after it
module _ (unit : TextUnit) (ps : List (List ℕ)) (sums : List ℕ) (first : ℕ) (are : AreMilestones (weight_of unit) ps sums) (short : first < length ps) where
  pub old_in_milestones : (old : ℕ) (item : List ℕ) → item ≡ get_or ps first item → old ≡ weight_of unit item →
      (k : ℕ) → first / 8 ≤ k → k < length sums → old ≤ get_or sums k 0
  old_in_milestones old item read is k behind within =
      omega (
        arith,
        is,
        ap (λ p. weight_of unit p) (get_or_read ps first item short read []),
        item_in_milestone (weight_of unit) ps sums first [] are k behind within,
      )

  pub new_in_milestones : (new : ℕ) (item piece x w : List ℕ) (from remove : ℕ) → length (joined ps) ≤ most_characters →
      item ≡ get_or (set ps first piece) first item → new ≡ weight_of unit item → piece ≡ splice x from (from + remove) w → x ≡ get_or ps first x →
      from + remove ≤ length (get_or ps first []) → length (get_or ps first []) - remove + length w ≤ 1024 →
      (k : ℕ) → first / 8 ≤ k → k < length sums → get_or sums k 0 + new < 4294967296
  new_in_milestones new item piece x w from remove few read is edited read_x within full k behind inside =
      let item_is : item ≡ piece = read ∙ get_or-set_same ps first piece item short in
      let x_is : x ≡ get_or ps first [] = get_or_read ps first x short read_x [] in
      omega (
        arith,
        is,
        sum_small unit item,
        ap length item_is,
        long_is x piece w from (from + remove) (omega arith) (omega (arith, within, ap length x_is)) edited,
        ap length x_is,
        within,
        full,
        milestone_in_all (weight_of unit) ps sums are k inside,
        pieces_small unit ps few,
      )

  pub milestones_after : (old new : ℕ) (item item' piece made : List ℕ) → item ≡ get_or ps first item → old ≡ weight_of unit item →
      item' ≡ get_or (set ps first piece) first item' → new ≡ weight_of unit item' →
      made ≡ take (min (first / 8) (length sums)) sums ++ shifted old new (drop (min (first / 8) (length sums)) sums) →
      AreMilestones (weight_of unit) (set ps first piece) made
  milestones_after old new item item' piece made read is read' is' made_is =
      subst (λ m. AreMilestones (weight_of unit) (set ps first piece) m) (sym made_is)
      (milestones_moved (weight_of unit) ps sums first old new piece [] are short (is ∙ ap (λ p. weight_of unit p) (get_or_read ps first item short read []))
      (is' ∙ ap (λ p. weight_of unit p) (read' ∙ get_or-set_same ps first piece item' short)))

-- a list that begins as another one
pub kept_front : {A : Type 0} (x now rest : List A) (n : ℕ) → n ≤ length x → now ≡ take n x ++ rest → (take n now ≡ take n x) × (n ≤ length now)
kept_front x now rest n within is =
    let long : length (take n x) ≡ n = omega (arith, length-take n x, within) in
    (ap (λ l. take n l) is ∙ take_at (take n x) rest n long, omega (arith, ap length is, length-append (take n x) rest, long))

-- the milestones before an item from which on the items are others
pub renewed_kept : {A : Type 0} (weight : A → ℕ) (x now rest : List A) (sums : List ℕ) (n : ℕ) → AreMilestones weight x sums → n ≤ length x →
    now ≡ take n x ++ rest → AreMilestones weight now (take (n / 8) sums)
renewed_kept weight x now rest sums n are within is =
    let kept = kept_front x now rest n within is in milestones_kept weight x now sums n are kept.0 kept.1

-- none are milestones of any items
pub none_are : {A : Type 0} (weight : A → ℕ) (items : List A) (sums : List ℕ) → sums ≡ [] → AreMilestones weight items sums
none_are weight items sums none =
    subst (λ s. AreMilestones weight items s) (sym none) (record { few = omega arith; each = λ k short. absurd (omega (arith, short)) })

-- those in a unit are milestones in it, as none are
pub sums_are : {A : Type 0} (weight : TextUnit → A → ℕ) (items : List A) (kept unit : TextUnit) (all sums : List ℕ) → AreMilestones (weight kept) items all →
    (sums ≡ []) ⊎ ((kept ≡ unit) × (sums ≡ all)) → AreMilestones (weight unit) items sums
sums_are weight items kept unit all sums are told =
    ⊎_elim (λ none. none_are (weight unit) items sums none)
    (λ same. subst (λ u. AreMilestones (weight u) items sums) same.0 (subst (λ s. AreMilestones (weight kept) items s) (sym same.1) are)) told
