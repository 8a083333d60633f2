-- A window that was decoded from the units of a text, and where it stands in the text.
use Rattle.std.proofs.Common.{◌≡◌, ℕ, cond, eqb, zero, suc, ◌+◌, ◌-◌, ◌<◌, ◌≤◌, Bool, List, [], ◌∷◌, ◌++◌, length, take, drop, get_or, refl, sym, ap, ◌∙◌, subst}
use Rattle.std.proofs.Common.{arith, append_assoc, length-append, length-drop, length-take, take-append-drop, sum_by}
use Rattle.std.specs.Prelude.{IsTrue, ◌==◌}
use Rattle.std.proofs.lemmas.Bool.{eq-eqb, ne_eqb}
use Rattle.std.proofs.lemmas.List.{drop-drop, drop_at, drop-append-le, take-append-le, take-take, take_at, get_or-take}
use Rattle.std.proofs.lemmas.List.Concat.{flat_map-append}
use Rattle.std.proofs.lemmas.List.Sums.{sum_by-take-le, sum_by-cons}
use Rattle.rbbi_model.specs.declared.unit.Unit.{Unit as TextUnit}
use Rattle.rbbi_model.specs.Units.{size_of, offset_of}
use Rattle.rbbi_model.specs.Words.{IsCharacter, IsText}
use Rattle.rbbi_model.proofs.Lists.{all_drop, all_right}
use Rattle.rbbi_scan.specs.Decoded.{AreEnds, IsDecoded}
use Rattle.rbbi_scan.specs.Filling.{StandsIn}
use Rattle.rbbi_scan.specs.Scanning.{IsTextOver}
use Rattle.rbbi_scan.specs.Spelled.{spelling_of, spelled, BeginWithNone}
use Rattle.rbbi_scan.specs.Windows.{IsWindow}
use Rattle.rbbi_scan.proofs.Spelling.{size_is, size_some, first_of_text, rest_of_text, length_spelled, none_spelled}
use Rattle.rbbi_scan.proofs.Windows.{length_is, offset_in}

-- characters take one of the unit at least
sum_far : (unit : TextUnit) (x : List ℕ) → length x ≤ sum_by (size_of unit) x
sum_far unit [] = omega arith
sum_far unit (c ∷ x) = omega (arith, sum_by-cons (size_of unit) c x, (size_some unit c).0, sum_far unit x)

pub offset_far : (unit : TextUnit) (x : List ℕ) (i : ℕ) → i ≤ length x → i ≤ offset_of unit x i
offset_far unit x i low = omega (arith, sum_far unit (take i x), length-take i x, low)

-- no character begins units that more follow, where none begins them alone and they are long enough for any
pub none_longer : (unit : TextUnit) (units others : List ℕ) → 4 ≤ length units → BeginWithNone unit units → BeginWithNone unit (units ++ others)
none_longer unit units others long none c is begins =
    let s : List ℕ = spelling_of unit c in
    let n : ℕ = length s in
    let low : n ≤ length units = omega (arith, long, size_is unit c, (size_some unit c).1) in
    let front : take n units ≡ s = sym (take-append-le n units others low) ∙ ap (take n) begins.1 ∙ take_at s begins.0 n refl in
    none c is (drop n units, sym (take-append-drop n units) ∙ ap (λ l. l ++ drop n units) front)

-- how many units the characters before a place take, by where each ends
pub before_is : (unit : TextUnit) (w ends : List ℕ) (at : ℕ) → AreEnds unit w ends (length w) → at ≤ length w →
    cond (eqb at 0) 0 (get_or ends (at - 1) 0) ≡ offset_of unit w at
before_is unit w ends zero ends_are inside = refl
before_is unit w ends (suc at) ends_are inside =
    let back : suc at - 1 ≡ at = omega arith in
    let next : at + 1 ≡ suc at = omega arith in
    ap (λ t. cond t 0 (get_or ends (suc at - 1) 0)) (ne_eqb (suc at) 0 (λ same. omega (arith, same)))
    ∙ ap (λ n. get_or ends n 0) back ∙ ends_are at (omega (arith, inside)) ∙ ap (offset_of unit w) next

-- where each of the characters ends isn't past where the last does
pub end_within : (unit : TextUnit) (units chars ends : List ℕ) (count used : ℕ) → IsDecoded unit units chars ends count used → (k : ℕ) → k < count →
    get_or ends k 0 ≤ used
end_within unit units chars ends count used decoded k few =
    let cut : take (k + 1) (take count chars) ≡ take (k + 1) chars = take-take (k + 1) count chars (omega (arith, few)) in
    omega (
      arith,
      decoded.ends_are k few,
      decoded.used_is,
      ap (sum_by (size_of unit)) cut,
      sum_by-take-le (size_of unit) (take count chars) (k + 1),
    )

pub end_at : (unit : TextUnit) (units chars ends : List ℕ) (count used resume : ℕ) → IsDecoded unit (drop resume units) chars ends count used →
    resume ≤ length units → (k : ℕ) → k < count → resume + get_or (take count ends) k 0 ≤ length units
end_at unit units chars ends count used resume decoded low k few =
    let within = decoded.within in
    omega (
      arith,
      end_within unit (drop resume units) chars ends count used decoded k few,
      within,
      low,
      length-drop resume units,
      get_or-take count ends k 0 few,
    )

module _ (unit : TextUnit) (units chars ends : List ℕ) (count used : ℕ) (decoded : IsDecoded unit units chars ends count used) where
  pub size_of_window : length (take count chars) ≡ count
  size_of_window = let room = decoded.room in omega (arith, room, length-take count chars)

  -- where each of the characters ends
  pub ends_kept : AreEnds unit (take count chars) (take count ends) (length (take count chars))
  ends_kept k few =
      let low : k < count = omega (arith, few, size_of_window) in
      get_or-take count ends k 0 low ∙ decoded.ends_are k low
      ∙ ap (sum_by (size_of unit)) (sym (take-take (k + 1) count chars (omega (arith, low))))

  -- how many units the characters before a place take
  pub units_at : (at : ℕ) → at ≤ length (take count chars) → (n : ℕ) → n ≡ cond (eqb at 0) 0 (get_or (take count ends) (at - 1) 0) →
      n ≡ offset_of unit (take count chars) at
  units_at at inside n is = is ∙ before_is unit (take count chars) (take count ends) at ends_kept inside

  pub units_low : (at : ℕ) → at ≤ length (take count chars) → (n : ℕ) → n ≡ cond (eqb at 0) 0 (get_or (take count ends) (at - 1) 0) → n ≤ used
  units_low at inside n is = omega (arith, units_at at inside n is, decoded.used_is, sum_by-take-le (size_of unit) (take count chars) at)

module _ (unit : TextUnit) (units others : List ℕ) (is_last : Bool) (begin end : ℕ) (x : List ℕ) (place resume : ℕ)
    (over : IsTextOver unit units others is_last begin end x place resume) (low : resume ≤ length units)
    (chars ends : List ℕ) (count used : ℕ) (decoded : IsDecoded unit (drop resume units) chars ends count used) where
  abbrev pub all : List ℕ
  all = units ++ others

  -- the characters that were decoded, and the units that are left
  abbrev pub w : List ℕ
  w = take count chars

  abbrev pub left : List ℕ
  left = drop used (drop resume units) ++ others

  pub size : length w ≡ count
  size = size_of_window unit (drop resume units) chars ends count used decoded

  -- the rest of the text stands there
  rest_there : drop resume all ≡ spelled unit (drop place x) ++ drop end all
  rest_there =
      let front : List ℕ = spelled unit (take place x) in
      let back : List ℕ = spelled unit (drop place x) in
      let long : length front ≡ offset_of unit x place = length_spelled unit (take place x) in
      let split : spelled unit x ≡ front ++ back =
      ap (spelled unit) (sym (take-append-drop place x)) ∙ flat_map-append (spelling_of unit) (take place x) (drop place x) in
      ap (λ n. drop n all) over.resume_is
      ∙ sym (drop-drop (offset_of unit x place) begin all)
      ∙ ap (drop (offset_of unit x place)) (over.text.spells ∙ ap (λ l. l ++ drop end all) split ∙ append_assoc front back (drop end all))
      ∙ drop_at front (back ++ drop end all) (offset_of unit x place) long

  -- and begins with what was decoded
  decoded_there : drop resume all ≡ spelled unit w ++ left
  decoded_there =
      drop-append-le resume units others low
      ∙ ap (λ l. l ++ others) decoded.spells
      ∙ append_assoc (spelled unit w) (drop used (drop resume units)) others

  first : (rest : List ℕ) × (drop place x ≡ w ++ rest)
  first =
      first_of_text unit (drop place x) w (drop end all) left (all_drop IsCharacter place x over.text.text) decoded.text over.text.no_more
      (sym rest_there ∙ decoded_there)

  pub rest : List ℕ
  rest = first.0

  pub is_window : IsWindow place w rest x
  unfolding rest
  is_window = record { within = over.within; after = first.1 }

  -- what is left of the text is spelled by the units that are left
  rest_spelled : spelled unit rest ++ drop end all ≡ left
  unfolding rest
  rest_spelled =
      rest_of_text unit w first.0 (drop end all) left
      (ap (λ l. spelled unit l ++ drop end all) (sym first.1) ∙ sym rest_there ∙ decoded_there)

  -- where the window ends lies so far on
  pub end_there : offset_of unit x (place + count) ≡ offset_of unit x place + used
  end_there =
      let here : place + length w ≡ place + count = omega (arith, size) in
      let sum : offset_of unit w (length w) ≡ used =
      ap (λ l. sum_by (size_of unit) l) (ap (λ n. take n w) size ∙ take-take count count chars (omega arith)) ∙ sym decoded.used_is in
      omega (arith, sum, ap (offset_of unit x) here, offset_in place w rest x is_window unit (length w) (omega arith))

  -- the units end there, and are the last
  pub ends_whole : IsTrue is_last → resume + used ≡ length units → (rest ≡ []) × (end ≡ length all)
  ends_whole last done =
      let none : length left ≡ 0 =
      omega (
        arith,
        ap length (over.last last),
        done,
        length-append (drop used (drop resume units)) others,
        length-drop used (drop resume units),
        length-drop resume units,
      ) in
      let both : length (spelled unit rest) + length (drop end all) ≡ 0 =
      omega (arith, none, ap length rest_spelled, length-append (spelled unit rest) (drop end all)) in
      (none_spelled unit rest (omega (arith, both)), let within = over.text.within in omega (arith, both, within, length-drop end all))

  -- no character begins there, so the text ends there
  pub ends_faulty : BeginWithNone unit left → (rest ≡ []) × (end ≡ resume + used)
  ends_faulty none =
      by_rest rest rest_spelled
      (all_right IsCharacter w rest (subst IsText is_window.after (all_drop IsCharacter place x over.text.text)))
      (length_is place w rest x is_window)
    where
      by_rest : (more : List ℕ) → spelled unit more ++ drop end all ≡ left → IsText more → length x ≡ place + length w + length more →
          (more ≡ []) × (end ≡ resume + used)
      by_rest [] same text long =
          let there : length x ≡ place + count = omega (arith, long, size) in
          (refl, omega (arith, over.text.end_is, ap (offset_of unit x) there, end_there, over.resume_is))
      by_rest (c ∷ more) same text long =
          absurd (none c text.0 (spelled unit more ++ drop end all, sym same ∙ append_assoc (spelling_of unit c) (spelled unit more) (drop end all)))

  pub stands : (is_final : Bool) → (IsTrue is_final → IsTrue is_last × (resume + used ≡ length units)) →
      StandsIn unit w (take count ends) resume is_final (end == length all) begin place rest x
  stands is_final final = record {
    is_window = is_window;
    ends_are = ends_kept unit (drop resume units) chars ends count used decoded;
    base_is = over.resume_is;
    final = λ is. let whole = ends_whole (final is).0 (final is).1 in (whole.0, eq-eqb end (length all) whole.1);
  }

  -- the text from a place in the window on
  pub over_at : (at now : ℕ) → at ≤ length w → now ≡ resume + offset_of unit w at → IsTextOver unit units others is_last begin end x (place + at) now
  over_at at now inside now_is = record {
    last = over.last;
    text = over.text;
    within = omega (arith, inside, length_is place w rest x is_window);
    resume_is = omega (arith, now_is, over.resume_is, offset_in place w rest x is_window unit at inside);
  }
