-- Characters that are decoded one after the other, and units that begin with none.
use Rattle.std.proofs.Common.{◌≡◌, ◌≢◌, ℕ, ◌+◌, ◌*◌, ◌<◌, ◌≤◌, ◌⊎◌, List, [], ◌∷◌, ◌++◌, length, take, drop, set, get_or, refl, sym, ap, ◌∙◌, subst}
use Rattle.std.proofs.Common.{⊎_elim, arith, append_assoc, length-append, length-drop, length-take, length-set, sum_by}
use Rattle.std.specs.Prelude.{IsUtf8, encode_utf8}
use Rattle.std.specs.Str.{IsAscii, IsValidUpTo}
use Rattle.std.proofs.lemmas.Bool.{cases_lt}
use Rattle.std.proofs.lemmas.Grind.{get_or-set_at}
use Rattle.std.proofs.lemmas.List.{take_more_set, take-set-le, flat_map_more, get_or-set_other, get_or-take, get_or-drop, get_or_past, take-take, take_at, drop_more}
use Rattle.std.proofs.lemmas.List.Sums.{sum_by_push}
use Rattle.std.proofs.lemmas.Str.{IsUtf8-encode, encode_ascii, len_utf8_ascii}
use Rattle.rbbi_model.specs.declared.unit.Unit.{Unit as TextUnit}
use Rattle.rbbi_model.specs.declared.unit.Unit.TheVariants.{Utf8}
use Rattle.rbbi_model.specs.Units.{size_of, offset_of}
use Rattle.rbbi_model.specs.Words.{IsCharacter, IsText}
use Rattle.rbbi_model.proofs.Lists.{all_append}
use Rattle.rbbi_text.proofs.MilestoneLemmas.{sum_small}
use Rattle.rbbi_scan.specs.Decoded.{IsDecoded}
use Rattle.rbbi_scan.specs.Spelled.{spelling_of, spelled, BeginWithNone}
use Rattle.rbbi_scan.proofs.Spelling.{size_is, size_some, scalar_of}

-- so many characters take at most four times as many units
pub offset_small : (unit : TextUnit) (x : List ℕ) (i : ℕ) → offset_of unit x i ≤ 4 * i
offset_small unit x i = omega (arith, sum_small unit (take i x), length-take i x)

pub decoded_none : (unit : TextUnit) (units chars ends : List ℕ) → IsDecoded unit units chars ends 0 0
decoded_none unit units chars ends = record {
  room = omega arith;
  text = tt;
  within = omega arith;
  used_is = refl;
  spells = refl;
  ends_are = λ k few. absurd (omega (arith, few));
}

-- how far the units reach that spell one character more
pub more_within : (unit : TextUnit) (units : List ℕ) (used next c : ℕ) → used ≤ length units → next ≡ used + size_of unit c →
    drop used units ≡ spelling_of unit c ++ drop next units → next ≤ length units
more_within unit units used next c within next_is split =
    omega (
      arith,
      within,
      next_is,
      ap length split,
      length-append (spelling_of unit c) (drop next units),
      length-drop used units,
      length-drop next units,
      size_is unit c,
      (size_some unit c).0,
    )

-- one character more
pub decoded_more : (unit : TextUnit) (units chars ends longer more : List ℕ) (count used next c : ℕ) → IsDecoded unit units chars ends count used →
    count < length chars → length ends ≡ length chars → IsCharacter c → next ≡ used + size_of unit c →
    drop used units ≡ spelling_of unit c ++ drop next units → longer ≡ set chars count c → more ≡ set ends count next →
    IsDecoded unit units longer more (count + 1) next
decoded_more unit units chars ends longer more count used next c so_far few same is next_is split longer_is more_is =
    subst (λ l. IsDecoded unit units l more (count + 1) next) (sym longer_is)
    (subst (λ l. IsDecoded unit units (set chars count c) l (count + 1) next) (sym more_is) by_sets)
  where
    front : List ℕ
    front = take count chars

    grown : take (count + 1) (set chars count c) ≡ take count chars ++ c ∷ []
    grown = take_more_set chars count c few

    sum : next ≡ offset_of unit (set chars count c) (count + 1)
    sum =
        next_is ∙ ap (λ n. n + size_of unit c) so_far.used_is ∙ sym (sum_by_push (size_of unit) (take count chars) c)
        ∙ ap (sum_by (size_of unit)) (sym grown)

    ends_at : (k : ℕ) → k < count + 1 → get_or (set ends count next) k 0 ≡ offset_of unit (set chars count c) (k + 1)
    ends_at k low =
        ⊎_elim
        (λ less.
        let other : k ≢ count = λ equal. omega (arith, less, equal) in
        get_or-set_other ends count k next 0 other ∙ so_far.ends_are k less
        ∙ ap (sum_by (size_of unit)) (sym (take-set-le (k + 1) chars count c (omega (arith, less)))))
        (λ high.
        let equal : k ≡ count = omega (arith, low, high) in
        get_or-set_at ends count k next 0 equal (omega (arith, few, same)) ∙ sum
        ∙ ap (λ n. offset_of unit (set chars count c) (n + 1)) (sym equal))
        (cases_lt k count)

    by_sets : IsDecoded unit units (set chars count c) (set ends count next) (count + 1) next
    by_sets = record {
      room = omega (arith, few, length-set chars count c);
      text = subst IsText (sym grown) (all_append IsCharacter (take count chars) (c ∷ []) so_far.text (is, tt));
      within = more_within unit units used next c so_far.within next_is split;
      used_is = sum;
      spells =
          so_far.spells
          ∙ ap (λ l. spelled unit (take count chars) ++ l) split
          ∙ sym (append_assoc (spelled unit (take count chars)) (spelling_of unit c) (drop next units))
          ∙ ap (λ l. l ++ drop next units) (flat_map_more (spelling_of unit) [] (take count chars) c)
          ∙ ap (λ l. spelled unit l ++ drop next units) (sym grown);
      ends_are = ends_at;
    }

-- no units begin with no character
pub none_begin : (unit : TextUnit) (units : List ℕ) → length units ≡ 0 → BeginWithNone unit units
none_begin unit units none c is begins =
    omega (arith, none, ap length begins.1, length-append (spelling_of unit c) begins.0, size_is unit c, (size_some unit c).0)

-- bytes begin with no character where none of the first is valid, and so many are looked at
pub front_none : (bytes block : List ℕ) (most : ℕ) → block ≡ take most bytes → (4 ≤ most) ⊎ (length bytes ≤ most) → IsValidUpTo block 0 →
    BeginWithNone Utf8 bytes
front_none bytes block most block_is enough valid c is begins =
    let n : ℕ = length (encode_utf8 c) in
    let size : n ≡ size_of Utf8 c = size_is Utf8 c in
    let some = size_some Utf8 c in
    let low : n ≤ most = ⊎_elim (λ four. omega (arith, four, size, some.1))
    (λ all. omega (arith, all, ap length begins.1, length-append (encode_utf8 c) begins.0)) enough in
    let same : take n block ≡ encode_utf8 c =
    ap (take n) block_is ∙ take-take n most bytes low ∙ ap (take n) begins.1 ∙ take_at (encode_utf8 c) begins.0 n refl in
    valid.longest n (omega (arith, size, some.0)) (subst IsUtf8 (sym same) (IsUtf8-encode c (scalar_of c is)))

-- bytes none of which is greater than one of ASCII
pub ascii_below : (bytes : List ℕ) (greatest : ℕ) → ((k : ℕ) → k < length bytes → get_or bytes k 0 ≤ greatest) → greatest < 128 → IsAscii bytes
ascii_below bytes greatest below small k =
    ⊎_elim
    (λ inside. omega (arith, below k inside))
    (λ past. let none = get_or_past bytes k 0 past in omega (arith, none))
    (cases_lt k (length bytes))

-- one byte of ASCII more
pub decoded_ascii : (bytes chars ends longer more : List ℕ) (count used len k n : ℕ) → IsDecoded Utf8 bytes chars ends (count + k) (used + k) →
    IsAscii (take len (drop used bytes)) → k < len → used + len ≤ length bytes → count + len ≤ length chars → length ends ≡ length chars →
    longer ≡ set chars (count + k) (get_or bytes (used + k) 0) → more ≡ set ends (count + k) (used + k + 1) → n ≡ k + 1 →
    IsDecoded Utf8 bytes longer more (count + n) (used + n)
decoded_ascii bytes chars ends longer more count used len k n so_far ascii low within fit same longer_is more_is next =
    subst (λ i. IsDecoded Utf8 bytes longer more i (used + n)) counted
    (subst (λ i. IsDecoded Utf8 bytes longer more (count + k + 1) i) reached
    (decoded_more Utf8 bytes chars ends longer more (count + k) (used + k) (used + k + 1) (get_or bytes (used + k) 0) so_far (omega (arith, low, fit)) same
    (omega (arith, small), λ lies. omega (arith, small, lies.0)) (ap (λ m. used + k + m) (sym size)) split longer_is more_is))
  where
    counted : count + k + 1 ≡ count + n
    counted = omega (arith, next)

    reached : used + k + 1 ≡ used + n
    reached = omega (arith, next)

    small : get_or bytes (used + k) 0 < 128
    small =
        let here : get_or (take len (drop used bytes)) k 0 ≡ get_or bytes (used + k) 0 = get_or-take len (drop used bytes) k 0 low ∙ get_or-drop used bytes k 0 in
        omega (arith, here, ascii k)

    size : size_of Utf8 (get_or bytes (used + k) 0) ≡ 1
    size = len_utf8_ascii (get_or bytes (used + k) 0) small

    split : drop (used + k) bytes ≡ encode_utf8 (get_or bytes (used + k) 0) ++ drop (used + k + 1) bytes
    split =
        drop_more bytes (used + k) 0 (omega (arith, low, within))
        ∙ ap (λ l. l ++ drop (used + k + 1) bytes) (sym (encode_ascii (get_or bytes (used + k) 0) small))
