-- Segments that are copied into pieces of their own.
use Rattle.std.proofs.Common.{◌≡◌, ℕ, zero, suc, ◌+◌, ◌-◌, ◌<◌, ◌≤◌, ◌++◌, ◌∷◌, [], List, length, map, take, drop, get_or, sym, ap, ◌∙◌, subst, arith}
use Rattle.std.proofs.Common.{append_assoc}
use Rattle.std.specs.List.{AllByRecursion}
use Rattle.std.proofs.lemmas.List.{take-map, drop-map, take-append-drop, drop-drop, append-nil}
use Rattle.rbbi_model.specs.Lists.{IsRising}
use Rattle.rbbi_model.proofs.Lists.{all_take, all_drop}
use Rattle.rbbi_model.proofs.Rising.{rising_tail}
use Rattle.rbbi_tally.specs.declared.kept.Kept.{Kept}
use Rattle.rbbi_tally.specs.declared.piece.Piece.{Piece}
use Rattle.rbbi_tally.specs.inner.Kept.{at_of}
use Rattle.rbbi_tally.specs.inner.Segments.{Segment}
use Rattle.rbbi_tally.specs.inner.Editing.{FitText}
use Rattle.rbbi_tally.specs.inner.Pieces.{segment_of, segments_by, segments_in, contents}
use Rattle.rbbi_tally.proofs.PieceLists.{no_item, contents-append}

-- the first place is the least
pub rising_first : (items : List Kept) (i : ℕ) → IsRising (map at_of items) → i < length items → at_of (get_or items 0 no_item) ≤ at_of (get_or items i no_item)
rising_first [] i rise short = absurd (omega (arith, short))
rising_first (k ∷ items) zero rise short = omega arith
rising_first (k ∷ []) (suc i) rise short = absurd (omega (arith, short))
rising_first (k ∷ j ∷ items) (suc i) rise short = omega (arith, rise.0, rising_first (j ∷ items) i rise.1 (omega (arith, short)))

rising_drop : (n : ℕ) (ns : List ℕ) → IsRising ns → IsRising (drop n ns)
rising_drop zero ns rise = rise
rising_drop (suc n) [] rise = tt
rising_drop (suc n) (m ∷ ns) rise = rising_drop n ns (rising_tail m ns rise)

rising_take : (n : ℕ) (ns : List ℕ) → IsRising ns → IsRising (take n ns)
rising_take zero ns rise = tt
rising_take (suc n) [] rise = tt
rising_take (suc zero) (m ∷ ns) rise = tt
rising_take (suc (suc n)) (m ∷ []) rise = tt
rising_take (suc (suc n)) (m ∷ k ∷ ns) rise = (rise.0, rising_take (suc n) (k ∷ ns) rise.1)

pub rising_part : (n m : ℕ) (items : List Kept) → IsRising (map at_of items) → IsRising (map at_of (take n (drop m items)))
rising_part n m items rise =
    subst IsRising (ap (take n) (drop-map at_of m items) ∙ take-map at_of n (drop m items))
    (rising_take n (drop m (map at_of items)) (rising_drop m (map at_of items) rise))

pub part_is : (start n m : ℕ) (items : List Kept) → segments_by start (take n (drop m items)) ≡ take n (drop m (segments_by start items))
part_is start n m items = sym (ap (take n) (drop-map (segment_of start) m items) ∙ take-map (segment_of start) n (drop m items))

pub fit_part : (start n m : ℕ) (items : List Kept) → AllByRecursion FitText (segments_by start items) →
    AllByRecursion FitText (segments_by start (take n (drop m items)))
fit_part start n m items fit =
    subst (AllByRecursion FitText) (sym (part_is start n m items))
    (all_take FitText n (drop m (segments_by start items)) (all_drop FitText m (segments_by start items) fit))

-- one piece more
pub piece_more : (ps ps' : List Piece) (p : Piece) (start from to : ℕ) (items : List Kept) → ps' ≡ ps ++ p ∷ [] → from ≤ to →
    segments_in p ≡ segments_by start (take (to - from) (drop from items)) → contents ps ++ drop from (segments_by start items) ≡ segments_by start items →
    contents ps' ++ drop to (segments_by start items) ≡ segments_by start items
piece_more ps ps' p start from to items pushed order is parts =
    let all : List Segment = segments_by start items in
    let there : from + (to - from) ≡ to = omega arith in
    ap (λ l. contents l ++ drop to all) pushed
    ∙ ap (λ l. l ++ drop to all) (contents-append ps (p ∷ [])
    ∙ ap (λ l. contents ps ++ l) (append-nil (segments_in p) ∙ is ∙ part_is start (to - from) from items))
    ∙ append_assoc (contents ps) (take (to - from) (drop from all)) (drop to all)
    ∙ ap (λ n. contents ps ++ (take (to - from) (drop from all) ++ drop n all)) (sym there)
    ∙ ap (λ l. contents ps ++ (take (to - from) (drop from all) ++ l)) (sym (drop-drop (to - from) from all))
    ∙ ap (λ l. contents ps ++ l) (take-append-drop (to - from) (drop from all))
    ∙ parts
