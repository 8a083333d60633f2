-- Lists of pieces, and spots in them.
use Rattle.std.proofs.Common.{◌≡◌, ℕ, zero, suc, ◌+◌, ◌-◌, ◌<◌, ◌≤◌, max, List, [], ◌∷◌, ◌++◌, length, map, take, drop, get_or, set, sym, refl, ap, ◌∙◌, subst}
use Rattle.std.proofs.Common.{⊎_elim, arith, append_assoc, append-nil}
use Rattle.std.specs.List.{AllByRecursion}
use Rattle.std.proofs.lemmas.List.{take-append-drop, drop_more, take_more, drop-drop, take-append-le, drop-append-le, drop_at, take-map, drop-map, map_more}
use Rattle.std.proofs.lemmas.List.{length-map, drop_all, map-append}
use Rattle.std.proofs.lemmas.Bool.{cases_lt}
use Rattle.std.proofs.lemmas.List.Concat.{flat_map-append}
use Rattle.rbbi_model.proofs.Lists.{all_append, all_drop, all_at}
use Rattle.rbbi_tally.specs.declared.kept.Kept.{Kept}
use Rattle.rbbi_tally.specs.declared.piece.Piece.{Piece}
use Rattle.rbbi_tally.specs.declared.spot.Spot.{Spot}
use Rattle.rbbi_tally.specs.inner.Segments.{Segment, moved, place_of}
use Rattle.rbbi_tally.specs.inner.Spots.{LooksPast}
use Rattle.rbbi_tally.specs.inner.Pieces.{segment_of, segments_by, segments_in, contents, farthest, BeginAtStart, IsPiece, ArePieces, IsItemOf, IsSpot}
use Rattle.rbbi_tally.specs.inner.Pieces.{segments_from, segments_before, IsUpTo}

-- each look end is at most the greatest
pub looks_within : (k : ℕ) (ss : List Segment) → farthest ss ≤ k → AllByRecursion (λ s. s.look ≤ k) ss
looks_within k [] within = tt
looks_within k (s ∷ ss) within = (omega (arith, within), looks_within k ss (omega (arith, within)))

pub farthest_least : (k : ℕ) (ss : List Segment) → AllByRecursion (λ s. s.look ≤ k) ss → farthest ss ≤ k
farthest_least k [] each = omega arith
farthest_least k (s ∷ ss) each = omega (arith, each.0, farthest_least k ss each.1)

pub farthest-append : (ss ts : List Segment) → farthest (ss ++ ts) ≡ max (farthest ss) (farthest ts)
farthest-append [] ts = omega arith
farthest-append (s ∷ ss) ts = omega (arith, farthest-append ss ts)

-- a list that is read one further
pub take_map_more : {X Y : Type 0} (f : X → Y) (xs : List X) (i : ℕ) (d : X) → i < length xs →
    take (i + 1) (map f xs) ≡ take i (map f xs) ++ f (get_or xs i d) ∷ []
take_map_more {X} {Y} f xs i d short =
    take-map f (i + 1) xs ∙ map_more f xs i d short ∙ ap (λ (l : List Y). l ++ f (get_or xs i d) ∷ []) (sym (take-map f i xs))

pub all_map_more : {X Y : Type 0} (P : Y → Type 0) (f : X → Y) (xs : List X) (i : ℕ) (d : X) → i < length xs →
    AllByRecursion P (take i (map f xs)) → P (f (get_or xs i d)) → AllByRecursion P (take (i + 1) (map f xs))
all_map_more {X} {Y} P f xs i d short all holds =
    let e : take (i + 1) (map f xs) ≡ take i (map f xs) ++ f (get_or xs i d) ∷ [] = take_map_more f xs i d short in
    subst (λ (l : List Y). AllByRecursion P l) (sym e) (all_append P (take i (map f xs)) (f (get_or xs i d) ∷ []) all (holds, tt))

pub drop_map_more : {X Y : Type 0} (f : X → Y) (xs : List X) (i : ℕ) (d : X) → i < length xs →
    drop i (map f xs) ≡ f (get_or xs i d) ∷ drop (i + 1) (map f xs)
drop_map_more {X} {Y} f xs i d short =
    drop-map f i xs ∙ ap (map f) (drop_more xs i d short) ∙ ap (λ (l : List Y). f (get_or xs i d) ∷ l) (sym (drop-map f (i + 1) xs))

-- what is read past the end of a list of items
abbrev pub no_item : Kept
no_item = record { place = 0; look = 0 }

pub contents-append : (ps qs : List Piece) → contents (ps ++ qs) ≡ contents ps ++ contents qs
contents-append ps qs = flat_map-append segments_in ps qs

pub contents_parted : (ps : List Piece) (c : ℕ) → contents ps ≡ contents (take c ps) ++ contents (drop c ps)
contents_parted ps c = ap contents (sym (take-append-drop c ps)) ∙ contents-append (take c ps) (drop c ps)

-- the piece with a number, and those behind it
pub contents_at : (ps : List Piece) (c : ℕ) (p : Piece) → c < length ps → p ≡ get_or ps c p →
    contents (drop c ps) ≡ segments_in p ++ contents (drop (c + 1) ps)
contents_at ps c p short is =
    ap contents (drop_more ps c p short) ∙ ap (λ q. segments_in q ++ contents (drop (c + 1) ps)) (sym is)

pub contents_push : (ps : List Piece) (p : Piece) → contents (ps ++ p ∷ []) ≡ contents ps ++ segments_in p
contents_push ps p = contents-append ps (p ∷ []) ∙ ap (λ l. contents ps ++ l) (append-nil (segments_in p))

-- the pieces up to and with the one of a number
pub contents_more : (ps : List Piece) (c : ℕ) (p : Piece) → c < length ps → p ≡ get_or ps c p →
    contents (take (c + 1) ps) ≡ contents (take c ps) ++ segments_in p
contents_more ps c p short is =
    ap contents (take_more ps c p short) ∙ contents_push (take c ps) (get_or ps c p) ∙ ap (λ q. contents (take c ps) ++ segments_in q) (sym is)

pub spot_parts : (ps : List Piece) (spot : Spot) → segments_before ps spot ++ segments_from ps spot ≡ contents ps
spot_parts ps spot =
    append_assoc (contents (take spot.piece ps)) (take spot.item (contents (drop spot.piece ps))) (drop spot.item (contents (drop spot.piece ps)))
    ∙ ap (λ l. contents (take spot.piece ps) ++ l) (take-append-drop spot.item (contents (drop spot.piece ps)))
    ∙ sym (contents_parted ps spot.piece)

pub length_in : (p : Piece) → length (segments_in p) ≡ length p.items.items
length_in p = length-map p.items.items (segment_of p.start)

-- an item of a piece is a spot
pub item_spot : (ps : List Piece) (c item : ℕ) (p : Piece) → c < length ps → p ≡ get_or ps c p → item < length p.items.items →
    IsSpot ps (record { piece = c; item = item })
item_spot ps c item p short is within =
    record {
      within = omega arith;
      item =
          subst (λ l. IsItemOf l item) (sym (drop_more ps c p short))
          (subst (λ q. item < length q.items.items) is within);
    }

-- the start of a piece, or the end, is a spot
pub start_spot : (ps : List Piece) (c : ℕ) → c ≤ length ps → ArePieces ps → IsSpot ps (record { piece = c; item = 0 })
start_spot ps c within are = record { within = within; item = first_item (drop c ps) (all_drop IsPiece c ps are) }
  where
    some : (items : List Kept) → BeginAtStart items → 0 < length items
    some [] begin = absurd begin
    some (k ∷ items) begin = omega arith

    first_item : (qs : List Piece) → ArePieces qs → IsItemOf qs 0
    first_item [] are' = refl
    first_item (q ∷ qs) are' = some q.items.items are'.0.begin

-- the item of a spot
pub spot_item : (ps : List Piece) (spot : Spot) (p : Piece) → IsSpot ps spot → spot.piece < length ps → p ≡ get_or ps spot.piece p →
    spot.item < length p.items.items
spot_item ps spot p at short is =
    subst (λ q. spot.item < length q.items.items) (sym is) (subst (λ l. IsItemOf l spot.item) (drop_more ps spot.piece p short) at.item)

-- behind the last piece there is nothing
pub nothing_at_end : (ps : List Piece) (spot : Spot) → length ps ≤ spot.piece → segments_from ps spot ≡ []
nothing_at_end ps spot past = ap (λ (l : List Piece). drop spot.item (contents l)) (drop_all spot.piece ps past) ∙ drop_all spot.item [] (omega arith)

-- the segment at a spot, and those behind it
pub segment_at_spot : (ps : List Piece) (spot : Spot) (p : Piece) (d : Kept) → spot.piece < length ps → p ≡ get_or ps spot.piece p →
    spot.item < length p.items.items →
    segments_from ps spot ≡ segment_of p.start (get_or p.items.items spot.item d)
    ∷ (drop (spot.item + 1) (segments_in p) ++ contents (drop (spot.piece + 1) ps))
segment_at_spot ps spot p d short is within =
    ap (drop spot.item) (contents_at ps spot.piece p short is)
    ∙ drop-append-le spot.item (segments_in p) (contents (drop (spot.piece + 1) ps)) (omega (arith, length_in p))
    ∙ ap (λ l. l ++ contents (drop (spot.piece + 1) ps)) (drop_map_more (segment_of p.start) p.items.items spot.item d within)

-- one further in the piece
pub next_in_piece : (ps : List Piece) (spot : Spot) → segments_from ps (record { piece = spot.piece; item = spot.item + 1 }) ≡ drop 1 (segments_from ps spot)
next_in_piece ps spot = sym (drop-drop 1 spot.item (contents (drop spot.piece ps)))

-- one further, in the next piece
pub next_piece : (ps : List Piece) (spot : Spot) (p : Piece) → spot.piece < length ps → p ≡ get_or ps spot.piece p →
    length p.items.items ≡ spot.item + 1 → segments_from ps (record { piece = spot.piece + 1; item = 0 }) ≡ drop 1 (segments_from ps spot)
next_piece ps spot p short is last =
    sym (drop-drop 1 spot.item (contents (drop spot.piece ps))
    ∙ ap (drop (spot.item + 1)) (contents_at ps spot.piece p short is)
    ∙ drop_at (segments_in p) (contents (drop (spot.piece + 1) ps)) (spot.item + 1) (length_in p ∙ last))

-- what is before an item of a piece
pub before_item : (ps : List Piece) (c item : ℕ) (p : Piece) → c < length ps → p ≡ get_or ps c p → item ≤ length p.items.items →
    segments_before ps (record { piece = c; item = item }) ≡ contents (take c ps) ++ take item (segments_in p)
before_item ps c item p short is within =
    ap (λ l. contents (take c ps) ++ take item l) (contents_at ps c p short is)
    ∙ ap (λ l. contents (take c ps) ++ l) (take-append-le item (segments_in p) (contents (drop (c + 1) ps)) (omega (arith, length_in p)))

pub from_item : (ps : List Piece) (c item : ℕ) (p : Piece) → c < length ps → p ≡ get_or ps c p → item ≤ length p.items.items →
    segments_from ps (record { piece = c; item = item }) ≡ drop item (segments_in p) ++ contents (drop (c + 1) ps)
from_item ps c item p short is within =
    ap (drop item) (contents_at ps c p short is)
    ∙ drop-append-le item (segments_in p) (contents (drop (c + 1) ps)) (omega (arith, length_in p))

-- what looks past a place in a list looks past it where more follows
pub looks_past_more : (place : ℕ) (ss ts : List Segment) → 0 < length ss → LooksPast place ss → LooksPast place (ss ++ ts)
looks_past_more place [] ts some far = absurd (omega (arith, some))
looks_past_more place (s ∷ ss) ts some far = far

-- a segment that is added to a piece
pub segments_push : (start : ℕ) (items items' : List Kept) (k : Kept) (s : Segment) → items' ≡ items ++ k ∷ [] → segment_of start k ≡ s →
    segments_by start items' ≡ segments_by start items ++ s ∷ []
segments_push start items items' k s pushed is =
    ap (segments_by start) pushed ∙ map-append (segment_of start) items (k ∷ []) ∙ ap (λ t. segments_by start items ++ t ∷ []) is

pub same_segment : (s t : Segment) → s.at ≡ t.at → s.look ≡ t.look → s.list ≡ t.list → s ≡ t
same_segment s t at looks lists =
    ap (λ p. record { at = p; look = s.look; list = s.list }) at ∙ ap (λ p. record { at = t.at; look = p; list = s.list }) looks
    ∙ ap (λ p. record { at = t.at; look = t.look; list = p }) lists

-- the segments of a piece that is moved
pub segments_shift : (start removed inserted : ℕ) (items : List Kept) → removed ≤ start →
    segments_by (start - removed + inserted) items ≡ map (moved removed inserted) (segments_by start items)
segments_shift start removed inserted [] behind = refl
segments_shift start removed inserted (k ∷ items) behind =
    let here : segment_of (start - removed + inserted) k ≡ moved removed inserted (segment_of start k) =
    same_segment (segment_of (start - removed + inserted) k) (moved removed inserted (segment_of start k)) (omega arith) (omega arith) refl in
    ap (λ s. s ∷ segments_by (start - removed + inserted) items) here
    ∙ ap (λ l. moved removed inserted (segment_of start k) ∷ l) (segments_shift start removed inserted items behind)

farthest_shift : (start removed inserted : ℕ) (k : Kept) (items : List Kept) → removed ≤ start →
    farthest (map (moved removed inserted) (segments_by start (k ∷ items))) ≡ farthest (segments_by start (k ∷ items)) - removed + inserted
farthest_shift start removed inserted k [] behind = omega arith
farthest_shift start removed inserted k (j ∷ items) behind = omega (arith, farthest_shift start removed inserted j items behind)

pub reach_shift : (start removed inserted : ℕ) (items : List Kept) → BeginAtStart items → removed ≤ start →
    farthest (map (moved removed inserted) (segments_by start items)) ≡ farthest (segments_by start items) - removed + inserted
reach_shift start removed inserted [] begin behind = absurd begin
reach_shift start removed inserted (k ∷ items) begin behind = farthest_shift start removed inserted k items behind

pub drop_map_read : {X Y : Type 0} (f : X → Y) (xs : List X) (i : ℕ) (x : X) → i < length xs → x ≡ get_or xs i x →
    drop i (map f xs) ≡ f x ∷ drop (i + 1) (map f xs)
drop_map_read {X} {Y} f xs i x short is = drop_map_more f xs i x short ∙ ap (λ (y : X). f y ∷ drop (i + 1) (map f xs)) (sym is)

-- a spot that is no start of a piece is in a piece
pub spot_short : (ps : List Piece) (spot : Spot) → IsSpot ps spot → (spot.item ≡ 0 → ⊥) → spot.piece < length ps
spot_short ps spot at inner =
    ⊎_elim
    (λ short. short)
    (λ past. absurd (inner (subst (λ l. IsItemOf l spot.item) (drop_all spot.piece ps past) at.item)))
    (cases_lt spot.piece (length ps))

-- each piece, by its number
pub piece_is : (ps : List Piece) (c : ℕ) (p : Piece) → ArePieces ps → c < length ps → p ≡ get_or ps c p → IsPiece p
piece_is ps c p are short is = subst IsPiece (sym is) (all_at IsPiece ps c p short are)

-- the segment that is read at a spot
pub segment_read : (ps : List Piece) (spot : Spot) (p : Piece) (k : Kept) → spot.piece < length ps → p ≡ get_or ps spot.piece p →
    spot.item < length p.items.items → k ≡ get_or p.items.items spot.item k →
    segments_from ps spot ≡ segment_of p.start k ∷ (drop (spot.item + 1) (segments_in p) ++ contents (drop (spot.piece + 1) ps))
segment_read ps spot p k short is within read =
    segment_at_spot ps spot p k short is within
    ∙ ap (λ j. segment_of p.start j ∷ (drop (spot.item + 1) (segments_in p) ++ contents (drop (spot.piece + 1) ps))) (sym read)

-- a piece that is put in place of another
pub pieces_set : (ps : List Piece) (c : ℕ) (p : Piece) → ArePieces ps → IsPiece p → ArePieces (set ps c p)
pieces_set [] c p are is = tt
pieces_set (q ∷ ps) zero p are is = (is, are.1)
pieces_set (q ∷ ps) (suc c) p are is = (are.0, pieces_set ps c p are.1 is)

pub up_to_on : (a b c : Spot) → IsUpTo a b → IsUpTo b c → IsUpTo a c
up_to_on a b c first second = grind arith

-- a piece that begins at its start does so with more behind
pub begin_append : (start start' : ℕ) (items items' : List Kept) (added : List Segment) → start' ≡ start →
    segments_by start' items' ≡ segments_by start items ++ added → BeginAtStart items → BeginAtStart items'
begin_append start start' [] items' added same is begin = absurd begin
begin_append start start' (k ∷ items) [] added same is begin =
    absurd (omega (arith, ap (λ (l : List Segment). length l) is))
begin_append start start' (k ∷ items) (j ∷ items') added same is begin =
    omega (arith, ap (λ (l : List Segment). place_of l 0) is)
