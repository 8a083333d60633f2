-- What an edit makes of the pieces, put together.
use Rattle.std.proofs.Common.{◌≡◌, ℕ, ◌+◌, ◌-◌, ◌<◌, ◌≤◌, ◌++◌, ◌∷◌, [], List, map, take, drop, sym, refl, ap, ◌∙◌, subst, arith, append_assoc}
use Rattle.std.specs.List.{AllByRecursion}
use Rattle.std.proofs.lemmas.List.{take-take, drop-drop}
use Rattle.rbbi_model.specs.Lists.{IsRising}
use Rattle.rbbi_model.proofs.Lists.{all_left, all_right, all_through}
use Rattle.rbbi_tally.specs.declared.edit.Edit.{Edit}
use Rattle.rbbi_tally.specs.declared.kept.Kept.{Kept}
use Rattle.rbbi_tally.specs.declared.piece.Piece.{Piece}
use Rattle.rbbi_tally.specs.declared.spot.Spot.{Spot}
use Rattle.rbbi_tally.specs.inner.Kept.{at_of}
use Rattle.rbbi_tally.specs.inner.Segments.{Segment, moved, place_of}
use Rattle.rbbi_tally.specs.inner.Editing.{FitText, CanMove, CanShift}
use Rattle.rbbi_tally.specs.inner.Pieces.{segments_by, segments_in, contents, farthest, most_looked, BeginAtStart, ArePieces, IsUpTo}
use Rattle.rbbi_tally.proofs.PieceLists.{contents-append, farthest_least}
use Rattle.rbbi_tally.proofs.Joining.{rising_right}

-- what is behind stays the same where more is dropped
pub same_behind : (ps qs : List Piece) (front past : ℕ) → drop front ps ≡ drop front qs → front ≤ past → drop past ps ≡ drop past qs
same_behind ps qs front past same order =
    let e : front + (past - front) ≡ past = omega arith in
    ap (λ n. drop n ps) (sym e) ∙ sym (drop-drop (past - front) front ps) ∙ ap (λ (l : List Piece). drop (past - front) l) same
    ∙ drop-drop (past - front) front qs ∙ ap (λ n. drop n qs) e

pub same_front : (ps qs : List Piece) (front past : ℕ) → take past ps ≡ take past qs → front ≤ past → take front ps ≡ take front qs
same_front ps qs front past same order =
    sym (take-take front past ps order) ∙ ap (λ (l : List Piece). take front l) same ∙ take-take front past qs order

-- the pieces before the first spot don't reach behind the last one
pub front_before : (first met : Spot) (front past : ℕ) → IsUpTo first met → met.piece ≤ past → (0 < met.item → met.piece < past) →
    (first.item ≡ 0 → front ≡ first.piece) → front ≤ first.piece + 1 → front ≤ past
front_before first met front past order within cut whole parted = grind arith

can_shift_piece : (edit : Edit) (start : ℕ) (k : Kept) (items : List Kept) (first reach : ℕ) → reach ≡ farthest (segments_by first (k ∷ items)) → at_of k ≡ 0 →
    AllByRecursion (CanMove edit start) (segments_by first (k ∷ items)) →
    (edit.removed ≤ first) × (reach - edit.removed + edit.inserted ≤ most_looked)
can_shift_piece edit start k items first reach is begin all =
    let can = all.0 in
    let bound : ℕ = most_looked + edit.removed - edit.inserted in
    let behind = can.behind in
    let ahead = can.ahead in
    let small = can.small in
    let within = farthest_least bound (segments_by first (k ∷ items)) (all_through (CanMove edit start) (λ (s : Segment). s.look ≤ bound)
    (λ s c. omega (arith, c.behind, c.ahead, c.small)) (segments_by first (k ∷ items)) all) in (omega arith, omega arith)

pub can_shift : (edit : Edit) (start : ℕ) (ps : List Piece) → ArePieces ps → AllByRecursion (CanMove edit start) (contents ps) →
    AllByRecursion (CanShift edit) ps
can_shift edit start [] are all = tt
can_shift edit start (p ∷ ps) are all =
    let can = by_items p.items.items are.0.begin are.0.reach_is (all_left (CanMove edit start) (segments_in p) (contents ps) all) in (
      record { behind = can.0; small = can.1 },
      can_shift edit start ps are.1 (all_right (CanMove edit start) (segments_in p) (contents ps) all),
    )
  where
    by_items : (items : List Kept) → BeginAtStart items → p.reach ≡ farthest (segments_by p.start items) →
        AllByRecursion (CanMove edit start) (segments_by p.start items) → (edit.removed ≤ p.start) × (p.reach - edit.removed + edit.inserted ≤ most_looked)
    by_items [] begin is all' = absurd begin
    by_items (k ∷ items) begin is all' = can_shift_piece edit start k items p.start p.reach is begin all'

rising_left : (ss ts : List Segment) → IsRising (map (λ s. s.at) (ss ++ ts)) → IsRising (map (λ s. s.at) ss)
rising_left [] ts rise = tt
rising_left (s ∷ []) ts rise = tt
rising_left (s ∷ s' ∷ ss) ts rise = (rise.0, rising_left (s' ∷ ss) ts rise.1)

rising_items : (start : ℕ) (items : List Kept) → IsRising (map (λ s. s.at) (segments_by start items)) → IsRising (map at_of items)
rising_items start [] rise = tt
rising_items start (k ∷ []) rise = tt
rising_items start (k ∷ j ∷ items) rise = (omega (arith, rise.0), rising_items start (j ∷ items) rise.1)

-- the new segments as they are put among the others, and those behind them
module _ (edit : Edit) (start : ℕ) (before from : List Segment) (items items' : List Kept) (behind : List Segment)
    (tail : segments_by start items' ++ behind ≡ segments_by start items ++ from) where
  pub new_rise : IsRising (map (λ s. s.at) (before ++ (segments_by start items ++ from))) → IsRising (map at_of items')
  new_rise rise =
      rising_items start items' (rising_left (segments_by start items') behind
      (subst (λ l. IsRising (map (λ (s : Segment). s.at) l)) (sym tail) (rising_right before (segments_by start items ++ from) rise)))

  pub new_fit : AllByRecursion FitText (before ++ (segments_by start items ++ from)) → AllByRecursion FitText (segments_by start items')
  new_fit fit =
      all_left FitText (segments_by start items') behind
      (subst (AllByRecursion FitText) (sym tail) (all_right FitText before (segments_by start items ++ from) fit))

  pub new_begin : place_of (segments_by start items ++ from) start ≡ start → place_of (segments_by start items') start ≡ start
  new_begin begin = begins (segments_by start items') (ap (λ l. place_of l start) tail ∙ begin)
    where
      begins : (ss : List Segment) → place_of (ss ++ behind) start ≡ start → place_of ss start ≡ start
      begins [] is = refl
      begins (s ∷ ss) is = is

-- the pieces before a spot start before its place
pub starts_before : (start : ℕ) (ps : List Piece) → ArePieces ps → AllByRecursion (λ s. s.at < start) (contents ps) → AllByRecursion (λ p. p.start ≤ start) ps
starts_before start [] are all = tt
starts_before start (p ∷ ps) are all = (
  by_items p.items.items are.0.begin (all_left (λ (s : Segment). s.at < start) (segments_in p) (contents ps) all),
  starts_before start ps are.1 (all_right (λ (s : Segment). s.at < start) (segments_in p) (contents ps) all),
)
  where
    by_items : (items : List Kept) → BeginAtStart items → AllByRecursion (λ s. s.at < start) (segments_by p.start items) → p.start ≤ start
    by_items [] begin all' = absurd begin
    by_items (k ∷ items) begin all' = omega (arith, all'.0, begin)

-- the pieces after all: those before, the new ones, and those behind
pub committed : (shifted put removed : List Piece) (front past count : ℕ) (before new behind : List Segment) → front ≤ past →
    contents (take (front + count) put) ≡ before ++ new → drop (front + count) put ≡ drop front shifted → contents (drop past shifted) ≡ behind →
    removed ≡ take (front + count) put ++ drop (past + count) put → contents removed ≡ before ++ (new ++ behind)
committed shifted put removed front past count before new behind order fronts rest behinds is =
    let e : front + count + (past - front) ≡ past + count = omega arith in
    let e' : front + (past - front) ≡ past = omega arith in
    let there : drop (past + count) put ≡ drop past shifted =
    ap (λ n. drop n put) (sym e) ∙ sym (drop-drop (past - front) (front + count) put) ∙ ap (λ (l : List Piece). drop (past - front) l) rest
    ∙ drop-drop (past - front) front shifted ∙ ap (λ n. drop n shifted) e' in
    ap contents is ∙ contents-append (take (front + count) put) (drop (past + count) put)
    ∙ ap (λ l. l ++ contents (drop (past + count) put)) fronts
    ∙ ap (λ l. (before ++ new) ++ contents l) there
    ∙ ap (λ l. (before ++ new) ++ l) behinds
    ∙ append_assoc before new behind

pub all_committed : (edit : Edit) (start front past count : ℕ) (ps ps' cut shifted put removed : List Piece) (items items' : List Kept)
    (before from : List Segment) → ps' ≡ ps → front ≤ past → contents (take front cut) ≡ before → drop front cut ≡ drop front ps →
    take past shifted ≡ take past cut → contents (drop past shifted) ≡ map (moved edit.removed edit.inserted) (contents (drop past cut)) →
    contents (take (front + count) put) ≡ contents (take front shifted) ++ segments_by start items' → drop (front + count) put ≡ drop front shifted →
    segments_by start items' ++ map (moved edit.removed edit.inserted) (contents (drop past ps'))
    ≡ segments_by start items ++ map (moved edit.removed edit.inserted) from →
    removed ≡ take (front + count) put ++ drop (past + count) put →
    contents removed ≡ before ++ (segments_by start items ++ map (moved edit.removed edit.inserted) from)
all_committed edit start front past count ps ps' cut shifted put removed items items' before from same order fronts rest befores behinds puts rests tail is =
    let m : List Segment → List Segment = map (moved edit.removed edit.inserted) in
    committed shifted put removed front past count before (segments_by start items') (m (contents (drop past ps'))) order
    (puts ∙ ap (λ l. contents l ++ segments_by start items') (same_front shifted cut front past befores order) ∙ ap (λ l. l ++ segments_by start items') fronts)
    rests (behinds ∙ ap (λ l. m (contents l)) (same_behind cut ps front past rest order ∙ ap (drop past) (sym same))) is
    ∙ ap (λ l. before ++ l) tail
