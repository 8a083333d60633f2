-- Pieces that are inserted, removed and joined.
use Rattle.std.proofs.Common.{◌≡◌, ℕ, suc, ◌+◌, ◌-◌, ◌<◌, ◌≤◌, ◌++◌, ◌∷◌, [], List, length, map, take, drop, get_or, set, sym, refl, ap, ◌∙◌, subst}
use Rattle.std.proofs.Common.{arith, append_assoc, length-append, length-take, add-one}
use Rattle.std.specs.List.{AllByRecursion}
use Rattle.std.proofs.lemmas.List.{take-append-drop, take_at, drop_at, drop_more, take_more, set_at, get_or_at}
use Rattle.rbbi_model.specs.Words.{most_characters}
use Rattle.rbbi_model.specs.Lists.{IsRising}
use Rattle.rbbi_model.proofs.Lists.{all_append, all_left, all_right, all_through}
use Rattle.rbbi_model.proofs.Rising.{rising_tail}
use Rattle.rbbi_tally.specs.declared.kept.Kept.{Kept}
use Rattle.rbbi_tally.specs.declared.piece.Piece.{Piece}
use Rattle.rbbi_tally.specs.inner.Segments.{Segment, place_of}
use Rattle.rbbi_tally.specs.inner.Editing.{FitText}
use Rattle.rbbi_tally.specs.inner.Pieces.{segments_by, segments_in, contents, BeginAtStart, IsPiece, ArePieces}
use Rattle.rbbi_tally.proofs.PieceLists.{contents-append}

-- the pieces before and behind those that are inserted
pub inserted_parts : (ps ps' qs : List Piece) (front count : ℕ) → ps' ≡ take front ps ++ (qs ++ drop front ps) → front ≤ length ps → count ≡ length qs →
    (take (front + count) ps' ≡ take front ps ++ qs) × (drop (front + count) ps' ≡ drop front ps)
inserted_parts ps ps' qs front count is within many =
    let whole : ps' ≡ (take front ps ++ qs) ++ drop front ps = is ∙ sym (append_assoc (take front ps) qs (drop front ps)) in
    let long : length (take front ps ++ qs) ≡ front + count = omega (arith, length-append (take front ps) qs, length-take front ps) in (
      ap (take (front + count)) whole ∙ take_at (take front ps ++ qs) (drop front ps) (front + count) long,
      ap (drop (front + count)) whole ∙ drop_at (take front ps ++ qs) (drop front ps) (front + count) long,
    )

pub place_of_items : (start : ℕ) (items : List Kept) → BeginAtStart items → place_of (segments_by start items) 0 ≡ start
place_of_items start [] begin = absurd begin
place_of_items start (k ∷ items) begin = omega arith

some_segments : (start : ℕ) (items : List Kept) → BeginAtStart items → 0 < length (segments_by start items)
some_segments start [] begin = absurd begin
some_segments start (k ∷ items) begin = omega arith

pub rising_right : (ss ts : List Segment) → IsRising (map (λ s. s.at) (ss ++ ts)) → IsRising (map (λ s. s.at) ts)
rising_right [] ts rise = rise
rising_right (s ∷ ss) ts rise = rising_right ss ts (rising_tail s.at (map (λ s. s.at) (ss ++ ts)) rise)

-- what comes earlier begins before what comes later
pub rising_places : (ss ts : List Segment) → IsRising (map (λ s. s.at) (ss ++ ts)) → 0 < length ss → 0 < length ts → place_of ss 0 < place_of ts 0
rising_places [] ts rise some some' = absurd (omega (arith, some))
rising_places (s ∷ []) [] rise some some' = absurd (omega (arith, some'))
rising_places (s ∷ []) (t ∷ ts) rise some some' = rise.0
rising_places (s ∷ s' ∷ ss) ts rise some some' = omega (arith, rise.0, rising_places (s' ∷ ss) ts rise.1 (omega arith) some')

-- two neighbouring pieces, those before and those behind
pub record AreNeighbours (ps xs : List Piece) (m : ℕ) (q p : Piece) : Type 0 where
  pub before : List Piece
  pub behind : List Piece
  pub long : length before ≡ m
  pub whole : ps ≡ before ++ q ∷ p ∷ behind
  pub without : xs ≡ before ++ q ∷ behind

pub are_neighbours : (ps xs : List Piece) (m : ℕ) (q p : Piece) → m + 1 < length ps → p ≡ get_or ps (m + 1) p →
    xs ≡ take (m + 1) ps ++ drop (suc (m + 1)) ps → q ≡ get_or xs m q → AreNeighbours ps xs m q p
are_neighbours ps xs m q p short is_p removed is_q =
    let q' : Piece = get_or ps m q in
    let behind : List Piece = drop (suc (m + 1)) ps in
    let long : length (take m ps) ≡ m = omega (arith, length-take m ps) in
    let without : xs ≡ take m ps ++ q' ∷ behind =
    removed ∙ ap (λ (l : List Piece). l ++ behind) (take_more ps m q (omega arith)) ∙ append_assoc (take m ps) (q' ∷ []) behind in
    let same : q' ≡ q = sym (is_q ∙ ap (λ (l : List Piece). get_or l m q) without ∙ get_or_at (take m ps) q' behind q m long) in
    record {
      before = take m ps;
      behind = behind;
      long = long;
      whole =
          sym (take-append-drop m ps)
          ∙ ap (λ (l : List Piece). take m ps ++ l) (drop_more ps m q (omega arith))
          ∙ ap (λ (l : List Piece). take m ps ++ q' ∷ l) (drop_more ps (m + 1) p short ∙ ap (λ (r : Piece). r ∷ drop (m + 1 + 1) ps) (sym is_p)
          ∙ ap (λ n. p ∷ drop n ps) (add-one (m + 1)))
          ∙ ap (λ (r : Piece). take m ps ++ r ∷ p ∷ behind) same;
      without = without ∙ ap (λ (r : Piece). take m ps ++ r ∷ behind) same;
    }

module _ (ps xs : List Piece) (m : ℕ) (q p : Piece) (at : AreNeighbours ps xs m q p) where
  contents_whole : contents ps ≡ contents at.before ++ (segments_in q ++ (segments_in p ++ contents at.behind))
  contents_whole = ap contents at.whole ∙ contents-append at.before (q ∷ p ∷ at.behind)

  pub neighbours_are : ArePieces ps → ArePieces (q ∷ p ∷ at.behind)
  neighbours_are are = all_right IsPiece at.before (q ∷ p ∷ at.behind) (subst ArePieces at.whole are)

  pub neighbours_order : ArePieces ps → IsRising (map (λ s. s.at) (contents ps)) → q.start ≤ p.start
  neighbours_order are rise =
      let there = neighbours_are are in
      let rise' = rising_right (contents at.before) (segments_in q ++ (segments_in p ++ contents at.behind))
      (subst (λ l. IsRising (map (λ (s : Segment). s.at) l)) contents_whole rise) in
      let some = some_segments p.start p.items.items there.1.0.begin in
      let less = rising_places (segments_in q) (segments_in p ++ contents at.behind) rise' (some_segments q.start q.items.items there.0.begin)
      (omega (arith, length-append (segments_in p) (contents at.behind), some)) in
      let first = first_of (segments_in p) (contents at.behind) some in
      omega (arith, place_of_items q.start q.items.items there.0.begin, place_of_items p.start p.items.items there.1.0.begin)
    where
      first_of : (ss ts : List Segment) → 0 < length ss → place_of (ss ++ ts) 0 ≡ place_of ss 0
      first_of [] ts some = absurd (omega (arith, some))
      first_of (s ∷ ss) ts some = refl

  pub neighbours_near : (start : ℕ) → AllByRecursion FitText (contents ps) → AllByRecursion (λ s. s.at < start + most_characters) (segments_in p)
  neighbours_near start fit =
      let here = all_left FitText (segments_in p) (contents at.behind) (all_right FitText (segments_in q) (segments_in p ++ contents at.behind)
      (all_right FitText (contents at.before) (segments_in q ++ (segments_in p ++ contents at.behind)) (subst (AllByRecursion FitText) contents_whole fit))) in
      all_through FitText (λ (s : Segment). s.at < start + most_characters) (λ s f. omega (arith, f.at)) (segments_in p) here

  pub set_there : (q' : Piece) → set xs m q' ≡ at.before ++ q' ∷ at.behind
  set_there q' = ap (λ (l : List Piece). set l m q') at.without ∙ set_at at.before q at.behind q' m at.long

  -- the piece is joined to the one before it
  pub joined_contents : (q' : Piece) → segments_in q' ≡ segments_in q ++ segments_in p → contents (set xs m q') ≡ contents ps
  joined_contents q' is =
      ap contents (set_there q') ∙ contents-append at.before (q' ∷ at.behind)
      ∙ ap (λ l. contents at.before ++ (l ++ contents at.behind)) is
      ∙ ap (λ l. contents at.before ++ l) (append_assoc (segments_in q) (segments_in p) (contents at.behind))
      ∙ sym contents_whole

  -- the piece is put back
  put_back : (ps' : List Piece) (q' : Piece) → ps' ≡ take (m + 1) (set xs m q') ++ (p ∷ drop (m + 1) (set xs m q')) → ps' ≡ at.before ++ q' ∷ p ∷ at.behind
  put_back ps' q' is =
      let there : set xs m q' ≡ (at.before ++ q' ∷ []) ++ at.behind = set_there q' ∙ sym (append_assoc at.before (q' ∷ []) at.behind) in
      let long : length (at.before ++ q' ∷ []) ≡ m + 1 = omega (arith, length-append at.before (q' ∷ []), at.long) in
      is
      ∙ ap (λ (l : List Piece). l ++ (p ∷ drop (m + 1) (set xs m q'))) (ap (take (m + 1)) there ∙ take_at (at.before ++ q' ∷ []) at.behind (m + 1) long)
      ∙ ap (λ (l : List Piece). (at.before ++ q' ∷ []) ++ p ∷ l) (ap (drop (m + 1)) there ∙ drop_at (at.before ++ q' ∷ []) at.behind (m + 1) long)
      ∙ append_assoc at.before (q' ∷ []) (p ∷ at.behind)

  pub back_contents : (ps' : List Piece) (q' : Piece) → ps' ≡ take (m + 1) (set xs m q') ++ (p ∷ drop (m + 1) (set xs m q')) →
      segments_in q' ≡ segments_in q → contents ps' ≡ contents ps
  back_contents ps' q' is same =
      ap contents (put_back ps' q' is) ∙ contents-append at.before (q' ∷ p ∷ at.behind)
      ∙ ap (λ l. contents at.before ++ (l ++ (segments_in p ++ contents at.behind))) same ∙ sym contents_whole

  pub back_pieces : (ps' : List Piece) (q' : Piece) → ps' ≡ take (m + 1) (set xs m q') ++ (p ∷ drop (m + 1) (set xs m q')) → IsPiece q' → ArePieces ps →
      ArePieces ps'
  back_pieces ps' q' is is_piece are =
      let there = subst ArePieces at.whole are in
      subst ArePieces (sym (put_back ps' q' is))
      (all_append IsPiece at.before (q' ∷ p ∷ at.behind) (all_left IsPiece at.before (q ∷ p ∷ at.behind) there) (is_piece, (neighbours_are are).1))

-- the piece with a number, which is removed, and the one before it
pub neighbours : (ps xs : List Piece) (number : ℕ) (q p : Piece) → 0 < number → number < length ps → p ≡ get_or ps number p →
    xs ≡ take number ps ++ drop (suc number) ps → q ≡ get_or xs (number - 1) q → AreNeighbours ps xs (number - 1) q p
neighbours ps xs number q p some short is_p removed is_q =
    let next : number ≡ number - 1 + 1 = omega arith in
    are_neighbours ps xs (number - 1) q p (omega arith) (is_p ∙ ap (λ n. get_or ps n p) next) (removed ∙ ap (λ n. take n ps ++ drop (suc n) ps) next) is_q
