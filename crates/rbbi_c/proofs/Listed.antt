-- Boundaries that are written one after another, as many as there is room for.
use Rattle.std.proofs.Common.{◌≡◌, ℕ, ◌+◌, ◌<◌, ◌≤◌, true, false, cond, ltb, leb, Bool, List, [], ◌∷◌, ◌++◌, length}
use Rattle.std.proofs.Common.{get_or, set, take, drop, map, reverse, filter}
use Rattle.std.proofs.Common.{refl, sym, ap, ◌∙◌, subst, ⊎_elim, zero, suc, arith}
use Rattle.std.specs.Prelude.{◌&&◌, slice_index}
use Rattle.std.specs.List.{AllByRecursion}
use Rattle.std.proofs.lemmas.Bool.{cases_lt, lt-ltb, le-ltb}
use Rattle.std.proofs.lemmas.List.{map-append, reverse-append, length-set, length-take, length-drop, length-map, length_push, drop_more, drop-set-lt, take_more, take_all}
use Rattle.std.proofs.lemmas.List.{take_more_set, set_past, take-append-le}
use Rattle.std.proofs.lemmas.Grind.{drop_more_same}
use Rattle.rbbi_model.specs.declared.unit.Unit.{Unit as TextUnit}
use Rattle.rbbi_model.specs.Boundaries.{Boundary}
use Rattle.rbbi_model.specs.Cover.{places}
use Rattle.rbbi_model.specs.Places.{largest}
use Rattle.rbbi_model.specs.Units.{offset_of, measured}
use Rattle.rbbi_model.proofs.Lists.{all_through}
use Rattle.rbbi_model.proofs.Measured.{turned}
use Rattle.rbbi_c.specs.Copying.{IsCopied}
use Rattle.rbbi_c.specs.Ranges.{past_up_to, before_down_to, greatest_statuses, Columns, columns, ListsOut}

-- nothing is copied at first
pub copied_none : (old : List ℕ) → IsCopied [] old old
copied_none old = record { same_room = refl; front = sym (take_all (length old) [] (omega arith)); past = refl }

-- what lies past it stays as the next one is written
past_more : (list old now : List ℕ) (y : ℕ) → drop (length list) now ≡ drop (length list) old
    → drop (length (list ++ y ∷ [])) (set now (length list) y) ≡ drop (length (list ++ y ∷ [])) old
past_more list old now y past =
    let n : ℕ = length list in
    ap (λ k. drop k (set now n y)) (length_push list y)
    ∙ drop-set-lt (n + 1) now n y (omega arith)
    ∙ drop_more_same now old n past
    ∙ ap (λ k. drop k old) (sym (length_push list y))

-- one number more is copied, or there is no room for it
pub copied_more : (list old now : List ℕ) (y : ℕ) → IsCopied list old now → IsCopied (list ++ y ∷ []) old (set now (length list) y)
copied_more list old now y copied =
    let n : ℕ = length list in
    let longer : length (list ++ y ∷ []) ≡ n + 1 = length_push list y in
    ⊎_elim
    (λ room. record {
      same_room = length-set now n y ∙ copied.same_room;
      front =
          ap (λ k. take k (set now n y)) longer
          ∙ take_more_set now n y room
          ∙ ap (λ l. l ++ y ∷ []) (copied.front ∙ take_all (length old) list (omega (arith, room, copied.same_room)))
          ∙ sym (take_all (length old) (list ++ y ∷ []) (omega (arith, room, copied.same_room, longer)));
      past = past_more list old now y copied.past;
    })
    (λ full.
    let same : set now n y ≡ now = set_past now n y full in
    record {
      same_room = ap length same ∙ copied.same_room;
      front =
          ap (λ l. take (length (list ++ y ∷ [])) l) same
          ∙ take_all (length (list ++ y ∷ [])) now (omega (arith, full, longer))
          ∙ sym (take_all n now full)
          ∙ copied.front
          ∙ sym (take-append-le (length old) list (y ∷ []) (omega (arith, full, copied.same_room)));
      past = past_more list old now y copied.past;
    })
    (cases_lt n (length now))

-- one more of a list is copied, by a number of each item
pub copied_next : {X : Type 0} (f : X → ℕ) (all : List X) (old now : List ℕ) (i : ℕ) (d : X) → i < length all → IsCopied (map f (take i all)) old now
    → IsCopied (map f (take (i + 1) all)) old (set now i (f (get_or all i d)))
copied_next f all old now i d inside copied =
    let x = get_or all i d in
    let many : length (map f (take i all)) ≡ i = length-map (take i all) f ∙ omega (arith, length-take i all, inside) in
    subst (λ l. IsCopied l old (set now i (f x))) (sym (ap (map f) (take_more all i d inside) ∙ map-append f (take i all) (x ∷ [])))
    (subst (λ n. IsCopied (map f (take i all) ++ f x ∷ []) old (set now n (f x))) many (copied_more (map f (take i all)) old now (f x) copied))

-- the first of these boundaries were written, and the others are left
pub record AreWritten (all : List Boundary) (from : ℕ) (before now : Columns) (count resume : ℕ) (rest : List Boundary) : Type 0 where
  pub within : count ≤ length before.places
  pub some : count ≤ length all
  pub rest_is : drop count all ≡ rest
  pub in_places : IsCopied (places (take count all)) before.places now.places
  pub in_statuses : IsCopied (greatest_statuses (take count all)) before.statuses now.statuses
  pub resume_is : resume ≡ slice_index (from ∷ places all) count

pub written_none : (all : List Boundary) (from : ℕ) (before : Columns) → AreWritten all from before before 0 from all
written_none all from before = record {
  within = omega arith;
  some = omega arith;
  rest_is = refl;
  in_places = copied_none before.places;
  in_statuses = copied_none before.statuses;
  resume_is = refl;
}

-- less is left once one more is written
pub fewer_left : (all : List Boundary) (from : ℕ) (before now now' : Columns) (count resume resume' : ℕ) (rest rest' : List Boundary)
    → AreWritten all from before now count resume rest → AreWritten all from before now' (count + 1) resume' rest' → length rest' < length rest
fewer_left all from before now now' count resume resume' rest rest' so_far more =
    omega (arith, ap length so_far.rest_is, ap length more.rest_is, length-drop count all, length-drop (count + 1) all, more.some)

-- where a list goes on with an item
record GoesOnWith (all : List Boundary) (count : ℕ) (b : Boundary) (rest : List Boundary) : Type 0 where
  inside : count < length all
  here : get_or all count b ≡ b
  back : drop (count + 1) all ≡ rest

goes_on_with : (all : List Boundary) (count : ℕ) (b : Boundary) (rest : List Boundary) → drop count all ≡ b ∷ rest → GoesOnWith all count b rest
goes_on_with all count b rest is =
    let long : 1 ≤ length (drop count all) = subst (λ l. 1 ≤ length l) (sym is) (omega arith) in
    let inside : count < length all = omega (arith, long, length-drop count all) in
    let parts : get_or all count b ∷ drop (count + 1) all ≡ b ∷ rest = sym (drop_more all count b inside) ∙ is in
    let here : get_or all count b ≡ b = ap (λ l. get_or l 0 b) parts in
    record {
      inside = inside;
      here = here;
      back = ap (λ l. drop 1 l) parts;
    }

get_or_map : (f : Boundary → ℕ) (all : List Boundary) (i : ℕ) (b : Boundary) → i < length all → get_or (map f all) i 0 ≡ f (get_or all i b)
get_or_map f [] i b inside = absurd (omega (arith, inside))
get_or_map f (c ∷ all) zero b inside = refl
get_or_map f (c ∷ all) (suc i) b inside = get_or_map f all i b (omega (arith, inside))

module _ (all : List Boundary) (from : ℕ) (before now : Columns) (count resume : ℕ) where
  -- one boundary more is written
  pub written_more : (b : Boundary) (rest : List Boundary) → AreWritten all from before now count resume (b ∷ rest) → count < length before.places
      → AreWritten all from before (columns (set now.places count b.at) (set now.statuses count (largest b.statuses))) (count + 1) b.at rest
  written_more b rest so_far room =
      let on = goes_on_with all count b rest so_far.rest_is in
      let at : Boundary → ℕ = λ c. c.at in
      let status : Boundary → ℕ = λ c. largest c.statuses in
      record {
        within = omega (arith, room);
        some = omega (arith, on.inside);
        rest_is = on.back;
        in_places = subst (λ c. IsCopied (places (take (count + 1) all)) before.places (set now.places count c.at)) on.here
            (copied_next at all before.places now.places count b on.inside so_far.in_places);
        in_statuses = subst (λ c. IsCopied (greatest_statuses (take (count + 1) all)) before.statuses (set now.statuses count (largest c.statuses))) on.here
            (copied_next status all before.statuses now.statuses count b on.inside so_far.in_statuses);
        resume_is = sym (next_place count on.here on.inside);
      }
    where
      next_place : (n : ℕ) → get_or all n b ≡ b → n < length all → slice_index (from ∷ places all) (n + 1) ≡ b.at
      next_place n here inside =
          let next : n + 1 ≡ suc n = omega arith in
          ap (λ k. slice_index (from ∷ places all) k) next ∙ get_or_map (λ c. c.at) all n b inside ∙ ap (λ c. c.at) here

  -- all are written
  pub written_all : AreWritten all from before now count resume [] →
      ListsOut all from before now (record { count = count; resume = resume; more = false })
  written_all so_far =
      let none : length all ≤ count = omega (arith, ap length so_far.rest_is, length-drop count all) in
      record {
        counted = omega (arith, none, so_far.some, so_far.within);
        in_places = so_far.in_places;
        in_statuses = so_far.in_statuses;
        resume_is = so_far.resume_is;
        more_is = sym (le-ltb (length before.places) (length all) (omega (arith, none, so_far.within)));
      }

  -- there is no more room
  pub written_full : (b : Boundary) (rest : List Boundary) → AreWritten all from before now count resume (b ∷ rest) → length before.places ≤ count →
      ListsOut all from before now (record { count = count; resume = resume; more = true })
  written_full b rest so_far full =
      let on = goes_on_with all count b rest so_far.rest_is in
      record {
        counted = omega (arith, on.inside, full, so_far.within);
        in_places = so_far.in_places;
        in_statuses = so_far.in_statuses;
        resume_is = so_far.resume_is;
        more_is = sym (lt-ltb (length before.places) (length all) (omega (arith, full, on.inside)));
      }

-- filters of boundaries whose places are turned into others
kept_turned : (f : ℕ → ℕ) (test other : ℕ → Bool) (bs : List Boundary) → AllByRecursion (λ b. other (f b.at) ≡ test b.at) bs
    → filter (λ b. other b.at) (turned f bs) ≡ turned f (filter (λ b. test b.at) bs)
kept_turned f test other [] same = refl
kept_turned f test other (b ∷ bs) same =
    let c : Boundary = record { at = f b.at; statuses = b.statuses } in
    ap (λ t. cond t (c ∷ filter (λ d. other d.at) (turned f bs)) (filter (λ d. other d.at) (turned f bs))) same.0
    ∙ ap (λ cs. cond (test b.at) (c ∷ cs) cs) (kept_turned f test other bs same.1)
    ∙ by_case (test b.at) (filter (λ d. test d.at) bs)
  where
    by_case : (t : Bool) (cs : List Boundary)
        → cond t (record { at = f b.at; statuses = b.statuses } ∷ turned f cs) (turned f cs) ≡ turned f (cond t (b ∷ cs) cs)
    by_case true cs = refl
    by_case false cs = refl

reverse_turned : (f : ℕ → ℕ) (bs : List Boundary) → reverse (turned f bs) ≡ turned f (reverse bs)
reverse_turned f [] = refl
reverse_turned f (b ∷ bs) =
    let turn : Boundary → Boundary = λ c. record { at = f c.at; statuses = c.statuses } in
    reverse-append (turn b ∷ []) (turned f bs) ∙ ap (λ cs. cs ++ turn b ∷ []) (reverse_turned f bs)
    ∙ sym (map-append turn (reverse bs) (b ∷ [])) ∙ sym (ap (turned f) (reverse-append (b ∷ []) bs))

-- Boundaries within a range by the unit are those within the range of places.
module _ (unit : TextUnit) (x : List ℕ) (bs : List Boundary) (within : AllByRecursion (λ b. b.at ≤ length x) bs) where
  pub past_measured : (v w i j : ℕ) → ((p : ℕ) → p ≤ length x → ltb v (offset_of unit x p) ≡ ltb i p) →
      ((p : ℕ) → p ≤ length x → leb (offset_of unit x p) w ≡ leb p j) →
      past_up_to v w (measured unit x bs) ≡ measured unit x (past_up_to i j bs)
  past_measured v w i j past up_to =
      kept_turned (offset_of unit x) (λ p. ltb i p && leb p j) (λ o. ltb v o && leb o w) bs
      (all_through (λ b. b.at ≤ length x) (λ b. (ltb v (offset_of unit x b.at) && leb (offset_of unit x b.at) w) ≡ (ltb i b.at && leb b.at j))
      (λ b low. ap (λ t. t && leb (offset_of unit x b.at) w) (past b.at low) ∙ ap (λ t. ltb i b.at && t) (up_to b.at low)) bs within)

  pub before_measured : (v w i j : ℕ) → ((p : ℕ) → p ≤ length x → ltb (offset_of unit x p) v ≡ ltb p i) →
      ((p : ℕ) → p ≤ length x → leb w (offset_of unit x p) ≡ leb j p) →
      before_down_to v w (measured unit x bs) ≡ measured unit x (before_down_to i j bs)
  before_measured v w i j before down_to =
      ap reverse (kept_turned (offset_of unit x) (λ p. leb j p && ltb p i) (λ o. leb w o && ltb o v) bs
      (all_through (λ b. b.at ≤ length x) (λ b. (leb w (offset_of unit x b.at) && ltb (offset_of unit x b.at) v) ≡ (leb j b.at && ltb b.at i))
      (λ b low. ap (λ t. t && ltb (offset_of unit x b.at) v) (down_to b.at low) ∙ ap (λ t. leb j b.at && t) (before b.at low)) bs within))
      ∙ reverse_turned (offset_of unit x) (filter (λ b. leb j b.at && ltb b.at i) bs)
