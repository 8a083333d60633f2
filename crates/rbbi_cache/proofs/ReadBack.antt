-- The walk back that reads many characters at once.
use Rattle.std.proofs.Common.{◌≡◌, ◌≢◌, ℕ, zero, suc, ◌+◌, ◌-◌, ◌<◌, ◌≤◌, max, Bool, true, false, List, Some, length, drop, length-drop}
use Rattle.std.proofs.Common.{inl, inr, refl, ap, ◌∙◌, sym, subst, ⊎_elim, arith}
use Rattle.std.specs.Prelude.{slice_index, slice_set, unwrap_or}
use Rattle.std.proofs.lemmas.Bool.{cases_eq, cond-false}
use Rattle.std.proofs.lemmas.List.{get_or-set_same, get_or-set_other, get_or-drop}
use Rattle.rbbi_model.specs.Places.{greatest_below}
use Rattle.rbbi_model.specs.Tables.{Table}
use Rattle.rbbi_model.specs.SafePairs.{IsSafePair, is_safe}
use Rattle.rbbi_model.specs.ValidTables.{IsValidTable}
use Rattle.rbbi_model.specs.Runs.{category_at, IsAnchor, is_anchor}
use Rattle.rbbi_model.specs.Costs.{anchor_below}
use Rattle.rbbi_table.specs.Reading.{AreRead}
use Rattle.rbbi_cache.specs.inner.Back.{AreBack, EndWith, HasNoneFrom, IsNear}
use Rattle.rbbi_cache.proofs.Walks.{WalksBack, walk_goes, walk_ends, none_past}
use Rattle.rbbi_cache.proofs.Ready.{IsAnchorBelow, anchor_is}

-- Reading back from an end has come to a place, with its category, and passed no anchor two characters before the end or more.
pub record Nears (table : Table) (x : List ℕ) (end place next : ℕ) (slots : List ℕ) : Type 0 where
  pub below : place < end
  pub next_is : next ≡ category_at table x place
  pub within : next < table.categories
  pub none : (p : ℕ) → 0 < p → place ≤ p → p < end - 1 → is_anchor table x p ≡ false
  pub kept : EndWith table x place end slots

-- where the test fails from a place on, nothing is found past it
same_below : (test : ℕ → Bool) (place high : ℕ) → place ≤ high → ((p : ℕ) → place ≤ p → p < high → test p ≡ false) →
    greatest_below test high ≡ greatest_below test place
same_below test place zero order none = let same : zero ≡ place = omega arith in ap (greatest_below test) same
same_below test place (suc high) order none =
    ⊎_elim
    (λ same. ap (greatest_below test) (sym same))
    (λ other.
    cond-false (test high) (Some high) (greatest_below test high) (none high (omega arith) (omega arith))
    ∙ same_below test place high (omega arith) (λ p from less. none p from (omega arith)))
    (cases_eq place (suc high))

module _ (table : Table) (x : List ℕ) where
  module _ (end place : ℕ) (slots : List ℕ) (kept : EndWith table x place end slots) (order : place ≤ end) (many : length slots ≡ 64) where
    -- one more character is kept
    pub keeps_more : (here : ℕ) → 0 < place → end ≤ place - 1 + 64 → here ≡ category_at table x (place - 1) → here < table.categories →
        (slot : ℕ) → slot ≡ place - 1 + 64 - end → EndWith table x (place - 1) end (slice_set slots slot here)
    keeps_more here some room here_is fits slot slot_is = record {
      each = λ p from less. ⊎_elim
          (λ is. get p is ∙ here_is ∙ ap (category_at table x) (sym is))
          (λ other. past p from other ∙ kept.each p (omega arith) less)
          (cases_eq p (place - 1));
      within = λ p from less. ⊎_elim
          (λ is. subst (λ c. c < table.categories) (sym (get p is)) fits)
          (λ other. subst (λ c. c < table.categories) (sym (past p from other)) (kept.within p (omega arith) less))
          (cases_eq p (place - 1));
    }
      where
        get : (p : ℕ) → p ≡ place - 1 → slice_index (slice_set slots slot here) (p + 64 - end) ≡ here
        get p is =
            let there : p + 64 - end ≡ slot = omega arith in
            ap (slice_index (slice_set slots slot here)) there ∙ get_or-set_same slots slot here 0 (omega arith)

        past : (p : ℕ) → place - 1 ≤ p → p ≢ place - 1 → slice_index (slice_set slots slot here) (p + 64 - end) ≡ slice_index slots (p + 64 - end)
        past p from other = get_or-set_other slots slot (p + 64 - end) here 0 (λ same. other (omega arith))

    pub are_read : end ≤ length x → end ≤ place + 64 → (start : ℕ) → start ≡ place + 64 - end → AreRead table x place (drop start slots)
    are_read within room start start_is =
        let count : length (drop start slots) ≡ end - place = omega (arith, length-drop start slots) in
        record {
          within = omega arith;
          each = λ k less.
              let there : start + k ≡ place + k + 64 - end = omega arith in
              get_or-drop start slots k 0 ∙ ap (slice_index slots) there ∙ kept.each (place + k) (omega arith) (omega arith);
        }

    -- the slots of a safe pair are those of an anchor
    pub anchor_of : end ≤ length x → end ≤ place + 64 → (p slot : ℕ) → place ≤ p → p + 2 ≤ end → slot ≡ p + 64 - end →
        IsSafePair table (slice_index slots slot) (slice_index slots (slot + 1)) → IsAnchor table x p
    anchor_of within room p slot from two slot_is pair =
        let here : slice_index slots slot ≡ category_at table x p = ap (slice_index slots) slot_is ∙ kept.each p from (omega arith) in
        let there : slot + 1 ≡ p + 1 + 64 - end = omega arith in
        let next : slice_index slots (slot + 1) ≡ category_at table x (p + 1) = ap (slice_index slots) there ∙ kept.each (p + 1) (omega arith) (omega arith) in
        inr (
          omega arith,
          subst (λ c. IsSafePair table (category_at table x p) c) next (subst (λ c. IsSafePair table c (slice_index slots (slot + 1))) here pair),
        )

    -- what the slots from one on have are categories
    pub fits_from : end ≤ place + 64 → (k : ℕ) → place + 64 - end ≤ k → k < 64 → slice_index slots k < table.categories
    fits_from room k from less =
        let there : k ≡ k + end - 64 + 64 - end = omega arith in
        subst (λ q. slice_index slots q < table.categories) (sym there) (kept.within (k + end - 64) (omega arith) (omega arith))

  -- a pair is looked at
  module _ (end place next : ℕ) (slots : List ℕ) (within : end ≤ length x) (nears : Nears table x end place next slots) (some : 0 < place)
      (many : length slots ≡ 64) (room : end ≤ place - 1 + 64)
      (here : ℕ) (here_is : here ≡ category_at table x (place - 1)) (fits : here < table.categories) (slot : ℕ) (slot_is : slot ≡ place - 1 + 64 - end)
    where
      after : place ≡ place - 1 + 1
      after = omega arith

      below : place < end
      below = nears.below

      walk : WalksBack table x (end - 1) (place - 1) next
      walk = record {
        below = omega arith;
        category = nears.next_is ∙ ap (category_at table x) after;
        none = λ p past less. nears.none p (omega arith) (omega arith) less;
      }

      pub kept_on : EndWith table x (place - 1) end (slice_set slots slot here)
      kept_on = keeps_more end place slots nears.kept (omega arith) many here some room here_is fits slot slot_is

      pub nears_on : is_safe table here next ≡ false → Nears table x end (place - 1) here (slice_set slots slot here)
      nears_on fails = record {
        below = omega arith;
        next_is = here_is;
        within = fits;
        none = λ p past from less. ⊎_elim
            (λ first. nears.none p past (omega arith) less)
            (λ other. (walk_goes table x (end - 1) (omega arith) (place - 1) next here walk (omega arith) here_is fails).none p (omega arith) less)
            (cases_eq (place - 1) 0);
        kept = kept_on;
      }

      pub near_found : is_safe table here next ≡ true → IsSafePair table here next → IsNear table x end (place - 1)
      near_found holds pair = record {
        greatest = ⊎_elim
            (λ first. omega (arith, none_past table x (end - 1) (omega arith) 0 (λ p past less. nears.none p past (omega arith) less)))
            (λ other. walk_ends table x (end - 1) (omega arith) (place - 1) next here walk (omega arith) here_is holds)
            (cases_eq (place - 1) 0);
        anchor = inr (
          omega arith,
          subst (λ c. IsSafePair table (category_at table x (place - 1)) c) (nears.next_is ∙ ap (category_at table x) after)
              (subst (λ c. IsSafePair table c next) here_is pair),
        );
        far = inr (omega arith);
        few = room;
      }

  -- the start is reached
  pub near_start : (end place next : ℕ) (slots : List ℕ) → end ≤ length x → Nears table x end place next slots → place ≡ 0 → end ≤ 64 → IsNear table x end 0
  near_start end place next slots within nears start few =
      let below = nears.below in
      record {
        greatest = omega (arith, none_past table x (end - 1) (omega arith) 0 (λ p past less. nears.none p past (omega arith) less));
        anchor = inl refl;
        far = inl refl;
        few = omega arith;
      }

  -- where no anchor was found, a walk from there goes on
  pub goes_on : (end i : ℕ) → end ≡ i - 1 → HasNoneFrom table x end → (found : ℕ) → found ≡ max 0 (anchor_below table x (end - 64)) →
      anchor_below table x (i - 2) ≡ found
  goes_on end i end_is none found found_is =
      let more = none.more in
      omega (
        arith,
        ap (λ o. unwrap_or o 0)
            (same_below (is_anchor table x) (end - 64) (i - 2) (omega arith) (λ p from less. none.none p from (omega arith))),
      )

  -- the first safe pair of the slots, or the near anchor, is one
  pub wide_is : (end near from : ℕ) (slots : List ℕ) → end ≤ length x → length slots ≡ 64 → IsNear table x end near → EndWith table x from end slots →
      end ≤ from + 64 → from ≤ near → (first last : ℕ) → last ≡ near + 64 - end → from + 64 - end ≤ first → first ≤ last →
      (first < last → IsSafePair table (slice_index slots first) (slice_index slots (first + 1))) → IsAnchor table x (near - (last - first))
  wide_is end near from slots within many lies kept room before first last last_is past order safe =
      ⊎_elim
      (λ same. let there : near ≡ near - (last - first) = omega arith in subst (IsAnchor table x) there lies.anchor)
      (λ other.
      ⊎_elim
      (λ zero. absurd (other (omega arith)))
      (λ two.
      anchor_of end from slots kept (omega arith) many within room (near - (last - first)) first (omega arith) (omega arith) (omega arith) (safe (omega arith)))
      lies.far)
      (cases_eq first last)

  -- the two anchors, and what was read
  pub are_back : (i near wide from start : ℕ) (slots : List ℕ) → 0 < i → i ≤ length x → length slots ≡ 64 → start ≡ from + 64 - (i - 1) →
      IsNear table x (i - 1) near → EndWith table x from (i - 1) slots → IsAnchor table x wide → from ≤ wide → wide ≤ near → i - 1 ≤ from + 64 → from ≤ i - 1 →
      AreBack table x i near wide from (drop start slots)
  are_back i near wide from start slots some within many start_is lies kept anchor past order room before = record {
    near_is = lies.anchor;
    wide_is = anchor;
    order = order;
    far = ⊎_elim (λ is. inl is) (λ two. inr (omega arith)) lies.far;
    read = λ less. (are_read (i - 1) from slots kept before many (omega arith) room start start_is, past);
    end = λ less. omega (arith, length-drop start slots);
  }

  -- the greatest anchor alone, found by a walk
  pub is_back : IsValidTable table → (i near from : ℕ) (categories : List ℕ) → anchor_below table x (i - 2) ≡ near → near < from →
      AreBack table x i near near from categories
  is_back valid i near from categories is less_than =
      let lies = subst (IsAnchorBelow table x (i - 2)) is (anchor_is table valid x (i - 2)) in
      record {
        near_is = lies.anchor;
        wide_is = lies.anchor;
        order = omega arith;
        far = ⊎_elim (λ is. inl is) (λ less. inr (omega arith)) lies.below;
        read = λ less. absurd (omega arith);
        end = λ less. absurd (omega arith);
      }

  -- it lies before the place that the walk began at
  pub walked_below : IsValidTable table → (place near : ℕ) → 0 < place → near ≡ max 0 (anchor_below table x place) → near < place
  walked_below valid place near some is =
      ⊎_elim (λ zero. omega arith) (λ less. omega arith) (anchor_is table valid x place).below
