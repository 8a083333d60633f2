-- Walks over places in search of a safe pair.
use Rattle.std.proofs.Common.{◌≡◌, ℕ, zero, suc, ◌+◌, ◌-◌, ◌<◌, ◌≤◌, max, Bool, true, false, ◌&&◌, ◌||◌, eqb, leb, List, Option, Some, None, length}
use Rattle.std.proofs.Common.{get_or, sym, refl, ap, ◌∙◌, ⊎_elim, arith}
use Rattle.std.specs.Prelude.{unwrap_or}
use Rattle.std.proofs.lemmas.Bool.{cases_eq, cond-true, cond-false, ne_eqb, le-leb, or_right, and_from, cases_lt, false≢true}
use Rattle.rbbi_model.specs.Places.{greatest_below}
use Rattle.rbbi_model.specs.Tables.{Table, category_of}
use Rattle.rbbi_model.specs.SafePairs.{is_safe}
use Rattle.rbbi_model.specs.Runs.{category_at, is_anchor}
use Rattle.rbbi_model.specs.Costs.{anchor_below}
use Rattle.rbbi_model.proofs.Found.{greatest_lies}
use Rattle.rbbi_cache.specs.Edits.{begins_pair}

-- the greatest place below another at which a test holds is the one with none between
pub greatest_is : (test : ℕ → Bool) (high p : ℕ) → p < high → test p ≡ true → ((q : ℕ) → p < q → q < high → test q ≡ false) → greatest_below test high ≡ Some p
greatest_is test zero p below holds none = absurd (omega arith)
greatest_is test (suc high) p below holds none =
    ⊎_elim
    (λ same. cond-true (test high) (Some high) (greatest_below test high) (ap test (sym same) ∙ holds) ∙ ap Some (sym same))
    (λ other.
    cond-false (test high) (Some high) (greatest_below test high) (none high (omega arith) (omega arith))
    ∙ greatest_is test high p (omega arith) holds (λ q past less. none q past (omega arith)))
    (cases_eq p high)

-- a walk back has come to a place, with the category of the character after it, and passed no anchor
pub record WalksBack (table : Table) (x : List ℕ) (high place next : ℕ) : Type 0 where
  pub below : place < high
  pub category : next ≡ category_of table.ranges (get_or x (place + 1) 0)
  pub none : (p : ℕ) → place < p → p < high → is_anchor table x p ≡ false

module _ (table : Table) (x : List ℕ) (high : ℕ) (short : high < length x) where
  pub walk_starts : 2 ≤ high → (next : ℕ) → next ≡ category_of table.ranges (get_or x high 0) → WalksBack table x high (high - 1) next
  walk_starts some next is =
      let there : high - 1 + 1 ≡ high = omega arith in
      record { below = omega arith; category = is ∙ ap (λ n. category_of table.ranges (get_or x n 0)) (sym there); none = λ p past less. absurd (omega arith) }

  module _ (place next here : ℕ) (walk : WalksBack table x high place next) (some : 0 < place) (here_is : here ≡ category_of table.ranges (get_or x place 0))
    where
      pair_is : is_safe table here next ≡ is_safe table (category_at table x place) (category_at table x (place + 1))
      pair_is = ap (λ c. is_safe table c next) here_is ∙ ap (is_safe table (category_at table x place)) walk.category

      -- the place is no anchor, and the walk goes on
      pub walk_goes : is_safe table here next ≡ false → WalksBack table x high (place - 1) here
      walk_goes fails =
          let below = walk.below in
          let there : place - 1 + 1 ≡ place = omega arith in
          let here_no : is_anchor table x place ≡ false =
          ap (λ b. b || (leb (place + 2) (length x) && is_safe table (category_at table x place) (category_at table x (place + 1))))
          (ne_eqb place 0 (λ zero. omega arith))
          ∙ ap (λ b. leb (place + 2) (length x) && b) (sym pair_is ∙ fails)
          ∙ and_false (leb (place + 2) (length x)) in
          record {
            below = omega arith;
            category = here_is ∙ ap (λ n. category_of table.ranges (get_or x n 0)) (sym there);
            none = λ p past less. ⊎_elim (λ is. ap (is_anchor table x) is ∙ here_no) (λ other. walk.none p (omega arith) less) (cases_eq p place);
          }
        where
          and_false : (b : Bool) → b && false ≡ false
          and_false true = refl
          and_false false = refl

      -- the place is the greatest anchor
      pub walk_ends : is_safe table here next ≡ true → anchor_below table x high ≡ place
      walk_ends holds =
          let below = walk.below in
          let yes : is_anchor table x place ≡ true =
          or_right (eqb place 0) (leb (place + 2) (length x) && is_safe table (category_at table x place) (category_at table x (place + 1)))
          (and_from (leb (place + 2) (length x)) (is_safe table (category_at table x place) (category_at table x (place + 1)))
          (le-leb (place + 2) (length x) (omega arith)) (sym pair_is ∙ holds)) in
          ap (λ o. unwrap_or o 0) (greatest_is (is_anchor table x) high place walk.below yes walk.none)

  -- where no anchor lies past a place, the greatest isn't past it
  pub none_past : (low : ℕ) → ((p : ℕ) → low < p → p < high → is_anchor table x p ≡ false) → max low (anchor_below table x high) ≡ low
  none_past low none = of (greatest_below (is_anchor table x) high) refl
    where
      of : (place : Option ℕ) → greatest_below (is_anchor table x) high ≡ place → max low (unwrap_or place 0) ≡ low
      of None is = omega arith
      of (Some q) is =
          let lies = greatest_lies (is_anchor table x) high q is in
          ⊎_elim (λ past. absurd (false≢true (sym (none q past lies.0) ∙ lies.1))) (λ less. omega arith) (cases_lt low q)

-- a walk on has come to a place, with the category of its character, and passed no safe pair
pub record WalksOn (table : Table) (x : List ℕ) (low place here : ℕ) : Type 0 where
  pub from : low ≤ place
  pub category : here ≡ category_of table.ranges (get_or x place 0)
  pub none : (p : ℕ) → low ≤ p → p < place → begins_pair table x p ≡ false
