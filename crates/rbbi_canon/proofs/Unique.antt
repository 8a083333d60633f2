-- Two canonical tables with the same marks are the same.
use Rattle.std.proofs.Common.{◌≡◌, ◌≢◌, ℕ, zero, suc, ◌+◌, ◌*◌, ◌/◌, ◌%◌, ◌<◌, ◌≤◌, List, [], ◌∷◌, ◌++◌, length, map, get_or, refl, ap, sym, ◌∙◌, subst}
use Rattle.std.proofs.Common.{⊎_elim, arith}
use Rattle.std.proofs.lemmas.Bool.{cases_lt, cases_eq, cases_order}
use Rattle.std.proofs.lemmas.List.{ext_get_or}
use Rattle.std.proofs.lemmas.Nat.{div_below, mod_below, div-add-mod'}
use Rattle.rbbi_model.specs.Words.{IsWord, IsCodePoint}
use Rattle.rbbi_model.specs.Tables.{Table, RowHead, category_of, empty_head, head_of, list_of, step, row_along, row_after}
use Rattle.rbbi_model.specs.ValidTables.{IsWay, IsValidTable}
use Rattle.rbbi_model.specs.Marks.{Marks, no_marks, marks_of}
use Rattle.rbbi_model.specs.Canonical.{IsCanonical}
use Rattle.rbbi_model.proofs.Categories.{category_within}
use Rattle.rbbi_model.proofs.Lists.{all_append}
use Rattle.rbbi_model.proofs.SearchFacts.{row_along_append}
use Rattle.std.specs.List.{AllByRecursion}
use Rattle.rbbi_table.specs.Parts.{rows_of}
use Rattle.rbbi_table.specs.Pairs.{ArePairsOf}
use Rattle.rbbi_table.proofs.MoveLemmas.{row_end}
use Rattle.rbbi_table.proofs.PartLemmas.{stored_are}
use Rattle.rbbi_canon.proofs.Rows.{first_zero, next_row, stop_along, after_within, after_append, after_stop, along_rest, stop_marks}
use Rattle.rbbi_canon.proofs.Rows.{few_marks, word_of, word_to}
use Rattle.rbbi_canon.proofs.Ordered.{one_place, AreAmong, same_members, order_of}
use Rattle.rbbi_canon.proofs.RangeLists.{same_ranges}

-- after every word both tables have the same marks
abbrev pub SameAfterWords : Table → Table → Type 0
SameAfterWords A B = (w : List ℕ) → IsWord w → marks_of A (row_after A w) ≡ marks_of B (row_after B w)

-- a row from 2 on is met in the cells of rows before it, row 0 left out
pub record IsMet (table : Table) (row : ℕ) : Type 0 where
  pub place : ℕ
  pub from : table.categories ≤ place
  pub before : place < row * table.categories
  pub is : get_or table.cells place 0 ≡ row

-- both tables have the row after some word
pub record HaveRow (A B : Table) (row other : ℕ) : Type 0 where
  pub w : List ℕ
  pub is_word : IsWord w
  pub this : row_after A w ≡ row
  pub that : row_after B w ≡ other

le_both : (m n : ℕ) → m ≤ n → n ≤ m → m ≡ n
le_both m n h k = omega arith

module _ (S A : Table) (a : IsCanonical S A) where
  abbrev Width : ℕ
  Width = A.categories

  some_width : 0 < A.categories
  some_width = a.valid.ranges.some_categories

  met_along : (row : ℕ) → 2 ≤ row → row < length A.rows → (from : ℕ) (way : List ℕ) → 1 ≤ from → from < row → IsWay A way → row_along A from way ≡ row →
      IsMet A row
  met_along row two short from [] one less is end = absurd (omega (arith, less, end))
  met_along row two short from (k ∷ way) one less is end =
      let to : ℕ = step A from k in
      let place : ℕ = from * A.categories + k in
      let low : A.categories ≤ place = omega (arith, row_end 0 from A.categories one) in
      let high : place < row * A.categories = omega (arith, row_end from row A.categories less, is.0) in
      ⊎_elim
      (λ here. record { place = place; from = low; before = high; is = here })
      (⊎_elim
      (λ (lower : to < row).
      ⊎_elim
      (λ stop. absurd (omega (arith, two, sym end ∙ ap (λ r. row_along A r way) stop ∙ stop_along A a.valid way is.1)))
      (λ some. met_along row two short to way (omega (arith, some)) lower is.1 end)
      (cases_eq to 0))
      (λ (higher : row < to).
      let in_cells : place < length A.cells =
      omega (arith, high, a.valid.well_formed.cells, row_end row (length A.rows) A.categories short) in
      let earlier = a.rows row to place two higher low in_cells refl in
      record { place = earlier.0; from = earlier.1; before = omega (arith, earlier.2, high); is = earlier.3 }))
      (cases_order to row)

  pub met : (row : ℕ) → 2 ≤ row → row < length A.rows → IsMet A row
  met row two short =
      let way = a.least.reached row (λ e. omega (arith, e, two)) short in
      met_along row two short 1 way.0 (omega arith) (omega (arith, two)) way.1 way.2

  -- two different rows lead to different marks by some way
  told_apart : 3 ≤ length A.rows → (this that : ℕ) → this < that → that < length A.rows →
      (way : List ℕ) × IsWay A way × (marks_of A (row_along A this way) ≢ marks_of A (row_along A that way))
  told_apart many this that less short =
      ⊎_elim
      (λ (start : that ≡ 1).
      let stop : this ≡ 0 = omega (arith, less, start) in
      let there = a.least.reached 2 (λ e. absurd (omega (arith, e))) (omega (arith, many)) in
      let on = a.least.apart 0 2 (omega arith) (omega (arith, many)) (λ e. absurd (omega (arith, e.1))) in (
        there.0 ++ on.0,
        all_append (λ category. category < A.categories) there.0 on.0 there.1 on.1,
        λ e. on.2 (ap (λ row. marks_of A row) (stop_along A a.valid on.0 on.1 ∙ sym (stop_along A a.valid (there.0 ++ on.0)
            (all_append (λ category. category < A.categories) there.0 on.0 there.1 on.1)))
            ∙ ap (λ row. marks_of A (row_along A row (there.0 ++ on.0))) (sym stop) ∙ e
            ∙ ap (λ row. marks_of A (row_along A row (there.0 ++ on.0))) start
            ∙ ap (λ row. marks_of A row) (row_along_append A 1 there.0 on.0 ∙ ap (λ row. row_along A row on.0) there.2)),
      ))
      (λ (other : that ≢ 1). a.least.apart this that less short (λ e. other e.1))
      (cases_eq that 1)

module _ (S T A B : Table) (a : IsCanonical S A) (b : IsCanonical T B) (same : SameAfterWords A B) where
  -- tables of two rows have no marks, and so no more rows are distinguished
  pub few_rows : length A.rows ≡ 2 → length B.rows ≡ 2
  few_rows few =
      ⊎_elim (λ more. absurd (apart more)) (λ least. omega (arith, least, b.valid.rows.some)) (cases_lt 2 (length B.rows))
    where
      none : (w : List ℕ) → IsWord w → marks_of B (row_after B w) ≡ no_marks
      none w h = sym (same w h) ∙ few_marks A a.valid few (row_after A w) (after_within A a.valid w)

      apart : 2 < length B.rows → ⊥
      apart more =
          let on = b.least.apart 0 2 (omega arith) more (λ e. absurd (omega (arith, e.1))) in
          let to = word_to B b.valid b.used b.least 2 (λ e. absurd (omega (arith, e))) more in
          let rest = word_of B b.valid b.used on.0 on.1 in
          on.2 (ap (λ row. marks_of B row) (stop_along B b.valid on.0 on.1) ∙ stop_marks B b.valid
          ∙ sym (none (to.0 ++ rest.0) (all_append IsCodePoint to.0 rest.0 to.1.0 rest.1.0))
          ∙ ap (λ row. marks_of B row) (sym (along_rest B b.valid to.0 2 on.0 rest to.1.1)))

  -- words after which A is in one row
  after_way : (u v : List ℕ) → IsWord u → IsWord v → row_after A u ≡ row_after A v → (way : List ℕ) → IsWay B way →
      marks_of B (row_along B (row_after B u) way) ≡ marks_of B (row_along B (row_after B v) way)
  after_way u v word word' equal way is =
      let rest = word_of B b.valid b.used way is in
      let z : List ℕ = rest.0 in
      ap (λ row. marks_of B row) (along_rest B b.valid u (row_after B u) way rest refl)
      ∙ sym (same (u ++ z) (all_append IsCodePoint u z word rest.1.0))
      ∙ ap (λ row. marks_of A row) (after_append A a.valid u z ∙ ap (λ row. row_along A row (map (category_of A.ranges) z)) equal
      ∙ sym (after_append A a.valid v z))
      ∙ same (v ++ z) (all_append IsCodePoint v z word' rest.1.0)
      ∙ ap (λ row. marks_of B row) (sym (along_rest B b.valid v (row_after B v) way rest refl))

  module _ (many : 3 ≤ length B.rows) where
    pub same_after : (u v : List ℕ) → IsWord u → IsWord v → row_after A u ≡ row_after A v → row_after B u ≡ row_after B v
    same_after u v word word' equal =
        ⊎_elim
        (λ is. is)
        (⊎_elim
        (λ less. absurd (let way = told_apart T B b many (row_after B u) (row_after B v) less (after_within B b.valid v) in
        way.2 (after_way u v word word' equal way.0 way.1)))
        (λ more. absurd (let way = told_apart T B b many (row_after B v) (row_after B u) more (after_within B b.valid u) in
        way.2 (after_way v u word' word (sym equal) way.0 way.1))))
        (cases_order (row_after B u) (row_after B v))

    -- where A is in row 0, so is B
    pub zero_after : (w : List ℕ) → IsWord w → row_after A w ≡ 0 → row_after B w ≡ 0
    zero_after w word is =
        ⊎_elim (λ zero'. zero') (λ some. absurd (apart some)) (cases_eq (row_after B w) 0)
      where
        apart : row_after B w ≢ 0 → ⊥
        apart some =
            let on = told_apart T B b many 0 (row_after B w) (omega (arith, some)) (after_within B b.valid w) in
            let rest = word_of B b.valid b.used on.0 on.1 in
            let z : List ℕ = rest.0 in
            on.2 (ap (λ row. marks_of B row) (stop_along B b.valid on.0 on.1) ∙ stop_marks B b.valid ∙ sym (stop_marks A a.valid)
            ∙ ap (λ row. marks_of A row) (sym (after_stop A a.valid w z is))
            ∙ same (w ++ z) (all_append IsCodePoint w z word rest.1.0)
            ∙ ap (λ row. marks_of B row) (sym (along_rest B b.valid w (row_after B w) on.0 rest refl)))

    after_push : (w : List ℕ) (c : ℕ) → row_after A (w ++ c ∷ []) ≡ step A (row_after A w) (category_of A.ranges c)
    after_push w c = after_append A a.valid w (c ∷ [])

    after_push' : (w : List ℕ) (c : ℕ) → row_after B (w ++ c ∷ []) ≡ step B (row_after B w) (category_of B.ranges c)
    after_push' w c = after_append B b.valid w (c ∷ [])

    word_push : (w : List ℕ) (c : ℕ) → IsWord w → IsCodePoint c → IsWord (w ++ c ∷ [])
    word_push w c h k = all_append IsCodePoint w (c ∷ []) h (k, tt)

    -- code points of one category of A are of one category of B
    pub alike : (c d : ℕ) → IsCodePoint c → IsCodePoint d → category_of A.ranges c ≡ category_of A.ranges d → category_of B.ranges c ≡ category_of B.ranges d
    alike c d code code' equal = (b.categories c d code code').1 each
      where
        each : (row : ℕ) → row < length B.rows → step B row (category_of B.ranges c) ≡ step B row (category_of B.ranges d)
        each row short =
            ⊎_elim
            (λ stop.
            ap (λ r. step B r (category_of B.ranges c)) stop
            ∙ b.valid.rows.stop_leads (category_of B.ranges c) (category_within B.categories B.ranges c b.valid.ranges)
            ∙ sym (b.valid.rows.stop_leads (category_of B.ranges d) (category_within B.categories B.ranges d b.valid.ranges))
            ∙ ap (λ r. step B r (category_of B.ranges d)) (sym stop))
            (λ some.
            let to = word_to B b.valid b.used b.least row some short in
            let w : List ℕ = to.0 in
            ap (λ r. step B r (category_of B.ranges c)) (sym to.1.1) ∙ sym (after_push' w c)
            ∙ same_after (w ++ c ∷ []) (w ++ d ∷ []) (word_push w c to.1.0 code) (word_push w d to.1.0 code')
            (after_push w c ∙ ap (λ k. step A (row_after A w) k) equal ∙ sym (after_push w d))
            ∙ after_push' w d ∙ ap (λ r. step B r (category_of B.ranges d)) to.1.1)
            (cases_eq row 0)

    -- the first code point to which A gives a lesser category than B can't be
    pub clash : (c : ℕ) → IsCodePoint c → ((d : ℕ) → d < c → IsCodePoint d → category_of A.ranges d ≡ category_of B.ranges d) →
        category_of A.ranges c < category_of B.ranges c → ⊥
    clash c code before less =
        ⊎_elim
        (λ (none : category_of A.ranges c ≡ 0).
        let surrogate : ℕ = 0xD800 in
        let equal = alike c surrogate code (omega arith) (none ∙ sym (a.surrogates surrogate (omega arith, omega arith))) in
        omega (arith, less, equal, b.surrogates surrogate (omega arith, omega arith)))
        (λ (some : category_of A.ranges c ≢ 0).
        let sooner = b.numbered (category_of A.ranges c) (category_of B.ranges c) c (omega (arith, some)) less code refl in
        let d : ℕ = sooner.0 in
        let code' : IsCodePoint d = omega (arith, sooner.1, code) in
        let equal = alike d c code' code (before d sooner.1 code' ∙ sooner.2) in
        omega (arith, less, equal, sooner.2))
        (cases_eq (category_of A.ranges c) 0)

    module _ (categories : (c : ℕ) → IsCodePoint c → category_of A.ranges c ≡ category_of B.ranges c) (width : A.categories ≡ B.categories) where
      -- the tables agree at the places of the cells before this one, row 0 left out
      abbrev pub AgreeBefore : ℕ → Type 0
      AgreeBefore place = (q : ℕ) → A.categories ≤ q → q < place → get_or A.cells q 0 ≡ get_or B.cells q 0

      -- where both tables have a row, they have the next ones
      next_rows : (row place : ℕ) → HaveRow A B row row → A.categories ≤ place → place / A.categories ≡ row →
          HaveRow A B (get_or A.cells place 0) (get_or B.cells place 0)
      next_rows row place has low is =
          let k : ℕ = place % A.categories in
          let c = a.used k (mod_below place A.categories (some_width S A a)) in
          let whole : row * A.categories + k ≡ place = ap (λ n. n * A.categories + k) (sym is) ∙ div-add-mod' place A.categories in
          record {
            w = has.w ++ c.0 ∷ [];
            is_word = word_push has.w c.0 has.is_word c.1;
            this = after_push has.w c.0 ∙ ap (λ r. step A r (category_of A.ranges c.0)) has.this ∙ ap (λ n. step A row n) c.2
                ∙ ap (λ n. get_or A.cells n 0) whole;
            that = after_push' has.w c.0 ∙ ap (λ r. step B r (category_of B.ranges c.0)) has.that
                ∙ ap (λ n. step B row n) (sym (categories c.0 c.1) ∙ c.2)
                ∙ ap (λ n. get_or B.cells n 0) (ap (λ n. row * n + k) (sym width) ∙ whole);
          }

      have_row : (most row : ℕ) → row < most → 1 ≤ row → row < length A.rows → AgreeBefore (row * A.categories) → HaveRow A B row row
      have_row zero row below one short agree = absurd (omega (arith, below))
      have_row (suc most) row below one short agree =
          ⊎_elim
          (λ start. record { w = []; is_word = tt; this = sym start; that = sym start })
          (λ other.
          let at = met S A a row (omega (arith, one, other)) short in
          let from : ℕ = at.place / A.categories in
          let whole : from * A.categories + at.place % A.categories ≡ at.place = div-add-mod' at.place A.categories in
          let less : from < row = div_below at.place A.categories row (some_width S A a) at.before in
          let some : 1 ≤ from =
          ⊎_elim (λ none. absurd (omega (arith, ap (λ n. n * A.categories) none, whole, mod_below at.place A.categories (some_width S A a), at.from)))
          (λ is. omega (arith, is)) (cases_eq from 0) in
          let before = have_row most from (omega (arith, less, below)) some (omega (arith, less, short))
          (λ q low high. agree q low (omega (arith, high, row_end from row A.categories less))) in
          let next = next_rows from at.place before at.from refl in
          record {
            w = next.w;
            is_word = next.is_word;
            this = next.this ∙ at.is;
            that = next.that ∙ sym (agree at.place at.from at.before) ∙ at.is;
          })
          (cases_eq row 1)

      -- both tables have the rows of a cell after some word, where they agree before it
      pub have_cell : (place : ℕ) → A.categories ≤ place → place < length A.cells → AgreeBefore place →
          HaveRow A B (get_or A.cells place 0) (get_or B.cells place 0)
      have_cell place low high agree =
          let row : ℕ = place / A.categories in
          let short : row < length A.rows = div_below place A.categories (length A.rows) (some_width S A a) (omega (arith, high, a.valid.well_formed.cells)) in
          let whole : row * A.categories + place % A.categories ≡ place = div-add-mod' place A.categories in
          let some : 1 ≤ row =
          ⊎_elim (λ none. absurd (omega (arith, ap (λ n. n * A.categories) none, whole, mod_below place A.categories (some_width S A a), low)))
          (λ is. omega (arith, is)) (cases_eq row 0) in
          next_rows row place (have_row (suc row) row (omega arith) some short (λ q q_low q_high. agree q q_low (omega (arith, q_high, whole)))) low refl

      -- the first cell to which A gives a lesser row than B can't be
      pub clash_cells : (place : ℕ) → A.categories ≤ place → place < length A.cells → place < length B.cells → AgreeBefore place →
          get_or A.cells place 0 < get_or B.cells place 0 → ⊥
      clash_cells place low high high' agree less =
          let has = have_cell place low high agree in
          let x : ℕ = get_or A.cells place 0 in
          let y : ℕ = get_or B.cells place 0 in
          ⊎_elim
          (λ stop. omega (arith, less, stop, sym has.that ∙ zero_after has.w has.is_word (has.this ∙ stop)))
          (λ some.
          ⊎_elim
          (λ start. omega (arith, less, start, sym has.that ∙ same_after has.w [] has.is_word tt (has.this ∙ start)))
          (λ other.
          let earlier = b.rows x y place (omega (arith, some, other)) less (omega (arith, low, width)) high' refl in
          let q : ℕ = earlier.0 in
          let q_low : A.categories ≤ q = omega (arith, earlier.1, width) in
          let was = have_cell q q_low (omega (arith, earlier.2, high)) (λ p p_low p_high. agree p p_low (omega (arith, p_high, earlier.2))) in
          let there = same_after was.w has.w was.is_word has.is_word (was.this ∙ agree q q_low earlier.2 ∙ earlier.3 ∙ sym has.this) in
          omega (arith, less, sym earlier.3 ∙ sym was.that ∙ there ∙ has.that))
          (cases_eq x 1))
          (cases_eq x 0)

-- categories and next rows, from both sides
module _ (S T A B : Table) (a : IsCanonical S A) (b : IsCanonical T B) (same : SameAfterWords A B) (many : 3 ≤ length A.rows) (many' : 3 ≤ length B.rows) where
  back : SameAfterWords B A
  back w h = sym (same w h)

  same_below : (n c : ℕ) → c < n → IsCodePoint c → category_of A.ranges c ≡ category_of B.ranges c
  same_below zero c below code = absurd (omega (arith, below))
  same_below (suc n) c below code =
      ⊎_elim
      (λ equal. equal)
      (⊎_elim
      (λ less. absurd (clash S T A B a b same many' c code (λ d short code'. same_below n d (omega (arith, below, short)) code') less))
      (λ more. absurd (clash T S B A b a back many c code (λ d short code'. sym (same_below n d (omega (arith, below, short)) code')) more)))
      (cases_order (category_of A.ranges c) (category_of B.ranges c))

  pub same_category : (c : ℕ) → IsCodePoint c → category_of A.ranges c ≡ category_of B.ranges c
  same_category c code = same_below (c + 1) c (omega arith) code

  module _ (width : A.categories ≡ B.categories) where
    agree_below : (n place : ℕ) → place < n → A.categories ≤ place → place < length A.cells → place < length B.cells →
        get_or A.cells place 0 ≡ get_or B.cells place 0
    agree_below zero place below low high high' = absurd (omega (arith, below))
    agree_below (suc n) place below low high high' =
        let before = λ (q : ℕ) (q_low : A.categories ≤ q) (q_high : q < place).
        agree_below n q (omega (arith, below, q_high)) q_low (omega (arith, q_high, high)) (omega (arith, q_high, high')) in
        ⊎_elim
        (λ equal. equal)
        (⊎_elim
        (λ less. absurd (clash_cells S T A B a b same many' same_category width place low high high' before less))
        (λ more. absurd (clash_cells T S B A b a back many (λ c code. sym (same_category c code)) (sym width) place (omega (arith, low, width)) high' high
        (λ q q_low q_high. sym (before q (omega (arith, q_low, width)) q_high)) more)))
        (cases_order (get_or A.cells place 0) (get_or B.cells place 0))

    pub agree : (place : ℕ) → A.categories ≤ place → place < length A.cells → place < length B.cells → get_or A.cells place 0 ≡ get_or B.cells place 0
    agree place low high high' = agree_below (place + 1) place (omega arith) low high high'

    pub rows_le : length A.rows ≤ length B.rows
    rows_le =
        ⊎_elim
        (λ more. absurd (too_many more))
        (λ few. few)
        (cases_lt (length B.rows) (length A.rows))
      where
        too_many : length B.rows < length A.rows → ⊥
        too_many more =
            let n : ℕ = length B.rows in
            let at = met S A a n (omega (arith, many')) more in
            let in_b : at.place < length B.cells = omega (arith, at.before, b.valid.well_formed.cells, ap (λ m. n * m) width) in
            let in_a : at.place < length A.cells = omega (arith, at.before, a.valid.well_formed.cells, row_end n (length A.rows) A.categories more) in
            let row : at.place / B.categories < n =
            div_below at.place B.categories n b.valid.ranges.some_categories (omega (arith, in_b, b.valid.well_formed.cells)) in
            let next = next_row B b.valid (at.place / B.categories) (at.place % B.categories) row
            (mod_below at.place B.categories b.valid.ranges.some_categories) in
            omega (arith, next, ap (λ m. get_or B.cells m 0) (div-add-mod' at.place B.categories), agree at.place at.from in_a in_b, at.is)

    both_rows : (row : ℕ) → 1 ≤ row → row < length A.rows → length A.rows ≡ length B.rows → marks_of A row ≡ marks_of B row
    both_rows row one short rows =
        let has = have_row S T A B a b same many' same_category width (suc row) row (omega arith) one short
        (λ q low high. agree q low (omega (arith, high, row_end row (length A.rows) A.categories short, a.valid.well_formed.cells))
        (omega (
          arith,
          high,
          row_end row (length B.rows) B.categories (let e : row < length B.rows = omega (arith, short, rows) in e),
          ap (λ m. row * m) width,
          b.valid.well_formed.cells,
        ))) in
        ap (λ r. marks_of A r) (sym has.this) ∙ same has.w has.is_word ∙ ap (λ r. marks_of B r) has.that

categories_le : (S T A B : Table) (a : IsCanonical S A) (b : IsCanonical T B) → ((c : ℕ) → IsCodePoint c → category_of A.ranges c ≡ category_of B.ranges c) →
    A.categories ≤ B.categories
categories_le S T A B a b equal =
    ⊎_elim
    (λ more.
    let c = a.used B.categories more in
    absurd (omega (arith, c.2, equal c.0 c.1, category_within B.categories B.ranges c.0 b.valid.ranges)))
    (λ few. few)
    (cases_lt B.categories A.categories)

small_byte : (bytes : List ℕ) → AllByRecursion (λ byte. byte < 256) bytes → (i : ℕ) → get_or bytes i 0 < 256
small_byte [] all i = omega arith
small_byte (byte ∷ bytes) all zero = all.0
small_byte (byte ∷ bytes) all (suc i) = small_byte bytes all.1 i

-- what is left: tables with the same categories, next rows, and marks of each row
module _ (S T A B : Table) (a : IsCanonical S A) (b : IsCanonical T B) (categories : A.categories ≡ B.categories)
    (ranges : (c : ℕ) → IsCodePoint c → category_of A.ranges c ≡ category_of B.ranges c) (rows : length A.rows ≡ length B.rows) (cells : A.cells ≡ B.cells)
    (marks : (row : ℕ) → row < length A.rows → marks_of A row ≡ marks_of B row) where
  among : (S T A B : Table) (a : IsCanonical S A) (b : IsCanonical T B) → length A.rows ≡ length B.rows →
      ((row : ℕ) → row < length A.rows → marks_of A row ≡ marks_of B row) → AreAmong A.lists B.lists
  among S T A B a b rows marks i short =
      ⊎_elim
      (λ first. (
        0,
        omega (arith, b.valid.lists.some),
        ap (λ k. get_or A.lists k []) first ∙ first_zero A.lists a.valid.lists.first ∙ sym (first_zero B.lists b.valid.lists.first),
      ))
      (λ other.
      let named = a.least.lists i other short in
      let row : ℕ = named.0 in (
        list_of B row,
        (b.valid.rows.each row (let e : row < length B.rows = omega (arith, named.1, rows) in e)).list,
        ap (λ k. get_or A.lists k []) (sym named.2) ∙ ap (λ (m : Marks). m.statuses) (marks row named.1),
      ))
      (cases_eq i 0)

  lists_same : A.lists ≡ B.lists
  lists_same =
      same_members order_of A.lists B.lists a.valid.lists.in_order b.valid.lists.in_order (among S T A B a b rows marks)
      (among T S B A b a (sym rows) (λ row short. sym (marks row (omega (arith, short, rows)))))

  head_same : (row : ℕ) → row < length A.rows → head_of A row ≡ head_of B row
  head_same row short =
      let short' : row < length B.rows = omega (arith, short, rows) in
      let is = marks row short in
      let list : list_of A row ≡ list_of B row =
      one_place B.lists (list_of A row) (list_of B row) b.valid.lists.in_order
      (subst (λ (l : List (List ℕ)). list_of A row < length l) lists_same (a.valid.rows.each row short).list)
      (b.valid.rows.each row short').list
      (ap (λ (l : List (List ℕ)). get_or l (list_of A row) []) (sym lists_same) ∙ ap (λ (m : Marks). m.statuses) is) in
      let accept = ap (λ (m : Marks). m.accept) is in
      let fronts = ap (λ (m : Marks). m.fronts) is in
      λ i. record { accept = accept i; fronts = fronts i; list = list i }

  rows_same : A.rows ≡ B.rows
  rows_same = ext_get_or empty_head A.rows B.rows rows (λ row short. head_same row short)

  ranges_same : A.ranges ≡ B.ranges
  ranges_same = same_ranges A.categories B.categories A.ranges B.ranges a.valid.ranges b.valid.ranges categories ranges

  slashes_same : A.slashes ≡ B.slashes
  slashes_same =
      le_both A.slashes B.slashes
      (a.few_slashes B.slashes (λ row short.
      let is = marks row short in
      let own = b.slashes row (omega (arith, short, rows)) in
      (omega (arith, own.0, ap (λ (m : Marks). m.accept) is), omega (arith, own.1, ap (λ (m : Marks). m.fronts) is))))
      (b.few_slashes A.slashes (λ row short.
      let is = marks row (omega (arith, short, rows)) in
      let own = a.slashes row (omega (arith, short, rows)) in
      (omega (arith, own.0, ap (λ (m : Marks). m.accept) is), omega (arith, own.1, ap (λ (m : Marks). m.fronts) is))))

  safe_same : A.safe ≡ B.safe
  safe_same =
      let own : ArePairsOf (rows_of B.categories B.rows B.cells B.safe) = record {
        all = b.valid.well_formed.safe;
        pairs = record { exactly = b.valid.safe.exactly; filling = b.valid.safe.filling };
      } in
      let pairs : ArePairsOf (rows_of A.categories A.rows A.cells B.safe) =
      subst (λ n. ArePairsOf (rows_of n A.rows A.cells B.safe)) (sym categories)
      (subst (λ (l : List RowHead). ArePairsOf (rows_of B.categories l A.cells B.safe)) (sym rows_same)
      (subst (λ (l : List ℕ). ArePairsOf (rows_of B.categories B.rows l B.safe)) (sym cells) own)) in
      let means = stored_are {table = A} {bytes = B.safe} (record { cells = a.valid.well_formed.cells; safe = a.valid.well_formed.safe })
      a.valid.ranges.some_categories
      (record { pairs = pairs; small = small_byte B.safe b.valid.well_formed.bytes; stored = small_byte A.safe a.valid.well_formed.bytes }) in
      sym (means.1 a.valid.safe)

  pub tables_same : A ≡ B
  tables_same = λ i. record {
    categories = categories i;
    slashes = slashes_same i;
    ranges = ranges_same i;
    lists = lists_same i;
    rows = rows_same i;
    cells = cells i;
    safe = safe_same i;
  }

module _ (S T A B : Table) (a : IsCanonical S A) (b : IsCanonical T B) (same : SameAfterWords A B) where
  back_again : SameAfterWords B A
  back_again w h = sym (same w h)

  -- row 0 leads to row 0
  zero_cell : (table : Table) → IsValidTable table → (place : ℕ) → place < table.categories → get_or table.cells place 0 ≡ 0
  zero_cell table valid place low =
      ap (λ n. get_or table.cells n 0) (let e : place ≡ 0 * table.categories + place = omega arith in e) ∙ valid.rows.stop_leads place low

  many_same : 3 ≤ length A.rows → 3 ≤ length B.rows → A ≡ B
  many_same many many' =
      let category = same_category S T A B a b same many many' in
      let width : A.categories ≡ B.categories =
      le_both A.categories B.categories (categories_le S T A B a b category) (categories_le T S B A b a (λ c code. sym (category c code))) in
      let rows : length A.rows ≡ length B.rows =
      le_both (length A.rows) (length B.rows) (rows_le S T A B a b same many many' width) (rows_le T S B A b a back_again many' many (sym width)) in
      let long : length A.cells ≡ length B.cells =
      a.valid.well_formed.cells ∙ ap (λ n. n * A.categories) rows ∙ ap (λ n. length B.rows * n) width ∙ sym b.valid.well_formed.cells in
      tables_same S T A B a b width category rows
      (ext_get_or 0 A.cells B.cells long (λ place short.
      ⊎_elim
      (λ first. zero_cell A a.valid place first ∙ sym (zero_cell B b.valid place (omega (arith, first, width))))
      (λ later. agree S T A B a b same many many' width place later short (omega (arith, short, long)))
      (cases_lt place A.categories)))
      (λ row short.
      ⊎_elim
      (λ stop. ap (λ r. marks_of A r) stop ∙ stop_marks A a.valid ∙ sym (stop_marks B b.valid) ∙ ap (λ r. marks_of B r) (sym stop))
      (λ some. both_rows S T A B a b same many many' width row (omega (arith, some)) short rows)
      (cases_eq row 0))

  two_cells : (S A : Table) → IsCanonical S A → length A.rows ≡ 2 → (place : ℕ) → place < 2 → get_or A.cells place 0 ≡ 0
  two_cells S A a two place short =
      let only = a.two_rows two in
      ⊎_elim
      (λ first. zero_cell A a.valid place first)
      (λ later. ap (λ n. get_or A.cells n 0) (let e : place ≡ 1 * A.categories + 0 = omega (arith, later, short, only.0) in e) ∙ only.1)
      (cases_lt place A.categories)

  two_same : length A.rows ≡ 2 → length B.rows ≡ 2 → A ≡ B
  two_same two two' =
      let only = a.two_rows two in
      let only' = b.two_rows two' in
      let all : length A.cells ≡ 2 = a.valid.well_formed.cells ∙ ap (λ n. n * A.categories) two ∙ ap (λ n. 2 * n) only.0 in
      let all' : length B.cells ≡ 2 = b.valid.well_formed.cells ∙ ap (λ n. n * B.categories) two' ∙ ap (λ n. 2 * n) only'.0 in
      tables_same S T A B a b (only.0 ∙ sym only'.0)
      (λ c code.
      omega (arith, category_within A.categories A.ranges c a.valid.ranges, category_within B.categories B.ranges c b.valid.ranges, only.0, only'.0))
      (two ∙ sym two')
      (ext_get_or 0 A.cells B.cells (all ∙ sym all') (λ place short.
      two_cells S A a two place (omega (arith, short, all)) ∙ sym (two_cells T B b two' place (omega (arith, short, all)))))
      (λ row short. few_marks A a.valid two row short ∙ sym (few_marks B b.valid two' row (omega (arith, short, two, two'))))

  pub canonical_same : A ≡ B
  canonical_same =
      ⊎_elim
      (λ few.
      let two : length A.rows ≡ 2 = omega (arith, few, a.valid.rows.some) in
      two_same two (few_rows S T A B a b same two))
      (λ many.
      ⊎_elim
      (λ few. absurd (omega (arith, many, few_rows T S B A b a back_again (let e : length B.rows ≡ 2 = omega (arith, few, b.valid.rows.some) in e))))
      (λ many'. many_same many many')
      (cases_lt (length B.rows) 3))
      (cases_lt (length A.rows) 3)
