-- The rows of a valid table that words lead to.
use Rattle.std.proofs.Common.{◌≡◌, ◌≢◌, ℕ, zero, suc, ◌<◌, List, [], ◌∷◌, ◌++◌, length, map, refl, ap, sym, ◌∙◌, arith}
use Rattle.std.proofs.lemmas.List.{map-append}
use Rattle.rbbi_model.specs.Words.{IsWord, IsCodePoint}
use Rattle.rbbi_model.specs.Tables.{Table, category_of, head_of, statuses_of, step, row_along, row_after}
use Rattle.rbbi_model.specs.ValidTables.{IsWay, IsPlain, BeginsWithZeroAlone, IsValidTable}
use Rattle.rbbi_model.specs.Marks.{Marks, no_marks, marks_of}
use Rattle.rbbi_model.specs.Compiled.{IsLeast}
use Rattle.rbbi_model.proofs.Categories.{category_within}
use Rattle.rbbi_model.proofs.SearchFacts.{row_along_append}
use Rattle.std.proofs.Common.{slice_index_or}

-- a word of these categories
abbrev pub WordOf : Table → List ℕ → Type 0
WordOf table way = (w : List ℕ) × (IsWord w × (map (category_of table.ranges) w ≡ way))

-- each category holds a code point
abbrev pub AllUsed : Table → Type 0
AllUsed table = (category : ℕ) → category < table.categories → (c : ℕ) × IsCodePoint c × (category_of table.ranges c ≡ category)

-- marks are equal by their parts
pub marks_by_parts : (this that : Marks) → this.accept ≡ that.accept → this.fronts ≡ that.fronts → this.statuses ≡ that.statuses → this ≡ that
marks_by_parts this that a f s = λ i. record { accept = a i; fronts = f i; statuses = s i }

pub first_zero : (lists : List (List ℕ)) → BeginsWithZeroAlone lists → slice_index_or lists 0 [] ≡ 0 ∷ []
first_zero [] h = absurd h
first_zero (statuses ∷ lists) h = h

module _ (table : Table) (valid : IsValidTable table) where
  pub next_row : (row category : ℕ) → row < length table.rows → category < table.categories → step table row category < length table.rows
  next_row row category h k = (valid.rows.each row h).next category k

  pub along_within : (row : ℕ) (way : List ℕ) → row < length table.rows → IsWay table way → row_along table row way < length table.rows
  along_within row [] h k = h
  along_within row (category ∷ way) h k = along_within (step table row category) way (next_row row category h k.0) k.1

  -- row 0 stays row 0
  pub stop_along : (way : List ℕ) → IsWay table way → row_along table 0 way ≡ 0
  stop_along [] h = refl
  stop_along (category ∷ way) h = ap (λ row. row_along table row way) (valid.rows.stop_leads category h.0) ∙ stop_along way h.1

  pub word_way : (w : List ℕ) → IsWay table (map (category_of table.ranges) w)
  word_way [] = tt
  word_way (c ∷ w) = (category_within table.categories table.ranges c valid.ranges, word_way w)

  pub after_within : (w : List ℕ) → row_after table w < length table.rows
  after_within w = along_within 1 (map (category_of table.ranges) w) (omega (arith, valid.rows.some)) (word_way w)

  pub after_append : (u v : List ℕ) → row_after table (u ++ v) ≡ row_along table (row_after table u) (map (category_of table.ranges) v)
  after_append u v =
      ap (λ way. row_along table 1 way) (map-append (category_of table.ranges) u v)
      ∙ row_along_append table 1 (map (category_of table.ranges) u) (map (category_of table.ranges) v)

  -- row 0 is never left
  pub after_stop : (u v : List ℕ) → row_after table u ≡ 0 → row_after table (u ++ v) ≡ 0
  after_stop u v zero' =
      after_append u v ∙ ap (λ row. row_along table row (map (category_of table.ranges) v)) zero'
      ∙ stop_along (map (category_of table.ranges) v) (word_way v)

  pub along_rest : (w : List ℕ) (row : ℕ) (way : List ℕ) (rest : WordOf table way) → row_after table w ≡ row → row_along table row way ≡ row_after table
      (w ++ rest.0)
  along_rest w row way rest at =
      ap (λ r. row_along table r way) (sym at) ∙ ap (λ l. row_along table (row_after table w) l) (sym rest.1.1) ∙ sym (after_append w rest.0)

  pub plain_marks : (row : ℕ) → IsPlain (head_of table row) → marks_of table row ≡ no_marks
  plain_marks row plain =
      marks_by_parts (marks_of table row) no_marks plain.0 plain.1 (ap (λ list. statuses_of table list) plain.2 ∙ first_zero table.lists valid.lists.first)

  pub stop_marks : marks_of table 0 ≡ no_marks
  stop_marks = plain_marks 0 valid.rows.stop

  pub start_marks : marks_of table 1 ≡ no_marks
  start_marks = plain_marks 1 valid.rows.start

  -- nothing is marked in a table of two rows
  pub few_marks : length table.rows ≡ 2 → (row : ℕ) → row < length table.rows → marks_of table row ≡ no_marks
  few_marks two zero h = stop_marks
  few_marks two (suc zero) h = start_marks
  few_marks two (suc (suc row)) h = absurd (omega (arith, two, h))

  module _ (used : AllUsed table) where
    pub word_of : (way : List ℕ) → IsWay table way → WordOf table way
    word_of [] h = ([], (tt, refl))
    word_of (category ∷ way) h =
        let c = used category h.0 in
        let rest = word_of way h.1 in
        (c.0 ∷ rest.0, ((c.1, rest.1.0), λ i. c.2 i ∷ rest.1.1 i))

    pub word_to : IsLeast table → (row : ℕ) → row ≢ 0 → row < length table.rows → (w : List ℕ) × (IsWord w × (row_after table w ≡ row))
    word_to least row some h =
        let way = least.reached row some h in
        let w = word_of way.0 way.1 in
        (w.0, (w.1.0, ap (λ categories. row_along table 1 categories) w.1.1 ∙ way.2))
