-- Boundaries that are found in an excerpt of a text.
use Rattle.std.proofs.Common.{◌≡◌, ℕ, zero, suc, ◌+◌, ◌-◌, ◌<◌, ◌≤◌, List, Some, length, take, drop, sum_by, sym, ap, ◌∙◌, subst, inl, arith, add-suc}
use Rattle.std.specs.Prelude.{IsTrue, slice_range}
use Rattle.std.proofs.lemmas.List.{ext_get_or, get_or-take, get_or-drop, length-take, length-drop}
use Rattle.rbbi_model.specs.declared.unit.Unit.{Unit as TextUnit}
use Rattle.rbbi_model.specs.Cover.{IsPlaceOf}
use Rattle.rbbi_model.specs.Places.{largest}
use Rattle.rbbi_model.specs.Tables.{Table, statuses_of}
use Rattle.rbbi_model.specs.Units.{size_of, offset_of}
use Rattle.rbbi_model.specs.Searches.{search_end, look_end, found, table_boundaries}
use Rattle.rbbi_model.specs.ReadAlike.{ReadsAlike}
use Rattle.rbbi_model.specs.Answers.{first_after, statuses_at}
use Rattle.rbbi_model.proofs.Found.{end_lies, look_lies}
use Rattle.rbbi_model.proofs.Local.{piece_of_piece}
use Rattle.rbbi_model.proofs.Measured.{offset_rises}
use Rattle.rbbi_model.proofs.SearchesAlike.{finds_alike}
use Rattle.rbbi_text.specs.Excerpts.{Excerpt, IsExcerptOf}
use Rattle.rbbi_text.proofs.MilestoneLemmas.{sum_more}
use Rattle.rbbi_c.specs.declared.bounds.Bound.{Bound}
use Rattle.rbbi_c.specs.declared.stretch.Block.{Block}
use Rattle.rbbi_c.specs.inner.Bounds.{Finds}
use Rattle.rbbi_c.specs.inner.Stretches.{IsMeasured}
use Rattle.rbbi_c.proofs.Within.{is_followed}

-- each character takes one of the unit at least
far_by : (unit : TextUnit) (x : List ℕ) (i n : ℕ) → i + n ≤ length x → offset_of unit x i + n ≤ offset_of unit x (i + n)
far_by unit x i zero within = let same : i + 0 ≡ i = omega arith in omega (arith, ap (offset_of unit x) same)
far_by unit x i (suc n) within =
    let next : i + suc n ≡ suc (i + n) = add-suc i n in
    omega (arith, far_by unit x i n (omega (arith, within, next)), offset_rises unit x (i + n) (i + suc n) (omega (arith, next)) within)

pub far : (unit : TextUnit) (x : List ℕ) (i j : ℕ) → i ≤ j → j ≤ length x → offset_of unit x i + (j - i) ≤ offset_of unit x j
far unit x i j order within =
    let same : i + (j - i) ≡ j = omega (arith, order) in
    subst (λ k. offset_of unit x i + (j - i) ≤ offset_of unit x k) same (far_by unit x i (j - i) (omega (arith, same, within)))

-- within a block in which each takes one, so many take as many
pub even_units : (unit : TextUnit) (x : List ℕ) (block : Block) (from to : ℕ) → IsMeasured unit x block → IsTrue block.even → block.from ≤ from
    → from ≤ to → to ≤ block.to → offset_of unit x from + (to - from) ≡ offset_of unit x to
even_units unit x block from to is even begins order ends =
    omega (
      arith,
      is.even even,
      begins,
      order,
      ends,
      far unit x block.from from begins (omega (arith, order, ends, is.within)),
      far unit x from to order (omega (arith, ends, is.within)),
      far unit x to block.to ends is.within,
    )

module _ (x : List ℕ) (e : Excerpt) (is : IsExcerptOf x e) where
  -- an excerpt is a part of the text
  items_are : e.items ≡ slice_range x e.from (e.from + length e.items)
  items_are =
      let size : e.from + length e.items - e.from ≡ length e.items = omega arith in
      let long : length (slice_range x e.from (e.from + length e.items)) ≡ length e.items =
      omega (arith, is.within, size, length-take (e.from + length e.items - e.from) (drop e.from x), length-drop e.from x) in
      ext_get_or 0 e.items (slice_range x e.from (e.from + length e.items)) (sym long)
      (λ k short.
      is.each k short
      ∙ sym (get_or-drop e.from x k 0)
      ∙ sym (get_or-take (e.from + length e.items - e.from) (drop e.from x) k 0 (omega (arith, short, size))))

  part_is : (a b : ℕ) → a ≤ b → b ≤ length e.items → slice_range e.items a b ≡ slice_range x (e.from + a) (e.from + b)
  part_is a b order within =
      ap (λ l. slice_range l a b) items_are
      ∙ piece_of_piece x e.from (e.from + length e.items) a b order (omega (arith, within))

  -- offsets in the excerpt are those in the text, less those before it
  pub offset_in : (unit : TextUnit) (k : ℕ) → k ≤ length e.items → offset_of unit x (e.from + k) ≡ offset_of unit x e.from + offset_of unit e.items k
  offset_in unit k within =
      let size : e.from + k - (e.from + 0) ≡ k = omega arith in
      let none : e.from + 0 ≡ e.from = omega arith in
      let whole : k ≡ k - 0 = omega arith in
      let part : take k e.items ≡ take k (drop e.from x) =
      ap (λ n. take n e.items) whole ∙ part_is 0 k (omega arith) within ∙ ap (λ n. take n (drop (e.from + 0) x)) size ∙ ap (λ n. take k (drop n x)) none in
      sum_more (size_of unit) x e.from k ∙ ap (λ l. offset_of unit x e.from + sum_by (size_of unit) l) (sym part)

  -- so what is counted on in the excerpt is counted on in the text
  pub units_there : (unit : TextUnit) (s t offset units : ℕ) → s ≤ length e.items → t ≤ length e.items → offset ≡ offset_of unit x (e.from + s)
      → offset_of unit e.items s + units ≡ offset_of unit e.items t → offset + units ≡ offset_of unit x (e.from + t)
  units_there unit s t offset units low high at counted = omega (arith, at, counted, offset_in unit s low, offset_in unit t high)

-- a search that looks at characters of an excerpt alone finds what it does in the text
module _ (table : Table) (x : List ℕ) (e : Excerpt) (is : IsExcerptOf x e) (s : ℕ) (inside : s < length e.items)
    (look : look_end table e.items s ≤ length e.items) where
  alike : ReadsAlike table e.items x s (e.from + s)
  alike =
      let z : ℕ = search_end table e.items s in
      let lies = end_lies table e.items s inside in
      let there : e.from + search_end table e.items s ≡ e.from + s + (search_end table e.items s - s) = omega (arith, lies.0) in
      record {
        within = inside;
        characters = part_is x e is s z (omega (arith, lies.0)) lies.1 ∙ ap (λ n. slice_range x (e.from + s) n) there;
        end = inl (look, omega (arith, is.within, look, (look_lies table e.items s inside).0));
      }

  pub place_there : (found table x (e.from + s)).at ≡ e.from + (found table e.items s).at
  place_there = omega (arith, (finds_alike table e.items x s (e.from + s) alike).at)

  pub list_there : (found table x (e.from + s)).list ≡ (found table e.items s).list
  list_there = (finds_alike table e.items x s (e.from + s) alike).list

-- what a search from a boundary finds is the one that follows it
pub finds_next : (table : Table) (unit : TextUnit) (x : List ℕ) (p : ℕ) (next : Bound) → IsPlaceOf (table_boundaries table x) p → p < length x
    → next.at ≡ (found table x p).at → next.offset ≡ offset_of unit x next.at → next.status ≡ largest (statuses_of table (found table x p).list)
    → Finds table unit x (first_after (table_boundaries table x) p) (Some next)
finds_next table unit x p next here inside at offset status =
    let follows = is_followed table x p here inside in
    record {
      found_at = ap Some at ∙ sym follows.first;
      are = record {
        is_place = subst (λ (n : ℕ). IsPlaceOf (table_boundaries table x) n) (sym at) follows.is_place;
        offset_is = offset;
        status_is = status ∙ ap largest (sym follows.statuses ∙ ap (statuses_at (table_boundaries table x)) (sym at));
      };
    }
