-- The parts of a least table are those of a valid one.
use Rattle.std.proofs.Common.{◌≡◌, ℕ, ◌*◌, ◌/◌, ◌%◌, ◌<◌, ◌≤◌, List, length, ap, sym, ◌∙◌, subst, ⊎_elim, arith, slice_index}
use Rattle.std.proofs.lemmas.Bool.{cases_lt}
use Rattle.std.proofs.lemmas.Nat.{div_below, mod_below, div-add-mod'}
use Rattle.rbbi_model.specs.Tables.{Table, CategoryRange, RowHead}
use Rattle.rbbi_model.specs.ValidTables.{AreValidRanges, AreValidRows}
use Rattle.rbbi_table.specs.Parts.{AreNextRows, rows_of, HasFittingParts}
use Rattle.rbbi_table.specs.Pairs.{ArePairsOf}
use Rattle.rbbi_table.specs.Parts.{AreValidParts}
use Rattle.rbbi_dfa.specs.inner.LeastTables.{IsLeastOf, finished}
use Rattle.rbbi_dfa.proofs.Compiling.{AreValidRows-finished, AreFronted-finished}

-- each next row is a row
pub AreNextRows-from_valid : (table : Table) → length table.cells ≡ length table.rows * table.categories → AreValidRows table →
    AreNextRows table.categories table.rows table.cells
AreNextRows-from_valid table all valid = record {
  all = all;
  within = λ i h.
      ⊎_elim
      (λ (some : 0 < table.categories).
      let row = i / table.categories in
      let row_below : i / table.categories < length table.rows = div_below i table.categories (length table.rows) some (subst (λ (n : ℕ). i < n) all h) in
      subst (λ (place : ℕ). slice_index table.cells place < length table.rows) (div-add-mod' i table.categories)
      ((valid.each (i / table.categories) row_below).next (i % table.categories) (mod_below i table.categories some)))
      (λ (none : table.categories ≤ 0).
      let zero : table.categories ≡ 0 = omega arith in
      let empty : length table.cells ≡ length table.rows * 0 = all ∙ ap (λ n. length table.rows * n) zero in
      absurd (omega arith))
      (cases_lt 0 table.categories);
}

pub HasFittingParts-finished : (table : Table) (ranges : List CategoryRange) (safe : List ℕ) → length table.cells ≡ length table.rows * table.categories →
    ArePairsOf (finished table ranges safe) → HasFittingParts (finished table ranges safe)
HasFittingParts-finished table ranges safe all pairs = record { cells = all; safe = pairs.all }

pub ArePairsOf-parts : (categories slashes : ℕ) (ranges : List CategoryRange) (lists : List (List ℕ)) (rows : List RowHead) (cells safe : List ℕ) →
    ArePairsOf (rows_of categories rows cells safe) →
    ArePairsOf (record { categories = categories; slashes = slashes; ranges = ranges; lists = lists; rows = rows; cells = cells; safe = safe })
ArePairsOf-parts categories slashes ranges lists rows cells safe h = record {
  all = h.all;
  pairs = record { exactly = h.pairs.exactly; filling = h.pairs.filling };
}

-- the parts of a finished table are valid
pub AreValidParts-finished : (automaton least : Table) (ranges : List CategoryRange) (safe : List ℕ) → AreValidRanges automaton.categories ranges →
    IsLeastOf automaton least → ArePairsOf (finished least ranges safe) → AreValidParts (finished least ranges safe)
AreValidParts-finished automaton least ranges safe valid h pairs = record {
  fitting = HasFittingParts-finished least ranges safe h.cells pairs;
  ranges = subst (λ (n : ℕ). AreValidRanges n ranges) (sym h.categories) valid;
  lists = h.lists;
  rows = AreValidRows-finished least ranges safe h.rows;
  fronts = AreFronted-finished least ranges safe h.fronts;
  safe = pairs.pairs;
}
