-- A table whose parts are all valid, and the stored bits against those of the rows.
use Rattle.std.proofs.Common.{◌≡◌, ℕ, suc, zero, ◌+◌, ◌*◌, ◌/◌, ◌%◌, ◌<◌, eqb, List, [], ◌∷◌, length}
use Rattle.std.proofs.Common.{get_or, sym, ap, ◌∙◌, subst, ⊎_elim, arith, ◌≤◌, ◌↔◌}
use Rattle.std.specs.List.{AllByRecursion}
use Rattle.std.specs.Int.{bit_at}
use Rattle.std.proofs.lemmas.Bool.{cases_lt}
use Rattle.std.proofs.lemmas.Bool.Decides.{nat_tests, same_from_decides}
use Rattle.std.proofs.lemmas.List.{ext_get_or}
use Rattle.std.proofs.lemmas.Nat.Bits.{same_from_bits_below, bit_at-lt}
use Rattle.std.proofs.Math.Nat.{div-lt_iff_lt-mul}
use Rattle.rbbi_model.specs.Places.{has_bit}
use Rattle.rbbi_model.specs.Tables.{Table}
use Rattle.rbbi_model.specs.SafePairs.{stored_bit}
use Rattle.rbbi_model.specs.ValidTables.{AreValidRanges, AreValidSafePairs, IsValidTable}
use Rattle.rbbi_table.specs.Parts.{HasFittingParts, AreValidParts, rows_of}
use Rattle.rbbi_table.specs.Pairs.{ArePairsOf}
use Rattle.rbbi_table.specs.Blocks.{AreBlocks, in_block}
use Rattle.rbbi_table.specs.Kept.{AreMoves, IsWholeKept}
use Rattle.rbbi_table.specs.Short.{short_stride, AreShortMoves, AreNear}
use Rattle.rbbi_model.proofs.Categories.{category_within}
use Rattle.rbbi_model.proofs.Bits.{has_bit_is}

pub all_bytes : (bytes : List ℕ) → ((i : ℕ) → get_or bytes i 0 < 256) → AllByRecursion (λ byte. byte < 256) bytes
all_bytes [] small = tt
all_bytes (byte ∷ bytes) small = (small zero, all_bytes bytes (λ i. small (suc i)))

-- valid parts make a valid table where what is stored as a byte is one
pub valid_table : {table : Table} → AreValidParts table → ((i : ℕ) → get_or table.safe i 0 < 256) → IsValidTable table
valid_table {table} valid stored = record {
  well_formed = record { cells = valid.fitting.cells; safe = valid.fitting.safe; bytes = all_bytes table.safe stored };
  ranges = valid.ranges;
  lists = valid.lists;
  rows = valid.rows;
  fronts = valid.fronts;
  safe = valid.safe;
}

moves_kept : {table : Table} {moves : List ℕ} → AreMoves (rows_of table.categories table.rows table.cells []) moves → AreMoves table moves
moves_kept own = record {
  all = own.all;
  rows = λ row short.
      let has = own.rows row short in
      record { each = has.each; fronts = has.fronts; list = has.list; accept = has.accept };
}

short_kept : {table : Table} {moves : List ℕ} → table.slashes ≡ 0 → AreShortMoves (rows_of table.categories table.rows table.cells []) moves →
    AreShortMoves table moves
short_kept none own = record {
  none = none;
  all = own.all;
  small = own.small;
  rows = λ row short.
      let has = own.rows row short in
      record { list = has.list; each = has.each; kinds = has.kinds };
}

pub kept_of : {table : Table} {numbers kept moves short near : List ℕ} {start : ℕ} → IsValidTable table → AreBlocks table.ranges numbers kept →
    (length short ≡ 0 → AreMoves (rows_of table.categories table.rows table.cells []) moves) →
    (0 < length short → (table.slashes ≡ 0) × AreShortMoves (rows_of table.categories table.rows table.cells []) short) →
    AreNear numbers kept near → start ≡ short_stride table → IsWholeKept table numbers kept moves short near start
kept_of valid blocks moves short near start = record {
  valid = valid;
  in_blocks = blocks;
  in_moves = λ none. moves_kept (moves none);
  in_short = λ some. record { valid = valid; in_blocks = blocks; in_moves = short_kept (short some).0 (short some).1; in_near = near };
  start_is = start;
}

-- the blocks give each code point one of the categories
pub near_within : (table : Table) (numbers kept : List ℕ) → AreValidRanges table.categories table.ranges → AreBlocks table.ranges numbers kept → (c : ℕ) →
    c < 131072 → in_block numbers kept c < table.categories
near_within table numbers kept ranges blocks c low =
    subst (λ n. n < table.categories) (sym (blocks.same c (omega (arith, low)))) (category_within table.categories table.ranges c ranges)

same_bit : (m n k : ℕ) → has_bit m k ≡ has_bit n k → bit_at m k ≡ bit_at n k
same_bit m n k is =
    let same : eqb (bit_at m k) 1 ≡ eqb (bit_at n k) 1 = sym (has_bit_is m k) ∙ is ∙ has_bit_is n k in
    let low = bit_at-lt m k in
    let low' = bit_at-lt n k in
    grind (arith, nat_tests)

-- lists of bytes with the same bits are the same
same_bytes : (these those : List ℕ) → length these ≡ length those → ((i : ℕ) → get_or these i 0 < 256) → ((i : ℕ) → get_or those i 0 < 256) →
    ((i : ℕ) → i < 8 * length these → stored_bit these i ≡ stored_bit those i) → these ≡ those
same_bytes these those long small small' bits =
    ext_get_or 0 these those long (λ k short.
    same_from_bits_below 8 (get_or these k 0) (get_or those k 0) (small k) (small' k) (λ b low.
    let i : ℕ = 8 * k + b in
    let byte : i / 8 ≡ k = omega arith in
    let bit : i % 8 ≡ b = omega arith in
    let is = bits i (omega (arith, short, low)) in
    same_bit (get_or these k 0) (get_or those k 0) b
    (ap (λ n. has_bit (get_or these n 0) b) (sym byte) ∙ ap (λ n. has_bit (get_or these (i / 8) 0) n) (sym bit) ∙ is ∙
    ap (λ n. has_bit (get_or those n 0) (i % 8)) byte ∙ ap (λ n. has_bit (get_or those k 0) n) bit)))

-- the bytes are those of the safe pairs of the table's rows, and what is stored as a byte is one
pub record AreOwnPairs (table : Table) (bytes : List ℕ) : Type 0 where
  pub pairs : ArePairsOf (rows_of table.categories table.rows table.cells bytes)
  pub small : (i : ℕ) → get_or bytes i 0 < 256
  pub stored : (i : ℕ) → get_or table.safe i 0 < 256

-- the stored bytes are those of the rows exactly where the stored bits are valid
pub stored_are : {table : Table} {bytes : List ℕ} → HasFittingParts table → 1 ≤ table.categories → AreOwnPairs table bytes →
    (bytes ≡ table.safe) ↔ AreValidSafePairs table
stored_are {table} {bytes} fitting some own_pairs = (
  λ same.
      let own = subst (λ (l : List ℕ). ArePairsOf (rows_of table.categories table.rows table.cells l)) same own_pairs.pairs in
      record { exactly = own.pairs.exactly; filling = own.pairs.filling },
  λ stored.
      let pairs = own_pairs.pairs in
      let long : length bytes ≡ length table.safe = pairs.all ∙ sym fitting.safe in
      same_bytes bytes table.safe long own_pairs.small own_pairs.stored (λ i short.
      ⊎_elim
      (λ inside.
      let first : ℕ = i / table.categories in
      let second : ℕ = i % table.categories in
      let low : second < table.categories = omega arith in
      let split : first * table.categories + second ≡ i = omega arith in
      let first_low : first < table.categories = (div-lt_iff_lt-mul (let e : 0 < table.categories = omega arith in e)).1 inside in
      let own = pairs.pairs.exactly first second first_low low in
      let other = stored.exactly first second first_low low in
      subst (λ n. stored_bit bytes n ≡ stored_bit table.safe n) split (same_from_decides _ _ own other))
      (λ past. same_from_decides {P = ⊥} _ _ (pairs.pairs.filling i past short, λ none. absurd none)
      (stored.filling i past (omega (arith, short, long)), λ none. absurd none))
      (cases_lt i (table.categories * table.categories))),
)
