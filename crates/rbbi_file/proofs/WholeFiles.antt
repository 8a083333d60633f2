-- What the bytes of a file that is as long as its parts spell, and what a spelling can't be.
use Rattle.std.proofs.Common.{◌≡◌, ◌≢◌, ℕ, ◌+◌, ◌*◌, ◌^◌, ◌<◌, ◌≤◌, List, ◌++◌, length, get_or, drop, refl, ap, sym, ◌∙◌, subst, arith, length-drop}
use Rattle.std.proofs.Common.{append_assoc, take, inl, inr}
use Rattle.std.specs.List.{AllByRecursion, flat_map}
use Rattle.std.specs.Prelude.{Err}
use Rattle.std.proofs.lemmas.List.{take-append-drop, get_or-take}
use Rattle.rbbi_model.specs.Tables.{Table}
use Rattle.rbbi_model.specs.ValidTables.{IsValidTable}
use Rattle.rbbi_model.specs.TableFile.{u16, u32, magic, cell_size, counts, range_bytes, list_bytes, row_bytes, file_bytes, IsSpelling}
use Rattle.rbbi_table.specs.declared.error.TableErr.{TableErr}
use Rattle.rbbi_table.specs.declared.error.TableErr.TheVariants.{BadRanges, BadLists, BadRows, BadFronts, BadSafe, Memory}
use Rattle.rbbi_table.specs.Answers.{MakesTable}
use Rattle.rbbi_file.specs.Answers.{HasTablesOf, IsFirstBad}
use Rattle.rbbi_file.specs.Lengths.{u16_at, u32_at, HasMagic, version_in, cell_size_in, lists_end, parts_end, rows_size, pairs_size}
use Rattle.rbbi_file.specs.Fitting.{FitsRange, Spell}
use Rattle.rbbi_file.specs.inner.Reading.{Stand, AreListsAt, AreRowsAt}
use Rattle.rbbi_file.proofs.Valid.{fits_valid, fitting_valid}
use Rattle.rbbi_file.proofs.OneTable.{in_order, one_table}
use Rattle.rbbi_file.proofs.Ends.{lists_go_on, has_magic, ends_there}
use Rattle.rbbi_file.proofs.Stands.{stand_both}

-- the counts are there
pub over_counts : (bytes : List ℕ) → 20 + 6 * u32_at bytes 10 ≤ parts_end bytes
over_counts bytes = omega (arith, lists_go_on bytes (u16_at bytes 14) (20 + 6 * u32_at bytes 10))

-- numbers of bytes are small
u16_small : (bytes : List ℕ) → ((i : ℕ) → get_or bytes i 0 < 256) → (at : ℕ) → u16_at bytes at < 2 ^ 16
u16_small bytes small at = omega (arith, small at, small (at + 1))

u32_small : (bytes : List ℕ) → ((i : ℕ) → get_or bytes i 0 < 256) → (at : ℕ) → u32_at bytes at < 2 ^ 32
u32_small bytes small at = omega (arith, u16_small bytes small at, u16_small bytes small (at + 2))

-- What is read of the counts: g ranges, n lists and r rows.
pub record AreCounts (bytes : List ℕ) (categories g n r slashes : ℕ) : Type 0 where
  pub categories_are : categories ≡ u16_at bytes 8
  pub ranges : g ≡ u32_at bytes 10
  pub lists : n ≡ u16_at bytes 14
  pub rows : r ≡ u16_at bytes 16
  pub slashes_are : slashes ≡ u16_at bytes 18
  pub stand : Stand bytes (u16 categories ++ u32 g ++ u16 n ++ u16 r ++ u16 slashes) 8 20

-- a file that begins with the magic of a version names it
named : (bytes : List ℕ) (version : ℕ) → take 8 bytes ≡ magic version → version_in bytes ≡ version
named bytes version begins = sym (get_or-take 8 bytes 7 0 (omega arith)) ∙ ap (λ (l : List ℕ). get_or l 7 0) begins

magic_of : (bytes : List ℕ) → HasMagic bytes → take 8 bytes ≡ magic (version_in bytes)
magic_of bytes (inl one) = one ∙ ap magic (sym (named bytes 1 one))
magic_of bytes (inr two) = two ∙ ap magic (sym (named bytes 2 two))

-- The parts that were read are those that the bytes spell.
pub spelled_parts : (bytes : List ℕ) (table : Table) (read g n r end : ℕ) → read ≡ cell_size_in bytes → ((i : ℕ) → get_or bytes i 0 < 256) → HasMagic bytes
    → parts_end bytes ≡ length bytes → AreCounts bytes table.categories g n r table.slashes → length table.ranges ≡ g → length table.lists ≡ n
    → Stand bytes (flat_map range_bytes table.ranges) 20 (20 + 6 * g) → AllByRecursion FitsRange table.ranges
    → AreListsAt bytes table.lists (20 + 6 * g) end → end ≡ lists_end bytes n (20 + 6 * g)
    → AreRowsAt read bytes table.categories r table.rows table.cells end
    → table.safe ≡ drop (end + rows_size read r table.categories) bytes → Spell bytes table
spelled_parts bytes table read g n r end read_is small has whole are many_ranges many_lists ranged fit listed ends rowed saved =
    let size : ℕ = cell_size (version_in bytes) (length table.rows) in
    let one_size : read ≡ size = read_is ∙ ap (λ (k : ℕ). cell_size (version_in bytes) k) (sym are.rows ∙ sym rowed.many) in
    let w : ℕ = end + rows_size read r table.categories in
    let start : ℕ = 20 + 6 * g in
    let counted : Stand bytes (counts table) 8 20 =
    are.stand
    ∙ (λ i. u16 table.categories ++ u32 (sym many_ranges i) ++ u16 (sym many_lists i) ++ u16 (sym rowed.many i) ++ u16 table.slashes ++ drop 20 bytes) in
    let rows : List ℕ = row_bytes size table.categories table.rows table.cells in
    let stand : Stand bytes rows end w = subst (λ (k : ℕ). Stand bytes (row_bytes k table.categories table.rows table.cells) end w) one_size rowed.stand in
    let parts : List ℕ = counts table ++ flat_map range_bytes table.ranges ++ flat_map list_bytes table.lists ++ rows in
    let all : Stand bytes parts 8 w =
    stand_both bytes (counts table ++ flat_map range_bytes table.ranges ++ flat_map list_bytes table.lists) rows 8 end w
    (stand_both bytes (counts table ++ flat_map range_bytes table.ranges) (flat_map list_bytes table.lists) 8 start end
    (stand_both bytes (counts table) (flat_map range_bytes table.ranges) 8 20 start counted ranged) listed.stand) stand in
    let spelled : bytes ≡ magic (version_in bytes) ++ (parts ++ table.safe) =
    sym (take-append-drop 8 bytes) ∙ ap (λ (l : List ℕ). l ++ drop 8 bytes) (magic_of bytes has)
    ∙ ap (λ (l : List ℕ). magic (version_in bytes) ++ l) (all ∙ ap (λ (l : List ℕ). parts ++ l) (sym saved)) in
    let regroup : magic (version_in bytes) ++ (parts ++ table.safe) ≡ file_bytes (version_in bytes) table = simp append_assoc in
    let same_end : lists_end bytes n start ≡ lists_end bytes (u16_at bytes 14) (20 + 6 * u32_at bytes 10) =
    (λ i. lists_end bytes (are.lists i) (20 + 6 * are.ranges i)) in
    let same_size : rows_size (cell_size_in bytes) (u16_at bytes 16) (u16_at bytes 8) + pairs_size (u16_at bytes 8)
    ≡ rows_size read r table.categories + pairs_size table.categories =
    (λ i. rows_size (sym read_is i) (sym are.rows i) (sym are.categories_are i) + pairs_size (sym are.categories_are i)) in
    let rest : length bytes ≡ w + pairs_size table.categories = omega (arith, whole, ends, same_end, same_size) in
    record {
      magic = has;
      fitting = record {
        cells = rowed.whole ∙ ap (λ (k : ℕ). k * table.categories) (sym rowed.many);
        safe = omega (arith, ap length saved, length-drop w bytes, rest);
      };
      fits = record {
        categories = omega (arith, are.categories_are, u16_small bytes small 8);
        slashes = omega (arith, are.slashes_are, u16_small bytes small 18);
        range_count = omega (arith, many_ranges, are.ranges, u32_small bytes small 10);
        list_count = omega (arith, many_lists, are.lists, u16_small bytes small 14);
        row_count = omega (arith, rowed.many, are.rows, u16_small bytes small 16);
        ranges = fit;
        lists = listed.fit;
        rows = rowed.fit;
        cells = subst (λ (k : ℕ). AllByRecursion (λ cell. cell < 256 ^ k) table.cells) one_size rowed.fit_cells;
      };
      spelled = spelled ∙ regroup;
    }

-- a spelling is that of the version that it names, which has the table
in_version : (bytes : List ℕ) (table : Table) → IsSpelling bytes table
    → (bytes ≡ file_bytes (version_in bytes) table) × HasTablesOf (version_in bytes) table
in_version bytes table (inl spelled) =
    let is : version_in bytes ≡ 2 = ap (λ (l : List ℕ). get_or l 7 0) (spelled ∙ in_order 2 table) in
    (spelled ∙ ap (λ (v : ℕ). file_bytes v table) (sym is), λ one. absurd (omega (arith, one, is)))
in_version bytes table (inr spelled) =
    let is : version_in bytes ≡ 1 = ap (λ (l : List ℕ). get_or l 7 0) (spelled.1 ∙ in_order 1 table) in
    (spelled.1 ∙ ap (λ (v : ℕ). file_bytes v table) (sym is), λ one. spelled.0)

-- and what is spelled in a version that has it is a spelling
pub spelling_of : (bytes : List ℕ) (table : Table) → Spell bytes table → HasTablesOf (version_in bytes) table → IsSpelling bytes table
spelling_of bytes table spell has =
    elim spell.magic [
      | inl one ↦ let is = named bytes 1 one in inr (has is, spell.spelled ∙ ap (λ (v : ℕ). file_bytes v table) is)
      | inr two ↦ inl (spell.spelled ∙ ap (λ (v : ℕ). file_bytes v table) (named bytes 2 two))
    ]

-- a spelling of a valid table
pub spell_valid : (bytes : List ℕ) (table : Table) → IsValidTable table → IsSpelling bytes table → Spell bytes table
spell_valid bytes table valid spelled = record {
  magic = has_magic bytes table spelled;
  fitting = fitting_valid table valid;
  fits = fits_valid (version_in bytes) table valid;
  spelled = (in_version bytes table spelled).0;
}

-- it is as long as its parts
pub length_valid : (bytes : List ℕ) (table : Table) → IsValidTable table → IsSpelling bytes table → parts_end bytes ≡ length bytes
length_valid bytes table valid spelled = ends_there bytes table (spell_valid bytes table valid spelled)

-- and spells no other table
pub same_valid : (bytes : List ℕ) (these table : Table) → Spell bytes these → IsValidTable table → IsSpelling bytes table → these ≡ table
same_valid bytes these table spell valid spelled = one_table bytes these table spell (spell_valid bytes table valid spelled)

-- a valid table has no part that isn't valid
no_bad_part : (table : Table) (error : TableErr) → error ≢ Memory → IsValidTable table → MakesTable table (Err error) → ⊥
no_bad_part table BadRanges other valid bad = bad valid.ranges
no_bad_part table BadLists other valid bad = bad.1 valid.lists
no_bad_part table BadRows other valid bad = bad.2 valid.rows
no_bad_part table BadFronts other valid bad = bad.3 valid.fronts
no_bad_part table BadSafe other valid bad = bad.4 valid.safe
no_bad_part table Memory other valid bad = other refl

-- so what it spells is no fault
pub not_bad : (bytes : List ℕ) (parts : Table) (error : TableErr) → Spell bytes parts → IsFirstBad (version_in bytes) parts error
    → (table : Table) → IsValidTable table → IsSpelling bytes table → ⊥
not_bad bytes parts error spell bad table valid spelled =
    let P : Table → Type 0 = λ t. IsFirstBad (version_in bytes) t error in
    elim (subst P (same_valid bytes parts table spell valid spelled) bad) [
      | inl many ↦ many.0 (in_version bytes table spelled).1
      | inr part ↦ no_bad_part table error part.2 valid part.1
    ]
