use Rattle.std.proofs.Common.{ℕ, ◌+◌, ◌-◌, ◌*◌, length, drop, length-drop, refl, sym, ap, ◌∙◌, subst, arith}
use Rattle.std.proofs.lemmas.List.{take_all}
use Rattle.std.proofs.Math.Facts.{Fits-lt-pow}
use Rattle.rbbi_model.specs.Tables.{Table}
use Rattle.rbbi_model.specs.TableFile.{cell_size}
use Rattle.rbbi_file.specs.Lengths.{version_in}
use Rattle.rbbi_file.specs.Fitting.{Spell}
use Rattle.rbbi_file.proofs.OneTable.{same_table}
use Rattle.rbbi_file.proofs.WholeFiles.{over_counts, AreCounts, spelled_parts}
use Rattle.rbbi_file.proofs.read.parts_of.Goals as goal

pub counts_of-counts-requires : goal.counts_of-counts-requires
counts_of-counts-requires c = omega (arith, over_counts c.args.bytes.now)

pub ranges_at-requires : goal.ranges_at-requires
ranges_at-requires c = omega (arith, over_counts c.args.bytes.now)

-- the parts by the items that were read
pub returns : goal.returns
returns c =
    let counts = c.counts_of-counts.result in
    let are = c.counts_of-counts.ensures in
    let at : ℕ = c.in_ok-lists.at + counts.rows * c.row_size.result in
    let table : Table = record {
      categories = counts.categories;
      slashes = counts.slashes;
      ranges = c.in_ok-ranges.ranges.items;
      lists = c.in_ok-lists.lists.items;
      rows = c.in_ok-heads.heads.items;
      cells = c.in_ok-heads.cells.items;
      safe = c.in_ok-safe.safe.items;
    } in
    let counted : AreCounts c.args.bytes.now counts.categories counts.ranges counts.lists counts.rows counts.slashes =
    record { categories_are = are.categories; ranges = are.ranges; lists = are.lists; rows = are.rows; slashes_are = are.slashes; stand = are.stand } in
    subst (Spell c.args.bytes.now)
    (sym (same_table _ table refl refl c.from_vec.ensures c.from_vec-2.ensures c.from_vec-3.ensures c.from_vec-4.ensures c.from_vec-5.ensures))
    (spelled_parts c.args.bytes.now table c.cell_size-size.result counts.ranges counts.lists counts.rows c.in_ok-lists.at
    (c.cell_size-size.ensures.exact ∙ ap (λ n. cell_size (version_in c.args.bytes.now) n) are.rows) (λ i. Fits-lt-pow (c.type_inv.bytes i))
    c.requires.magic c.requires.whole counted
    c.in_ok-ranges.ensures.count c.in_ok-lists.ensures.count c.in_ok-ranges.ensures.stand c.in_ok-ranges.ensures.fit c.in_ok-lists.ensures.lists
    c.in_ok-lists.ensures.end c.in_ok-heads.ensures
    (c.in_ok-safe.ensures.items_if_clones_equal (λ x y same. same)
    ∙ take_all (length c.args.bytes.now - at) (drop at c.args.bytes.now) (omega (arith, length-drop at c.args.bytes.now))
    ∙ ap (λ n. drop (c.in_ok-lists.at + counts.rows * n) c.args.bytes.now) c.row_size.ensures.exact))
