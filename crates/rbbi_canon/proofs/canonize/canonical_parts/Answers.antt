use Rattle.std.proofs.Common.{◌≡◌, ◌≤◌, ℕ, List, length, map, sym, ◌∙◌, ap, subst, arith}
use Rattle.std.proofs.lemmas.List.{length-map}
use Rattle.rbbi_model.specs.Tables.{Table, CategoryRange, RowHead, head_of}
use Rattle.rbbi_table.specs.Parts.{table_of, AreNextRows, rows_of}
use Rattle.rbbi_table.specs.Pairs.{ArePairsOf}
use Rattle.rbbi_canon.specs.declared.grid.Grid.{Grid}
use Rattle.rbbi_canon.specs.inner.Grids.{AreJoined}
use Rattle.rbbi_canon.specs.inner.Slashes.{AllowsAll}
use Rattle.rbbi_canon.specs.inner.Made.{ArePartsOf}
use Rattle.rbbi_canon.proofs.Canonizing.{can_be_walked, next_rows, are_parts}
use Rattle.rbbi_canon.proofs.canonize.canonical_parts.Goals as goal

-- the ranges that were joined are the table's
joined_of : (table old : Table) (grid : Grid) (given firsts : List ℕ) (ranges joined : List CategoryRange) → old ≡ table → ranges ≡ old.ranges →
    AreJoined grid ranges firsts joined → given ≡ firsts → AreJoined grid table.ranges given joined
joined_of table old grid given firsts ranges joined same same' h equal =
    subst (λ (l : List CategoryRange). AreJoined grid l given joined) (same' ∙ ap (λ (t : Table). t.ranges) same)
    (subst (λ (l : List ℕ). AreJoined grid ranges l joined) (sym equal) h)

pub walk_rows-requires : goal.walk_rows-requires
walk_rows-requires c =
    let table = c.args.table.now in
    let grid = c.in_ok-grid.grid in
    let joined = joined_of table (table_of c.parts-old.result.now) grid c.deref.result.now c.in_ok-joined.joined.firsts.items c.as_slice.result.now
    c.in_ok-joined.joined.ranges.items c.parts-old.ensures c.as_slice.ensures c.in_ok-joined.ensures c.deref.ensures.value in
    can_be_walked table c.requires.valid c.requires.has grid c.in_ok-grid.ensures c.deref.result.now c.in_ok-joined.joined.ranges.items joined

pub safe_pairs-requires-clause-steps : goal.safe_pairs-requires-clause-steps
safe_pairs-requires-clause-steps c =
    let table = c.args.table.now in
    let grid = c.in_ok-grid.grid in
    let order = c.in_ok-walk.walk.order.items in
    let joined = joined_of table (table_of c.parts-old.result.now) grid c.deref.result.now c.in_ok-joined.joined.firsts.items c.as_slice.result.now
    c.in_ok-joined.joined.ranges.items c.parts-old.ensures c.as_slice.ensures c.in_ok-joined.ensures c.deref.ensures.value in
    let many : length c.deref-3.result.now ≡ length order =
    ap length (c.deref-3.ensures.value ∙ c.in_ok-heads.ensures) ∙ length-map c.deref-2.result.now (head_of table) ∙ ap length c.deref-2.ensures.value in
    let width : c.len-categories.result ≡ length c.deref.result.now =
    let len : c.len-categories.result ≡ length c.in_ok-joined.joined.firsts.items = omega
    (arith, c.len-categories.ensures, c.in_ok-joined.joined.firsts.ok.0) in
    len ∙ sym (ap length c.deref.ensures.value) in
    subst (λ n. AreNextRows n c.deref-3.result.now c.deref-4.result.now) (sym width)
    (subst (λ (l : List ℕ). AreNextRows (length c.deref.result.now) c.deref-3.result.now l) (sym c.deref-4.ensures.value)
    (next_rows table c.requires.valid c.requires.has grid c.in_ok-grid.ensures c.deref.result.now c.in_ok-joined.joined.ranges.items joined order
    c.in_ok-walk.walk.cells.items c.deref-3.result.now c.in_ok-walk.ensures many))

pub returns : goal.returns
returns c =
    let table = c.args.table.now in
    let grid = c.in_ok-grid.grid in
    let order = c.in_ok-walk.walk.order.items in
    let cells = c.in_ok-walk.walk.cells.items in
    let joined = joined_of table (table_of c.parts-old.result.now) grid c.deref.result.now c.in_ok-joined.joined.firsts.items c.as_slice.result.now
    c.in_ok-joined.joined.ranges.items c.parts-old.ensures c.as_slice.ensures c.in_ok-joined.ensures c.deref.ensures.value in
    let heads : c.in_ok-heads.heads.items ≡ map (head_of table) order =
    c.in_ok-heads.ensures ∙ ap (λ (l : List ℕ). map (head_of table) l) c.deref-2.ensures.value in
    let len : c.len-categories.result ≡ length c.in_ok-joined.joined.firsts.items = omega
    (arith, c.len-categories.ensures, c.in_ok-joined.joined.firsts.ok.0) in
    let width : c.len-categories.result ≡ length c.deref.result.now = len ∙ sym (ap length c.deref.ensures.value) in
    let slashes = c.least_slashes.result in
    let safe = c.in_ok-safe.safe in
    let counted = c.deref-5.ensures.value ∙ heads in
    let allowed = subst (λ (l : List RowHead). AllowsAll slashes l) counted c.least_slashes.ensures.allowed in
    let least = subst (λ (l : List RowHead). (k : ℕ) → AllowsAll k l → slashes ≤ k) counted c.least_slashes.ensures.least in
    let pairs =
    subst (λ n. ArePairsOf (rows_of n (map (head_of table) order) cells safe)) width
    (subst (λ (l : List RowHead). ArePairsOf (rows_of c.len-categories.result l cells safe)) (c.deref-3.ensures.value ∙ heads)
    (subst (λ (l : List ℕ). ArePairsOf (rows_of c.len-categories.result c.deref-3.result.now l safe)) c.deref-4.ensures.value c.in_ok-safe.ensures)) in
    let made = are_parts table c.requires.valid c.requires.has grid c.in_ok-grid.ensures c.deref.result.now c.in_ok-joined.joined.ranges.items joined
    order cells
    c.in_ok-walk.ensures slashes safe allowed least pairs in
    let lists = c.in_ok-copied_lists.ensures ∙ c.as_slice-2.ensures ∙ ap (λ (t : Table). t.lists) c.parts-old.ensures in
    let rows = c.from_vec-2.ensures ∙ heads in
    subst (ArePartsOf table) (λ i. record {
      categories = sym width i;
      slashes = slashes;
      ranges = sym c.from_vec.ensures i;
      lists = sym lists i;
      rows = sym rows i;
      cells = sym c.from_vec-3.ensures i;
      safe = safe;
    }) made
