-- Bytes spell one table at most.
use Rattle.std.proofs.Common.{◌≡◌, ℕ, zero, suc, ◌*◌, ◌/◌, ◌%◌, ◌^◌, ◌<◌, ◌≤◌, List, [], ◌∷◌, ◌++◌, length, get_or, take, drop, refl, ap, sym, ◌∙◌}
use Rattle.std.proofs.Common.{subst, arith, append_assoc, length-drop}
use Rattle.std.specs.List.{AllByRecursion, flat_map}
use Rattle.std.proofs.lemmas.List.{take-append-drop, length-take-le, nil_from_length}
use Rattle.rbbi_model.specs.Tables.{Table, CategoryRange, RowHead}
use Rattle.rbbi_model.specs.TableFile.{little_endian, u16, u32, magic, cell_size, range_bytes, list_bytes, head_bytes, row_bytes, file_bytes}
use Rattle.rbbi_model.proofs.Lists.{all_take, all_drop}
use Rattle.rbbi_file.specs.Lengths.{version_in}
use Rattle.rbbi_file.specs.Fitting.{FitsRange, FitsList, FitsHead, Spell}

-- The same bytes in front are the same thing, and what follows is the same.
split_number : (size a b : ℕ) (x y : List ℕ) → a < 256 ^ size → b < 256 ^ size → little_endian size a ++ x ≡ little_endian size b ++ y → (a ≡ b) × (x ≡ y)
split_number zero a b x y small small' same = (omega (arith, small, small'), same)
split_number (suc size) a b x y small small' same =
    let low : a % 256 ≡ b % 256 = ap (λ (l : List ℕ). get_or l 0 0) same in
    let small1 : a < 256 * 256 ^ size = omega (arith, small) in
    let small1' : b < 256 * 256 ^ size = omega (arith, small') in
    let rest = split_number size (a / 256) (b / 256) x y (omega (arith, small1)) (omega (arith, small1')) (ap (λ (l : List ℕ). drop 1 l) same) in
    (omega (arith, low, rest.0), rest.1)

-- lists of as many things that split
pub split_all : {X : Type 0} (f : X → List ℕ) (P : X → Type 0) → ((a b : X) (x y : List ℕ) → P a → P b → f a ++ x ≡ f b ++ y → (a ≡ b) × (x ≡ y))
    → (these those : List X) (x y : List ℕ) → length these ≡ length those → AllByRecursion P these → AllByRecursion P those
    → flat_map f these ++ x ≡ flat_map f those ++ y → (these ≡ those) × (x ≡ y)
split_all f P split [] [] x y long all all' same = (refl, same)
split_all f P split [] (b ∷ those) x y long all all' same = absurd (omega (arith, long))
split_all f P split (a ∷ these) [] x y long all all' same = absurd (omega (arith, long))
split_all {X} f P split (a ∷ these) (b ∷ those) x y long all all' same =
    let here = split a b (flat_map f these ++ x) (flat_map f those ++ y) all.0 all'.0
    (sym (append_assoc (f a) (flat_map f these) x) ∙ same ∙ append_assoc (f b) (flat_map f those) y) in
    let rest = split_all f P split these those x y (omega (arith, long)) all.1 all'.1 here.1 in
    (λ i. here.0 i ∷ rest.0 i, rest.1)

split_range : (a b : CategoryRange) (x y : List ℕ) → FitsRange a → FitsRange b → range_bytes a ++ x ≡ range_bytes b ++ y → (a ≡ b) × (x ≡ y)
split_range a b x y fits fits' same =
    let start = split_number 4 a.start b.start (u16 a.category ++ x) (u16 b.category ++ y) fits.0 fits'.0 same in
    let category = split_number 2 a.category b.category x y fits.1 fits'.1 start.1 in
    (λ i. record { start = start.0 i; category = category.0 i }, category.1)

split_list : (a b : List ℕ) (x y : List ℕ) → FitsList a → FitsList b → list_bytes a ++ x ≡ list_bytes b ++ y → (a ≡ b) × (x ≡ y)
split_list a b x y fits fits' same =
    let long = split_number 2 (length a) (length b) (flat_map u32 a ++ x) (flat_map u32 b ++ y) fits.0 fits'.0 same in
    split_all u32 (λ status. status < 2 ^ 32) (split_number 4) a b x y long.0 fits.1 fits'.1 long.1

split_head : (a b : RowHead) (x y : List ℕ) → FitsHead a → FitsHead b → head_bytes a ++ x ≡ head_bytes b ++ y → (a ≡ b) × (x ≡ y)
split_head a b x y fits fits' same =
    let accept = split_number 2 a.accept b.accept (u32 a.fronts ++ (u16 a.list ++ x)) (u32 b.fronts ++ (u16 b.list ++ y)) fits.0 fits'.0 same in
    let fronts = split_number 4 a.fronts b.fronts (u16 a.list ++ x) (u16 b.list ++ y) fits.1 fits'.1 accept.1 in
    let list = split_number 2 a.list b.list x y fits.2 fits'.2 fronts.1 in
    (λ i. record { accept = accept.0 i; fronts = fronts.0 i; list = list.0 i }, list.1)

split_rows : (size w : ℕ) (rows rows' : List RowHead) (cells cells' x y : List ℕ) → length rows ≡ length rows' → length cells ≡ length rows * w
    → length cells' ≡ length rows' * w → AllByRecursion FitsHead rows → AllByRecursion FitsHead rows' → AllByRecursion (λ cell. cell < 256 ^ size) cells
    → AllByRecursion (λ cell. cell < 256 ^ size) cells' → row_bytes size w rows cells ++ x ≡ row_bytes size w rows' cells' ++ y
    → (rows ≡ rows') × (cells ≡ cells') × (x ≡ y)
split_rows size w [] [] cells cells' x y long whole whole' heads heads' small small' same =
    (refl, nil_from_length cells (omega (arith, whole)) ∙ sym (nil_from_length cells' (omega (arith, whole'))), same)
split_rows size w [] (b ∷ rows') cells cells' x y long whole whole' heads heads' small small' same = absurd (omega (arith, long))
split_rows size w (a ∷ rows) [] cells cells' x y long whole whole' heads heads' small small' same = absurd (omega (arith, long))
split_rows size w (a ∷ rows) (b ∷ rows') cells cells' x y long whole whole' heads heads' small small' same =
    let P : ℕ → Type 0 = λ cell. cell < 256 ^ size in
    let many : length rows ≡ length rows' = omega (arith, long) in
    let enough : w ≤ length cells = omega (arith, whole) in
    let enough' : w ≤ length cells' = omega (arith, whole') in
    let regroup : (h c r z : List ℕ) → (h ++ c ++ r) ++ z ≡ h ++ (c ++ (r ++ z)) = λ h c r z. simp append_assoc in
    let head = split_head a b (flat_map (little_endian size) (take w cells) ++ (row_bytes size w rows (drop w cells) ++ x))
    (flat_map (little_endian size) (take w cells') ++ (row_bytes size w rows' (drop w cells') ++ y)) heads.0 heads'.0
    (sym (regroup (head_bytes a) (flat_map (little_endian size) (take w cells)) (row_bytes size w rows (drop w cells)) x) ∙ same
    ∙ regroup (head_bytes b) (flat_map (little_endian size) (take w cells')) (row_bytes size w rows' (drop w cells')) y) in
    let here = split_all (little_endian size) P (split_number size) (take w cells) (take w cells') (row_bytes size w rows (drop w cells) ++ x)
    (row_bytes size w rows' (drop w cells') ++ y)
    (length-take-le w cells enough ∙ sym (length-take-le w cells' enough')) (all_take P w cells small) (all_take P w cells' small') head.1 in
    let rest = split_rows size w rows rows' (drop w cells) (drop w cells') x y many
    (omega (arith, whole, length-drop w cells)) (omega (arith, whole', length-drop w cells')) heads.1 heads'.1 (all_drop P w cells small)
    (all_drop P w cells' small') here.1 in (
      λ i. head.0 i ∷ rest.0 i,
      sym (take-append-drop w cells) ∙ (λ i. here.0 i ++ rest.1 i) ∙ take-append-drop w cells',
      rest.2,
    )

-- the file's bytes, part before part
pub in_order : (version : ℕ) (table : Table)
    → file_bytes version table ≡ magic version ++
    (u16 table.categories ++
    (u32 (length table.ranges) ++
    (u16 (length table.lists) ++
    (u16 (length table.rows) ++
    (u16 table.slashes ++
    (flat_map range_bytes table.ranges ++
    (flat_map list_bytes table.lists ++ (row_bytes (cell_size version (length table.rows)) table.categories table.rows table.cells ++ table.safe))))))))
in_order version table = simp append_assoc

-- tables with the same parts are one
pub same_table : (these those : Table) → these.categories ≡ those.categories → these.slashes ≡ those.slashes → these.ranges ≡ those.ranges
    → these.lists ≡ those.lists → these.rows ≡ those.rows → these.cells ≡ those.cells → these.safe ≡ those.safe → these ≡ those
same_table these those categories slashes ranges lists rows cells safe =
    λ i. record {
      categories = categories i;
      slashes = slashes i;
      ranges = ranges i;
      lists = lists i;
      rows = rows i;
      cells = cells i;
      safe = safe i;
    }

-- two tables with one spelling are one
pub one_table : (bytes : List ℕ) (these those : Table) → Spell bytes these → Spell bytes those → these ≡ those
one_table bytes these those spell spell' =
    let version : ℕ = version_in bytes in
    let same = sym (in_order version these) ∙ sym spell.spelled ∙ spell'.spelled ∙ in_order version those in
    let a = spell.fits in
    let b = spell'.fits in
    let categories = split_number 2 these.categories those.categories _ _ a.categories b.categories (ap (λ (l : List ℕ). drop 8 l) same) in
    let range_count = split_number 4 (length these.ranges) (length those.ranges) _ _ a.range_count b.range_count categories.1 in
    let list_count = split_number 2 (length these.lists) (length those.lists) _ _ a.list_count b.list_count range_count.1 in
    let row_count = split_number 2 (length these.rows) (length those.rows) _ _ a.row_count b.row_count list_count.1 in
    let slashes = split_number 2 these.slashes those.slashes _ _ a.slashes b.slashes row_count.1 in
    let ranges = split_all range_bytes FitsRange split_range these.ranges those.ranges _ _ range_count.0 a.ranges b.ranges slashes.1 in
    let lists = split_all list_bytes FitsList split_list these.lists those.lists _ _ list_count.0 a.lists b.lists ranges.1 in
    let size : ℕ = cell_size version (length those.rows) in
    let small = subst (λ (n : ℕ). AllByRecursion (λ cell. cell < 256 ^ cell_size version n) these.cells) row_count.0 a.cells in
    let rows = split_rows size those.categories these.rows those.rows these.cells those.cells these.safe those.safe row_count.0
    (spell.fitting.cells ∙ ap (λ (w : ℕ). length these.rows * w) categories.0) spell'.fitting.cells a.rows b.rows small b.cells
    ((λ i. row_bytes (cell_size version (sym row_count.0 i)) (sym categories.0 i) these.rows these.cells ++ these.safe) ∙ lists.1) in
    same_table these those categories.0 slashes.0 ranges.0 lists.0 rows.0 rows.1 rows.2
