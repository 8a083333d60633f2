use Rattle.std.proofs.Common.{◌≡◌, ℕ, ◌*◌, ◌+◌, ◌<◌, ◌≤◌, List, length, get_or, subst, sym, arith}
use Rattle.rbbi_table.proofs.MoveLemmas.{row_end}
use Rattle.rbbi_table.proofs.kinds.fits.Goals as goal

-- the row that a move leads to is a row
low_next : (cells : List ℕ) (width rows row k next : ℕ) → ((i : ℕ) → i < length cells → get_or cells i 0 < rows) → length cells ≡ rows * width → row < rows →
    k < width → next ≡ get_or cells (row * width + k) 0 → next * width + width ≤ length cells
low_next cells width rows row k next below all within short is =
    let low : next < rows = subst (λ n. n < rows) (sym is) (below (row * width + k) (omega (arith, row_end row rows width within, all, short))) in
    omega (arith, row_end next rows width low, all)

pub next_row-requires : goal.next_row-requires
next_row-requires c =
    omega (
      arith,
      c.requires.category,
      low_next c.args.cells.now c.args.width c.args.rows c.args.row c.args.category c.next_row-target.result c.requires.next c.requires.cells
          c.requires.row c.requires.category c.next_row-target.ensures,
    )

pub next_row-there-requires : goal.next_row-there-requires
next_row-there-requires c =
    omega (
      arith,
      low_next c.args.cells.now c.args.width c.args.rows c.args.row c.args.category c.next_row-target.result c.requires.next c.requires.cells
          c.requires.row c.requires.category c.next_row-target.ensures,
    )

pub next_row-requires-then-there-here : goal.next_row-requires-then-there-here
next_row-requires-then-there-here c =
    omega (
      arith,
      c.requires.category,
      low_next c.args.cells.now c.args.width c.args.rows c.args.row c.loop-k.k c.next_row-here.result c.requires.next c.requires.cells
          c.requires.row c.loop-k-test.true c.next_row-here.ensures,
    )
