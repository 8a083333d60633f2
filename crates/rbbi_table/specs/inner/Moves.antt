-- The moves of one row, as they are added to the flat list.
use Rattle.std.specs.Prelude.{ℕ, ◌+◌, ◌*◌, List, [], ◌∷◌, ◌++◌, map, slice_index_or}
use Rattle.rbbi_model.specs.Tables.{RowHead, empty_head}
use Rattle.rbbi_table.specs.Kept.{move_flags}

-- the moves to these next rows, and after them the row's front mask, its list and its accept number
abbrev pub row_moves : ℕ → List RowHead → List ℕ → RowHead → List ℕ
row_moves width rows steps head =
    map (λ next. next * width * 8 + move_flags (slice_index_or rows next empty_head) next) steps
    ++ head.fronts ∷ head.list ∷ head.accept ∷ []
