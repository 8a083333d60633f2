-- Where the runs of a table begin.
use Rattle.std.specs.Prelude.{ℕ, zero, suc, ◌/◌, List, slice_index}

-- the first code point of the run with this number, or past the last run the one after it
abbrev pub start_of : List ℕ → ℕ → ℕ
start_of runs zero = 0
start_of runs (suc i) = slice_index runs i / 2048
