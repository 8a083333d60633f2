-- The monitor by numbers breaks lines as the one of the rules does.
use Rattle.std.proofs.Common.{◌≡◌, ℕ, Bool, true, take, drop, refl}
use Rattle.rbbi_annexes.proofs.Checker.{each, each-parts}
use Rattle.rbbi_annexes.proofs.Computing.{table_tests}
use Rattle.rbbi_annexes.proofs.LineMonitor.{line_monitor, line_tests, same_before}
use Rattle.rbbi_segment_tables.proofs.LineBase.{table, classes, lives, states, monitor, count, numbers, line_base}
use Rattle.rbbi_annexes.proofs.Numbered.{breaks_right, numberings}

abbrev breaks : ℕ → Bool
breaks = breaks_right same_before (line_monitor classes) monitor table.categories 7 count lives states

-- in parts, since the kernel counts the steps of each
broken_first : each breaks (take 37 numbers) ≡ true
unfolding table_tests line_tests numberings line_base
broken_first = refl

broken_second : each breaks (take 37 (drop 37 numbers)) ≡ true
unfolding table_tests line_tests numberings line_base
broken_second = refl

broken_third : each breaks (take 37 (drop 37 (drop 37 numbers))) ≡ true
unfolding table_tests line_tests numberings line_base
broken_third = refl

broken_last : each breaks (drop 37 (drop 37 (drop 37 numbers))) ≡ true
unfolding table_tests line_tests numberings line_base
broken_last = refl

pub broken : each breaks numbers ≡ true
broken =
    each-parts breaks 37 numbers broken_first
    (each-parts breaks 37 (drop 37 numbers) broken_second
    (each-parts breaks 37 (drop 37 (drop 37 numbers)) broken_third broken_last))
