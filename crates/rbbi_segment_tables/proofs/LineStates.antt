-- The monitor by numbers leads from state to state as the one of the rules does.
use Rattle.std.proofs.Common.{◌≡◌, ℕ, Bool, true, take, drop, refl}
use Rattle.rbbi_annexes.proofs.Checker.{each, each-parts}
use Rattle.rbbi_annexes.proofs.Computing.{table_tests}
use Rattle.rbbi_annexes.proofs.LineMonitor.{line_monitor, line_tests, same_before}
use Rattle.rbbi_segment_tables.proofs.LineBase.{table, classes, lives, states, monitor, count, numbers, line_base}
use Rattle.rbbi_annexes.proofs.Numbered.{starts_right, leads_right, numberings}

pub begun : starts_right same_before (line_monitor classes) monitor table.categories 7 count lives states ≡ true
unfolding table_tests line_tests numberings line_base
begun = refl

abbrev leads : ℕ → Bool
leads = leads_right same_before (line_monitor classes) monitor table.categories 7 count lives states

-- in parts, since the kernel counts the steps of each
led_first : each leads (take 49 numbers) ≡ true
unfolding table_tests line_tests numberings line_base
led_first = refl

led_second : each leads (take 49 (drop 49 numbers)) ≡ true
unfolding table_tests line_tests numberings line_base
led_second = refl

led_last : each leads (drop 49 (drop 49 numbers)) ≡ true
unfolding table_tests line_tests numberings line_base
led_last = refl

pub led : each leads numbers ≡ true
led =
    each-parts leads 49 numbers led_first
    (each-parts leads 49 (drop 49 numbers) led_second led_last)
