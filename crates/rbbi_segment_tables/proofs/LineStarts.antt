-- The first entry of each search is one of the entries.
use Rattle.std.proofs.Common.{◌≡◌, ℕ, Bool, true, take, drop, eqb, refl}
use Rattle.rbbi_annexes.proofs.Checker.{each, each-parts, state_passes}
use Rattle.rbbi_annexes.proofs.Computing.{table_tests}
use Rattle.rbbi_annexes.proofs.LineMonitor.{line_tests}
use Rattle.rbbi_segment_tables.proofs.LineBase.{table, lives, monitor, numbers, line_base}
use Rattle.rbbi_segment_tables.proofs.LineEntries.{entries, line_entries}
use Rattle.rbbi_annexes.proofs.Numbered.{numberings}

abbrev passes : ℕ → Bool
passes = state_passes eqb table monitor 7 lives numbers entries

-- in parts, since the kernel counts the steps of each
pass_first : each passes (take 37 numbers) ≡ true
unfolding table_tests line_tests numberings line_base line_entries
pass_first = refl

pass_second : each passes (take 37 (drop 37 numbers)) ≡ true
unfolding table_tests line_tests numberings line_base line_entries
pass_second = refl

pass_third : each passes (take 37 (drop 37 (drop 37 numbers))) ≡ true
unfolding table_tests line_tests numberings line_base line_entries
pass_third = refl

pass_last : each passes (drop 37 (drop 37 (drop 37 numbers))) ≡ true
unfolding table_tests line_tests numberings line_base line_entries
pass_last = refl

pub states_pass : each passes numbers ≡ true
states_pass =
    each-parts passes 37 numbers pass_first
    (each-parts passes 37 (drop 37 numbers) pass_second
    (each-parts passes 37 (drop 37 (drop 37 numbers)) pass_third pass_last))
