-- Each entry passes.
use Rattle.std.proofs.Common.{◌≡◌, ℕ, Bool, true, take, drop, eqb, List, refl}
use Rattle.rbbi_annexes.proofs.Checker.{Entry, each, each-parts, entry_passes}
use Rattle.rbbi_annexes.proofs.Computing.{table_tests}
use Rattle.rbbi_annexes.proofs.LineMonitor.{line_tests}
use Rattle.rbbi_segment_tables.proofs.LineBase.{table, lives, monitor, numbers, line_base}
use Rattle.rbbi_segment_tables.proofs.LineEntries.{entries, line_entries}
use Rattle.rbbi_annexes.proofs.Numbered.{numberings}

abbrev passes : List (Entry ℕ) → Bool
passes = each (entry_passes eqb table monitor 7 lives numbers entries)

-- in parts, since the kernel counts the steps of each
pass_first : each passes (take 10 entries) ≡ true
unfolding table_tests line_tests numberings line_base line_entries
pass_first = refl

pass_second : each passes (take 20 (drop 10 entries)) ≡ true
unfolding table_tests line_tests numberings line_base line_entries
pass_second = refl

pass_third : each passes (take 20 (drop 20 (drop 10 entries))) ≡ true
unfolding table_tests line_tests numberings line_base line_entries
pass_third = refl

pass_fourth : each passes (take 10 (drop 20 (drop 20 (drop 10 entries)))) ≡ true
unfolding table_tests line_tests numberings line_base line_entries
pass_fourth = refl

pass_fifth : each passes (take 20 (drop 10 (drop 20 (drop 20 (drop 10 entries))))) ≡ true
unfolding table_tests line_tests numberings line_base line_entries
pass_fifth = refl

pass_sixth : each passes (take 20 (drop 20 (drop 10 (drop 20 (drop 20 (drop 10 entries)))))) ≡ true
unfolding table_tests line_tests numberings line_base line_entries
pass_sixth = refl

pass_seventh : each passes (take 15 (drop 20 (drop 20 (drop 10 (drop 20 (drop 20 (drop 10 entries))))))) ≡ true
unfolding table_tests line_tests numberings line_base line_entries
pass_seventh = refl

pass_last : each passes (drop 15 (drop 20 (drop 20 (drop 10 (drop 20 (drop 20 (drop 10 entries))))))) ≡ true
unfolding table_tests line_tests numberings line_base line_entries
pass_last = refl

pub rows_pass : each passes entries ≡ true
rows_pass =
    each-parts passes 10 entries pass_first
    (each-parts passes 20 (drop 10 entries) pass_second
    (each-parts passes 20 (drop 20 (drop 10 entries)) pass_third
    (each-parts passes 10 (drop 20 (drop 20 (drop 10 entries))) pass_fourth
    (each-parts passes 20 (drop 10 (drop 20 (drop 20 (drop 10 entries)))) pass_fifth
    (each-parts passes 20 (drop 20 (drop 10 (drop 20 (drop 20 (drop 10 entries))))) pass_sixth
    (each-parts passes 15 (drop 20 (drop 20 (drop 10 (drop 20 (drop 20 (drop 10 entries)))))) pass_seventh pass_last))))))
