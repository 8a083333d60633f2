-- One name to unfold where the kernel computes the tests of a table.
use Rattle.rbbi_annexes.proofs.Agreement.{rules_in, rules_kept, has_rule, mark_after, is_exact, has_front, ends_right, fronts_here}
use Rattle.rbbi_annexes.proofs.Checker.{values, each, member, explore, joined, same_rules, same_mark, same_marks, some_mark, same_entry, is_found, with_entry}
use Rattle.rbbi_annexes.proofs.Checker.{all_used, over_used, marked, marks_after, after_categories, goes_on, after_entry, first_marks, entries_from, starts, states_found}
use Rattle.rbbi_annexes.proofs.Checker.{entries_found, numbers_pass, is_begun, begins_at, state_passes, is_only, is_named, is_cut, is_right}
use Rattle.rbbi_annexes.proofs.Checker.{entry_passes, passes}
use Rattle.rbbi_annexes.proofs.Categories.{steps_of, last_of}
use Rattle.rbbi_annexes.proofs.Checked.{first_of}
use Rattle.rbbi_annexes.proofs.Reading.{ranges_in, ranges_behind, numbers_in, numbers_behind, lists_in, lists_behind, heads_in, cells_in, rows_behind}
use Rattle.rbbi_annexes.proofs.Reading.{table_from, table_in}
use Rattle.ucd_breaks.proofs.Computing.{ucd_breaks}
use Rattle.ucd_derived.proofs.Computing.{ucd_derived}
use Rattle.ucd_emoji.proofs.Computing.{ucd_emoji}
use Rattle.ucd_script.proofs.Computing.{ucd_script}

-- `unfolding table_tests` lets `refl` compute the tests
unfoldable pub table_tests : Unit {0}
unfolding ucd_breaks ucd_derived ucd_emoji ucd_script rules_in rules_kept has_rule mark_after is_exact has_front ends_right fronts_here values each member
    explore joined same_rules same_mark same_marks some_mark same_entry is_found with_entry all_used over_used marked marks_after after_categories goes_on after_entry
    first_marks entries_from starts states_found entries_found numbers_pass is_begun begins_at state_passes is_only is_named is_cut is_right entry_passes
    passes steps_of last_of first_of ranges_in ranges_behind numbers_in numbers_behind lists_in lists_behind heads_in cells_in rows_behind table_from table_in
table_tests = tt
