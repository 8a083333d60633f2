-- The table that is built in for lines gives the boundaries of UAX #14: the kernel computes the tests of the table that the bytes spell.
use Rattle.std.proofs.Common.{◌≡◌, ◌≤◌, Bool, true, ◌&&◌, eqb, leb, get_or, length, refl, inl}
use Rattle.std.proofs.lemmas.Bool.{leb-true, eqb-true, and_from}
use Rattle.rbbi_model.specs.Tables.{category_of}
use Rattle.rbbi_model.specs.TableFile.{spelling}
use Rattle.rbbi_text.specs.Bytes.{most_bytes}
use Rattle.rbbi_annexes.specs.Breaks.{SpellTable, SpellBreaksBy}
use Rattle.rbbi_annexes.specs.LineBoundaries.{is_line_break, line_status}
use Rattle.rbbi_annexes.specs.Statuses.{SpellBoundaries}
use Rattle.rbbi_annexes.proofs.Categories.{classes_fit}
use Rattle.rbbi_annexes.proofs.Checker.{each, member, numbers_pass, state_passes, entry_passes, passes}
use Rattle.rbbi_annexes.proofs.Checked.{spell_boundaries_by}
use Rattle.rbbi_annexes.proofs.Computing.{table_tests}
use Rattle.rbbi_annexes.proofs.LineMonitor.{class_of, same_class, same_class-true, class_stepped, other_class, same_before, same_before-true}
use Rattle.rbbi_annexes.proofs.LineMonitor.{line_monitor, line_tells, line_tests, lines_at_ends}
use Rattle.rbbi_annexes.proofs.Placed.{spell_breaks}
use Rattle.rbbi_annexes.proofs.Reading.{two, table_in}
use Rattle.rbbi_annexes.proofs.Valid.{is_valid, valid-true, valid_tests}
use Rattle.rbbi_segment_tables.proofs.LineBase.{table, classes, lives, states, monitor, count, numbers, line_base}
use Rattle.rbbi_segment_tables.proofs.LineBreaks.{broken}
use Rattle.rbbi_segment_tables.proofs.LineEntries.{entries}
use Rattle.rbbi_segment_tables.proofs.LineRows.{rows_pass}
use Rattle.rbbi_segment_tables.proofs.LineStarts.{states_pass}
use Rattle.rbbi_segment_tables.proofs.LineStates.{begun, led}
use Rattle.rbbi_annexes.proofs.Numbered.{numberings, by_number, numbered_tells}
use Rattle.rbbi_segment_tables.specs.declared.line.TheConstants.{LINE}

fit : classes_fit same_class same_class-true class_of class_stepped classes other_class table.categories lives table.ranges ≡ true
unfolding table_tests line_tests line_base
fit = refl

starts_in : member eqb monitor.start numbers ≡ true
unfolding table_tests numberings line_base
starts_in = refl

kinds_pass : numbers_pass eqb table monitor 7 lives ≡ true
unfolding table_tests line_tests numberings line_base
kinds_pass = refl

agree : passes eqb table monitor 7 lives numbers entries ≡ true
unfolding passes
agree =
    let states_are : Bool = each (state_passes eqb table monitor 7 lives numbers entries) numbers in
    let rows_are : Bool = each (each (entry_passes eqb table monitor 7 lives numbers entries)) entries in
    and_from (member eqb monitor.start numbers) (numbers_pass eqb table monitor 7 lives && (states_are && rows_are)) starts_in
    (and_from (numbers_pass eqb table monitor 7 lives) (states_are && rows_are) kinds_pass (and_from states_are rows_are states_pass rows_pass))

version : get_or LINE.now 7 0 ≡ 2
version = refl

few : leb (two (get_or LINE.now 16 0) (get_or LINE.now 17 0)) 255 ≡ true
few = refl

short : leb (length LINE.now) most_bytes ≡ true
short = refl

read : table_in LINE.now ≡ table
unfolding table
read = refl

pub line_boundaries : SpellBoundaries LINE.now is_line_break line_status
unfolding monitor by_number
line_boundaries =
    spell_boundaries_by same_class same_class-true class_of class_stepped other_class eqb eqb-true 7 is_line_break line_status LINE.now table lives classes
    monitor
    (λ known. numbered_tells same_before (line_monitor classes) monitor table.categories 7 count lives states same_before-true begun led broken
    (λ t k. refl) (λ t. refl) (category_of table.ranges)
    (λ c is. ((known c is).0, (known c is).1)) is_line_break line_status (line_tells classes (category_of table.ranges) (λ c is. (known c is).2)))
    numbers entries read version few fit agree

pub lines_break : SpellBreaksBy LINE.now is_line_break
lines_break = spell_breaks is_line_break line_status lines_at_ends LINE.now line_boundaries

valid : is_valid table ≡ true
unfolding table_tests valid_tests line_base
valid = refl

spelled : LINE.now ≡ spelling table
unfolding table_tests line_base
spelled = refl

pub lines_spelled : SpellTable LINE.now
lines_spelled = (table, valid-true table valid, inl spelled)

pub lines_short : length LINE.now ≤ most_bytes
lines_short = leb-true (length LINE.now) most_bytes short
