-- The built-in table for lines, and the monitor for lines by the numbers of its states.
use Rattle.std.proofs.Common.{ℕ, Bool, not, eqb, List, Option, map}
use Rattle.rbbi_model.specs.Tables.{Table}
use Rattle.rbbi_annexes.specs.declared.lines.items.Item.{Item}
use Rattle.rbbi_annexes.proofs.Checker.{values}
use Rattle.rbbi_annexes.proofs.Checked.{first_of}
use Rattle.rbbi_annexes.proofs.LineFacts.{Near}
use Rattle.rbbi_annexes.proofs.LineMonitor.{class_of, line_monitor}
use Rattle.rbbi_annexes.proofs.Monitors.{Monitor}
use Rattle.rbbi_annexes.proofs.Reading.{table_in}
use Rattle.rbbi_segment_tables.proofs.LineNumbers.{words, nexts, breaks}
use Rattle.rbbi_annexes.proofs.Numbered.{below, state_after, by_number}
use Rattle.rbbi_segment_tables.specs.declared.line.TheConstants.{LINE}

unfoldable pub table : Table
table = table_in LINE.now

-- each category has the class of its first code point
unfoldable pub classes : List Item
classes = values (λ k. class_of (first_of k table.ranges)) 0 table.categories

-- category 0 is that of the surrogates
unfoldable pub lives : ℕ → Bool
lives k = not (eqb k 0)

-- what stands before a place, as far as the rules read it
unfoldable pub states : List (Option Near)
states = let monitor = line_monitor classes in map (state_after monitor monitor.start) words

-- the same by number
unfoldable pub monitor : Monitor ℕ
monitor = by_number (line_monitor classes) table.categories 7 nexts breaks

abbrev pub count : ℕ
count = 147

abbrev pub numbers : List ℕ
numbers = below count

-- `unfolding line_base` lets `refl` compute them
unfoldable pub line_base : Unit {0}
unfolding words nexts breaks table classes lives states monitor
line_base = tt
