-- The table that is built in for graphemes gives the boundaries of UAX #29: the kernel computes the tests of the table that the bytes spell.
use Rattle.std.proofs.Common.{◌≡◌, ◌≤◌, ℕ, Bool, true, not, eqb, leb, get_or, List, length, refl, inl}
use Rattle.std.proofs.lemmas.Bool.{leb-true}
use Rattle.unicode_segmentation.specs.Grapheme.{is_grapheme_break}
use Rattle.rbbi_model.specs.Tables.{Table, category_of}
use Rattle.rbbi_model.specs.TableFile.{spelling}
use Rattle.rbbi_text.specs.Bytes.{most_bytes}
use Rattle.rbbi_annexes.specs.Breaks.{SpellTable, SpellBreaksBy}
use Rattle.rbbi_annexes.specs.Statuses.{grapheme_status, SpellBoundaries}
use Rattle.rbbi_annexes.proofs.Categories.{classes_fit}
use Rattle.rbbi_annexes.proofs.Checker.{Entry, values, states_found, entries_found, passes}
use Rattle.rbbi_annexes.proofs.Checked.{first_of, spell_boundaries_by}
use Rattle.rbbi_annexes.proofs.Computing.{table_tests}
use Rattle.rbbi_annexes.proofs.Ends.{graphemes_at_ends}
use Rattle.rbbi_annexes.proofs.Placed.{spell_breaks}
use Rattle.rbbi_annexes.proofs.Graphemes.{Class, class_of, same_class, same_class-true, class_stepped, other_class, Before, same_before, same_before-true}
use Rattle.rbbi_annexes.proofs.Graphemes.{grapheme_monitor, grapheme_tells, grapheme_tests}
use Rattle.rbbi_annexes.proofs.Reading.{two, table_in}
use Rattle.rbbi_annexes.proofs.Valid.{is_valid, valid-true, valid_tests}
use Rattle.rbbi_segment_tables.specs.declared.grapheme.TheConstants.{GRAPHEME}

table : Table
table = table_in GRAPHEME.now

-- each category has the class of its first code point
classes : List Class
classes = values (λ k. class_of (first_of k table.ranges)) 0 table.categories

-- category 0 is that of the surrogates
lives : ℕ → Bool
lives k = not (eqb k 0)

states : List Before
states = states_found same_before table (grapheme_monitor classes) 1 lives 2000

entries : List (List (Entry Before))
entries = entries_found same_before table (grapheme_monitor classes) 1 lives 20000 states

fit : classes_fit same_class same_class-true class_of class_stepped classes other_class table.categories lives table.ranges ≡ true
unfolding table_tests grapheme_tests table classes lives
fit = refl

agree : passes same_before table (grapheme_monitor classes) 1 lives states entries ≡ true
unfolding table_tests grapheme_tests table classes lives states entries
agree = refl

version : get_or GRAPHEME.now 7 0 ≡ 2
version = refl

few : leb (two (get_or GRAPHEME.now 16 0) (get_or GRAPHEME.now 17 0)) 255 ≡ true
few = refl

short : leb (length GRAPHEME.now) most_bytes ≡ true
short = refl

read : table_in GRAPHEME.now ≡ table
unfolding table
read = refl

pub grapheme_boundaries : SpellBoundaries GRAPHEME.now (is_grapheme_break true) grapheme_status
grapheme_boundaries =
    spell_boundaries_by same_class same_class-true class_of class_stepped other_class same_before same_before-true 1 (is_grapheme_break true)
    grapheme_status GRAPHEME.now table lives classes (grapheme_monitor classes)
    (λ known. grapheme_tells classes (category_of table.ranges) (λ c is. (known c is).2)) states entries read version few fit agree

pub graphemes_break : SpellBreaksBy GRAPHEME.now (is_grapheme_break true)
graphemes_break = spell_breaks (is_grapheme_break true) grapheme_status graphemes_at_ends GRAPHEME.now grapheme_boundaries

valid : is_valid table ≡ true
unfolding table_tests valid_tests table
valid = refl

spelled : GRAPHEME.now ≡ spelling table
unfolding table_tests table
spelled = refl

pub graphemes_spelled : SpellTable GRAPHEME.now
graphemes_spelled = (table, valid-true table valid, inl spelled)

pub graphemes_short : length GRAPHEME.now ≤ most_bytes
graphemes_short = leb-true (length GRAPHEME.now) most_bytes short
