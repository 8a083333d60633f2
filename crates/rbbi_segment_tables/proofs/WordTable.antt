-- The table that is built in for words gives the boundaries of UAX #29: the kernel computes the tests of the table that the bytes spell.
use Rattle.std.proofs.Common.{◌≡◌, ◌≤◌, ℕ, Bool, true, not, eqb, leb, get_or, List, length, refl, inl}
use Rattle.std.proofs.lemmas.Bool.{leb-true}
use Rattle.unicode_segmentation.specs.Word.{is_word_break}
use Rattle.rbbi_model.specs.Tables.{Table, category_of}
use Rattle.rbbi_model.specs.TableFile.{spelling}
use Rattle.rbbi_text.specs.Bytes.{most_bytes}
use Rattle.rbbi_annexes.specs.Breaks.{SpellTable, SpellBreaksBy}
use Rattle.rbbi_annexes.specs.Statuses.{word_status, SpellBoundaries}
use Rattle.rbbi_annexes.proofs.Categories.{classes_fit}
use Rattle.rbbi_annexes.proofs.Checker.{Entry, values, states_found, entries_found, passes}
use Rattle.rbbi_annexes.proofs.Checked.{first_of, spell_boundaries_by}
use Rattle.rbbi_annexes.proofs.Computing.{table_tests}
use Rattle.rbbi_annexes.proofs.Ends.{words_at_ends}
use Rattle.rbbi_annexes.proofs.Placed.{spell_breaks}
use Rattle.rbbi_annexes.proofs.Words.{Class, class_of, same_class, same_class-true, class_stepped, other_class, Before, same_before, same_before-true}
use Rattle.rbbi_annexes.proofs.Words.{word_monitor, word_tells, word_tests}
use Rattle.rbbi_annexes.proofs.Reading.{two, table_in}
use Rattle.rbbi_annexes.proofs.Valid.{is_valid, valid-true, valid_tests}
use Rattle.rbbi_segment_tables.specs.declared.word.TheConstants.{WORD}

table : Table
table = table_in WORD.now

-- each category has the class of its first code point
classes : List Class
classes = values (λ k. class_of (first_of k table.ranges)) 0 table.categories

-- category 0 is that of the surrogates
lives : ℕ → Bool
lives k = not (eqb k 0)

states : List Before
states = states_found same_before table (word_monitor classes) 4 lives 5000

entries : List (List (Entry Before))
entries = entries_found same_before table (word_monitor classes) 4 lives 50000 states

fit : classes_fit same_class same_class-true class_of class_stepped classes other_class table.categories lives table.ranges ≡ true
unfolding table_tests word_tests table classes lives
fit = refl

agree : passes same_before table (word_monitor classes) 4 lives states entries ≡ true
unfolding table_tests word_tests table classes lives states entries
agree = refl

version : get_or WORD.now 7 0 ≡ 2
version = refl

few : leb (two (get_or WORD.now 16 0) (get_or WORD.now 17 0)) 255 ≡ true
few = refl

short : leb (length WORD.now) most_bytes ≡ true
short = refl

read : table_in WORD.now ≡ table
unfolding table
read = refl

pub word_boundaries : SpellBoundaries WORD.now is_word_break word_status
word_boundaries =
    spell_boundaries_by same_class same_class-true class_of class_stepped other_class same_before same_before-true 4 is_word_break word_status WORD.now
    table lives classes (word_monitor classes) (λ known. word_tells classes (category_of table.ranges) (λ c is. (known c is).2)) states entries read version
    few fit agree

pub words_break : SpellBreaksBy WORD.now is_word_break
words_break = spell_breaks is_word_break word_status words_at_ends WORD.now word_boundaries

valid : is_valid table ≡ true
unfolding table_tests valid_tests table
valid = refl

spelled : WORD.now ≡ spelling table
unfolding table_tests table
spelled = refl

pub words_spelled : SpellTable WORD.now
words_spelled = (table, valid-true table valid, inl spelled)

pub words_short : length WORD.now ≤ most_bytes
words_short = leb-true (length WORD.now) most_bytes short
