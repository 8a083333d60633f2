-- The table that is built in for sentences gives the boundaries of UAX #29: the kernel computes the tests of the table that the bytes spell.
use Rattle.std.proofs.Common.{◌≡◌, ◌≤◌, ℕ, Bool, true, not, eqb, leb, get_or, List, length, refl, inl}
use Rattle.ucd_breaks.specs.declared.SentenceBreak.{SentenceBreak}
use Rattle.ucd_breaks.specs.declared.SentenceBreak.TheVariants.{Other}
use Rattle.std.proofs.lemmas.Bool.{leb-true}
use Rattle.unicode_segmentation.specs.Sentence.{is_sentence_break}
use Rattle.rbbi_model.specs.Tables.{Table, category_of}
use Rattle.rbbi_model.specs.TableFile.{spelling}
use Rattle.rbbi_text.specs.Bytes.{most_bytes}
use Rattle.rbbi_annexes.specs.Breaks.{SpellTable, SpellBreaksBy}
use Rattle.rbbi_annexes.specs.Statuses.{sentence_status, SpellBoundaries}
use Rattle.rbbi_annexes.proofs.Categories.{classes_fit}
use Rattle.rbbi_annexes.proofs.Checker.{Entry, values, states_found, entries_found, passes}
use Rattle.rbbi_annexes.proofs.Checked.{first_of, spell_boundaries_by}
use Rattle.rbbi_annexes.proofs.Computing.{table_tests}
use Rattle.rbbi_annexes.proofs.Ends.{sentences_at_ends}
use Rattle.rbbi_annexes.proofs.Placed.{spell_breaks}
use Rattle.rbbi_annexes.proofs.Sentences.{class_of, same_class, same_class-true, class_stepped, Before, same_before, same_before-true}
use Rattle.rbbi_annexes.proofs.Sentences.{sentence_monitor, sentence_tells, sentence_tests}
use Rattle.rbbi_annexes.proofs.Reading.{two, table_in}
use Rattle.rbbi_annexes.proofs.Valid.{is_valid, valid-true, valid_tests}
use Rattle.rbbi_segment_tables.specs.declared.sentence.TheConstants.{SENTENCE}

table : Table
table = table_in SENTENCE.now

-- each category has the class of its first code point
classes : List SentenceBreak
classes = values (λ k. class_of (first_of k table.ranges)) 0 table.categories

-- category 0 is that of the surrogates
lives : ℕ → Bool
lives k = not (eqb k 0)

states : List Before
states = states_found same_before table (sentence_monitor classes) 2 lives 5000

entries : List (List (Entry Before))
entries = entries_found same_before table (sentence_monitor classes) 2 lives 50000 states

fit : classes_fit same_class same_class-true class_of class_stepped classes Other table.categories lives table.ranges ≡ true
unfolding table_tests sentence_tests table classes lives
fit = refl

agree : passes same_before table (sentence_monitor classes) 2 lives states entries ≡ true
unfolding table_tests sentence_tests table classes lives states entries
agree = refl

version : get_or SENTENCE.now 7 0 ≡ 2
version = refl

few : leb (two (get_or SENTENCE.now 16 0) (get_or SENTENCE.now 17 0)) 255 ≡ true
few = refl

short : leb (length SENTENCE.now) most_bytes ≡ true
short = refl

read : table_in SENTENCE.now ≡ table
unfolding table
read = refl

pub sentence_boundaries : SpellBoundaries SENTENCE.now is_sentence_break sentence_status
sentence_boundaries =
    spell_boundaries_by same_class same_class-true class_of class_stepped Other same_before same_before-true 2 is_sentence_break sentence_status
    SENTENCE.now table lives classes (sentence_monitor classes) (λ known. sentence_tells classes (category_of table.ranges) (λ c is. (known c is).2))
    states entries read version few fit agree

pub sentences_break : SpellBreaksBy SENTENCE.now is_sentence_break
sentences_break = spell_breaks is_sentence_break sentence_status sentences_at_ends SENTENCE.now sentence_boundaries

valid : is_valid table ≡ true
unfolding table_tests valid_tests table
valid = refl

spelled : SENTENCE.now ≡ spelling table
unfolding table_tests table
spelled = refl

pub sentences_spelled : SpellTable SENTENCE.now
sentences_spelled = (table, valid-true table valid, inl spelled)

pub sentences_short : length SENTENCE.now ≤ most_bytes
sentences_short = leb-true (length SENTENCE.now) most_bytes short
