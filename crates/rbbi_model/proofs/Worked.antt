-- Worked examples, which try the definitions that compute.
use Rattle.std.proofs.Common.{◌≡◌, ℕ, ◌*◌, true, false, if◌then◌else◌, ◌==◌, slice_index, List, [], ◌∷◌, length, refl, inl, inr, arith}
use Rattle.std.specs.Prelude.{codes}
use Rattle.std.specs.Fmt.{digits}
use lib.Utf8.{encode}
use Rattle.rbbi_model.specs.declared.unit.Unit.TheVariants.{Chars, Utf8, Utf16}
use Rattle.rbbi_model.specs.Boundaries.{Boundary}
use Rattle.rbbi_model.specs.Tables.{Table}
use Rattle.rbbi_model.specs.Searches.{search_end, look_end, found, table_boundaries}
use Rattle.rbbi_model.specs.Answers.{Characters, Last, Next, Previous, Following, Preceding, IsBoundary, Current, Status, Statuses, Breaks}
use Rattle.rbbi_model.specs.Scripts.{Accepted, Ask, Replace, ShowText, replies_by, edit, opened}
use Rattle.rbbi_model.specs.Plays.{table_replies}
use Rattle.rbbi_model.specs.Runs.{is_anchor, Entry, Run, IsTrueRun, ShowsAfter, ShowsBefore}
use Rattle.rbbi_model.specs.Costs.{forward_cost, tries, back_cost, script_cost}
use Rattle.rbbi_model.specs.TableFile.{spelling, spelling1}
use Rattle.rbbi_model.specs.Lines.{reply_lines, fault_line_at, fault_line_in, fault_line_within, rules_name, table_name, all_reply_lines, boundary_lines}
use Rattle.rbbi_model.specs.Lines.{compile_line, row_of, column_of}

-- the table of the rules `a;`
abbrev pub table_a : Table
table_a =
    record {
      categories = 2;
      slashes = 0;
      ranges = record { start = 0; category = 0 } ∷ record { start = 0x61; category = 1 } ∷ record { start = 0x62; category = 0 } ∷ [];
      lists = (0 ∷ []) ∷ [];
      rows = record { accept = 0; fronts = 0; list = 0 } ∷ record { accept = 0; fronts = 0; list = 0 } ∷ record { accept = 1; fronts = 0; list = 0 } ∷ [];
      cells = 0 ∷ 0 ∷ 0 ∷ 2 ∷ 0 ∷ 0 ∷ [];
      safe = 0x0F ∷ [];
    }

-- its file of version 2 has these 75 bytes
abbrev bytes_a : List ℕ
bytes_a =
    0x52 ∷ 0x42 ∷ 0x42 ∷ 0x49 ∷ 0x54 ∷ 0x42 ∷ 0x4C ∷ 0x02 ∷ 2 ∷ 0 ∷ 3 ∷ 0 ∷ 0 ∷ 0 ∷ 1 ∷ 0 ∷ 3 ∷ 0 ∷ 0 ∷ 0
    ∷ 0 ∷ 0 ∷ 0 ∷ 0 ∷ 0 ∷ 0 ∷ 0x61 ∷ 0 ∷ 0 ∷ 0 ∷ 1 ∷ 0 ∷ 0x62 ∷ 0 ∷ 0 ∷ 0 ∷ 0 ∷ 0
    ∷ 1 ∷ 0 ∷ 0 ∷ 0 ∷ 0 ∷ 0
    ∷ 0 ∷ 0 ∷ 0 ∷ 0 ∷ 0 ∷ 0 ∷ 0 ∷ 0 ∷ 0 ∷ 0
    ∷ 0 ∷ 0 ∷ 0 ∷ 0 ∷ 0 ∷ 0 ∷ 0 ∷ 0 ∷ 0 ∷ 2
    ∷ 1 ∷ 0 ∷ 0 ∷ 0 ∷ 0 ∷ 0 ∷ 0 ∷ 0 ∷ 0 ∷ 0
    ∷ 0x0F ∷ []

-- and its file of version 1 these 81
abbrev bytes1_a : List ℕ
bytes1_a =
    0x52 ∷ 0x42 ∷ 0x42 ∷ 0x49 ∷ 0x54 ∷ 0x42 ∷ 0x4C ∷ 0x01 ∷ 2 ∷ 0 ∷ 3 ∷ 0 ∷ 0 ∷ 0 ∷ 1 ∷ 0 ∷ 3 ∷ 0 ∷ 0 ∷ 0
    ∷ 0 ∷ 0 ∷ 0 ∷ 0 ∷ 0 ∷ 0 ∷ 0x61 ∷ 0 ∷ 0 ∷ 0 ∷ 1 ∷ 0 ∷ 0x62 ∷ 0 ∷ 0 ∷ 0 ∷ 0 ∷ 0
    ∷ 1 ∷ 0 ∷ 0 ∷ 0 ∷ 0 ∷ 0
    ∷ 0 ∷ 0 ∷ 0 ∷ 0 ∷ 0 ∷ 0 ∷ 0 ∷ 0 ∷ 0 ∷ 0 ∷ 0 ∷ 0
    ∷ 0 ∷ 0 ∷ 0 ∷ 0 ∷ 0 ∷ 0 ∷ 0 ∷ 0 ∷ 0 ∷ 0 ∷ 2 ∷ 0
    ∷ 1 ∷ 0 ∷ 0 ∷ 0 ∷ 0 ∷ 0 ∷ 0 ∷ 0 ∷ 0 ∷ 0 ∷ 0 ∷ 0
    ∷ 0x0F ∷ []

spelled_a : (spelling table_a ≡ bytes_a) × (spelling1 table_a ≡ bytes1_a)
spelled_a = (refl, refl)

length_a : (length (spelling table_a) ≡ 75) × (length (spelling1 table_a) ≡ 81)
length_a = (refl, refl)

compiled_a : compile_line table_a ≡ codes "categories 2 rows 3 lists 1 slashes 0 safe 4\n"
unfolding digits
compiled_a = refl

-- the text `ab`
abbrev pub ab : List ℕ
ab = codes "ab"

-- the search from 0 reads `b` too, and finds the `a`
search_from_0 : (search_end table_a ab 0 ≡ 2) × (look_end table_a ab 0 ≡ 2) × (found table_a ab 0 ≡ record { at = 1; list = 0 })
search_from_0 = (refl, refl, refl)

-- the search from 1 finds nothing, and so one character
search_from_1 : (search_end table_a ab 1 ≡ 2) × (look_end table_a ab 1 ≡ 2) × (found table_a ab 1 ≡ record { at = 2; list = 0 })
search_from_1 = (refl, refl, refl)

-- over `a` alone the search would read on
search_at_end : (search_end table_a (codes "a") 0 ≡ 1) × (look_end table_a (codes "a") 0 ≡ 2)
search_at_end = (refl, refl)

boundaries_of_ab : boundary_lines (table_boundaries table_a ab) ≡ codes "0 0\n1 0\n2 0\n"
unfolding digits
boundaries_of_ab = refl

-- questions about the empty text
empty_text : all_reply_lines (table_replies table_a Chars [] (Ask Breaks ∷ Ask (Following 0) ∷ Ask (Preceding 0) ∷ Ask (IsBoundary 0) ∷ Ask Last ∷ []))
    ≡ codes "0 0\ndone\ndone\nyes\n0\n"
unfolding digits
empty_text = refl

-- `a`, U+00E9, U+1D11E and `b`: questions by bytes and by numbers of 16 bits, an edit inside of a character, and its new lengths
abbrev four : List ℕ
four = 0x61 ∷ 0xE9 ∷ 0x1D11E ∷ 0x62 ∷ []

by_bytes : all_reply_lines (table_replies table_a Utf8 four (Ask Breaks ∷ Ask (Following 1) ∷ Ask (IsBoundary 2) ∷ Ask Current ∷ Ask (Preceding 6)
    ∷ Replace 2 1 [] ∷ Replace 1 2 [] ∷ Replace 6 1 [] ∷ Ask Last ∷ []))
    ≡ codes "0 0\n1 0\n3 0\n7 0\n8 0\n3\nno\n3\n3\ninside\nok 6\noutside\n6\n"
unfolding digits
by_bytes = refl

by_utf16 : all_reply_lines (table_replies table_a Utf16 four (Ask Breaks ∷ Ask (IsBoundary 3) ∷ Ask (Following 3) ∷ Ask (Preceding 3) ∷ []))
    ≡ codes "0 0\n1 0\n2 0\n4 0\n5 0\nno\n4\n2\n"
unfolding digits
by_utf16 = refl

-- what is asked inside of a character costs as much as at the next place
cost_inside : (script_cost table_a Utf8 four (Ask (IsBoundary 2) ∷ []) ≡ script_cost table_a Chars four (Ask (IsBoundary 2) ∷ [])) ×
    (script_cost table_a Utf8 four (Ask (Preceding 4) ∷ []) ≡ script_cost table_a Chars four (Ask (Preceding 3) ∷ []))
cost_inside = (refl, refl)

abbrev bound : ℕ → ℕ → Boundary
bound at status = record { at = at; statuses = status ∷ [] }

-- the boundaries of `can't 32.3.` by rules for words, of the same with `-` for the quote, and of the second without a change
abbrev before_edit : List Boundary
before_edit = bound 0 0 ∷ bound 5 200 ∷ bound 6 0 ∷ bound 10 100 ∷ bound 11 0 ∷ []

abbrev after_edit : List Boundary
after_edit = bound 0 0 ∷ bound 3 200 ∷ bound 4 0 ∷ bound 5 200 ∷ bound 6 0 ∷ bound 10 100 ∷ bound 11 0 ∷ []

-- the boundaries of each of the two texts, told apart by the character at 3
abbrev by_hand : List ℕ → List Boundary
by_hand x = if slice_index x 3 == 45 then after_edit else before_edit

words_script : all_reply_lines (replies_by edit by_hand (opened (codes "can't 32.3."))
    (Ask (Following 2) ∷ Ask Status ∷ Ask (Preceding 10) ∷ Ask (IsBoundary 7) ∷ Ask Current ∷ Replace 3 1 (codes "-")
    ∷ Ask Previous ∷ Ask Next ∷ Ask Status ∷ Ask Next ∷ Ask Statuses ∷ ShowText ∷ Replace 11 1 [] ∷ []))
    ≡ codes "5\n200\n6\nno\n10\nok 11\ndone\n3\n200\n4\n0\ncan-t 32.3.\noutside\n"
unfolding digits encode
words_script = refl

-- a place and a line in a text of two lines
place_in_lines : (row_of (codes "ab\ncd") 4 ≡ 2) × (column_of (codes "ab\ncd") 4 ≡ 2) × (row_of (codes "ab") 1 ≡ 1) × (column_of (codes "ab") 1 ≡ 2)
place_in_lines = (refl, refl, refl, refl)

-- The cost forward from 0 is the place itself and the two characters that its search reads. From 1 the walk back is one longer,
-- and a second search reads one character.
forward_costs : (forward_cost table_a ab 0 ≡ 3) × (forward_cost table_a ab 1 ≡ 5)
forward_costs = (refl, refl)

-- the text `abab`, in which each place but the last two is an anchor
abbrev abab : List ℕ
abab = codes "abab"

anchors : (is_anchor table_a abab 2 ≡ true) × (is_anchor table_a abab 3 ≡ false)
anchors = (refl, refl)

-- The cost forward from 3 begins at the anchor 2. The cost back from 4 is one try at 1, from which 3 is found: twice three
-- places, and searches that read 1, 2 and 1.
costs_in_abab : (forward_cost table_a abab 3 ≡ 5) × (tries table_a abab 4 ≡ 1 ∷ []) × (back_cost table_a abab 4 ≡ 10)
costs_in_abab = (refl, refl, refl)

-- a repeated question costs nothing, but where the answer was 0 it is charged again
cost_of_scripts : (script_cost table_a Chars ab (Ask (Following 0) ∷ Ask (Following 0) ∷ ShowText ∷ []) ≡ 5) ×
    (script_cost table_a Chars ab (Ask (Preceding 1) ∷ Ask (Preceding 1) ∷ []) ≡ 2 * back_cost table_a ab 1)
cost_of_scripts = (refl, refl)

-- the table of the rules `a+ / b; b;`
abbrev pub table_aab : Table
table_aab =
    record {
      categories = 3;
      slashes = 1;
      ranges = record { start = 0; category = 0 } ∷ record { start = 0x61; category = 1 } ∷ record { start = 0x62; category = 2 } ∷ record
          { start = 0x63; category = 0 } ∷ [];
      lists = (0 ∷ []) ∷ [];
      rows = record { accept = 0; fronts = 0; list = 0 } ∷ record { accept = 0; fronts = 0; list = 0 } ∷ record { accept = 0; fronts = 1; list = 0 } ∷ record
          { accept = 1; fronts = 0; list = 0 } ∷ record { accept = 2; fronts = 0; list = 0 } ∷ [];
      cells = 0 ∷ 0 ∷ 0 ∷ 0 ∷ 2 ∷ 3 ∷ 0 ∷ 2 ∷ 4 ∷ 0 ∷ 0 ∷ 0 ∷ 0 ∷ 0 ∷ 0 ∷ [];
      safe = 0xCF ∷ 0x01 ∷ [];
    }

compiled_aab : compile_line table_aab ≡ codes "categories 3 rows 5 lists 1 slashes 1 safe 7\n"
unfolding digits
compiled_aab = refl

-- the look-ahead cut, and then a whole match
boundaries_of_aab : boundary_lines (table_boundaries table_aab (codes "aab")) ≡ codes "0 0\n2 0\n3 0\n"
unfolding digits
boundaries_of_aab = refl

-- a run kept over `ab`: both boundaries past the anchor 0, each with how far the searches up to it have looked
abbrev kept_at : ℕ → Entry
kept_at place = record { at = place; status = 0; reach = 2 }

abbrev run_ab : Run
run_ab = record { anchor = 0; entries = kept_at 1 ∷ kept_at 2 ∷ []; leads = true }

run_ab_true : IsTrueRun table_a ab run_ab
run_ab_true =
    record {
      anchor = inl refl;
      some = omega arith;
      few = omega arith;
      consecutive = record { before = record { at = 0; statuses = 0 ∷ [] } ∷ []; after = []; whole = refl };
      places = (inl refl, (inl refl, tt));
      reach_enough = (omega arith, (omega arith, tt));
      reach_within = (omega arith, (omega arith, tt));
      reaches_rise = (omega arith, tt);
      leads = λ _. (λ low. low, (λ low. low, (λ low. omega arith, tt)));
    }

-- it shows the first boundary past 0, since it leads, that past 1, and the last one before 2
shows_past_0 : ShowsAfter run_ab 0 1
shows_past_0 =
    record { before = []; entry = kept_at 1; after = kept_at 2 ∷ []; whole = refl; at = refl; past = omega arith; nearest = inr (refl, refl, omega arith) }

shows_past_1 : ShowsAfter run_ab 1 2
shows_past_1 =
    record { before = kept_at 1 ∷ []; entry = kept_at 2; after = []; whole = refl; at = refl; past = omega arith; nearest = inl (omega arith) }

shows_before_2 : ShowsBefore ab run_ab 2 1
shows_before_2 =
    record { before = []; entry = kept_at 1; after = kept_at 2 ∷ []; whole = refl; at = refl; short_of = omega arith; nearest = inl (omega arith) }

-- in the reply to `text` a line end and a backslash are written with a backslash
escapes : reply_lines (Characters (97 ∷ 10 ∷ 92 ∷ [])) ≡ 97 ∷ 92 ∷ 110 ∷ 92 ∷ 92 ∷ 10 ∷ []
unfolding encode
escapes = refl

-- lines of faults
fault_lines : (fault_line_within rules_name 1 13 (codes "Redefined") ≡ codes "rules:1:13: Redefined\n") ×
    (fault_line_at table_name (codes "Short") 7 ≡ codes "table: Short 7\n") × (fault_line_in (codes "t.txt") 3 (codes "BadLine") ≡ codes "t.txt:3: BadLine\n")
unfolding digits
fault_lines = (refl, refl, refl)

-- the new length of an edit counts what is left and what is put there
new_length : edit (97 ∷ 98 ∷ 99 ∷ []) 1 2 (100 ∷ 101 ∷ []) ≡ Accepted (97 ∷ 100 ∷ 101 ∷ []) 3
new_length = refl
