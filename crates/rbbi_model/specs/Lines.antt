-- Numbers and lines as they are printed. A line is a list of bytes.
use Rattle.std.specs.Prelude.{ℕ, ◌+◌, ◌*◌, List, [], ◌∷◌, ◌++◌, length, take, count_by, if◌then◌else◌, ◌==◌, codes, encode_utf8}
use Rattle.std.specs.List.{flat_map}
use Rattle.std.specs.Fmt.{decimal}
use Rattle.rbbi_model.specs.Places.{count_below}
use Rattle.rbbi_model.specs.Boundaries.{Boundary}
use Rattle.rbbi_model.specs.Tables.{Table}
use Rattle.rbbi_model.specs.SafePairs.{stored_bit}
use Rattle.rbbi_model.specs.Answers.{Reply, Place, Done, Yes, No, Largest, AllOf, Listed, Edited, Outside, Inside, TooLong, Characters}

-- status numbers in decimal, joined by commas
abbrev pub joined_statuses : List ℕ → List ℕ
joined_statuses [] = []
joined_statuses (status ∷ []) = decimal status
joined_statuses (status ∷ next ∷ statuses) = decimal status ++ 44 ∷ joined_statuses (next ∷ statuses)

-- a boundary's place, a space, its statuses and the end of the line
abbrev pub boundary_line : Boundary → List ℕ
boundary_line boundary = decimal boundary.at ++ 32 ∷ joined_statuses boundary.statuses ++ 10 ∷ []

-- a line for each boundary
abbrev pub boundary_lines : List Boundary → List ℕ
boundary_lines boundaries = flat_map boundary_line boundaries

-- the text, and the end of the line
abbrev pub line : List ℕ → List ℕ
line text = text ++ 10 ∷ []

-- the character in UTF-8; line ends, tabs and the backslash are written with a backslash
abbrev pub escaped : ℕ → List ℕ
escaped c =
    if c == 10 then codes "\\n" else (if c == 13 then codes "\\r" else (if c == 9 then codes "\\t" else (if c == 92 then codes "\\\\" else encode_utf8 c)))

-- the line of a reply; of all boundaries, a line for each
abbrev pub reply_lines : Reply → List ℕ
reply_lines (Place place) = line (decimal place)
reply_lines Done = line (codes "done")
reply_lines Yes = line (codes "yes")
reply_lines No = line (codes "no")
reply_lines (Largest status) = line (decimal status)
reply_lines (AllOf statuses) = line (joined_statuses statuses)
reply_lines (Listed boundaries) = boundary_lines boundaries
reply_lines (Edited length) = line (codes "ok " ++ decimal length)
reply_lines Outside = line (codes "outside")
reply_lines Inside = line (codes "inside")
reply_lines TooLong = line (codes "toolong")
reply_lines (Characters text) = line (flat_map escaped text)

-- the lines of all replies
abbrev pub all_reply_lines : List Reply → List ℕ
all_reply_lines replies = flat_map reply_lines replies

-- what `check` prints: how many rules, look-ahead rules and leaves there are
abbrev pub check_line : ℕ → ℕ → ℕ → List ℕ
check_line rules slashes leaves =
    line (codes "rules " ++ decimal rules ++ codes " slashes " ++ decimal slashes ++ codes " leaves " ++ decimal leaves)

-- how many pairs of categories are safe
abbrev pub safe_count : Table → ℕ
safe_count table = count_below (stored_bit table.safe) (table.categories * table.categories)

-- what `compile` prints: the numbers of the table and of its safe pairs
abbrev pub compile_line : Table → List ℕ
compile_line table =
    line (codes "categories " ++ decimal table.categories ++ codes " rows " ++ decimal (length table.rows) ++ codes " lists " ++ decimal (length table.lists)
    ++ codes " slashes " ++ decimal table.slashes ++ codes " safe " ++ decimal (safe_count table))

-- what `conform` prints of a test that differs: its line, and the place of the first mark that does
abbrev pub differs_line : ℕ → ℕ → List ℕ
differs_line test_line place = line (codes "line " ++ decimal test_line ++ codes " place " ++ decimal place)

-- what `conform` prints at its end: how many tests passed, and how many failed
abbrev pub verdicts_line : ℕ → ℕ → List ℕ
verdicts_line passed failed = line (codes "passed " ++ decimal passed ++ codes " failed " ++ decimal failed)

-- what `demo` prints: the length, and how many edits and boundaries there are, and the sum of the answers
abbrev pub demo_line : ℕ → ℕ → ℕ → ℕ → List ℕ
demo_line chars edits boundaries sum =
    line (codes "chars " ++ decimal chars ++ codes " edits " ++ decimal edits ++ codes " boundaries " ++ decimal boundaries ++ codes " sum " ++ decimal sum)

-- a fault of a whole file: its name and the fault's label
abbrev pub fault_line : List ℕ → List ℕ → List ℕ
fault_line name label = line (name ++ codes ": " ++ label)

-- a fault at a byte
abbrev pub fault_line_at : List ℕ → List ℕ → ℕ → List ℕ
fault_line_at name label at = fault_line name (label ++ 32 ∷ decimal at)

-- a fault of a line
abbrev pub fault_line_in : List ℕ → ℕ → List ℕ → List ℕ
fault_line_in name row label = fault_line (name ++ 58 ∷ decimal row) label

-- a fault at a line and a column
abbrev pub fault_line_within : List ℕ → ℕ → ℕ → List ℕ → List ℕ
fault_line_within name row column label = fault_line (name ++ 58 ∷ decimal row ++ 58 ∷ decimal column) label

-- the names under which the rule file and the table file stand in such lines
abbrev pub rules_name : List ℕ
rules_name = codes "rules"

abbrev pub table_name : List ℕ
table_name = codes "table"

-- the line of a file that can't be read
abbrev pub unread_line : List ℕ → List ℕ
unread_line name = line (codes "cannot read " ++ name)

-- the line where the words aren't of a stated form
abbrev pub usage_line : List ℕ
usage_line = line (codes "usage: rbbi COMMAND [OPTIONS] OPERANDS")

-- the line of a place in a text: 1 plus the number of line ends before it
abbrev pub row_of : List ℕ → ℕ → ℕ
row_of x place = 1 + count_by (λ c. c == 10) (take place x)

-- how many characters stand after the last line end, where so many stood before
abbrev pub since_line_end : ℕ → List ℕ → ℕ
since_line_end before [] = before
since_line_end before (c ∷ cs) = since_line_end (if c == 10 then 0 else before + 1) cs

-- the column of a place in a text: 1 plus the number of characters since the last line end before it
abbrev pub column_of : List ℕ → ℕ → ℕ
column_of x place = 1 + since_line_end 0 (take place x)
