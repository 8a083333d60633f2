-- The rows of a property file, of its bytes.
use Rattle.std.specs.Prelude.{ℕ, List, filter_map}
use Rattle.rbbi_text.specs.Bytes.{file_lines}
use Rattle.rbbi_props.specs.Rows.{Row, File}
use Rattle.rbbi_props.specs.LooseForms.{loose}
use Rattle.rbbi_props.specs.RowLines.{property_row}

-- the rows of a file
abbrev pub file_rows : List ℕ → List Row
file_rows bytes = filter_map property_row (file_lines bytes)

-- a file under a name
abbrev pub named_file : List ℕ → List ℕ → File
named_file name bytes = record { name = loose name; rows = file_rows bytes }
