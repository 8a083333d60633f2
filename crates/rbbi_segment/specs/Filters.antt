-- The filter that is asked for, and the boundaries that it leaves.
use Rattle.std.specs.Prelude.{◌≡◌, ℕ, List, Bool, true, Option, Some, None, Ok}
use Rattle.rbbi_model.specs.Boundaries.{Boundary}
use Rattle.rbbi_model.specs.Tables.{Table}
use Rattle.rbbi_model.specs.Searches.{table_boundaries}
use Rattle.rbbi_filter.specs.AbbreviationFiles.{ReadsAbbreviations}
use Rattle.rbbi_filter.specs.PairFiles.{ReadsPairs}
use Rattle.rbbi_filter.specs.Filters as by
use Rattle.rbbi_filter.specs.declared.filter.Filter.{Filter}
use Rattle.rbbi_filter.specs.declared.filter.Filter.TheVariants.{Suppressing, Turning}
use Rattle.rbbi_filter.specs.declared.pair.Pair.{Pair}
use Rattle.rbbi_segment.specs.Contents.{IsRead}
use Rattle.rbbi_segment.specs.declared.options.Filtering.{Filtering}
use Rattle.rbbi_segment.specs.declared.options.Filtering.TheVariants.{Nothing, Language, Abbreviations, Pairs}

-- the text in which boundaries are looked for
abbrev pub searched : Option Filter → List ℕ → List ℕ
searched None x = x
searched (Some filter) x = by.searched filter x

-- those of its boundaries that are reported
abbrev pub reported : Option Filter → List ℕ → List Boundary → List Boundary
reported None x boundaries = boundaries
reported (Some filter) x boundaries = by.reported filter x boundaries

-- the boundary at this place of the searched text is reported
abbrev pub reports : Option Filter → List ℕ → ℕ → Bool
reports None x at = true
reports (Some filter) x at = by.reports filter x at

-- the boundaries of the text through the filter, where `breaks` are those of a text
abbrev pub through : Option Filter → (List ℕ → List Boundary) → List ℕ → List Boundary
through filter breaks x = reported filter x (breaks (searched filter x))

-- the boundaries of the text by the table, through the filter
abbrev pub boundaries_through : Option Filter → Table → List ℕ → List Boundary
boundaries_through filter table x = through filter (table_boundaries table) x

-- the filter suppresses boundaries after the abbreviations that the bytes list
abbrev pub IsListed : List ℕ → Option Filter → Type 0
IsListed bytes filter = (list : List (List ℕ)) × ReadsAbbreviations bytes (Ok list) × (filter ≡ Some (Suppressing list))

-- the filter turns characters by the pairs that the bytes list
abbrev pub IsPaired : List ℕ → Option Filter → Type 0
IsPaired bytes filter = (pairs : List Pair) × ReadsPairs bytes (Ok pairs) × (filter ≡ Some (Turning pairs))

-- The filter is the one that is asked for, whose file was read. Of the abbreviations that are built in it says that they are some. `left` is
-- what standard input then has.
abbrev pub IsFilterOf : Option (List ℕ → List ℕ) → Option (List ℕ) → Filtering → Option Filter → Option (List ℕ) → Type 0
IsFilterOf contents input Nothing filter left = (filter ≡ None) × (left ≡ input)
IsFilterOf contents input (Language language) filter left = ((bytes : List ℕ) × IsListed bytes filter) × (left ≡ input)
IsFilterOf contents input (Abbreviations name) filter left = (bytes : List ℕ) × IsRead contents input name.now bytes left × IsListed bytes filter
IsFilterOf contents input (Pairs name) filter left = (bytes : List ℕ) × IsRead contents input name.now bytes left × IsPaired bytes filter
