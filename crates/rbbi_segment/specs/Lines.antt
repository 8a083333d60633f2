-- What is printed of a segment by itself.
use Rattle.std.specs.Prelude.{◌≡◌, ℕ, List, [], ◌∷◌, ◌++◌, Bool, true, false, not, Option, Some, None, if◌then◌else◌, ◌&&◌, slice_range, codes}
use Rattle.std.specs.List.{flat_map}
use Rattle.std.specs.Fmt.{decimal}
use Rattle.rbbi_io.specs.Sinks.{IsBuffered}
use Rattle.rbbi_segment.specs.declared.colors.Colors.{Colors}
use Rattle.rbbi_segment.specs.declared.colors.Color.{Color}
use Rattle.rbbi_segment.specs.declared.colors.Color.TheVariants.{Faint, Mark, Fault}
use Rattle.rbbi_segment.specs.declared.colors.When.{When}
use Rattle.rbbi_segment.specs.declared.colors.When.TheVariants.{Auto, Always, Never}
use Rattle.rbbi_segment.specs.declared.escapes.Within.{Within}
use Rattle.rbbi_segment.specs.declared.escapes.Within.TheVariants.{Quotes, Json as InJson, Bare}
use Rattle.rbbi_segment.specs.declared.only.Wanted.{Wanted}
use Rattle.rbbi_segment.specs.declared.options.Format.{Format}
use Rattle.rbbi_segment.specs.declared.options.Format.TheVariants.{Each, Marked, Lines, Count}
use Rattle.rbbi_segment.specs.declared.options.Layout.{Layout}
use Rattle.rbbi_segment.specs.declared.options.Layout.TheVariants.{Text, Json, Plain, Null}
use Rattle.rbbi_segment.specs.declared.quoted.Style.{Style}
use Rattle.rbbi_segment.specs.declared.quoted.Quoted.{Quoted}
use Rattle.rbbi_segment.specs.declared.segments.Segment.{Segment}
use Rattle.rbbi_segment.specs.Escapes.{shown}
use Rattle.rbbi_segment.specs.Wanted.{wants}

-- whether there are colours in what goes to a terminal, or not to one
abbrev pub colors_for : When → Bool → Bool → Colors
colors_for Auto is_terminal no_color = record { are_on = is_terminal && not no_color }
colors_for Always is_terminal no_color = record { are_on = true }
colors_for Never is_terminal no_color = record { are_on = false }

-- what begins a colour, as a terminal reads it
abbrev pub code_of : Color → List ℕ
code_of Faint = 27 ∷ codes "[2m"
code_of Mark = 27 ∷ codes "[1;36m"
code_of Fault = 27 ∷ codes "[1;31m"

-- what begins a colour, and what ends it, if there are colours
abbrev pub color_begin : Colors → Color → List ℕ
color_begin colors color = if colors.are_on then code_of color else []

abbrev pub color_end : Colors → List ℕ
color_end colors = if colors.are_on then 27 ∷ codes "[0m" else []

-- where the segment starts and ends in the unit, and its status, separated by spaces
abbrev pub plain_head : Segment → List ℕ
plain_head segment = decimal segment.start_offset ++ (32 ∷ decimal segment.end_offset) ++ (32 ∷ decimal segment.status)

-- an object of JSON up to its text
abbrev pub json_head : Segment → List ℕ
json_head segment =
    codes "{\"start\":" ++ decimal segment.start_offset ++ codes ",\"end\":" ++ decimal segment.end_offset
    ++ codes ",\"status\":" ++ decimal segment.status ++ codes ",\"text\":\""

-- the line of a segment up to its text
abbrev pub text_head : Colors → Segment → List ℕ
text_head colors segment = color_begin colors Faint ++ plain_head segment ++ color_end colors ++ codes " \""

-- what stands before the characters of a segment
abbrev pub head : Layout → Colors → Segment → List ℕ
head Text colors segment = text_head colors segment
head Json colors segment = json_head segment
head Plain colors segment = []
head Null colors segment = []

-- how characters stand in a line
abbrev pub within : Layout → Within
within Text = Quotes
within Json = InJson
within Plain = Bare
within Null = Bare

-- characters as they stand there
abbrev pub shown_all : Within → List ℕ → List ℕ
shown_all within xs = flat_map (shown within) xs

-- what follows the characters of a segment
abbrev pub tail : Layout → List ℕ
tail Text = codes "\"\n"
tail Json = codes "\"}\n"
tail Plain = codes "\n"
tail Null = 0 ∷ []

-- A segment by itself: in a line where it starts and ends in the unit, its status, and its characters in quotes, or its characters as
-- they are.
abbrev pub line : Style → List ℕ → Segment → List ℕ
line style characters segment =
    head style.layout style.colors segment ++ shown_all (within style.layout) characters ++ tail style.layout

-- the line of a segment with these characters, if it is asked for
abbrev pub line_if_wanted : Style → List ℕ → Segment → List ℕ
line_if_wanted style characters segment = if wants style.wanted characters segment.status then line style characters segment else []

-- a segment was taken: its line was written or waits
pub record TakesLine (old : Quoted) (before : Option (List ℕ)) (characters : List ℕ) (segment : Segment) (new : Quoted)
    (now : Option (List ℕ)) : Type 0 where
  pub same : new.style ≡ old.style
  pub put : IsBuffered before now (old.made.items ++ line_if_wanted old.style characters segment) new.made.items

-- what waited was written, or waits still
pub record PutsWaiting (old : Quoted) (before : Option (List ℕ)) (new : Quoted) (now : Option (List ℕ)) : Type 0 where
  pub same : new.style ≡ old.style
  pub put : IsBuffered before now old.made.items new.made.items

-- the line of a segment of the text, if it is asked for
abbrev pub line_of : Style → List ℕ → Segment → List ℕ
line_of style x segment = line_if_wanted style (slice_range x segment.start segment.end) segment

-- the lines of all segments that are asked for
abbrev pub lines : Style → List ℕ → List Segment → List ℕ
lines style x segments = flat_map (line_of style x) segments

-- the lines of all segments in a format that prints each by itself
abbrev pub lines_in : Format → Wanted → Colors → List ℕ → List Segment → Option (List ℕ)
lines_in (Each layout) wanted colors x segments = Some (lines (record { layout = layout; wanted = wanted; colors = colors }) x segments)
lines_in (Marked mark) wanted colors x segments = None
lines_in (Lines width) wanted colors x segments = None
lines_in Count wanted colors x segments = None
