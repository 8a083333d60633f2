-- What a run prints: the lines of the texts that are named, by the table and the filter that are asked for.
use Rattle.std.specs.Prelude.{◌≡◌, ℕ, List, [], ◌∷◌, ◌++◌, Bool, ◌==◌, if◌then◌else◌, length, Option, Some, None, IfSome}
use Rattle.std.specs.Borrow.{Bor}
use Rattle.rbbi_model.specs.Boundaries.{Boundary}
use Rattle.rbbi_model.specs.Tables.{Table}
use Rattle.rbbi_io.specs.Sinks.{Takes}
use Rattle.rbbi_filter.specs.declared.filter.Filter.{Filter}
use Rattle.rbbi_segment.specs.declared.arguments.Meaning.{Meaning}
use Rattle.rbbi_segment.specs.declared.arguments.Meaning.TheVariants.{Asks, Shows, Fails}
use Rattle.rbbi_segment.specs.declared.colors.Colors.{Colors}
use Rattle.rbbi_segment.specs.declared.colors.Surroundings.{Surroundings}
use Rattle.rbbi_segment.specs.declared.options.Asked.{Asked}
use Rattle.rbbi_segment.specs.declared.options.Request.{Request}
use Rattle.rbbi_segment.specs.declared.options.Task.{Task}
use Rattle.rbbi_segment.specs.declared.options.Task.TheVariants.{Check, Lint, Segment}
use Rattle.rbbi_segment.specs.Contents.{IsTextOf}
use Rattle.rbbi_segment.specs.Filters.{through, IsFilterOf}
use Rattle.rbbi_segment.specs.Headings.{heading}
use Rattle.rbbi_segment.specs.Lines.{colors_for, lines_in}
use Rattle.rbbi_segment.specs.Segments.{segments_between}
use Rattle.rbbi_segment.specs.Tables.{IsTableOf, breaks_of}

-- how far a run is: what the sink took, if it tells that, and what standard input has left, if it does
pub record Moment : Type 0 where
  pub taken : Option (List ℕ)
  pub left : Option (List ℕ)

-- by what texts are segmented and printed: the boundaries of each text, the filter, and whether there are colours
pub record Manner : Type 0 where
  pub breaks : List ℕ → List Boundary
  pub filter : Option Filter
  pub colors : Colors

-- the lines of the text's segments that are asked for, in a format that prints each by itself
abbrev pub printed : Request → Manner → List ℕ → Option (List ℕ)
printed request manner x =
    lines_in request.format request.wanted manner.colors x (segments_between request.unit x (through manner.filter manner.breaks x))

-- the heading of a text, if headings are asked for
abbrev pub heading_of : Request → Bool → List ℕ → List ℕ
heading_of request is_first name = if request.has_headings then heading request.format is_first name else []

-- A sink took the heading of the text with this name, and then the text's lines.
abbrev pub TakesHeaded : Request → Manner → Bool → List ℕ → List ℕ → Option (List ℕ) → Option (List ℕ) → Type 0
TakesHeaded request manner is_first name x before now =
    (between : Option (List ℕ)) × Takes before between (heading_of request is_first name) × IfSome (printed request manner x) (Takes between now)

-- A sink took the heading and the lines of the text that the file of this name holds, or of standard input. `texts` says what files hold.
abbrev pub TakesText : Request → Manner → Option (List ℕ → List ℕ) → Bool → List ℕ → Moment → Moment → Type 0
TakesText request manner texts is_first name before now =
    (x : List ℕ) × IsTextOf request.is_lossy texts before.left name x now.left × TakesHeaded request manner is_first name x before.taken now.taken

-- A sink took one text after the other, of these names and no others. `takes` says what taking one does, the first or a later one.
pub data AreTakenInTurn (takes : Bool → List ℕ → Moment → Moment → Type 0) (before : Moment) : List (Bor (List ℕ)) → Moment → Type 0 where
  NoText : AreTakenInTurn takes before [] before
  OneText : (names : List (Bor (List ℕ))) (name : Bor (List ℕ)) (between now : Moment) →
      AreTakenInTurn takes before names between → takes (length names == 0) name.now between now →
      AreTakenInTurn takes before (names ++ name ∷ []) now

-- the table and the filter are those that are asked for, whose files were read; `left` is what standard input then has
abbrev pub AreMeans : Option (List ℕ → List ℕ) → Option (List ℕ) → Request → Table → Option Filter → Option (List ℕ) → Type 0
AreMeans files input request table filter left =
    (between : Option (List ℕ)) × IsTableOf files input request request.basis table between × IsFilterOf files between request.filtering filter left

-- A sink took the lines of the texts that are named, by the table and the filter that are asked for. `files` says what their files hold, and
-- `texts` what those of the texts do.
abbrev pub TakesLinesOf : Request → Colors → Option (List ℕ → List ℕ) → Option (List ℕ → List ℕ) → Moment → Moment → Type 0
TakesLinesOf request colors files texts before now =
    (table : Table) × (filter : Option Filter) × (left : Option (List ℕ)) × AreMeans files before.left request table filter left
    × AreTakenInTurn (TakesText request (record { breaks = breaks_of request.basis table; filter = filter; colors = colors }) texts)
    (record { taken = before.taken; left = left }) request.names.items now

-- the rule file has a table, and a sink took nothing
abbrev pub FindsNoFault : Request → Option (List ℕ → List ℕ) → Moment → Moment → Type 0
FindsNoFault request files before now =
    ((table : Table) × (left : Option (List ℕ)) × IsTableOf files before.left request request.basis table left) × (now.taken ≡ before.taken)

-- What is asked for is done. Of what is explained, and of what is found in rules, nothing is said.
abbrev pub IsDone : Task → Option Asked → Request → Colors → Option (List ℕ → List ℕ) → Option (List ℕ → List ℕ) → Moment → Moment → Type 0
IsDone Segment None request colors files texts before now = TakesLinesOf request colors files texts before now
IsDone Segment (Some asked) request colors files texts before now = Unit {0}
IsDone Check None request colors files texts before now = FindsNoFault request files before now
IsDone Check (Some asked) request colors files texts before now = Unit {0}
IsDone (Lint name why) asked request colors files texts before now = Unit {0}

-- the colours of the output
abbrev pub colors_of : Request → Surroundings → Colors
colors_of request surroundings = colors_for request.color surroundings.output_is_terminal surroundings.no_color

-- What the arguments ask for is done, or help was printed. They ask for something.
abbrev pub IsAnswered : Meaning → Surroundings → Option (List ℕ → List ℕ) → Option (List ℕ → List ℕ) → Moment → Moment → Type 0
IsAnswered (Asks request) surroundings files texts before now =
    IsDone request.task request.explain request (colors_of request surroundings) files texts before now
IsAnswered (Shows text) surroundings files texts before now = Takes before.taken now.taken text.items
IsAnswered (Fails failure) surroundings files texts before now = ⊥
