-- What stands between a text and its boundaries, from the bytes of a filter file; and the boundaries and the replies that are reported.
use Rattle.std.specs.Prelude.{◌≡◌, ℕ, List, Option, Some, None}
use Rattle.rbbi_model.specs.declared.unit.Unit.{Unit as TextUnit}
use Rattle.rbbi_model.specs.Boundaries.{Boundary, AreBoundaries}
use Rattle.rbbi_model.specs.Tables.{Table}
use Rattle.rbbi_model.specs.Answers.{Reply}
use Rattle.rbbi_model.specs.Plays.{AreMeasured, AreReplies}
use Rattle.rbbi_model.specs.Scripts.{Command, edit, opened, AreRepliesBy}
use Rattle.rbbi_session.specs.Walks.{Kind}
use Rattle.rbbi_session.specs.UnitWalks.{unit_kind}
use Rattle.rbbi_script.specs.Performing.{replies_in}
use Rattle.rbbi_filter.specs.AbbreviationFiles.{ReadsAbbreviations}
use Rattle.rbbi_filter.specs.PairFiles.{ReadsPairs}
use Rattle.rbbi_filter.specs.declared.filter.Filter.{Filter}
use Rattle.rbbi_filter.specs.declared.filter.Filter.TheVariants.{Suppressing, Turning}
use Rattle.rbbi_filter.specs.Filters.{AreBoundariesThrough}
use Rattle.rbbi_filter.specs.FilterSessions.{filter_kind}
use Rattle.rbbi_command.specs.declared.words.setting.FilterKind.{FilterKind}
use Rattle.rbbi_command.specs.declared.words.setting.FilterKind.TheVariants.{Abbreviations, Pairs}
use Rattle.rbbi_command.specs.declared.inputs.Input.{Input}
use Rattle.rbbi_command.specs.Settings.{Options}
use Rattle.rbbi_command.specs.Inputs.{Inputs}
use Rattle.rbbi_command.specs.Stages.{Stage, followed_by, gives}
use Rattle.rbbi_tool.specs.Scripts.{lines_stage}
use Rattle.rbbi_tool.specs.Properties.{properties_stage}
use Rattle.rbbi_tool.specs.Basis.{Basis, ByRules, ByTable, basis_stage}

-- the filter of a file of abbreviations, or of pairs
abbrev pub filter_stage : FilterKind → Input → Stage Filter
filter_stage Abbreviations file = followed_by (lines_stage (ReadsAbbreviations file.bytes) file.name) (λ list. gives (Suppressing list))
filter_stage Pairs file = followed_by (lines_stage (ReadsPairs file.bytes) file.name) (λ pairs. gives (Turning pairs))

-- what boundaries come by, and through which filter they are reported, if there is one
pub record FilteredBasis : Type 0 where
  pub filter : Option Filter
  pub basis : Basis

-- what boundaries come by, after a filter or none
abbrev pub behind_filter : Options → Inputs → Option Filter → Stage FilteredBasis
behind_filter options inputs filter = followed_by (basis_stage options inputs) (λ basis. gives (record { filter = filter; basis = basis }))

-- what boundaries come by; where a filter file is named, its filter comes before, and after the property files
abbrev pub filtered_by : Option FilterKind → Options → Inputs → Stage FilteredBasis
filtered_by None options inputs = behind_filter options inputs None
filtered_by (Some kind) options inputs =
    followed_by (properties_stage options.properties inputs.properties)
    (λ _. followed_by (filter_stage kind inputs.filter) (λ filter. behind_filter options inputs (Some filter)))

abbrev pub filtered_stage : Options → Inputs → Stage FilteredBasis
filtered_stage options inputs = filtered_by options.filter options inputs

-- what is reported of texts by a table: in the unit, or through the filter, with places in characters
abbrev pub kind_in : Option Filter → TextUnit → Table → Kind
kind_in None unit table = unit_kind table unit
kind_in (Some filter) unit table = filter_kind filter table

-- these are the boundaries of the text that are reported
abbrev pub AreReportedBy : Basis → Option Filter → TextUnit → List ℕ → List Boundary → Type 0
AreReportedBy (ByRules rules) None unit x boundaries = AreMeasured unit (AreBoundaries rules) x boundaries
AreReportedBy (ByRules rules) (Some filter) unit x boundaries = AreBoundariesThrough filter rules x boundaries
AreReportedBy (ByTable table) filter unit x boundaries = boundaries ≡ (kind_in filter unit table).boundaries x

-- these are the replies to the commands over the text, which the commands edit, by the boundaries that are reported
abbrev pub AreRepliesBasedOn : Basis → Option Filter → TextUnit → List ℕ → List Command → List Reply → Type 0
AreRepliesBasedOn (ByRules rules) None unit x commands replies = AreReplies rules unit x commands replies
AreRepliesBasedOn (ByRules rules) (Some filter) unit x commands replies =
    AreRepliesBy edit (AreBoundariesThrough filter rules) (opened x) commands replies
AreRepliesBasedOn (ByTable table) filter unit x commands replies = replies ≡ replies_in (kind_in filter unit table) (opened x) commands
