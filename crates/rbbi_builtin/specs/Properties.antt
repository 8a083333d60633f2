-- The properties that are built in: their names, those of their values by number, and the number of a code point's value in the kit's tables.
use Rattle.std.specs.Prelude.{ℕ, Bool, true, false, List, map, find, codes, Option, if◌then◌else◌}
use Rattle.ucd_category.specs.GeneralCategory.{general_category, general_category_number}
use Rattle.ucd_script.specs.Script.{script, script_number}
use Rattle.ucd_breaks.specs.GraphemeClusterBreak.{grapheme_cluster_break, grapheme_cluster_break_number}
use Rattle.ucd_breaks.specs.WordBreak.{word_break, word_break_number}
use Rattle.ucd_breaks.specs.SentenceBreak.{sentence_break, sentence_break_number}
use Rattle.ucd_breaks.specs.LineBreak.{line_break, line_break_number}
use Rattle.ucd_east_asian.specs.EastAsianWidth.{east_asian_width, east_asian_width_number}
use Rattle.ucd_derived.specs.IndicConjunctBreak.{indic_conjunct_break, indic_conjunct_break_number}
use Rattle.ucd_emoji.specs.Binary.{is_extended_pictographic}
use Rattle.rbbi_props.specs.LooseForms.{loose}
use Rattle.rbbi_props.specs.RunRows.{is_among, is_named}
use Rattle.rbbi_builtin.specs.declared.property.Property.{Property}
use Rattle.rbbi_builtin.specs.declared.property.Property.TheVariants as property
use Rattle.rbbi_builtin.specs.declared.property.TheConstants.{PROPERTIES}
use Rattle.rbbi_builtin.specs.declared.names.TheConstants as names

-- the names of a property
abbrev pub names_of : Property → List ℕ
names_of property.GeneralCategory = codes "General_Category gc"
names_of property.Script = codes "Script sc"
names_of property.GraphemeClusterBreak = codes "Grapheme_Cluster_Break GCB"
names_of property.WordBreak = codes "Word_Break WB"
names_of property.SentenceBreak = codes "Sentence_Break SB"
names_of property.LineBreak = codes "Line_Break lb"
names_of property.EastAsianWidth = codes "East_Asian_Width ea"
names_of property.IndicConjunctBreak = codes "Indic_Conjunct_Break InCB"
names_of property.ExtendedPictographic = codes "Extended_Pictographic ExtPict"
names_of property.EmojiData = codes "Emoji"

-- the names of its values, by number
abbrev pub values_of : Property → List (List ℕ)
values_of property.GeneralCategory = map (λ n. n.now) names.GENERAL_CATEGORIES
values_of property.Script = map (λ n. n.now) names.SCRIPTS
values_of property.GraphemeClusterBreak = map (λ n. n.now) names.GRAPHEME_CLUSTER_BREAKS
values_of property.WordBreak = map (λ n. n.now) names.WORD_BREAKS
values_of property.SentenceBreak = map (λ n. n.now) names.SENTENCE_BREAKS
values_of property.LineBreak = map (λ n. n.now) names.LINE_BREAKS
values_of property.EastAsianWidth = map (λ n. n.now) names.EAST_ASIAN_WIDTHS
values_of property.IndicConjunctBreak = map (λ n. n.now) names.INDIC_CONJUNCT_BREAKS
values_of property.ExtendedPictographic = map (λ n. n.now) names.BINARY_VALUES
values_of property.EmojiData = map (λ n. n.now) names.EMOJI_DATA

-- the number of the value that the kit's table gives a code point
abbrev pub number_of : Property → ℕ → ℕ
number_of property.GeneralCategory c = general_category_number (general_category c)
number_of property.Script c = script_number (script c)
number_of property.GraphemeClusterBreak c = grapheme_cluster_break_number (grapheme_cluster_break c)
number_of property.WordBreak c = word_break_number (word_break c)
number_of property.SentenceBreak c = sentence_break_number (sentence_break c)
number_of property.LineBreak c = line_break_number (line_break c)
number_of property.EastAsianWidth c = east_asian_width_number (east_asian_width c)
number_of property.IndicConjunctBreak c = indic_conjunct_break_number (indic_conjunct_break c)
number_of property.ExtendedPictographic c = if is_extended_pictographic c then 1 else 0
number_of property.EmojiData c = if is_extended_pictographic c then 1 else 0

-- whether a code point has the value of this name, in loose form
abbrev pub has_value : Property → List ℕ → ℕ → Bool
has_value p value c = is_named (values_of p) (number_of p c) value

-- whether a look-up answers only from files: it has the general category and the script without
abbrev pub wants_file : Property → Bool
wants_file property.GeneralCategory = false
wants_file property.Script = false
wants_file property.GraphemeClusterBreak = true
wants_file property.WordBreak = true
wants_file property.SentenceBreak = true
wants_file property.LineBreak = true
wants_file property.EastAsianWidth = true
wants_file property.IndicConjunctBreak = true
wants_file property.ExtendedPictographic = true
wants_file property.EmojiData = true

-- the property that has this name
abbrev pub property_named : List ℕ → Option Property
property_named name = find (λ p. is_among (names_of p) (loose name)) PROPERTIES
