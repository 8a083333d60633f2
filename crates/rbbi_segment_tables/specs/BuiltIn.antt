-- The built-in tables: what they are made of, and the boundaries that they give by UAX #29 and UAX #14.
use Rattle.std.specs.Prelude.{◌≡◌, ℕ, true, List}
use Rattle.unicode_segmentation.specs.Grapheme.{is_grapheme_break}
use Rattle.unicode_segmentation.specs.Sentence.{is_sentence_break}
use Rattle.unicode_segmentation.specs.Word.{is_word_break}
use Rattle.rbbi_model.specs.Words.{IsText}
use Rattle.rbbi_model.specs.Boundaries.{Boundary}
use Rattle.rbbi_model.specs.TableFile.{IsSpelling}
use Rattle.rbbi_model.specs.Tables.{Table}
use Rattle.rbbi_model.specs.Searches.{table_boundaries}
use Rattle.rbbi_annexes.specs.LineBoundaries.{is_line_break, line_status}
use Rattle.rbbi_annexes.specs.Statuses.{grapheme_status, word_status, sentence_status, boundaries_by}
use Rattle.rbbi_segment_tables.specs.declared.loading.Kind.{Kind}
use Rattle.rbbi_segment_tables.specs.declared.loading.Kind.TheVariants.{Grapheme, Word, Sentence, Line}
use Rattle.rbbi_segment_tables.specs.declared.loading.Kind.TheVariants.{LineStrict, LineNormal, LineLoose, LineCj, LineNormalCj, LineLooseCj}
use Rattle.rbbi_segment_tables.specs.declared.grapheme.TheConstants.{GRAPHEME}
use Rattle.rbbi_segment_tables.specs.declared.word.TheConstants.{WORD}
use Rattle.rbbi_segment_tables.specs.declared.sentence.TheConstants.{SENTENCE}
use Rattle.rbbi_segment_tables.specs.declared.line.TheConstants.{LINE}
use Rattle.rbbi_segment_tables.specs.declared.line_normal.TheConstants.{LINE_NORMAL}
use Rattle.rbbi_segment_tables.specs.declared.line_loose.TheConstants.{LINE_LOOSE}
use Rattle.rbbi_segment_tables.specs.declared.line_cj.TheConstants.{LINE_CJ}
use Rattle.rbbi_segment_tables.specs.declared.line_normal_cj.TheConstants.{LINE_NORMAL_CJ}
use Rattle.rbbi_segment_tables.specs.declared.line_loose_cj.TheConstants.{LINE_LOOSE_CJ}

-- the bytes of the table file of a kind
abbrev pub bytes_of : Kind → List ℕ
bytes_of Grapheme = GRAPHEME.now
bytes_of Word = WORD.now
bytes_of Sentence = SENTENCE.now
bytes_of Line = LINE.now
bytes_of LineStrict = LINE.now
bytes_of LineNormal = LINE_NORMAL.now
bytes_of LineLoose = LINE_LOOSE.now
bytes_of LineCj = LINE_CJ.now
bytes_of LineNormalCj = LINE_NORMAL_CJ.now
bytes_of LineLooseCj = LINE_LOOSE_CJ.now

-- The boundaries of the text, with statuses: by the annex, which for tailored lines is none. There they are those of the table.
abbrev pub boundaries_of : Kind → Table → List ℕ → List Boundary
boundaries_of Grapheme table x = boundaries_by (is_grapheme_break true) grapheme_status x
boundaries_of Word table x = boundaries_by is_word_break word_status x
boundaries_of Sentence table x = boundaries_by is_sentence_break sentence_status x
boundaries_of Line table x = boundaries_by is_line_break line_status x
boundaries_of LineStrict table x = boundaries_by is_line_break line_status x
boundaries_of LineNormal table x = table_boundaries table x
boundaries_of LineLoose table x = table_boundaries table x
boundaries_of LineCj table x = table_boundaries table x
boundaries_of LineNormalCj table x = table_boundaries table x
boundaries_of LineLooseCj table x = table_boundaries table x

-- the bytes of the kind spell the table, and the boundaries of each text by the table are those of the kind
abbrev pub IsBuiltIn : Kind → Table → Type 0
IsBuiltIn kind table =
    IsSpelling (bytes_of kind) table × ((x : List ℕ) → IsText x → table_boundaries table x ≡ boundaries_of kind table x)
