-- The boundaries of a text by a rule of the kit, each with the status of the segment that it ends, and tables that give them.
use Rattle.std.specs.Prelude.{◌≡◌, ℕ, ◌+◌, List, [], ◌∷◌, Option, Some, None, unwrap_or, if◌then◌else◌}
use Rattle.ucd_breaks.specs.WordBreak.{word_break}
use Rattle.ucd_breaks.specs.declared.WordBreak.{WordBreak}
use Rattle.ucd_breaks.specs.declared.WordBreak.TheVariants.{ExtendNumLet, Extend, Format, HebrewLetter, Katakana, ALetter, Numeric, SingleQuote, Zwj}
use Rattle.ucd_script.specs.Script.{script}
use Rattle.ucd_script.specs.declared.Script.{Script}
use Rattle.ucd_script.specs.declared.Script.TheVariants.{Han, Hiragana}
use Rattle.unicode_segmentation.specs.Segments.{Rule}
use Rattle.unicode_segmentation.specs.Sentence.{is_para_sep, is_sa_term, significant, skip, before_close_sp}
use Rattle.rbbi_model.specs.Words.{IsText}
use Rattle.rbbi_model.specs.Boundaries.{Boundary, start}
use Rattle.rbbi_model.specs.Tables.{Table}
use Rattle.rbbi_model.specs.ValidTables.{IsValidTable}
use Rattle.rbbi_model.specs.TableFile.{IsSpelling}
use Rattle.rbbi_model.specs.Searches.{table_boundaries}

-- ---- the status of a segment, by its characters, of which the last comes first

-- a cluster has status 0
abbrev pub grapheme_status : List ℕ → ℕ
grapheme_status cluster = 0

-- of a character that is no digit and no letter: 300 for hiragana, 400 for an ideograph, and else 0
abbrev pub script_kind : Script → ℕ
script_kind Hiragana = 300
script_kind Han = 400
script_kind _ = 0

-- The kind of a character that ends a word: 100 for a digit, 200 for a letter, 300 for katakana. What WB4 skips, a connector and the quote
-- of WB7a have none, and what stands before them counts.
abbrev pub word_kind : WordBreak → Script → Option ℕ
word_kind Extend of = None
word_kind Format of = None
word_kind Zwj of = None
word_kind ExtendNumLet of = None
word_kind SingleQuote of = None
word_kind Numeric of = Some 100
word_kind ALetter of = Some 200
word_kind HebrewLetter of = Some 200
word_kind Katakana of = Some 300
word_kind _ of = Some (script_kind of)

-- the kind of the last character that has one, and 0 where none has
abbrev pub word_status : List ℕ → ℕ
word_status [] = 0
word_status (c ∷ before) = unwrap_or (word_kind (word_break c) (script c)) (word_status before)

-- 0 where the sentence ends by a terminator with what may stand after it (SATerm Close* Sp* ParaSep?), and else 100
abbrev pub sentence_status : List ℕ → ℕ
sentence_status sentence = if is_sa_term (before_close_sp (skip is_para_sep (significant sentence))) then 0 else 100

-- ---- boundaries

-- the boundary at this place, with one status
abbrev pub marked : ℕ → ℕ → Boundary
marked at status = record { at = at; statuses = status ∷ [] }

-- The boundaries from `at` on by the rule. `segment` has the characters between the last boundary and `at`, and `before` all those before
-- `at`, both nearest first. Then come the characters after `at`.
abbrev pub boundaries_from : Rule → (List ℕ → ℕ) → List ℕ → List ℕ → List ℕ → ℕ → List Boundary
boundaries_from rule status segment before [] at = marked at (status segment) ∷ []
boundaries_from rule status segment before (c ∷ behind) at =
    let ended : List Boundary = marked at (status segment) ∷ boundaries_from rule status (c ∷ []) (c ∷ before) behind (at + 1) in
    let longer : List Boundary = boundaries_from rule status (c ∷ segment) (c ∷ before) behind (at + 1) in
    if rule before (c ∷ behind) then ended else longer

-- the boundaries after one at `at`
abbrev pub boundaries_behind : Rule → (List ℕ → ℕ) → List ℕ → List ℕ → ℕ → List Boundary
boundaries_behind rule status before [] at = []
boundaries_behind rule status before (c ∷ behind) at = boundaries_from rule status (c ∷ []) (c ∷ before) behind (at + 1)

-- the boundaries of the text by the rule: its start, and where segments end, with their statuses
abbrev pub boundaries_by : Rule → (List ℕ → ℕ) → List ℕ → List Boundary
boundaries_by rule status x = start ∷ boundaries_behind rule status [] x 0

-- the boundaries of each text by the table are those by the rule, with these statuses
abbrev pub GivesBoundaries : Table → Rule → (List ℕ → ℕ) → Type 0
GivesBoundaries table rule status = (x : List ℕ) → IsText x → table_boundaries table x ≡ boundaries_by rule status x

-- the same of a valid table that the bytes spell
abbrev pub SpellBoundaries : List ℕ → Rule → (List ℕ → ℕ) → Type 0
SpellBoundaries bytes rule status = (table : Table) → IsValidTable table → IsSpelling bytes table → GivesBoundaries table rule status
