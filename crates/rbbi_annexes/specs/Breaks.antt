-- The places at which a rule of the kit breaks a text, and tables whose boundaries they are.
use Rattle.std.specs.Prelude.{◌≡◌, ℕ, ◌+◌, List, [], ◌∷◌, length, if◌then◌else◌}
use Rattle.unicode_segmentation.specs.Segments.{Rule, cut}
use Rattle.rbbi_model.specs.Words.{IsText}
use Rattle.rbbi_model.specs.Cover.{places}
use Rattle.rbbi_model.specs.Tables.{Table}
use Rattle.rbbi_model.specs.ValidTables.{IsValidTable}
use Rattle.rbbi_model.specs.TableFile.{IsSpelling}
use Rattle.rbbi_model.specs.Searches.{table_boundaries}

-- The places from `at` on at which the rule breaks, in order. The characters before `at` are given nearest first, and then
-- those after it.
abbrev pub breaks_from : Rule → List ℕ → List ℕ → ℕ → List ℕ
breaks_from rule before [] at = if rule before [] then at ∷ [] else []
breaks_from rule before (c ∷ behind) at =
    let further = breaks_from rule (c ∷ before) behind (at + 1) in
    if rule before (c ∷ behind) then at ∷ further else further

-- the places of the text at which the rule breaks
abbrev pub breaks_of : Rule → List ℕ → List ℕ
breaks_of rule x = breaks_from rule [] x 0

-- the boundaries of each text by the table are exactly the places at which the rule breaks
abbrev pub BreaksBy : Table → Rule → Type 0
BreaksBy table rule = (x : List ℕ) → IsText x → places (table_boundaries table x) ≡ breaks_of rule x

-- the bytes spell a valid table
abbrev pub SpellTable : List ℕ → Type 0
SpellTable bytes = (table : Table) × IsValidTable table × IsSpelling bytes table

-- the same as `BreaksBy` of a valid table that the bytes spell
abbrev pub SpellBreaksBy : List ℕ → Rule → Type 0
SpellBreaksBy bytes rule = (table : Table) → IsValidTable table → IsSpelling bytes table → BreaksBy table rule

-- the places at which pieces end that begin at a place and follow one another
abbrev pub ends_from : ℕ → List (List ℕ) → List ℕ
ends_from at [] = []
ends_from at (piece ∷ pieces) = (at + length piece) ∷ ends_from (at + length piece) pieces

-- the places at which the rule breaks are the text's start and the ends of the pieces into which the kit cuts the text by it
abbrev pub BreaksAreEnds : Rule → Type 0
BreaksAreEnds rule = (x : List ℕ) → breaks_of rule x ≡ 0 ∷ ends_from 0 (cut rule [] x [])
