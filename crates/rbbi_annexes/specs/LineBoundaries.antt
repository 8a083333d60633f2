-- Line breaks as a rule like those of the kit, and the status of a line.
use Rattle.std.specs.Prelude.{◌≡◌, ℕ, Bool, true, false, ◌&&◌, ◌==◌, List, [], ◌∷◌, Some, if◌then◌else◌}
use Rattle.unicode_segmentation.specs.Segments.{Rule}
use Rattle.rbbi_annexes.specs.declared.lines.rules.Verdict.{Verdict}
use Rattle.rbbi_annexes.specs.declared.lines.rules.Verdict.TheVariants.{MustBreak, MayBreak, NoBreak}
use Rattle.rbbi_annexes.specs.LineNames.{BK, CR, LF, NL}
use Rattle.rbbi_annexes.specs.LineBreaks.{item_of, one_of, line_verdict}

-- a line must or may be broken
abbrev pub breaks_line : Verdict → Bool
breaks_line MustBreak = true
breaks_line MayBreak = true
breaks_line NoBreak = false

-- it must
abbrev pub must_break : Verdict → Bool
must_break MustBreak = true
must_break _ = false

-- The places of a text at which lines begin and end: its start, where the first line begins, and each place at which a line must or may be
-- broken.
abbrev pub is_line_break : Rule
is_line_break [] after = true
is_line_break (last ∷ before) after = breaks_line (line_verdict (last ∷ before) after)

-- 100 if the line ends in one of the characters after which it must be broken (LB4, LB5), and else 0
abbrev pub line_status : List ℕ → ℕ
line_status [] = 0
line_status (last ∷ before) = if one_of (BK ∷ CR ∷ LF ∷ NL ∷ []) (Some (item_of last)) then 100 else 0

-- inside a text a line must be broken exactly where one ends with status 100; `segment` has the characters of the line before its last
abbrev pub MustBreaksHaveStatus100 : Type 0
MustBreaksHaveStatus100 =
    (last : ℕ) (before : List ℕ) (next : ℕ) (after segment : List ℕ) →
    must_break (line_verdict (last ∷ before) (next ∷ after))
    ≡ (is_line_break (last ∷ before) (next ∷ after) && (line_status (last ∷ segment) == 100))
