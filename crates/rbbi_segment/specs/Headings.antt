-- What heads the segments of a text where there are several.
use Rattle.std.specs.Prelude.{ℕ, List, [], ◌∷◌, ◌++◌, Bool, if◌then◌else◌, chars, codes}
use Rattle.rbbi_segment.specs.declared.escapes.Within.TheVariants.{Nothing, Json as InJson}
use Rattle.rbbi_segment.specs.declared.options.Format.{Format}
use Rattle.rbbi_segment.specs.declared.options.Format.TheVariants.{Each, Marked, Lines, Count}
use Rattle.rbbi_segment.specs.declared.options.Layout.TheVariants.{Text, Json, Plain, Null}
use Rattle.rbbi_segment.specs.Lines.{shown_all}

-- the name between arrows
abbrev pub arrows : List ℕ → List ℕ
arrows name = codes "==> " ++ shown_all Nothing (chars name) ++ codes " <=="

-- an empty line before all names but the first
abbrev pub gap : Bool → List ℕ
gap is_first = if is_first then [] else 10 ∷ []

-- the line of a text's name; in JSON an object; where NUL ends segments it ends the name, and no line is empty
abbrev pub heading : Format → Bool → List ℕ → List ℕ
heading (Each Text) is_first name = gap is_first ++ arrows name ++ 10 ∷ []
heading (Each Json) is_first name = codes "{\"file\":\"" ++ shown_all InJson (chars name) ++ codes "\"}\n"
heading (Each Plain) is_first name = gap is_first ++ arrows name ++ 10 ∷ []
heading (Each Null) is_first name = arrows name ++ 0 ∷ []
heading (Marked mark) is_first name = gap is_first ++ arrows name ++ 10 ∷ []
heading (Lines width) is_first name = gap is_first ++ arrows name ++ 10 ∷ []
heading Count is_first name = gap is_first ++ arrows name ++ 10 ∷ []
