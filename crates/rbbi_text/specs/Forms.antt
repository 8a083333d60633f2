-- The characters of a file's text.
use Rattle.std.specs.Prelude.{ℕ, List}
use Rattle.rbbi_text.specs.declared.file_text.Form.{Form}
use Rattle.rbbi_text.specs.declared.file_text.Form.TheVariants.{Ascii, Plain}

-- the characters, in whichever form they are kept
abbrev pub characters_in : Form → List ℕ
characters_in (Ascii x) = x
characters_in (Plain x) = x
