-- What leaving a piece out of a rule file changes.
use Rattle.std.specs.Prelude.{ℕ, Bool, List}
use Rattle.rbbi_model.specs.Canonical.{AreMarkedAlike}
use Rattle.rbbi_model.specs.Tables.{Table}
use Rattle.rbbi_props.specs.Rows.{File}
use Rattle.rbbi_compile.specs.Tables.{CompilesTo, HasFault}
use Rattle.rbbi_canon.specs.Differences.{TellsApart}
use Rattle.rbbi_lint.specs.declared.effect.Effect.{Effect}
use Rattle.rbbi_lint.specs.declared.effect.Effect.TheVariants.{Nothing, Marks, Fault}
use Rattle.rbbi_lint.specs.declared.piece.Piece.{Piece}
use Rattle.rbbi_lint.specs.Blanks.{IsBlanked}

-- What a text comes to in place of one with this table: a table with the same marks after each text that isn't empty, one with
-- other marks after a word, or a fault.
abbrev pub ComesTo : List File → Bool → Table → List ℕ → Effect → Type 0
ComesTo files ignored table y Nothing = (other : Table) × CompilesTo files ignored y other × AreMarkedAlike table other
ComesTo files ignored table y (Marks word) = (other : Table) × CompilesTo files ignored y other × TellsApart table other word
ComesTo files ignored table y (Fault error) = HasFault files ignored y error

-- Leaving the piece out of the text x, which has this table, has this effect: with spaces in its place the text comes to that.
abbrev pub HasEffect : List File → Bool → List ℕ → Table → Piece → Effect → Type 0
HasEffect files ignored x table piece effect = (y : List ℕ) × IsBlanked piece.from piece.to x y × ComesTo files ignored table y effect

-- leaving the piece out changes nothing: after each text that isn't empty the marks are the same
abbrev pub ChangesNothing : List File → Bool → List ℕ → Table → Piece → Type 0
ChangesNothing files ignored x table piece = HasEffect files ignored x table piece Nothing
