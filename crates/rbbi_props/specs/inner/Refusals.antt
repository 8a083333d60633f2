-- Why the lines of a property file are refused, one by one.
use Rattle.std.specs.Prelude.{◌≡◌, ℕ, true, List}
use Rattle.rbbi_props.specs.declared.error.PropErr.{PropErr}
use Rattle.rbbi_props.specs.declared.error.PropErr.TheVariants.{NotUtf8, BadRow, Memory}
use Rattle.rbbi_props.specs.RowLines.{is_bad}
use Rattle.rbbi_props.specs.Refusals.{IsBadRow}

-- why the lines of a file are refused
abbrev pub IsLineCause : PropErr → List (List ℕ) → Type 0
IsLineCause (NotUtf8 at) lines = ⊥
IsLineCause (BadRow line) lines = IsBadRow lines line
IsLineCause Memory lines = Unit {0}

-- why one line is refused, which has this number
abbrev pub IsOneLineCause : PropErr → List ℕ → ℕ → Type 0
IsOneLineCause (NotUtf8 at) line number = ⊥
IsOneLineCause (BadRow bad) line number = (is_bad line ≡ true) × (bad ≡ number)
IsOneLineCause Memory line number = Unit {0}
