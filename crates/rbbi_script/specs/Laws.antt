-- What holds of the answers of reading a script.
use Rattle.std.specs.Prelude.{◌≡◌, ◌≢◌, ℕ, List, Result, Err}
use Rattle.rbbi_script.specs.declared.command.Command.{Command}
use Rattle.rbbi_text.specs.declared.error.LinesErr.{LinesErr}
use Rattle.rbbi_text.specs.declared.error.LinesErr.TheVariants.{Memory}
use Rattle.rbbi_script.specs.Files.{ReadsScript}

-- bytes have one answer, unless memory runs out: they are the script of one list of commands, or one fault is reported
abbrev pub HaveOneScript : Type 0
HaveOneScript =
    (bytes : List ℕ) (one other : Result (List Command) LinesErr) → ReadsScript bytes one → ReadsScript bytes other
    → one ≢ Err Memory → other ≢ Err Memory → one ≡ other
