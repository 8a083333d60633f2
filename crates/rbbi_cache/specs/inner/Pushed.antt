-- A run with one more entry.
use Rattle.std.specs.Prelude.{false, [], ◌∷◌, ◌++◌, length, drop, if◌then◌else◌, ◌==◌}
use Rattle.rbbi_model.specs.Runs.{Entry, Run}

-- The run with one more entry at its end. A full run keeps the last 128, and no longer leads.
abbrev pub pushed : Run → Entry → Run
pushed run entry =
    if length run.entries == 256
    then record { anchor = run.anchor; entries = drop 128 run.entries ++ entry ∷ []; leads = false }
    else record { anchor = run.anchor; entries = run.entries ++ entry ∷ []; leads = run.leads }
