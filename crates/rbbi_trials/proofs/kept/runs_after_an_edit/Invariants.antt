use Rattle.rbbi_trials.proofs.kept.runs_after_an_edit.Given as goal

-- a ledger of its own
abbrev pub ghosts-kept_after : goal.ghosts-kept_after
ghosts-kept_after g a = record { name = a.blank.name; parts = a.blank.parts }
