use Rattle.rbbi_trials.proofs.filters.scripts_through_filters.Given as goal

-- a ledger of its own
abbrev pub ghosts-first_other_of_script : goal.ghosts-first_other_of_script
ghosts-first_other_of_script g a = record { name = a.blank.name; parts = a.blank.parts }
