use Rattle.rbbi_trials.proofs.worked.way_without_safe_pairs.Given as goal

-- a ledger of its own
abbrev pub ghosts-go_through : goal.ghosts-go_through
ghosts-go_through g a = record { name = a.blank.name; parts = a.blank.parts }
