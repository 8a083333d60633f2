use Rattle.rbbi_cases.proofs.played.run.Given as goal

-- a ledger of its own
abbrev pub ghosts-status_of : goal.ghosts-status_of
ghosts-status_of a = record { name = a.blank.name; parts = a.blank.parts }
