use Rattle.rbbi_trials.proofs.random.scripts_by_rescans.Given as goal

-- a ledger of its own
abbrev pub ghosts-first_wrong : goal.ghosts-first_wrong
ghosts-first_wrong g a = record { name = a.blank.name; parts = a.blank.parts }
