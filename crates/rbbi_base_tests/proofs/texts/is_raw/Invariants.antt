use Rattle.rbbi_base_tests.proofs.texts.is_raw.Given as goal

-- a ledger of its own
abbrev pub ghosts-holds : goal.ghosts-holds
ghosts-holds a = record { name = a.blank.name; parts = a.blank.parts }
