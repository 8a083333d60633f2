use Rattle.rbbi_base_tests.proofs.texts.are_same.Given as goal

-- a ledger of its own
abbrev pub ghosts-have_same : goal.ghosts-have_same
ghosts-have_same a = record { name = a.blank.name; parts = a.blank.parts }
