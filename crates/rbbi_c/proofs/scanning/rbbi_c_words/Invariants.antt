use Rattle.rbbi_c.proofs.scanning.rbbi_c_words.Given as goal

-- a ledger of its own
abbrev pub ghosts-found_utf8 : goal.ghosts-found_utf8
ghosts-found_utf8 a = record { name = a.blank.name; parts = a.blank.parts }
