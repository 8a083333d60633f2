use Rattle.rbbi_c.proofs.scanning.rbbi_c_words_utf16.Given as goal

-- a ledger of its own
abbrev pub ghosts-found_utf16 : goal.ghosts-found_utf16
ghosts-found_utf16 a = record { name = a.blank.name; parts = a.blank.parts }
