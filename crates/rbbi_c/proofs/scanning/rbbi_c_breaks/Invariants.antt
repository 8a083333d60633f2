use Rattle.rbbi_c.proofs.scanning.rbbi_c_breaks.Given as goal

-- a ledger of its own
abbrev pub ghosts-boundaries_utf8 : goal.ghosts-boundaries_utf8
ghosts-boundaries_utf8 a = record { name = a.blank.name; parts = a.blank.parts }
