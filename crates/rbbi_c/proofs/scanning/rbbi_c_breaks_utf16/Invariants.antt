use Rattle.rbbi_c.proofs.scanning.rbbi_c_breaks_utf16.Given as goal

-- a ledger of its own
abbrev pub ghosts-boundaries_utf16 : goal.ghosts-boundaries_utf16
ghosts-boundaries_utf16 a = record { name = a.blank.name; parts = a.blank.parts }
