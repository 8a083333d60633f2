use Rattle.rbbi_c.proofs.feeding.rbbi_c_scan_next.Given as goal

-- a ledger of its own
abbrev pub ghosts-next_held : goal.ghosts-next_held
ghosts-next_held a = record { name = a.blank.name; parts = a.blank.parts }
