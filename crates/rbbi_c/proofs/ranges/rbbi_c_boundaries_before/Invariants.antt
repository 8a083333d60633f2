use Rattle.rbbi_c.proofs.ranges.rbbi_c_boundaries_before.Given as goal

-- a ledger of its own
abbrev pub ghosts-list_back_counted : goal.ghosts-list_back_counted
ghosts-list_back_counted a = record { name = a.blank.name; parts = a.blank.parts }
