use Rattle.rbbi_c.proofs.ranges.rbbi_c_part.Given as goal

-- a ledger of its own
abbrev pub ghosts-part_counted : goal.ghosts-part_counted
ghosts-part_counted a = record { name = a.blank.name; parts = a.blank.parts }
