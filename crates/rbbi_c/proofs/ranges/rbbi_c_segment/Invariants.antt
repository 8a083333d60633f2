use Rattle.rbbi_c.proofs.ranges.rbbi_c_segment.Given as goal

-- a ledger of its own
abbrev pub ghosts-segment_counted : goal.ghosts-segment_counted
ghosts-segment_counted a = record { name = a.blank.name; parts = a.blank.parts }
