use Rattle.rbbi_c.proofs.tallying.rbbi_c_tally_open.Given as goal

-- a ledger of its own
abbrev pub ghosts-open_counted : goal.ghosts-open_counted
ghosts-open_counted a = record { name = a.blank.name; parts = a.blank.parts }
