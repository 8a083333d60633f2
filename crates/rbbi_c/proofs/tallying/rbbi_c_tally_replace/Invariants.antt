use Rattle.rbbi_c.proofs.tallying.rbbi_c_tally_replace.Given as goal

-- a ledger of its own
abbrev pub ghosts-edit_counted : goal.ghosts-edit_counted
ghosts-edit_counted a = record { name = a.blank.name; parts = a.blank.parts }
