use Rattle.rbbi_c.proofs.changing.rbbi_c_replace_changed.Given as goal

-- a ledger of its own
abbrev pub ghosts-edit_telling_counted : goal.ghosts-edit_telling_counted
ghosts-edit_telling_counted a = record { name = a.blank.name; parts = a.blank.parts }
