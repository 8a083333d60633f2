use Rattle.rbbi_c.proofs.forking.rbbi_c_fork.Given as goal

-- a ledger of its own
abbrev pub ghosts-fork_counted : goal.ghosts-fork_counted
ghosts-fork_counted a = record { name = a.blank.name; parts = a.blank.parts }
