use Rattle.rbbi_c.proofs.answering.ask_through.Given as goal

-- a ledger of its own
abbrev pub ghosts-ask_counted : goal.ghosts-ask_counted
ghosts-ask_counted a = record { name = a.blank.name; parts = a.blank.parts }
