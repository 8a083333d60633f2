use Rattle.rbbi_table_tests.proofs.tables.finds.Given as goal

-- a ledger of its own
abbrev pub ghosts-are_found : goal.ghosts-are_found
ghosts-are_found a = record { name = a.blank.name; parts = a.blank.parts }
