use Rattle.rbbi_c.proofs.loading.write_through.Goals as goal

pub returns-in-Ok : goal.returns-in-Ok
returns-in-Ok c = (c.table_in.ensures.same, rw c.in-Ok.ensures.told (rw c.table.ensures at c.write_file.ensures))
