use Rattle.rbbi_segment_tables.proofs.loading.built_in.Goals as goal

pub returns-in-Ok : goal.returns-in-Ok
returns-in-Ok c = c.bytes_of.ensures.built c.in-Ok.table c.in-Ok.ensures.exact.0 c.in-Ok.ensures.exact.1
