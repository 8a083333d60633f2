use Rattle.rbbi_cache.proofs.Copied.{behind_is}
use Rattle.rbbi_cache.proofs.parts.copy_behind.Goals as goal

pub returns : goal.returns
returns c =
    behind_is c.args.edit.at c.args.edit.removed c.args.edit.inserted c.args.run.now c.args.pair c.count_up_to-before.result c.entries.result.now
    c.entries-2.result.now c.restart.new.run c.append_moved.new.run c.entries.ensures c.entries-2.ensures c.count_up_to-before.ensures c.restart.ensures
    c.append_moved.ensures
