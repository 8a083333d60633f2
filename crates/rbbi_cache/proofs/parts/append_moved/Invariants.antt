use Rattle.std.proofs.Common.{◌≡◌, ◌++◌, take, map, filter, leb}
use Rattle.rbbi_cache.specs.Edits.{moved_entry}
use Rattle.rbbi_cache.proofs.parts.append_moved.Given as goal

abbrev pub invariant-loop-entry : goal.invariant-loop-entry
invariant-loop-entry l =
    l.run ≡ record l.initial.run {
      entries =
          l.initial.run.entries ++ filter (λ e. leb l.first e.at) (map (moved_entry l.edit.removed l.edit.inserted) (take l.entry-index l.entries));
    }
