use Rattle.std.proofs.Common.{◌≡◌, ◌++◌, take}
use Rattle.std.specs.List.{flat_map}
use Rattle.rbbi_model.specs.TableFile.{list_bytes}
use Rattle.rbbi_file.proofs.write.put_lists.Given as goal

abbrev pub invariant-loop-list : goal.invariant-loop-list
invariant-loop-list l = l.out.items ≡ l.initial.out.items ++ flat_map list_bytes (take l.list-index l.lists)
