use Rattle.std.proofs.Common.{◌≡◌, ◌++◌, take}
use Rattle.std.specs.List.{flat_map}
use Rattle.rbbi_model.specs.TableFile.{little_endian}
use Rattle.rbbi_file.proofs.numbers.put_all_sized.Given as goal

abbrev pub invariant-loop-n : goal.invariant-loop-n
invariant-loop-n l = l.out.items ≡ l.initial.out.items ++ flat_map (little_endian l.size) (take l.n-index l.list)
