use Rattle.std.proofs.Common.{◌≡◌, ◌++◌, take}
use Rattle.std.specs.List.{flat_map}
use Rattle.rbbi_model.specs.TableFile.{u32}
use Rattle.rbbi_file.proofs.numbers.put_u32s.Given as goal

abbrev pub invariant-loop-n : goal.invariant-loop-n
invariant-loop-n l = l.out.items ≡ l.initial.out.items ++ flat_map u32 (take l.n-index l.numbers)
