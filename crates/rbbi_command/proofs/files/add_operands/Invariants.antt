use Rattle.std.proofs.Common.{◌≡◌, ◌++◌, map, drop}
use Rattle.std.specs.String.{string_bytes}
use Rattle.rbbi_command.specs.Files.{operand_sources}
use Rattle.rbbi_command.proofs.files.add_operands.Given as goal

-- the files so far and those of what is left are all
abbrev pub invariant-loop-i : goal.invariant-loop-i
invariant-loop-i l =
    l.sources.items ++ operand_sources (drop l.i l.operands) (drop l.i (map string_bytes l.names))
    ≡ l.initial.sources.items ++ operand_sources l.operands (map string_bytes l.names)
