use Rattle.std.proofs.Common.{◌≡◌, take}
use Rattle.rbbi_command.proofs.files.copies.Given as goal

-- the files so far are copied
abbrev pub invariant-loop-file : goal.invariant-loop-file
invariant-loop-file l = l.sources.items ≡ take l.file-index l.files
