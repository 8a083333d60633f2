use Rattle.std.proofs.Common.{◌≡◌, ◌++◌}
use Rattle.rbbi_segment.specs.Lines.{shown_all}
use Rattle.rbbi_segment.proofs.escapes.append_characters.Given as goal

-- the characters so far were appended
abbrev pub invariant-loop-c : goal.invariant-loop-c
invariant-loop-c l = l.out.items ≡ l.fn.out.items ++ shown_all l.within l.yielded
