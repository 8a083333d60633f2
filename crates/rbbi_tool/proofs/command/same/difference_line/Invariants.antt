use Rattle.std.proofs.Common.{◌≡◌, ◌++◌, ◌∷◌}
use Rattle.std.specs.Prelude.{codes}
use Rattle.std.specs.List.{flat_map}
use Rattle.rbbi_tool.specs.Command.Same.{code_point_digits}
use Rattle.rbbi_tool.proofs.command.same.difference_line.Given as goal

-- the characters so far are told
abbrev pub invariant-loop-character : goal.invariant-loop-character
invariant-loop-character l = l.line.items ≡ codes "differ" ++ flat_map (λ c. 32 ∷ code_point_digits c) l.yielded
