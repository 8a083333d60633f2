use Rattle.std.proofs.Common.{◌+◌, ◌-◌, length}
use Rattle.rbbi_cache.proofs.Filling.{Fills}
use Rattle.rbbi_cache.proofs.wide.fill_from.Given as goal

abbrev pub invariant-loop-here : goal.invariant-loop-here
invariant-loop-here g l =
    Fills l.table (g.T.Chars.characters l.text) l.i l.back.near l.anchor (l.back.from + length l.categories) l.here l.run l.fn.steps l.steps

abbrev pub decreases-loop-here : goal.decreases-loop-here
decreases-loop-here g l = l.i - l.here.at
