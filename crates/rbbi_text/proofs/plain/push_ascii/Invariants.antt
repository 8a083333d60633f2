use Rattle.std.proofs.Common.{◌≡◌, length, take}
use Rattle.rbbi_text.proofs.plain.push_ascii.Given as goal

-- the characters so far are the bytes
abbrev pub invariant-loop-k : goal.invariant-loop-k
invariant-loop-k l = record { same : take l.k l.characters ≡ take l.k l.block; long : length l.characters ≡ 64 }
