use Rattle.std.proofs.Common.{ℕ, ◌<◌, ◌≤◌, get_or}
use Rattle.rbbi_scan.proofs.utf8.is_ascii.Given as goal

-- none of the bytes so far is greater
abbrev pub invariant-loop-byte : goal.invariant-loop-byte
invariant-loop-byte l = (k : ℕ) → k < l.byte-index → get_or l.bytes k 0 ≤ l.greatest
