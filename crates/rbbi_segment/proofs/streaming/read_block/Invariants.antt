use Rattle.std.specs.Io.KnownBytes.{Keeps}
use Rattle.std.proofs.Common.{◌≡◌, length}
use Rattle.rbbi_segment.proofs.streaming.read_block.Given as goal

-- nothing was read so far
abbrev pub invariant-loop-turn : goal.invariant-loop-turn
invariant-loop-turn g l = Keeps (g.R.Read.remaining l.initial.reader) (g.R.Read.remaining l.reader) × (length l.block ≡ length l.initial.block)
