use Rattle.std.proofs.Common.{◌≡◌, slice_range, string_bytes, encode_utf8_all}
use Rattle.rbbi_c.proofs.part.spelled.Given as goal

-- the characters up to this place are spelled
abbrev pub invariant-loop-at : goal.invariant-loop-at
invariant-loop-at g l = string_bytes l.made ≡ encode_utf8_all (slice_range l.text l.first l.at)
