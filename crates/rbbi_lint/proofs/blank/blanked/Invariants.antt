use Rattle.std.proofs.Common.{◌≡◌, ◌≤◌, length, chars}
use Rattle.std.specs.Prelude.{encode_utf8_all, string_bytes}
use Rattle.rbbi_lint.specs.Blanks.{IsBlanked}
use Rattle.rbbi_lint.proofs.blank.blanked.Given as goal

abbrev pub invariant-loop-c : goal.invariant-loop-c
invariant-loop-c l = record {
  text : IsBlanked l.from l.to l.yielded (chars (string_bytes l.made));
  place : l.place ≡ length l.yielded;
  no_longer : length (encode_utf8_all (chars (string_bytes l.made))) ≤ length (encode_utf8_all l.yielded);
}
