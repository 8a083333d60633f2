use Rattle.std.proofs.Common.{◌≡◌, ◌+◌, ◌≤◌, ◌++◌, length, chars}
use Rattle.std.specs.Str.{IsUtf8}
use Rattle.std.specs.Str.Iter.{chars_rest}
use Rattle.rbbi_text.proofs.plain.push_some.Given as goal

-- the characters so far and those that are left are all, and each that was taken has a byte at least
abbrev pub invariant-loop-turn : goal.invariant-loop-turn
invariant-loop-turn l = record {
  same : l.items.items ++ chars (chars_rest l.left) ≡ l.initial.items.items ++ chars l.fn.text;
  utf8 : IsUtf8 (chars_rest l.left);
  shorter : length (chars_rest l.left) + l._turn ≤ length l.fn.text;
}
