use Rattle.std.proofs.Common.{◌≡◌, ◌≤◌, ◌++◌, length, chars}
use denote.Shadow.{shadow}
use denote.Text.{Utf8}
use Rattle.rbbi_model.specs.Words.{most_characters}
use Rattle.rbbi_text.proofs.plain.decoded.Given as goal

-- the characters so far, which are no more than a text may have, and those that are left are all
abbrev pub invariant-loop-rest : goal.invariant-loop-rest
invariant-loop-rest l = record {
  same : l.items.items ++ chars l.rest ≡ chars l.fn.text;
  few : length l.items.items ≤ most_characters;
  utf8 : shadow (Utf8 l.rest);
}

-- the bytes that are left
abbrev pub decreases-loop-rest : goal.decreases-loop-rest
decreases-loop-rest l = length l.rest
