use Rattle.std.proofs.Common.{◌≡◌, ◌+◌, ◌-◌, ◌≤◌, ◌++◌, length, drop}
use Rattle.std.specs.Prelude.{IsUtf8}
use Rattle.std.specs.Str.Iter.{chars_rest}
use Rattle.rbbi_model.specs.declared.unit.Unit.TheVariants.{Utf8}
use Rattle.rbbi_scan.specs.Decoded.{IsDecoded}
use Rattle.rbbi_scan.proofs.utf8.decode_text.Given as goal

-- what is left of the text stands after what was decoded
abbrev pub invariant-loop-now : goal.invariant-loop-now
invariant-loop-now l = record {
  decoded : IsDecoded Utf8 l.bytes l.chars l.ends l.now.count l.now.used;
  left : drop l.now.used l.bytes ≡ chars_rest l.left ++ drop (l.fn.decoded.used + length l.fn.text) l.bytes;
  utf8 : IsUtf8 (chars_rest l.left);
  whole : l.now.used + length (chars_rest l.left) ≡ l.fn.decoded.used + length l.fn.text;
  further : l.fn.decoded.count ≤ l.now.count;
  used : l.fn.decoded.used + (l.now.count - l.fn.decoded.count) ≤ l.now.used;
}

abbrev pub decreases-loop-now : goal.decreases-loop-now
decreases-loop-now l = length l.chars - l.now.count
