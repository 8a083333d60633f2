use Rattle.std.proofs.Common.{◌≡◌, ◌++◌, take, chars, string_bytes}
use Rattle.rbbi_props.specs.LooseForms.{loose}
use Rattle.rbbi_props.proofs.common.push_loose.Given as goal

abbrev pub invariant-loop-byte : goal.invariant-loop-byte
invariant-loop-byte l = chars (string_bytes l.key) ≡ chars (string_bytes l.initial.key) ++ loose (take l.byte-index l.text)
