use Rattle.std.proofs.Common.{◌≡◌, min, take}
use Rattle.rbbi_text.specs.Numbers.{number}
use Rattle.rbbi_text.proofs.numbers.number_of_characters.Given as goal

-- the number of the digits so far
abbrev pub invariant-loop-digit : goal.invariant-loop-digit
invariant-loop-digit l = l.value ≡ min (number l.base (take l.digit-index l.digits)) 4294967296
