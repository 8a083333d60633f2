use Rattle.std.proofs.Common.{◌≡◌, ◌+◌, ◌++◌, take}
use Rattle.std.specs.List.{flat_map}
use Rattle.rbbi_model.specs.Lines.{escaped}
use Rattle.rbbi_script.proofs.listing.say_text.Given as goal

abbrev pub invariant-loop-i : goal.invariant-loop-i
invariant-loop-i g l = record {
  said : l.reply.items ≡ l.fn.reply.items ++ flat_map escaped (take l.i (g.T.Chars.characters l.text));
  read : l.steps ≡ l.fn.steps + l.i;
}
