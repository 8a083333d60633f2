use Rattle.std.specs.Prelude.{string_bytes}
use Rattle.std.proofs.lemmas.Str.{IsUtf8-string_bytes}
use Rattle.rbbi_text.proofs.Pushed.{pushed}
use Rattle.rbbi_text.proofs.word.push_character.Goals as goal

pub returns : goal.returns
returns c =
    pushed c.push.result (string_bytes c.args.string.now) (string_bytes c.push.new.self) c.args.c c.push.ensures.bytes
    (IsUtf8-string_bytes c.args.string.now) c.ranges.c.0
